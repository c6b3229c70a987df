-- What the records of a journal come to is an opening that histories may begin with.
use Rattle.std.proofs.Common.{ℕ, ◌≡◌, ◌+◌, ◌*◌, ◌/◌, ◌^◌, ◌<◌, ◌≤◌, List, [], ◌∷◌, map, fold, length, Option, Some, None, IsTrue, refl, sym, subst, inl, arith}
use Rattle.std.specs.List.{AllByRecursion, Contains}
use Rattle.std.proofs.Math.Nat.{lt-div-mul-add, mul-le-mul}
use Rattle.std.proofs.lemmas.List.Elements.{All-from_recursion, recursion_from_All}
use Rattle.catalog.specs.declared.catalogue.Catalogue.{Catalogue}
use Rattle.catalog.specs.Valid.{IsValid}
use Rattle.metatile_locks.proofs.Lists.{all_map, all_weaker}
use Rattle.raster_field.specs.Blocks.{IsMeta}
use Rattle.record_text.specs.declared.entries.Record.{Record}
use Rattle.record_text.specs.declared.entries.Record.TheVariants as record_of
use Rattle.served_covers.specs.OfCatalogue.{IsCoverOf}
use Rattle.truncation_list.specs.declared.book.Book.{Book}
use Rattle.truncation_list.specs.declared.book.Cut.{Cut}
use Rattle.truncation_list.specs.Books.{AnswersFor}
use Rattle.truncation_list.specs.Purge.{IsAbove, IsByNumber, purged, raised, remaining}
use Rattle.truncation_list.proofs.Remaining.{all_remaining, by_number_with, floor_below_above, floor_below_least, in_order_remaining, purged_answers}
use Rattle.cabinet.specs.declared.kept.Kept.{Kept}
use Rattle.cabinet.specs.Fresh.{HoldsAfterCuts, HoldsOfKept, IsOfLength, MayBeginWith}
use Rattle.cabinet.specs.Hits.{hits_of}
use Rattle.cabinet.specs.History.{first, least_of}
use Rattle.cabinet_records.specs.Replay.{MayFollow, Replayed, Replays, book_after, opening_after, opening_number, opening_of, replayed, unplayed}
use Rattle.cabinet.proofs.Holding.{least_has, least_most}
use Rattle.cabinet.proofs.Lists.{all_both, all_of, all_of_map}
use Rattle.cabinet_records.proofs.Replaying.{IsSound, IsSoundIn, sound_is}

-- NUMBERS THAT WERE GIVEN

-- a number of an opening up to e is below the numbers of the opening after e
given_below : (n e d : ℕ) → 1 ≤ d → n / d ≤ e → n < (e + 1) * d
given_below n e d some given =
    let high : n < n / d * d + d = lt-div-mul-add some in
    let most : n / d * d ≤ e * d = mul-le-mul given (omega arith) in
    omega (arith, high, most)

-- the first front after the records
abbrev front : Replayed → ℕ
front r = (opening_number r + 1) * 2 ^ 40

below_front : (r : Replayed) (n : ℕ) → opening_of n ≤ opening_number r → n < front r
below_front r n given = given_below n (opening_number r) (2 ^ 40) (omega arith) given

-- THE PURGE

-- the floor stays below all the numbers whose least one purges
floor_below : (ns : List ℕ) (book : Book) → AllByRecursion (λ n. book.floor < n) ns → AllByRecursion (λ n. (purged None (least_of ns) book).floor < n) ns
floor_below [] book a = tt
floor_below (n ∷ ns) book a =
    let l = least_most ns (Some n) n refl in
    let under : book.floor < l.0 = least_has (λ x. book.floor < x) ns (Some n) a.1 (λ x e. let d : n ≡ x = cc in let g = a.0 in omega arith) l.0 l.1 in
    let low : fold (raised (Some l.0)) book.floor book.cuts < l.0 = floor_below_least l.0 book.cuts book.floor under in
    subst (λ (o : Option ℕ). AllByRecursion (λ x. fold (raised o) book.floor book.cuts < x) (n ∷ ns)) (sym l.1) (
      (let b = l.2 in omega arith),
      all_weaker (λ (x : ℕ). l.0 ≤ x) (λ x. fold (raised (Some l.0)) book.floor book.cuts < x) (λ x b. omega arith) ns l.3,
    )

-- what remains passes what all cuts pass
all_left : (P : Cut → Type 0) (r : Replayed) → AllByRecursion P r.cuts → AllByRecursion P (book_after r).cuts
all_left P r a =
    let least = least_of (map (λ t. t.number) r.kept) in
    recursion_from_All P (remaining None least r.cuts) (all_remaining P None least r.cuts (All-from_recursion P r.cuts a))

floor_kept : (c : Catalogue) (r : Replayed) → IsSound c r → AllByRecursion (λ t. (book_after r).floor < t.number) r.kept
floor_kept c r s =
    all_of_map (λ (t : Kept). t.number) (λ n. (book_after r).floor < n) r.kept (floor_below (map (λ t. t.number) r.kept) (record { cuts = r.cuts; floor = r.floor })
    (all_map (λ (t : Kept). t.number) (λ n. r.floor < n) r.kept (all_weaker (IsSoundIn c r) (λ t. r.floor < t.number) (λ t h. h.above_floor) r.kept s.kept)))

-- THE OPENING

below_most : (n front : ℕ) → n < front → n ≤ front
below_most n front h = omega arith

kept_holds : (c : Catalogue) (r : Replayed) (t : Kept) → IsSoundIn c r t × ((book_after r).floor < t.number) → HoldsOfKept c (book_after r).cuts (front r) (book_after r).floor t
kept_holds c r t h = record {
  given = below_most t.number (front r) (below_front r t.number h.0.given);
  above_floor = h.1;
  newer = all_left (λ k. IsTrue (hits_of c k.cover t.meta) → k.number < t.number) r h.0.newer;
}

opening_holds : (c : Catalogue) (r : Replayed) → IsSound c r → HoldsAfterCuts c (book_after r).cuts (first (opening_after r))
opening_holds c r s =
    let least = least_of (map (λ t. t.number) r.kept) in
    let below = all_weaker (λ (k : Cut). opening_of k.number ≤ opening_number r) (λ k. k.number < front r) (λ k given. below_front r k.number given) r.cuts s.cuts_given in
    let above : IsAbove (front r) r.cuts = All-from_recursion (λ (k : Cut). k.number < front r) r.cuts below in
    record {
      given = all_weaker (λ (k : Cut). k.number < front r) (λ k. k.number ≤ front r) (λ k h. below_most k.number (front r) h) (book_after r).cuts (all_left (λ k. k.number < front r) r below);
      floor_given = below_most (book_after r).floor (front r) (floor_below_above least (front r) r.cuts r.floor above (below_front r r.floor s.floor_given));
      listed = all_of (Contains (book_after r).cuts) (book_after r).cuts (λ k has. has);
      order = in_order_remaining None least r.cuts s.order;
      answers = all_of (AnswersFor (book_after r)) (book_after r).cuts (λ k has. inl has);
      kept = all_weaker (λ t. IsSoundIn c r t × ((book_after r).floor < t.number)) (HoldsOfKept c (book_after r).cuts (front r) (book_after r).floor) (kept_holds c r) r.kept
          (all_both (IsSoundIn c r) (λ t. (book_after r).floor < t.number) r.kept s.kept (floor_kept c r s));
      out = tt;
    }

opening_is : (c : Catalogue) (r : Replayed) → IsSound c r → length (book_after r).cuts ≤ c.cut_limit → MayBeginWith c (opening_after r)
opening_is c r s few_cuts =
    let P = IsSoundIn c r in
    record {
      holds = opening_holds c r s;
      numbers = s.distinct.numbers;
      once = s.distinct.once;
      metas = all_weaker P (λ t. IsMeta c t.meta) (λ t h. h.meta) r.kept s.kept;
      regions = record {
        some = all_weaker P (λ t. 1 ≤ t.length) (λ t h. h.some) r.kept s.kept;
        within = all_weaker P (λ t. t.place + t.length ≤ c.blob_bytes) (λ t h. h.within) r.kept s.kept;
        disjoint = s.distinct.disjoint;
      };
      lengths = all_weaker P (IsOfLength c) (λ t h. h.long) r.kept s.kept;
      covers = all_left (λ k. IsCoverOf c k.cover) r s.covers;
      few = s.few;
      few_cuts = few_cuts;
    }

pub opens_after : (c : Catalogue) (records : List (Option Record)) (r : Replayed) → IsValid c → Replays c unplayed records r → length (book_after r).cuts ≤ c.cut_limit → MayBeginWith c (opening_after r)
opens_after c records r valid h few_cuts = opening_is c r (sound_is c records r valid h) few_cuts

-- EVERY CUT IS ANSWERED FOR

-- the cuts of records stand by number
by_number_step : (c : Catalogue) (r : Replayed) (x : Record) → IsByNumber r.cuts → MayFollow c r x → IsByNumber (replayed c r x).cuts
by_number_step c r (record_of.Opened e floor) o may = o
by_number_step c r (record_of.Stored k m place length moment uses) o may = o
by_number_step c r (record_of.Dropped k m) o may = o
by_number_step c r (record_of.Cut t cover) o may = by_number_with r.cuts (record { number = t; cover = cover }) o (All-from_recursion (λ (k : Cut). k.number < t) r.cuts may.above)
by_number_step c r (record_of.Uses k m uses) o may = o

by_number_run : (c : Catalogue) (r : Replayed) (records : List (Option Record)) (t : Replayed) → IsByNumber r.cuts → Replays c r records t → IsByNumber t.cuts
by_number_run c r [] t o h = subst (λ (x : Replayed). IsByNumber x.cuts) (sym h) o
by_number_run c r (None ∷ records) t o h = absurd h
by_number_run c r (Some x ∷ records) t o h = by_number_run c (replayed c r x) records t (by_number_step c r x o h.0) h.1

pub answers_after : (c : Catalogue) (records : List (Option Record)) (r : Replayed) → Replays c unplayed records r → AllByRecursion (AnswersFor (book_after r)) r.cuts
answers_after c records r h =
    let least = least_of (map (λ t. t.number) r.kept) in
    recursion_from_All (AnswersFor (book_after r)) r.cuts (purged_answers least (record { cuts = r.cuts; floor = r.floor }) (by_number_run c unplayed records r tt h)).cuts

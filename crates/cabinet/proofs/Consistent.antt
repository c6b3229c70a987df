-- What each command leaves of the parts of a cabinet.
use Rattle.std.proofs.Common.{ℕ, ◌≡◌, ◌+◌, ◌<◌, ◌≤◌, Bool, true, false, cond, max, not, List, [], ◌∷◌, ◌++◌, length, filter, find, Option, Some, None, refl, sym, ap, subst, ◌∙◌, arith, length-append, append_assoc}
use Rattle.std.specs.Prelude.{IsSome}
use Rattle.std.specs.List.{AllByRecursion}
use Rattle.std.specs.Option.{option_map}
use Rattle.std.proofs.lemmas.List.{length-map}
use Rattle.catalog.specs.declared.catalogue.Catalogue.{Catalogue}
use Rattle.base.specs.Readings.{Readings, read}
use Rattle.expiry_policy.specs.declared.uses.Use.{Use}
use Rattle.expiry_policy.specs.Victims.{all_saved, one_more, used_at}
use Rattle.metatile_plan.specs.declared.metatile.MetaKey.{MetaKey}
use Rattle.metatile_plan.specs.Keys.{same_meta}
use Rattle.metatile_plan.proofs.Same.{same_meta_is}
use Rattle.raster_field.specs.Blocks.{IsMeta, blob_size}
use Rattle.truncation_list.specs.declared.cover.Cover.{Cover}
use Rattle.truncation_list.specs.Purge.{IsAbove, added, empty_book, purged}
use Rattle.metatile_locks.specs.declared.render.Render.{Render}
use Rattle.metatile_locks.specs.Running.{IsAboveAll, Locked, begun, has_number, is_render_of, marked, overtaken, render_of, running_for, unmarked, without}
use Rattle.metatile_locks.specs.Tickets.{Ticketed}
use Rattle.metatile_locks.proofs.Lists.{all_filter, all_weaker, few, fewer}
use Rattle.metatile_locks.proofs.Runs.{both}
use Rattle.cabinet.specs.declared.entry.HistoryEntry.{HistoryEntry}
use Rattle.cabinet.specs.declared.entry.HistoryEntry.TheVariants as entry
use Rattle.cabinet.specs.declared.kept.Kept.{Kept}
use Rattle.cabinet.specs.declared.replies.Forced.{Forced}
use Rattle.cabinet.specs.declared.turns.Turn.{Turn}
use Rattle.cabinet.specs.declared.turns.Turn.TheVariants as turn
use Rattle.cabinet.specs.Consistent.{IsConsistent, Parts, seen, stood}
use Rattle.cabinet.specs.Counted.{clock, clock_after, use_of, uses}
use Rattle.cabinet.specs.Gaps.{gap_for}
use Rattle.cabinet.specs.Hits.{hits_of}
use Rattle.served_covers.specs.OfCatalogue.{IsCoverOf}
use Rattle.cabinet.specs.History.{History, CabinetStanding, after, but, is_of, kept_after, kept_of, least_of, next, numbers, first_entries, last_number, whole, bare_opening, with_uses}
use Rattle.cabinet.specs.Fresh.{HoldsAfterCuts, HoldsOfRender, May, cuts_of}
use Rattle.cabinet.specs.Shelved.{Forgets, IsAlike, IsBare, Keeps, Marks, Shelved, Sifts, Touches, listed, use_on, with_forgotten, with_kept, with_saved, with_spared, with_used}
use Rattle.cabinet.specs.declared.kept.KeptBlob.{KeptBlob}
use Rattle.cabinet.specs.State.{IsKnown, IsLong, State, asked_at, fresh_state, now, grown}
use Rattle.cabinet.specs.Turns.{IsReady, IsTaken, IsTurn, Progress}
use Rattle.cabinet.proofs.Holding.{above_listed, holds_of, bare_opens}
use Rattle.cabinet.proofs.Lists.{all_push}
use Rattle.cabinet.proofs.OnShelf.{listed_filter, listed_put}
use Rattle.cabinet.proofs.Rows.{next_is, now_more, one_more_known}
use Rattle.cabinet.proofs.Sentences.{kept_step}
use Rattle.cabinet.proofs.UsesAfter.{clock_more, counted_more, same_swap, stored_here, stored_then, use_more, used_more}
use Rattle.cabinet.proofs.WithUses.{blobs_set, listed_set}
use Rattle.catalog.specs.Valid.{IsValid}
use Rattle.truncation_list.specs.declared.book.Book.{Book}

-- a cabinet in memory in which nothing has happened
pub at_first : (c : Catalogue) (shelf : Shelved) (clock' : Readings) (renders : List Render) (book : Book) (h : History) → IsValid c → IsBare c shelf → renders ≡ [] → book ≡ empty_book → h ≡ []
    → IsConsistent (record { opening = bare_opening 0; shelf = shelf; last = 0; moment = 0; clock = clock'; renders = renders; book = book }) h
at_first c shelf clock' renders book h valid bare none empty new =
    let start : State = fresh_state c clock' in
    let there : seen (record { opening = bare_opening 0; shelf = shelf; last = 0; moment = 0; clock = clock'; renders = renders; book = book }) h ≡ start =
    λ i. record { catalogue = bare.catalogue i; opening = bare_opening 0; history = new i; since = new i; blobs = Some (bare.blobs i); clock = clock' } in
    record {
      known = subst IsKnown (sym there) (record { valid = valid; number = omega arith; whole = refl; possible = record { opens = bare_opens c 0; follows = tt }; blobs = refl; lengths = tt; left = omega arith });
      stands = ap now there ∙ (λ i. record { front = 0; moment = 0; kept = listed (sym bare.blobs i); out = sym none i; book = sym empty i });
      clock_is = bare.clock ∙ ap clock (sym new);
      uses = λ m. bare.uses m ∙ (λ i. option_map (λ t. use_of (sym new i) m) (find (is_of m) (listed (sym bare.blobs i))));
      room = omega (arith, ap length none);
    }

-- a known cabinet is known whatever its clock has given
abbrev clocked : Readings → State → State
clocked r s = record { catalogue = s.catalogue; opening = s.opening; history = s.history; since = s.since; blobs = s.blobs; clock = r }

any_clock : (r : Readings) (s : State) → IsKnown s → IsKnown (clocked r s)
any_clock r s k = record { valid = k.valid; number = k.number; whole = k.whole; possible = k.possible; blobs = k.blobs; lengths = k.lengths; left = k.left }

-- WHAT BECOMES OF THE USE of one metatile

used_key : (v : Bool) (o : Option Kept) (u : Use) (f : Use → Use) → cond v (option_map f (option_map (λ t. u) o)) (option_map (λ t. u) o) ≡ option_map (λ t. cond v (f u) u) o
used_key true None u f = refl
used_key true (Some t) u f = refl
used_key false o u f = refl

-- the use doesn't depend on what is kept
set_key : (f : Kept → Kept) (o : Option Kept) (u : Use) → option_map (λ t. u) o ≡ option_map (λ t. u) (option_map f o)
set_key f None u = refl
set_key f (Some t) u = refl

left_key : (v : Bool) (o : Option Kept) (u : Use) → cond v None (option_map (λ t. u) o) ≡ option_map (λ t. u) (cond v None o)
left_key true o u = refl
left_key false o u = refl

module _ (p : Parts) (h : History) (k : IsConsistent p h) where
  holding : HoldsAfterCuts p.shelf.catalogue (cuts_of (whole p.opening h)) (stood p)
  holding = subst (HoldsAfterCuts p.shelf.catalogue (cuts_of (whole p.opening h))) k.stands (holds_of p.shelf.catalogue p.opening h k.known.possible)

  -- a number above the last one is above all that run, and above all listed cuts
  pub above_out : (n : ℕ) → p.last < n → IsAboveAll n p.renders
  above_out n l = all_weaker (HoldsOfRender p.shelf.catalogue (cuts_of (whole p.opening h)) p.last p.book.floor) (λ r. r.number < n) (λ r x. let g = x.given in omega arith) p.renders holding.out

  pub above_cuts : (n : ℕ) → p.last < n → IsAbove n p.book.cuts
  above_cuts n l = above_listed p.shelf.catalogue (cuts_of (whole p.opening h)) (stood p) n holding l

  pub front_left : p.last ≤ last_number p.opening
  front_left = subst (λ (x : CabinetStanding). x.front ≤ last_number p.opening) k.stands k.known.left

  -- one entry more
  one_entry : (e : HistoryEntry) (g : History) (q : Parts) → g ≡ h ++ e ∷ [] → q.opening ≡ p.opening → q.shelf.catalogue ≡ p.shelf.catalogue → May p.shelf.catalogue (stood p) e → after p.shelf.catalogue (stood p) e ≡ stood q
      → AllByRecursion (IsLong p.shelf.catalogue) q.shelf.blobs → q.last ≤ last_number p.opening → q.shelf.clock ≡ clock_after (clock (whole p.opening h)) e → ((m : MetaKey) → use_on q.shelf m ≡ option_map (λ t. use_of (whole p.opening h ++ e ∷ []) m) (kept_after p.shelf.catalogue m (kept_of m (stood p)) e))
      → length q.renders ≤ q.shelf.room → IsConsistent q g
  one_entry e g q is opens same may gives long left count uses room =
      let gone : after p.shelf.catalogue (now (seen p h)) e ≡ stood q = ap (λ (x : CabinetStanding). after p.shelf.catalogue x e) k.stands ∙ gives in
      let past : whole q.opening g ≡ whole p.opening h ++ e ∷ [] = (λ i. whole (opens i) (is i)) ∙ sym (append_assoc (first_entries p.opening) h (e ∷ [])) in
      let there : seen q g ≡ clocked q.clock (grown (seen p h) e (Some q.shelf.blobs)) = (λ i. record { catalogue = same i; opening = opens i; history = past i; since = is i; blobs = Some q.shelf.blobs; clock = q.clock }) in
      record {
        known = subst IsKnown (sym there)
            (any_clock q.clock (grown (seen p h) e (Some q.shelf.blobs)) (one_more_known (seen p h) e (Some q.shelf.blobs) k.known (subst (λ (x : CabinetStanding). May p.shelf.catalogue x e) (sym k.stands) may) (sym (ap (λ (x : CabinetStanding). x.kept) gone)) long
            (subst (λ (x : CabinetStanding). x.front ≤ last_number p.opening) (sym gone) left)));
        stands = ap now there ∙ now_more (seen p h) e (Some q.shelf.blobs) ∙ gone;
        clock_is = count ∙ sym (clock_more (whole p.opening h) e) ∙ ap clock (sym past);
        uses = λ m. uses m ∙ (λ i. option_map (λ t. use_of (sym past i) m) ((sym (kept_step p.shelf.catalogue m (stood p) e) ∙ ap (kept_of m) gives) i));
        room = room;
      }

  -- the blobs that are left have their lengths
  all_left_as : {blobs bs : List KeptBlob} → bs ≡ blobs → AllByRecursion (IsLong p.shelf.catalogue) blobs → AllByRecursion (IsLong p.shelf.catalogue) bs
  all_left_as e a = subst (AllByRecursion (IsLong p.shelf.catalogue)) (sym e) a

  -- the uses of what is kept are those of before, where the entry uses nothing
  as_before : (e : HistoryEntry) → ((m : MetaKey) → use_of (whole p.opening h ++ e ∷ []) m ≡ use_of (whole p.opening h) m) → (m : MetaKey) → use_on p.shelf m ≡ option_map (λ t. use_of (whole p.opening h ++ e ∷ []) m) (kept_of m (stood p))
  as_before e same m = k.uses m ∙ ap (λ (u : Use). option_map (λ t. u) (kept_of m (stood p))) (sym (same m))

  -- ASKED OR FORCED, at a moment of the clock

  pub after_asked : (n : ℕ) (g : History) (q : Parts) → g ≡ h ++ entry.At n ∷ [] → IsAlike p.shelf q.shelf → q ≡ record { opening = p.opening; shelf = q.shelf; last = p.last; moment = n; clock = q.clock; renders = p.renders; book = p.book }
      → p.shelf.room ≤ q.shelf.room → IsConsistent q g
  after_asked n g q is l e room =
      let x = k.room in
      subst (λ (x : Parts). IsConsistent x g) (sym e)
      (one_entry (entry.At n) g (record { opening = p.opening; shelf = q.shelf; last = p.last; moment = n; clock = q.clock; renders = p.renders; book = p.book }) is refl l.catalogue tt
      (λ i. record { front = p.last; moment = n; kept = listed (sym l.blobs i); out = p.renders; book = p.book }) (all_left_as l.blobs k.known.lengths) front_left (l.clock ∙ k.clock_is)
      (λ m. l.uses m ∙ as_before (entry.At n) (use_more (whole p.opening h) (entry.At n)) m) (omega arith))

  -- the cabinet then is the one that was asked
  pub asked_is : (n : ℕ) (g : History) (q : Parts) → g ≡ h ++ entry.At n ∷ [] → IsAlike p.shelf q.shelf → q ≡ record { opening = p.opening; shelf = q.shelf; last = p.last; moment = n; clock = q.clock; renders = p.renders; book = p.book }
      → q.clock ≡ read n p.clock → seen q g ≡ asked_at q.clock.moment (seen p h)
  asked_is n g q is l e read_is =
      let at : n ≡ q.clock.moment = sym (ap (λ (r : Readings). r.moment) read_is) in
      let past : whole p.opening g ≡ whole p.opening h ++ entry.At n ∷ [] = ap (whole p.opening) is ∙ sym (append_assoc (first_entries p.opening) h (entry.At n ∷ [])) in
      let there : seen q g ≡ asked_at n (seen p h) =
      ap (λ (x : Parts). seen x g) e ∙ (λ i. record { catalogue = l.catalogue i; opening = p.opening; history = past i; since = is i; blobs = Some (l.blobs i); clock = read_is i }) in
      there ∙ ap (λ (x : ℕ). asked_at x (seen p h)) at

  -- STARTED

  pub after_started : (m : MetaKey) (g : History) (q : Parts) → g ≡ h ++ entry.Started (p.last + 1) m ∷ [] → IsAlike p.shelf q.shelf
      → q ≡ record { opening = p.opening; shelf = q.shelf; last = p.last + 1; moment = p.moment; clock = p.clock; renders = begun (p.last + 1) m p.moment p.renders; book = p.book }
      → IsMeta p.shelf.catalogue m → running_for m p.renders ≡ None → p.last < last_number p.opening → length p.renders + 1 ≤ q.shelf.room → IsConsistent q g
  after_started m g q is l e meta none left room =
      let higher : max p.last (p.last + 1) ≡ p.last + 1 = omega arith in
      let long = length-append p.renders (unmarked (p.last + 1) m p.moment ∷ []) in
      subst (λ (x : Parts). IsConsistent x g) (sym e)
      (one_entry (entry.Started (p.last + 1) m) g (record { opening = p.opening; shelf = q.shelf; last = p.last + 1; moment = p.moment; clock = p.clock; renders = begun (p.last + 1) m p.moment p.renders; book = p.book }) is refl l.catalogue (refl, none, meta)
      (λ i. record { front = higher i; moment = p.moment; kept = listed (sym l.blobs i); out = begun (p.last + 1) m p.moment p.renders; book = p.book }) (all_left_as l.blobs k.known.lengths) (omega arith) (l.clock ∙ k.clock_is)
      (λ n. l.uses n ∙ as_before (entry.Started (p.last + 1) m) (use_more (whole p.opening h) (entry.Started (p.last + 1) m)) n) (omega arith))

  -- A TURN IS TAKEN

  -- where the same is there
  itself_still : (q : Parts) (g : History) → q ≡ p → g ≡ h → IsConsistent q g
  itself_still q g e f = subst (IsConsistent q) (sym f) (subst (λ (x : Parts). IsConsistent x h) (sym e) k)

  module _ (m : MetaKey) (next' : Option ℕ) (locks : Locked) (same : locks.renders ≡ p.renders) (from : next' ≡ next p.opening (stood p)) where
    -- a number that is given is above all that run
    pub turn_ready : (came : Turn) → IsTurn m next' locks p.shelf came → IsReady m locks came
    turn_ready (turn.Busy j) t = tt
    turn_ready turn.Spent t = tt
    turn_ready (turn.Given j) t =
        let n = next_is p.opening (stood p) j (sym from ∙ t.1) in
        (t.0, subst (IsAboveAll j) (sym same) (above_out j (omega (arith, n.number))), t.2)

    pub after_taken : (came : Turn) (reply : Forced) (new : Progress) (q : Parts) → IsMeta p.shelf.catalogue m → IsTurn m next' locks p.shelf came → IsTaken m p.moment (record { renders = locks.renders; last = p.last; past = h }) came reply new
        → q ≡ record { opening = p.opening; shelf = p.shelf; last = new.last; moment = p.moment; clock = p.clock; renders = new.renders; book = p.book } → IsConsistent q new.past
    after_taken (turn.Busy j) reply new q meta t x e =
        itself_still q new.past
        (e ∙ (λ i. record { opening = p.opening; shelf = p.shelf; last = (x.1 i).last; moment = p.moment; clock = p.clock; renders = (x.1 i).renders; book = p.book })
        ∙ (λ i. record { opening = p.opening; shelf = p.shelf; last = p.last; moment = p.moment; clock = p.clock; renders = same i; book = p.book }))
        (ap (λ (w : Progress). w.past) x.1)
    after_taken turn.Spent reply new q meta t x e =
        itself_still q new.past
        (e ∙ (λ i. record { opening = p.opening; shelf = p.shelf; last = (x.1 i).last; moment = p.moment; clock = p.clock; renders = (x.1 i).renders; book = p.book })
        ∙ (λ i. record { opening = p.opening; shelf = p.shelf; last = p.last; moment = p.moment; clock = p.clock; renders = same i; book = p.book }))
        (ap (λ (w : Progress). w.past) x.1)
    after_taken (turn.Given j) reply new q meta t x e =
        let n = next_is p.opening (stood p) j (sym from ∙ t.1) in
        let long = ap length same in
        let left : p.last < last_number p.opening = omega (arith, n.number, n.left) in
        let room : length p.renders + 1 ≤ p.shelf.room = omega (arith, long, t.3) in
        let none : running_for m p.renders ≡ None = ap (running_for m) (sym same) ∙ t.0 in
        let then : Parts = record { opening = p.opening; shelf = p.shelf; last = new.last; moment = p.moment; clock = p.clock; renders = new.renders; book = p.book } in
        subst (λ (z : Parts). IsConsistent z new.past) (sym e)
        (after_started m new.past then (ap (λ (w : Progress). w.past) x.1 ∙ ap (λ (z : ℕ). h ++ entry.Started z m ∷ []) n.number) (record { catalogue = refl; blobs = refl; clock = refl; uses = λ o. refl })
        ((λ i. record { opening = p.opening; shelf = p.shelf; last = (x.1 i).last; moment = p.moment; clock = p.clock; renders = (x.1 i).renders; book = p.book })
        ∙ (λ i. record { opening = p.opening; shelf = p.shelf; last = n.number i; moment = p.moment; clock = p.clock; renders = begun (n.number i) m p.moment (same i); book = p.book }))
        meta none left room)

  -- USED

  pub after_used : (m : MetaKey) (g : History) (q : Parts) → g ≡ h ++ entry.Used m ∷ [] → Touches m p.shelf q.shelf → q ≡ record { opening = p.opening; shelf = q.shelf; last = p.last; moment = p.moment; clock = p.clock; renders = p.renders; book = p.book } → p.shelf.room ≤ q.shelf.room
      → IsSome (find (is_of m) (listed p.shelf.blobs)) → IsConsistent q g
  after_used m g q is l e room some =
      let x = k.room in
      subst (λ (x : Parts). IsConsistent x g) (sym e)
      (one_entry (entry.Used m) g (record { opening = p.opening; shelf = q.shelf; last = p.last; moment = p.moment; clock = p.clock; renders = p.renders; book = p.book }) is refl l.catalogue some
      (λ i. record { front = p.last; moment = p.moment; kept = listed (sym l.blobs i); out = p.renders; book = p.book }) (all_left_as l.blobs k.known.lengths) front_left (l.clock ∙ ap one_more k.clock_is)
      (λ n. l.uses n ∙ (λ i. with_used m (one_more (k.clock_is i)) (λ o. k.uses o i) n) ∙ used_key (same_meta n m) (kept_of n (stood p)) (use_of (whole p.opening h) n) (used_at (one_more (clock (whole p.opening h))))
      ∙ ap (λ (u : Use). option_map (λ t. u) (kept_of n (stood p))) (sym (used_more (whole p.opening h) m n))) (omega arith))

  -- COUNTED

  pub after_counted : (m : MetaKey) (u : ℕ) (g : History) (q : Parts) → g ≡ h ++ entry.Counted m u ∷ [] → Marks m u p.shelf q.shelf → q ≡ record { opening = p.opening; shelf = q.shelf; last = p.last; moment = p.moment; clock = p.clock; renders = p.renders; book = p.book }
      → u ≡ uses (whole p.opening h) m → IsSome (find (is_of m) (listed p.shelf.blobs)) → p.shelf.room ≤ q.shelf.room → IsConsistent q g
  after_counted m u g q is l e are some room =
      let x = k.room in
      let list = ap listed l.blobs ∙ listed_set m u p.shelf.blobs in
      subst (λ (x : Parts). IsConsistent x g) (sym e)
      (one_entry (entry.Counted m u) g (record { opening = p.opening; shelf = q.shelf; last = p.last; moment = p.moment; clock = p.clock; renders = p.renders; book = p.book }) is refl l.catalogue some
      (λ i. record { front = p.last; moment = p.moment; kept = sym list i; out = p.renders; book = p.book })
      (all_left_as l.blobs (blobs_set m u (IsLong p.shelf.catalogue) (λ b long. long) p.shelf.blobs k.known.lengths)) front_left (l.clock ∙ k.clock_is)
      (λ n. l.uses n ∙ (λ i. with_saved m (λ o. k.uses o i) n) ∙ used_key (same_meta n m) (kept_of n (stood p)) (use_of (whole p.opening h) n) all_saved
      ∙ ap (λ (v : Use). option_map (λ t. v) (kept_of n (stood p))) (sym (counted_more (whole p.opening h) m n u are))
      ∙ set_key (with_uses m u) (kept_of n (stood p)) (use_of (whole p.opening h ++ entry.Counted m u ∷ []) n)) (omega arith))

  -- ENDED

  pub after_ended : (n : ℕ) (g : History) (q : Parts) → g ≡ h ++ entry.Ended n ∷ [] → q ≡ record { opening = p.opening; shelf = p.shelf; last = p.last; moment = p.moment; clock = p.clock; renders = without n p.renders; book = p.book } → IsConsistent q g
  after_ended n g q is e =
      let f = few (λ r. not (has_number n r)) p.renders in
      let x = k.room in
      subst (λ (x : Parts). IsConsistent x g) (sym e)
      (one_entry (entry.Ended n) g (record { opening = p.opening; shelf = p.shelf; last = p.last; moment = p.moment; clock = p.clock; renders = without n p.renders; book = p.book }) is refl refl tt refl k.known.lengths front_left k.clock_is
      (as_before (entry.Ended n) (use_more (whole p.opening h) (entry.Ended n))) (omega arith))

  -- MISSED

  pub after_missed : (n : ℕ) (g : History) (q : Parts) → g ≡ h ++ entry.Missed n ∷ [] → q ≡ record { opening = p.opening; shelf = p.shelf; last = n; moment = p.moment; clock = p.clock; renders = p.renders; book = p.book }
      → n ≡ p.last + 1 → n ≤ last_number p.opening → IsConsistent q g
  after_missed n g q is e next' left =
      let higher : max p.last n ≡ n = omega (arith, next') in
      subst (λ (x : Parts). IsConsistent x g) (sym e)
      (one_entry (entry.Missed n) g (record { opening = p.opening; shelf = p.shelf; last = n; moment = p.moment; clock = p.clock; renders = p.renders; book = p.book }) is refl refl next'
      (λ i. record { front = higher i; moment = p.moment; kept = listed p.shelf.blobs; out = p.renders; book = p.book }) k.known.lengths left k.clock_is
      (as_before (entry.Missed n) (use_more (whole p.opening h) (entry.Missed n))) k.room)

  -- STORED

  -- the render of a ticket is one less
  pub one_less : (t : Ticketed) (r : Render) → render_of t p.renders ≡ Some r → length (without t.number p.renders) + 1 ≤ length p.renders
  one_less t r e = fewer (is_render_of t) (λ x. not (has_number t.number x)) (λ x is. ap not (both (has_number t.number x) _ is).0) p.renders r e

  -- the use of a metatile after one is stored
  kept_key : (t : Kept) (n : MetaKey) (v : Bool) → t.uses ≡ 0 → same_meta t.meta n ≡ v
      → cond (same_meta n t.meta) (Some (record { meta = t.meta; uses = 0; saved = 0; last = one_more (clock (whole p.opening h)) })) (option_map (λ x. use_of (whole p.opening h) n) (kept_of n (stood p)))
      ≡ option_map (λ x. use_of (whole p.opening h ++ entry.Stored t.number t.meta t.place t.length t.moment t.uses ∷ []) n) (cond (same_meta t.meta n) (Some t) (kept_of n (stood p)))
  kept_key t n true new e =
      let is : t.meta ≡ n = same_meta_is t.meta n e in
      let here : use_of (whole p.opening h ++ entry.Stored t.number t.meta t.place t.length t.moment t.uses ∷ []) n ≡ record { meta = t.meta; uses = 0; saved = 0; last = one_more (clock (whole p.opening h)) } =
      ap (use_of (whole p.opening h ++ entry.Stored t.number t.meta t.place t.length t.moment t.uses ∷ [])) (sym is) ∙ stored_here (whole p.opening h) t.number t.meta t.place t.length t.moment t.uses
      ∙ ap (λ (u : ℕ). record { meta = t.meta; uses = u; saved = u; last = one_more (clock (whole p.opening h)) }) new in
      rw (same_swap n t.meta, e) (ap Some (sym here))
  kept_key t n false new e =
      rw (same_swap n t.meta, e) (ap (λ (u : Use). option_map (λ x. u) (kept_of n (stood p))) (sym (stored_then (whole p.opening h) t.number t.meta t.place t.length t.moment t.uses n false e)))

  pub after_stored : (t : Kept) (text : List ℕ) (g : History) (q : Parts) → g ≡ h ++ entry.Stored t.number t.meta t.place t.length t.moment t.uses ∷ [] → Keeps t text p.shelf q.shelf
      → q ≡ record { opening = p.opening; shelf = q.shelf; last = p.last; moment = p.moment; clock = p.clock; renders = without t.number p.renders; book = p.book }
      → render_of (record { number = t.number; meta = t.meta }) p.renders ≡ Some (unmarked t.number t.meta t.moment) → t.uses ≡ 0 → length text ≡ t.length → t.length ≡ blob_size p.shelf.catalogue t.meta
      → gap_for p.shelf.catalogue (listed p.shelf.blobs) t.length ≡ Some t.place → length (but t.meta (listed p.shelf.blobs)) < p.shelf.catalogue.kept_limit → p.shelf.room ≤ q.shelf.room + 1 → IsConsistent q g
  after_stored t text g q is l e runs new long size gap few room =
      let less = one_less (record { number = t.number; meta = t.meta }) (unmarked t.number t.meta t.moment) runs in
      let x = k.room in
      let list = ap listed l.blobs ∙ listed_put t text p.shelf.blobs in
      subst (λ (x : Parts). IsConsistent x g) (sym e)
      (one_entry (entry.Stored t.number t.meta t.place t.length t.moment t.uses) g (record { opening = p.opening; shelf = q.shelf; last = p.last; moment = p.moment; clock = p.clock; renders = without t.number p.renders; book = p.book }) is refl l.catalogue (runs, size, gap, few, new)
      (λ i. record { front = p.last; moment = p.moment; kept = sym list i; out = without t.number p.renders; book = p.book })
      (all_left_as l.blobs (all_push (IsLong p.shelf.catalogue) (filter (λ b. not (is_of t.meta b.kept)) p.shelf.blobs) (record { kept = t; text = text })
      (all_filter (IsLong p.shelf.catalogue) (λ b. not (is_of t.meta b.kept)) p.shelf.blobs k.known.lengths) (long, size)))
      front_left (l.clock ∙ ap one_more k.clock_is) (λ n. l.uses n ∙ (λ i. with_kept t.meta (one_more (k.clock_is i)) (λ o. k.uses o i) n) ∙ kept_key t n (same_meta t.meta n) new refl) (omega arith))

  -- DROPPED

  pub after_dropped : (m : MetaKey) (g : History) (q : Parts) → g ≡ h ++ entry.Dropped m ∷ [] → Forgets m p.shelf q.shelf → q ≡ record { opening = p.opening; shelf = q.shelf; last = p.last; moment = p.moment; clock = p.clock; renders = p.renders; book = p.book }
      → IsSome (find (is_of m) (listed p.shelf.blobs)) → p.shelf.room ≤ q.shelf.room → IsConsistent q g
  after_dropped m g q is l e some room =
      let x = k.room in
      let list = ap listed l.blobs ∙ listed_filter (λ t. not (is_of m t)) p.shelf.blobs in
      subst (λ (x : Parts). IsConsistent x g) (sym e)
      (one_entry (entry.Dropped m) g (record { opening = p.opening; shelf = q.shelf; last = p.last; moment = p.moment; clock = p.clock; renders = p.renders; book = p.book }) is refl l.catalogue some
      (λ i. record { front = p.last; moment = p.moment; kept = sym list i; out = p.renders; book = p.book }) (all_left_as l.blobs (all_filter (IsLong p.shelf.catalogue) (λ b. not (is_of m b.kept)) p.shelf.blobs k.known.lengths)) front_left (l.clock ∙ k.clock_is)
      (λ n. l.uses n ∙ (λ i. with_forgotten m (λ o. k.uses o i) n) ∙ ap (λ (v : Bool). cond v None (option_map (λ t. use_of (whole p.opening h) n) (kept_of n (stood p)))) (same_swap n m) ∙ left_key (same_meta m n) (kept_of n (stood p)) (use_of (whole p.opening h) n)
      ∙ ap (λ (u : Use). option_map (λ t. u) (cond (same_meta m n) None (kept_of n (stood p)))) (sym (use_more (whole p.opening h) (entry.Dropped m) n))) (omega arith))

  -- CUT

  pub after_cut : (cover : Cover) (least : Option ℕ) (g : History) (q : Parts) → g ≡ h ++ entry.Cut (p.last + 1) cover ∷ [] → Sifts cover p.shelf q.shelf
      → q ≡ record { opening = p.opening; shelf = q.shelf; last = p.last + 1; moment = p.moment; clock = p.clock; renders = overtaken (hits_of p.shelf.catalogue cover) (p.last + 1) p.renders; book = added (p.last + 1) cover least p.book }
      → IsCoverOf p.shelf.catalogue cover → p.last < last_number p.opening → least ≡ least_of (numbers p.renders (listed p.shelf.blobs)) → length (purged (Some cover) least p.book).cuts < p.shelf.catalogue.cut_limit
      → p.shelf.room ≤ q.shelf.room → IsConsistent q g
  after_cut cover least g q is l e of left low few room =
      let higher : max p.last (p.last + 1) ≡ p.last + 1 = omega arith in
      let x = k.room in
      let list = ap listed l.blobs ∙ listed_filter (λ t. not (hits_of p.shelf.catalogue cover t.meta)) p.shelf.blobs in
      let same = length-map p.renders (marked (hits_of p.shelf.catalogue cover) (p.last + 1)) in
      subst (λ (x : Parts). IsConsistent x g) (sym e)
      (one_entry (entry.Cut (p.last + 1) cover) g
      (record { opening = p.opening; shelf = q.shelf; last = p.last + 1; moment = p.moment; clock = p.clock; renders = overtaken (hits_of p.shelf.catalogue cover) (p.last + 1) p.renders; book = added (p.last + 1) cover least p.book }) is refl l.catalogue
      (refl, of, subst (λ (x : Option ℕ). length (purged (Some cover) x p.book).cuts < p.shelf.catalogue.cut_limit) low few)
      (λ i. record { front = higher i; moment = p.moment; kept = sym list i; out = overtaken (hits_of p.shelf.catalogue cover) (p.last + 1) p.renders; book = added (p.last + 1) cover (sym low i) p.book })
      (all_left_as l.blobs (all_filter (IsLong p.shelf.catalogue) (λ b. not (hits_of p.shelf.catalogue cover b.kept.meta)) p.shelf.blobs k.known.lengths)) (omega arith) (l.clock ∙ k.clock_is)
      (λ n. l.uses n ∙ (λ i. with_spared p.shelf.catalogue cover (λ o. k.uses o i) n) ∙ left_key (hits_of p.shelf.catalogue cover n) (kept_of n (stood p)) (use_of (whole p.opening h) n)
      ∙ ap (λ (u : Use). option_map (λ t. u) (cond (hits_of p.shelf.catalogue cover n) None (kept_of n (stood p)))) (sym (use_more (whole p.opening h) (entry.Cut (p.last + 1) cover) n))) (omega arith))

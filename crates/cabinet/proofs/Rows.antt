-- Each row of a command leaves a cabinet of which all that is said of cabinets holds, and what it hands out is fresh.
use Rattle.std.proofs.Common.{ℕ, ◌≡◌, ◌+◌, ◌<◌, ◌≤◌, Bool, true, false, cond, not, List, [], ◌∷◌, ◌++◌, length, map, filter, find, Option, Some, None, refl, sym, ap, subst, ◌∙◌, inl, inr, arith, append_assoc, length-append}
use Rattle.std.specs.Prelude.{IfSome, IsSome, nat_lt, slice_get}
use Rattle.std.specs.List.{AllByRecursion}
use Rattle.std.specs.Option.{option_and_then, option_map}
use Rattle.std.proofs.lemmas.Bool.Decides.{nat_tests}
use Rattle.std.proofs.lemmas.Grind.{fold-append}
use Rattle.std.proofs.lemmas.List.{map-append}
use Rattle.catalog.specs.declared.catalogue.Catalogue.{Catalogue}
use Rattle.catalog.specs.declared.catalogue.Scope.{Scope}
use Rattle.catalog.specs.LookUp.{IsTile}
use Rattle.expiry_policy.specs.declared.uses.Use.{Use}
use Rattle.expiry_policy.specs.Victims as victims
use Rattle.expiry_policy.proofs.Choices.{victim_held}
use Rattle.matrix_geometry.specs.declared.address.Address.{Address}
use Rattle.metatile_plan.specs.declared.metatile.MetaKey.{MetaKey}
use Rattle.raster_field.specs.Blocks.{IsMeta, block_of, blob_size}
use Rattle.raster_field.proofs.Metas.{tile_meta}
use Rattle.truncation_list.specs.declared.cover.Cover.{Cover}
use Rattle.truncation_list.specs.Books.{AnswersForFronted}
use Rattle.truncation_list.proofs.Answering.{fronted_itself}
use Rattle.metatile_locks.specs.Running.{unmarked}
use Rattle.metatile_locks.specs.Tickets.{Ticketed}
use Rattle.metatile_locks.proofs.Lists.{all_filter}
use Rattle.cabinet.specs.declared.entry.HistoryEntry.{HistoryEntry}
use Rattle.cabinet.specs.declared.entry.HistoryEntry.TheVariants as entry
use Rattle.cabinet.specs.declared.kept.Kept.{Kept}
use Rattle.cabinet.specs.declared.kept.KeptBlob.{KeptBlob}
use Rattle.cabinet.specs.declared.replies.Expired.{Expired}
use Rattle.cabinet.specs.declared.replies.Expired.TheVariants as expired
use Rattle.cabinet.specs.declared.replies.Saved.{Saved}
use Rattle.cabinet.specs.declared.replies.Saved.TheVariants as saved
use Rattle.cabinet.specs.declared.replies.Asked.{Asked}
use Rattle.cabinet.specs.declared.replies.Asked.TheVariants as asked
use Rattle.cabinet.specs.declared.replies.Forced.{Forced}
use Rattle.cabinet.specs.declared.replies.Forced.TheVariants as forced
use Rattle.cabinet.specs.declared.replies.Finished.{Finished}
use Rattle.cabinet.specs.declared.replies.Finished.TheVariants as finished
use Rattle.cabinet.specs.declared.replies.CutReply.{CutReply}
use Rattle.cabinet.specs.declared.replies.CutReply.TheVariants as reply
use Rattle.cabinet.specs.Hits.{hits_of}
use Rattle.served_covers.specs.OfCatalogue.{IsCoverOf}
use Rattle.cabinet.specs.History.{CabinetOpening, CabinetStanding, History, after, but, first, first_entries, is_of, kept_of, last_number, next, render, spared, standing, stored_entry, whole, with_uses}
use Rattle.cabinet.specs.Fresh.{Follows, IsFresh, May, cuts_of, limit_for}
use Rattle.cabinet.specs.State.{IsKnown, IsKnownAs, IsLong, State, blobs_counted, blobs_spared, blobs_with, blobs_without, asked_at, fronted, grown, now, with_entry}
use Rattle.cabinet.specs.Commands.{Asks, Forces, Finishes, Abandons, Cuts, Expires, Saves, IsAskedOf, IsBusy, IsForcedOf, IsTicketGiven, IsHit, IsFreshReply, IsFreshForced, answering, is_within, kept_at, where_within}
use Rattle.cabinet.proofs.Fronts.{fronted_after}
use Rattle.cabinet.proofs.Holding.{holds_of}
use Rattle.cabinet.proofs.Fresher.{begun_fresh, kept_fresh, still_fresh}
use Rattle.cabinet.specs.Counted.{unsaved_in, use_of, uses, uses_of, victim_in}
use Rattle.cabinet.proofs.Lists.{all_push, find_map, map_filter}
use Rattle.cabinet.proofs.Modelled.{if_some_made, if_some_so}
use Rattle.cabinet.proofs.Numbers.{runs_is}
use Rattle.cabinet.proofs.WithUses.{blobs_set, listed_set}

follows_more : (c : Catalogue) (s : CabinetStanding) (h : History) (e : HistoryEntry) → Follows c s h → May c (standing c s h) e → Follows c s (h ++ e ∷ [])
follows_more c s [] e a b = (b, tt)
follows_more c s (x ∷ xs) e a b = (a.0, follows_more c (after c s x) xs e a.1 b)

pub stood_more : (c : Catalogue) (s : CabinetStanding) (h : History) (e : HistoryEntry) → standing c s (h ++ e ∷ []) ≡ after c (standing c s h) e
stood_more c s h e = rw fold-append refl

-- what stands in a cabinet after one more entry
pub now_more : (s : State) (e : HistoryEntry) (blobs : Option (List KeptBlob)) → now (grown s e blobs) ≡ after s.catalogue (now s) e
now_more s e blobs = stood_more s.catalogue (first s.opening) s.since e

-- NUMBERS

pub record IsNext (front top k : ℕ) : Type 0 where
  pub number : k ≡ front + 1
  pub left : k ≤ top

next_at : (front top k : ℕ) (v : Bool) → nat_lt front top ≡ v → cond v (Some (front + 1)) None ≡ Some k → IsNext front top k
next_at front top k true is e = let d : front + 1 ≡ k = cc in let l : front < top = grind (arith, nat_tests) in record { number = sym d; left = omega arith }
next_at front top k false is e = absurd (cc)

pub next_is : (o : CabinetOpening) (s : CabinetStanding) (k : ℕ) → next o s ≡ Some k → IsNext s.front (last_number o) k
next_is o s k h = next_at s.front (last_number o) k (nat_lt s.front (last_number o)) refl h

-- KNOWN

the_same : (s t : State) → IsKnown s → t ≡ s → IsKnownAs s t
the_same s t k is = rw is (record { known = k; same_catalogue = refl; same_opening = refl; answers = fronted_itself (fronted (now s)) })

answers_more : (s : State) (e : HistoryEntry) (blobs : Option (List KeptBlob)) → IsKnown s → May s.catalogue (now s) e → AnswersForFronted (fronted (now (grown s e blobs))) (fronted (now s))
answers_more s e blobs k may =
    subst (λ (x : CabinetStanding). AnswersForFronted (fronted x) (fronted (now s))) (sym (now_more s e blobs))
    (fronted_after s.catalogue (cuts_of (whole s.opening s.since)) (now s) e (holds_of s.catalogue s.opening s.since k.possible) may)

-- one entry more, and what is kept then
pub one_more_known : (s : State) (e : HistoryEntry) (blobs : Option (List KeptBlob)) → IsKnown s → May s.catalogue (now s) e → IfSome blobs (λ blobs. map (λ b. b.kept) blobs ≡ (after s.catalogue (now s) e).kept)
    → IfSome blobs (λ blobs. AllByRecursion (IsLong s.catalogue) blobs) → (after s.catalogue (now s) e).front ≤ last_number s.opening → IsKnown (grown s e blobs)
one_more_known s e blobs k may kept long left =
    let stood = now_more s e blobs in
    record {
      valid = k.valid;
      number = k.number;
      whole = ap (λ (h : History). h ++ e ∷ []) k.whole ∙ append_assoc (first_entries s.opening) s.since (e ∷ []);
      possible = record { opens = k.possible.opens; follows = follows_more s.catalogue (first s.opening) s.since e k.possible.follows may };
      blobs = if_some_so (λ (bs : List KeptBlob) is. is ∙ ap (λ (x : CabinetStanding). x.kept) (sym stood)) blobs kept;
      lengths = long;
      left = subst (λ (x : CabinetStanding). x.front ≤ last_number s.opening) (sym stood) left;
    }

known_more : (s t : State) (e : HistoryEntry) (blobs : Option (List KeptBlob)) → IsKnown s → May s.catalogue (now s) e → IfSome blobs (λ blobs. map (λ b. b.kept) blobs ≡ (after s.catalogue (now s) e).kept)
    → IfSome blobs (λ blobs. AllByRecursion (IsLong s.catalogue) blobs) → (after s.catalogue (now s) e).front ≤ last_number s.opening → t ≡ grown s e blobs → IsKnownAs s t
known_more s t e blobs k may kept long left is =
    rw is (record { known = one_more_known s e blobs k may kept long left; same_catalogue = refl; same_opening = refl; answers = answers_more s e blobs k may })

-- an entry that keeps and drops nothing
entered : (s t : State) (e : HistoryEntry) → IsKnown s → May s.catalogue (now s) e → (after s.catalogue (now s) e).kept ≡ (now s).kept → (after s.catalogue (now s) e).front ≤ last_number s.opening → t ≡ with_entry s e → IsKnownAs s t
entered s t e k may kept left is = known_more s t e s.blobs k may (if_some_so (λ (bs : List KeptBlob) is. is ∙ sym kept) s.blobs k.blobs) k.lengths left is

ended : (s t : State) (n : ℕ) → IsKnown s → t ≡ with_entry s (entry.Ended n) → IsKnownAs s t
ended s t n k is = entered s t (entry.Ended n) k tt refl k.left is

given : (s : State) (m : MetaKey) (ticket : Ticketed) (t : State) → IsKnown s → IsMeta s.catalogue m → IsTicketGiven s m ticket t → IsKnownAs s t
given s m ticket t k meta g =
    let n = next_is s.opening (now s) ticket.number g.number in
    let l = n.left in let f = k.left in
    entered s t (entry.Started ticket.number m) k (n.number, g.none_runs, meta) refl (omega arith) g.state

-- AN ASK AND A FORCE

-- a cabinet at the moment of an ask or a force is known, since what is known doesn't speak of its clock; what stands is as before, at
-- that moment
pub asked_known : (s : State) (n : ℕ) → IsKnown s → IsKnown (asked_at n s)
asked_known s n k =
    let more = one_more_known s (entry.At n) s.blobs k tt k.blobs k.lengths k.left in
    record { valid = more.valid; number = more.number; whole = more.whole; possible = more.possible; blobs = more.blobs; lengths = more.lengths; left = more.left }

pub now_asked : (s : State) (n : ℕ) → now (asked_at n s) ≡ after s.catalogue (now s) (entry.At n)
now_asked s n = stood_more s.catalogue (first s.opening) s.since (entry.At n)

-- what is known since the moment of an ask or a force is known since before
since_ask : (s t : State) (n : ℕ) → IsKnownAs (asked_at n s) t → IsKnownAs s t
since_ask s t n k = record {
  known = k.known;
  same_catalogue = k.same_catalogue;
  same_opening = k.same_opening;
  answers = subst (λ (x : CabinetStanding). AnswersForFronted (fronted (now t)) (fronted x)) (now_asked s n) k.answers;
}

-- a kept metatile that answers is kept, and within its age limit
answers_at : (limit : Option ℕ) (n : ℕ) (o : Option Kept) (t : Kept) → option_and_then (where_within limit n) o ≡ Some t → (o ≡ Some t) × (is_within limit t.moment n ≡ true)
answers_at limit n None t e = absurd (cc)
answers_at limit n (Some u) t e = chosen (is_within limit u.moment n) refl e
  where
    chosen : (v : Bool) → is_within limit u.moment n ≡ v → cond v (Some u) None ≡ Some t → (Some u ≡ Some t) × (is_within limit t.moment n ≡ true)
    chosen true is e = let d : u ≡ t = cc in (ap Some d, subst (λ (x : Kept). is_within limit x.moment n ≡ true) d is)
    chosen false is e = absurd (cc)

answers_is : (s : State) (a : Address) (t : Kept) → answering s a ≡ Some t → (kept_of (block_of s.catalogue a) (now s) ≡ Some t) × (is_within (limit_for s.catalogue a) t.moment (now s).moment ≡ true)
answers_is s a t e = answers_at (limit_for s.catalogue a) (now s).moment (kept_of (block_of s.catalogue a) (now s)) t e

hit_kept : (s : State) (a : Address) (t : Kept) → answering s a ≡ Some t → IsSome (kept_of (block_of s.catalogue a) (now s))
hit_kept s a t e = subst IsSome (sym (answers_is s a t e).0) refl

asked_of : (before after : ℕ) (s t : State) (a : Address) (r : Asked) → IsKnown s → IsTile s.catalogue a → IsAskedOf before after s a r t → IsKnownAs s t
asked_of before after s t a (asked.Hit n bytes) k tile r = entered s t (entry.Used (block_of s.catalogue a)) k (hit_kept s a r.kept r.is_kept) refl k.left r.state
asked_of before after s t a (asked.Busy n) k tile r = the_same s t k r.1.1
asked_of before after s t a asked.Spent k tile r = the_same s t k r.1.2
asked_of before after s t a (asked.Ticket ticket) k tile r = given s (block_of s.catalogue a) ticket t k (tile_meta s.catalogue a tile) r.1

forced_of : (s t : State) (m : MetaKey) (r : Forced) → IsKnown s → IsMeta s.catalogue m → IsForcedOf s m r t → IsKnownAs s t
forced_of s t m (forced.Busy n) k meta r = the_same s t k r.1
forced_of s t m forced.Spent k meta r = the_same s t k r.2
forced_of s t m (forced.Ticket ticket) k meta r = given s m ticket t k meta r

pub asks_known : (before after : ℕ) (s t : State) (a : Address) (r : Asked) → IsKnown s → IsTile s.catalogue a → Asks before after s a r t → IsKnownAs s t
asks_known before after s t a r k tile row = since_ask s t t.clock.moment (asked_of before after (asked_at t.clock.moment s) t a r (asked_known s t.clock.moment k) tile row)

pub forces_known : (s t : State) (m : MetaKey) (r : Forced) → IsKnown s → IsMeta s.catalogue m → Forces s m r t → IsKnownAs s t
forces_known s t m r k meta row = since_ask s t t.clock.moment (forced_of (asked_at t.clock.moment s) t m r (asked_known s t.clock.moment k) meta row)

-- FINISH

-- what is kept, and another one in the place of its metatile's older one
pub map_stored : (t : Kept) (text : List ℕ) (blobs : List KeptBlob) (kept : List Kept) → map (λ b. b.kept) blobs ≡ kept → map (λ b. b.kept) (filter (λ b. not (is_of t.meta b.kept)) blobs ++ record { kept = t; text = text } ∷ []) ≡ but t.meta kept ++ t ∷ []
map_stored t text blobs kept e =
    map-append (λ (b : KeptBlob). b.kept) (filter (λ b. not (is_of t.meta b.kept)) blobs) (record { kept = t; text = text } ∷ [])
    ∙ ap (λ (ts : List Kept). ts ++ t ∷ []) (map_filter (λ (b : KeptBlob). b.kept) (λ x. not (is_of t.meta x)) blobs ∙ ap (but t.meta) e)

stored : (s t : State) (ticket : Ticketed) (blob : List ℕ) → IsKnown s → length blob ≡ blob_size s.catalogue ticket.meta → Finishes s ticket blob finished.Kept t → IsKnownAs s t
stored s t ticket blob k long r =
    let new = kept_at ticket r.0 r.3.0 (length blob) in
    known_more s t (stored_entry new) (option_map (blobs_with new blob) s.blobs) k (r.1, long, r.3.1, r.2, refl)
    (if_some_made _ _ (blobs_with new blob) (λ bs is. map_stored new blob bs (now s).kept is) s.blobs k.blobs)
    (if_some_made _ _ (blobs_with new blob)
    (λ bs are. all_push (IsLong s.catalogue) (blobs_without new.meta bs) (record { kept = new; text = blob }) (all_filter (IsLong s.catalogue) (λ b. not (is_of new.meta b.kept)) bs are) (refl, long)) s.blobs k.lengths) k.left r.3.2

pub finishes_known : (s t : State) (ticket : Ticketed) (blob : List ℕ) (r : Finished) → IsKnown s → length blob ≡ blob_size s.catalogue ticket.meta → Finishes s ticket blob r t → IsKnownAs s t
finishes_known s t ticket blob finished.Stranger k long r = the_same s t k r.1
finishes_known s t ticket blob (finished.Overtaken c) k long r = ended s t ticket.number k r.2
finishes_known s t ticket blob finished.Full k long r = ended s t ticket.number k r.3
finishes_known s t ticket blob finished.NoRoom k long r = ended s t ticket.number k r.4
finishes_known s t ticket blob (finished.DiskFault b a) k long r = ended s t ticket.number k r.5
finishes_known s t ticket blob finished.Kept k long r = stored s t ticket blob k long r

pub abandons_known : (s t : State) (ticket : Ticketed) → IsKnown s → Abandons s ticket t → IsKnownAs s t
abandons_known s t ticket k (inl r) = the_same s t k r.1
abandons_known s t ticket k (inr r) = ended s t ticket.number k r.1

pub map_spared : (c : Catalogue) (cover : Cover) (blobs : List KeptBlob) (kept : List Kept) → map (λ b. b.kept) blobs ≡ kept → map (λ b. b.kept) (filter (λ b. not (hits_of c cover b.kept.meta)) blobs) ≡ spared c cover kept
map_spared c cover blobs kept e = map_filter (λ (b : KeptBlob). b.kept) (λ t. not (hits_of c cover t.meta)) blobs ∙ ap (spared c cover) e

done : (s t : State) (cover : Cover) (n : ℕ) → IsKnown s → IsCoverOf s.catalogue cover → Cuts s cover (reply.Done n) t → IsKnownAs s t
done s t cover n k of r =
    let x = next_is s.opening (now s) n r.0 in
    let l = x.left in let f = k.left in
    known_more s t (entry.Cut n cover) (option_map (blobs_spared s.catalogue cover) s.blobs) k (x.number, of, r.1) (if_some_made _ _ (blobs_spared s.catalogue cover) (λ bs is. map_spared s.catalogue cover bs (now s).kept is) s.blobs k.blobs)
    (if_some_made _ _ (blobs_spared s.catalogue cover) (λ bs are. all_filter (IsLong s.catalogue) (λ b. not (hits_of s.catalogue cover b.kept.meta)) bs are) s.blobs k.lengths) (omega arith) r.2

-- a number is spent, and nothing else changes
missed : (s t : State) (n : ℕ) → IsKnown s → next s.opening (now s) ≡ Some n → t ≡ with_entry s (entry.Missed n) → IsKnownAs s t
missed s t n k given r =
    let x = next_is s.opening (now s) n given in
    let l = x.left in let f = k.left in
    entered s t (entry.Missed n) k x.number refl (omega arith) r

pub cuts_known : (s t : State) (cover : Cover) (r : CutReply) → IsKnown s → IsCoverOf s.catalogue cover → Cuts s cover r t → IsKnownAs s t
cuts_known s t cover reply.Spent k of r = the_same s t k r.1
cuts_known s t cover reply.Full k of r = the_same s t k r.2
cuts_known s t cover (reply.DiskFault b a) k of r = missed s t r.0 k r.1 r.4
cuts_known s t cover (reply.Done n) k of r = done s t cover n k of r

-- what is kept but of a metatile
map_others : (m : MetaKey) (blobs : List KeptBlob) (kept : List Kept) → map (λ b. b.kept) blobs ≡ kept → map (λ b. b.kept) (filter (λ b. not (is_of m b.kept)) blobs) ≡ but m kept
map_others m blobs kept e = map_filter (λ (b : KeptBlob). b.kept) (λ t. not (is_of m t)) blobs ∙ ap (but m) e

-- what has uses is kept
used_kept : (s : State) (m : MetaKey) → IsSome (find (victims.is_of m) (uses_of s)) → IsSome (kept_of m (now s))
used_kept s m held = some_before (λ (t : Kept). use_of s.history t.meta) (kept_of m (now s)) (subst IsSome (find_map (λ (t : Kept). use_of s.history t.meta) (victims.is_of m) (now s).kept) held)
  where
    some_before : (f : Kept → Use) (o : Option Kept) → IsSome (option_map f o) → IsSome o
    some_before f (Some t) h = refl
    some_before f None h = absurd (cc)

-- a victim is kept
pub goes_kept : (s : State) (scope : Scope) (m : MetaKey) → victim_in s scope ≡ Some m → IsSome (kept_of m (now s))
goes_kept s scope m goes = used_kept s m (victim_held s.catalogue.policy scope (uses_of s) m goes)

gone : (s t : State) (m : MetaKey) → IsKnown s → Expires s (expired.Dropped m) t → IsKnownAs s t
gone s t m k r =
    known_more s t (entry.Dropped m) (option_map (blobs_without m) s.blobs) k (goes_kept s r.0 m r.2) (if_some_made _ _ (blobs_without m) (λ bs is. map_others m bs (now s).kept is) s.blobs k.blobs)
    (if_some_made _ _ (blobs_without m) (λ bs are. all_filter (IsLong s.catalogue) (λ b. not (is_of m b.kept)) bs are) s.blobs k.lengths) k.left r.3

pub expires_known : (s t : State) (r : Expired) → IsKnown s → Expires s r t → IsKnownAs s t
expires_known s t expired.Within k r = the_same s t k r.1
expires_known s t (expired.DiskFault b a) k r = the_same s t k r.2
expires_known s t (expired.Dropped m) k r = gone s t m k r

-- what is to be saved is of one that is kept
pub unsaved_kept : (s : State) (m : MetaKey) → unsaved_in s (Some m) → IsSome (kept_of m (now s))
unsaved_kept s m first = used_kept s m (subst IsSome (sym first.1.held) refl)

pub saves_known : (s t : State) (r : Saved) → IsKnown s → Saves s r t → IsKnownAs s t
saves_known s t saved.Within k r = the_same s t k r.1
saves_known s t (saved.DiskFault b a) k r = the_same s t k r.2
saves_known s t (saved.Done m) k r =
    let u = uses s.history m in
    known_more s t (entry.Counted m u) (option_map (blobs_counted m u) s.blobs) k (unsaved_kept s m r.0)
    (if_some_made _ _ (blobs_counted m u) (λ bs is. listed_set m u bs ∙ ap (map (with_uses m u)) is) s.blobs k.blobs)
    (if_some_made _ _ (blobs_counted m u) (λ bs are. blobs_set m u (IsLong s.catalogue) (λ b long. long) bs are) s.blobs k.lengths) k.left r.1

-- BUSY

pub busy_runs : (s t : State) (m : MetaKey) (j : ℕ) → IsKnown s → IsBusy s m j t → (n : ℕ) × (render s.catalogue s.history j ≡ Some (unmarked j m n))
busy_runs s t m j k r = let x = runs_is s.catalogue s.opening s.since m j k.possible r.0 in (x.0, ap (λ (h : History). render s.catalogue h j) k.whole ∙ x.1)

-- FRESH

got_last : {X : Type 0} (xs : List X) (x : X) → slice_get (xs ++ x ∷ []) (length xs) ≡ Some x
got_last [] x = refl
got_last (y ∷ ys) x = got_last ys x

-- the moment of an ask stands at its place in the history, and after it
module _ (s : State) (n : ℕ) (k : IsKnown s) where
  here : slice_get (whole s.opening (asked_at n s).since) (length s.history) ≡ Some (entry.At n)
  here = subst (λ (h : History). slice_get h (length s.history) ≡ Some (entry.At n)) (asked_known s n k).whole (got_last s.history (entry.At n))

  moment_is : (now (asked_at n s)).moment ≡ n
  moment_is = ap (λ (x : CabinetStanding). x.moment) (now_asked s n)

given_fresh : (s : State) (n : ℕ) (a : Address) (ticket : Ticketed) (t : State) → IsKnown s → IsTile s.catalogue a → IsTicketGiven (asked_at n s) (block_of s.catalogue a) ticket t
    → IsFresh s.catalogue t.history (length s.history) a ticket.number
given_fresh s n a ticket t k tile g =
    let after_ask = asked_known s n k in
    let next = next_is s.opening (now (asked_at n s)) ticket.number g.number in
    subst (λ (x : State). IsFresh s.catalogue x.history (length s.history) a ticket.number) (sym g.state)
    (subst (λ (h : History). IsFresh s.catalogue (h ++ entry.Started ticket.number (block_of s.catalogue a) ∷ []) (length s.history) a ticket.number) (sym after_ask.whole)
    (begun_fresh s.catalogue s.opening (asked_at n s).since (length s.history) n a ticket.number k.valid tile after_ask.possible next.number (moment_is s n k) (here s n k)))

hit_fresh : (s : State) (n : ℕ) (a : Address) (j : ℕ) (bytes : List ℕ) (t : State) → IsKnown s → IsTile s.catalogue a → IsHit (asked_at n s) a j bytes t → IsFresh s.catalogue t.history (length s.history) a j
hit_fresh s n a j bytes t k tile r =
    let after_ask = asked_known s n k in
    let answer = answers_is (asked_at n s) a r.kept r.is_kept in
    let within : is_within (limit_for s.catalogue a) r.kept.moment n ≡ true = subst (λ (b : ℕ). is_within (limit_for s.catalogue a) r.kept.moment b ≡ true) (moment_is s n k) answer.1 in
    let kept = kept_fresh s.catalogue s.opening (asked_at n s).since (length s.history) n a r.kept k.valid tile after_ask.possible answer.0 (here s n k) within in
    let fresh = subst (λ (h : History). IsFresh s.catalogue h (length s.history) a r.kept.number) (sym after_ask.whole) kept in
    let long = length-append s.history (entry.At n ∷ []) in
    let still = still_fresh s.catalogue (asked_at n s).history (entry.Used (block_of s.catalogue a) ∷ []) (length s.history) a r.kept.number (omega arith) fresh in
    subst (λ (i : ℕ). IsFresh s.catalogue t.history (length s.history) a i) (sym r.number) (subst (λ (x : State). IsFresh s.catalogue x.history (length s.history) a r.kept.number) (sym r.state) still)

pub asks_fresh : (before after : ℕ) (s t : State) (a : Address) (r : Asked) → IsKnown s → IsTile s.catalogue a → Asks before after s a r t → IsFreshReply s a r t
asks_fresh before after s t a (asked.Hit j bytes) k tile r = hit_fresh s t.clock.moment a j bytes t k tile r
asks_fresh before after s t a (asked.Busy j) k tile r = tt
asks_fresh before after s t a asked.Spent k tile r = tt
asks_fresh before after s t a (asked.Ticket ticket) k tile r = given_fresh s t.clock.moment a ticket t k tile r.1

pub forces_fresh : (s t : State) (a : Address) (r : Forced) → IsKnown s → IsTile s.catalogue a → Forces s (block_of s.catalogue a) r t → IsFreshForced s a r t
forces_fresh s t a (forced.Busy j) k tile r = tt
forces_fresh s t a forced.Spent k tile r = tt
forces_fresh s t a (forced.Ticket ticket) k tile r = given_fresh s t.clock.moment a ticket t k tile r

-- What each record comes to in what a replay holds.
use Rattle.std.proofs.Common.{ℕ, ◌≡◌, ◌+◌, ◌≤◌, not, List, [], ◌∷◌, ◌++◌, filter, find, length, Option, Some, None, refl, sym, ap, subst, ◌∙◌, arith, length-append}
use Rattle.std.specs.Prelude.{IfSome, IfNone, vec_capacity, Contains}
use Rattle.std.specs.List.{AllByRecursion}
use Rattle.std.proofs.lemmas.List.{map-append}
use Rattle.catalog.specs.declared.catalogue.Catalogue.{Catalogue}
use Rattle.catalog.specs.Valid.{IsValid}
use Rattle.extent_map.specs.Parts.{AreApart}
use Rattle.extent_map.specs.Spaces.{IsFree, IsSound, IsTaken, Space}
use Rattle.metatile_locks.proofs.Lists.{all_weaker, few, none_passes}
use Rattle.metatile_plan.specs.declared.metatile.MetaKey.{MetaKey}
use Rattle.record_text.specs.declared.entries.Record.{Record}
use Rattle.truncation_list.specs.declared.book.Book.{Book}
use Rattle.truncation_list.specs.declared.book.Cut.{Cut}
use Rattle.cabinet.specs.declared.kept.Kept.{Kept}
use Rattle.cabinet.specs.declared.kept.KeptBlob.{KeptBlob}
use Rattle.cabinet_records.specs.declared.replay.progress.ReplayProgress.{ReplayProgress}
use Rattle.cabinet.specs.Fresh.{ApartBy}
use Rattle.cabinet.specs.Gaps.{region, regions}
use Rattle.cabinet.specs.History.{but, is_of}
use Rattle.cabinet_records.specs.Placed.{ArePlaced, AreTied, place_in}
use Rattle.cabinet_records.specs.Played.{AreTiedIn, IsPlayed, LeavesAll, MayKeep, places_but, replayed_of}
use Rattle.cabinet_records.specs.Replay.{MayFollow, MayStore, Replayed, Replays, replayed, unplayed}
use Rattle.cabinet.specs.Shelved.{listed}
use Rattle.cabinet.proofs.Disjoint.{blob_some, of_regions, other_side}
use Rattle.cabinet.proofs.Lists.{map_filter}
use Rattle.cabinet.proofs.Once.{but_none}
use Rattle.cabinet.proofs.Regions.{all_regions}
use Rattle.cabinet_records.proofs.Tied.{dropped_tied, region_taken}

-- RECORDS

-- one more record
pub replays_push : (c : Catalogue) (r : Replayed) (records : List (Option Record)) (t : Replayed) (x : Record) → Replays c r records t → MayFollow c t x → Replays c r (records ++ Some x ∷ []) (replayed c t x)
replays_push c r [] t x h may = (subst (λ (u : Replayed). MayFollow c u x) h may, ap (λ (u : Replayed). replayed c u x) h)
replays_push c r (None ∷ records) t x h may = absurd h
replays_push c r (Some y ∷ records) t x h may = (h.0, replays_push c (replayed c r y) records t x h.1 may)

-- what is held after it
pub played_from : (c : Catalogue) (next : ℕ) (old new : ReplayProgress) (x : Record) → IsPlayed c next old → MayFollow c (replayed_of old) x → replayed_of new ≡ replayed c (replayed_of old) x → AreTiedIn (next + 1) new
    → new.regions.size ≡ c.blob_bytes → new.cuts.book.floor ≡ 0 → length new.out.items ≡ 0 → length new.store.blobs ≤ vec_capacity new.out → IsPlayed c (next + 1) new
played_from c next old new x p may same tied size floor none room = record {
  reached = (p.reached.0 ++ Some x ∷ [], subst (Replays c unplayed (p.reached.0 ++ Some x ∷ [])) (sym same) (replays_push c unplayed p.reached.0 (replayed_of old) x p.reached.1 may));
  tied = tied;
  size = size;
  floor = floor;
  none = none;
  room = room;
}

-- all is as before
pub same_replayed : (old new : ReplayProgress) → LeavesAll old new → replayed_of new ≡ replayed_of old
same_replayed old new s = λ i. record { opening = s.opening i; floor = s.floor i; kept = listed (s.blobs i); cuts = (s.cuts i).cuts }

pub still_played : (c : Catalogue) (next : ℕ) (old new : ReplayProgress) → IsPlayed c next old → LeavesAll old new → IsPlayed c next new
still_played c next old new p s = record {
  reached = (p.reached.0, subst (Replays c unplayed p.reached.0) (sym (same_replayed old new s)) p.reached.1);
  tied = record {
    once = subst (λ (bs : List KeptBlob). ApartBy (λ (t : Kept). t.meta) (listed bs)) (sym s.blobs) p.tied.once;
    parts = s.parts ∙ p.tied.parts ∙ ap (λ (bs : List KeptBlob). regions (listed bs)) (sym s.blobs);
    order = s.order;
    placed = subst (λ (z : List KeptBlob × List (ℕ × ℕ)). ArePlaced (place_in z.1) next (listed z.0)) (λ i. (sym s.blobs i, sym s.places i)) p.tied.placed;
  };
  size = s.size ∙ p.size;
  floor = ap (λ (b : Book). b.floor) s.cuts ∙ p.floor;
  none = s.out ∙ p.none;
  room = let room = p.room in let more = s.room in omega (arith, room, more, ap (λ (bs : List KeptBlob). length bs) s.blobs);
}

-- ONE IS DROPPED

pub dropped_list : (m : MetaKey) (blobs new : List KeptBlob) → new ≡ filter (λ b. not (is_of m b.kept)) blobs → listed new ≡ but m (listed blobs)
dropped_list m blobs new e = ap listed e ∙ map_filter (λ (b : KeptBlob). b.kept) (λ t. not (is_of m t)) blobs

pub dropped_few : (m : MetaKey) (blobs new : List KeptBlob) → new ≡ filter (λ b. not (is_of m b.kept)) blobs → length new ≤ length blobs
dropped_few m blobs new e = subst (λ (bs : List KeptBlob). length bs ≤ length blobs) (sym e) (few (λ (b : KeptBlob). not (is_of m b.kept)) blobs)

-- ONE IS KEPT

-- what is tied once the older region and place are given back
pub given_tied : (next : ℕ) (kept : List Kept) (space given : Space) (places : ℕ → Option ℕ) (m : MetaKey) (older : Option Kept) → AreTied next kept space places → older ≡ find (is_of m) kept
    → IfSome older (λ t. IsTaken given (region t) space) → IfNone older (given ≡ space) → IsSound given → AreTied next (but m kept) given (places_but older places)
given_tied next kept space given places m None a e back left sound =
    subst (λ (z : List Kept × Space). AreTied next z.0 z.1 places) (λ i. (sym (but_none m kept (none_passes (is_of m) kept (sym e))) i, sym left i)) a
given_tied next kept space given places m (Some t) a e back left sound = dropped_tied next kept space given places (places_but (Some t) places) m t a (sym e) sound back (λ n. refl)

pub given_size : (space given : Space) (older : Option Kept) → IfSome older (λ t. IsTaken given (region t) space) → IfNone older (given ≡ space) → given.size ≡ space.size
given_size space given None back left = ap (λ (s : Space). s.size) left
given_size space given (Some t) back left = sym back.same_size

-- the older region is taken
pub older_taken : (next : ℕ) (kept : List Kept) (space : Space) (places : ℕ → Option ℕ) (m : MetaKey) (older : Option Kept) → AreTied next kept space places → older ≡ find (is_of m) kept → IfSome older (λ t. Contains space.parts (region t))
older_taken next kept space places m None a e = tt
older_taken next kept space places m (Some t) a e = region_taken next kept space places m t a (sym e)

-- where the region is free, the metatile may be stored
pub free_stored : (c : Catalogue) (r : Replayed) (t : Kept) (given : Space) → MayKeep c r t → given.parts ≡ regions (but t.meta r.kept) → given.size ≡ c.blob_bytes → IsFree given.parts given.size (region t) → MayStore c r t
free_stored c r t given k parts size free = record {
  meta = k.meta;
  size = k.size;
  within = let f = free.0 in omega (arith, f, size);
  apart = all_weaker (λ (u : Kept). AreApart (region u) (region t)) (λ u. AreApart (region t) (region u)) (λ u a. other_side (region u) (region t) a) (but t.meta r.kept)
      (all_regions (λ q. AreApart q (region t)) (but t.meta r.kept) (subst (AllByRecursion (λ q. AreApart q (region t))) parts free.1));
  given = k.given;
  above_floor = k.above_floor;
  own = k.own;
  newer = k.newer;
  few = k.few;
}

pub stored_free : (c : Catalogue) (r : Replayed) (t : Kept) (given : Space) → given.parts ≡ regions (but t.meta r.kept) → given.size ≡ c.blob_bytes → MayStore c r t → IsFree given.parts given.size (region t)
stored_free c r t given parts size may = (
  (let w = may.within in omega (arith, w, size)),
  subst (AllByRecursion (λ q. AreApart q (region t))) (sym parts)
      (of_regions (λ q. AreApart q (region t)) (but t.meta r.kept) (all_weaker (λ (u : Kept). AreApart (region t) (region u)) (λ u. AreApart (region u) (region t)) (λ u a. other_side (region t) (region u) a) (but t.meta r.kept) may.apart)),
)

pub kept_may : (c : Catalogue) (r : Replayed) (t : Kept) → MayStore c r t → MayKeep c r t
kept_may c r t may = record { meta = may.meta; size = may.size; given = may.given; above_floor = may.above_floor; own = may.own; newer = may.newer; few = may.few }

pub kept_some : (c : Catalogue) (r : Replayed) (t : Kept) → IsValid c → MayKeep c r t → 1 ≤ t.length
kept_some c r t valid k = subst (λ (n : ℕ). 1 ≤ n) (sym k.size) (blob_some c t.meta valid k.meta)

pub stored_list : (t : Kept) (text : List ℕ) (blobs new : List KeptBlob) → new ≡ filter (λ b. not (is_of t.meta b.kept)) blobs ++ record { kept = t; text = text } ∷ [] → listed new ≡ but t.meta (listed blobs) ++ t ∷ []
stored_list t text blobs new e =
    ap listed e ∙ map-append (λ (b : KeptBlob). b.kept) (filter (λ b. not (is_of t.meta b.kept)) blobs) (record { kept = t; text = text } ∷ []) ∙ ap (λ ts. ts ++ t ∷ []) (map_filter (λ (b : KeptBlob). b.kept) (λ u. not (is_of t.meta u)) blobs)

pub stored_few : (t : Kept) (text : List ℕ) (blobs new : List KeptBlob) → new ≡ filter (λ b. not (is_of t.meta b.kept)) blobs ++ record { kept = t; text = text } ∷ [] → length new ≤ length blobs + 1
stored_few t text blobs new e =
    let one : KeptBlob = record { kept = t; text = text } in
    let n = few (λ (b : KeptBlob). not (is_of t.meta b.kept)) blobs in
    let m = length-append (filter (λ (b : KeptBlob). not (is_of t.meta b.kept)) blobs) (one ∷ []) in
    let l = ap (λ (bs : List KeptBlob). length bs) e in
    omega arith

-- WITH OTHER PARTS

abbrev pub with_kept : Replayed → List Kept → Replayed
with_kept r ts = record { opening = r.opening; floor = r.floor; kept = ts; cuts = r.cuts }

abbrev pub with_opening : Replayed → ℕ → ℕ → Replayed
with_opening r e floor = record { opening = Some e; floor = floor; kept = r.kept; cuts = r.cuts }

abbrev pub with_cuts : Replayed → List Kept → List Cut → Replayed
with_cuts r ts cuts = record { opening = r.opening; floor = r.floor; kept = ts; cuts = cuts }

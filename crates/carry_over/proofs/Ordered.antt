-- What a compaction wrote comes back in its order.
use Rattle.std.proofs.Common.{ℕ, ◌≡◌, ◌≢◌, List, [], ◌∷◌, ◌++◌, false, map, Option, Some, sym, ap, subst, ◌∙◌, append_assoc, append-nil, max}
use Rattle.std.specs.List.{AllByRecursion}
use Rattle.std.proofs.lemmas.List.{map-append}
use Rattle.cabinet.specs.declared.kept.Kept.{Kept}
use Rattle.cabinet.specs.Fresh.{ApartBy}
use Rattle.cabinet.specs.History.{CabinetOpening, but, is_of}
use Rattle.cabinet.proofs.Lists.{all_push}
use Rattle.cabinet.proofs.Once.{but_none, off_of}
use Rattle.cabinet_records.specs.Recorded.{compacted, stored_record}
use Rattle.cabinet_records.specs.Replay.{Replayed, Replays, replayed, unplayed}
use Rattle.catalog.specs.declared.catalogue.Catalogue.{Catalogue}
use Rattle.metatile_locks.proofs.Lists.{all_weaker}
use Rattle.record_text.specs.declared.entries.Record.{Record}
use Rattle.record_text.specs.declared.entries.Record.TheVariants as record_of
use Rattle.truncation_list.specs.declared.book.Cut.{Cut}

-- records, each there
abbrev all_there : List Record → List (Option Record)
all_there rs = map (λ r. Some r) rs

abbrev with_none_kept : Option ℕ → ℕ → List Cut → Replayed
with_none_kept e floor cuts = record { opening = e; floor = floor; kept = []; cuts = cuts }

-- the cuts take nothing out where nothing is kept
behind_cuts : (c : Catalogue) (e : Option ℕ) (floor : ℕ) (done cuts : List Cut) (rest : List (Option Record)) (t : Replayed)
    → Replays c (with_none_kept e floor done) (all_there (map (λ (k : Cut). record_of.Cut k.number k.cover) cuts) ++ rest) t → (all : List Cut) × Replays c (with_none_kept e floor all) rest t
behind_cuts c e floor done [] rest t h = (done, h)
behind_cuts c e floor done (k ∷ cuts) rest t h = behind_cuts c e floor (done ++ k ∷ []) cuts rest t h.1

-- none of the one list has the metatile of one of the other
abbrev AreOff : List Kept → List Kept → Type 0
AreOff done ts = AllByRecursion (λ (t : Kept). AllByRecursion (λ (u : Kept). t.meta ≢ u.meta) done) ts

still_off : (done : List Kept) (t : Kept) (ts : List Kept) → AreOff done ts → AllByRecursion (λ (u : Kept). t.meta ≢ u.meta) ts → AreOff (done ++ t ∷ []) ts
still_off done t [] off apart = tt
still_off done t (u ∷ ts) off apart = (all_push (λ (x : Kept). u.meta ≢ x.meta) done t off.0 (λ e. apart.0 (sym e)), still_off done t ts off.1 apart.1)

-- what is stored stands behind what is kept
behind_stored : (c : Catalogue) (ts : List Kept) (r t : Replayed) → AreOff r.kept ts → ApartBy (λ (x : Kept). x.meta) ts → Replays c r (all_there (map stored_record ts)) t → t.kept ≡ r.kept ++ ts
behind_stored c [] r t off apart h = ap (λ (x : Replayed). x.kept) h ∙ sym (append-nil r.kept)
behind_stored c (x ∷ ts) r t off apart h =
    let others : but x.meta r.kept ≡ r.kept = but_none x.meta r.kept (all_weaker (λ (u : Kept). x.meta ≢ u.meta) (λ u. is_of x.meta u ≡ false) (λ u a. off_of x.meta u.meta a) r.kept off.0) in
    let next : Replayed = replayed c r (stored_record x) in
    let now : next.kept ≡ r.kept ++ x ∷ [] = ap (λ (us : List Kept). us ++ x ∷ []) others in
    behind_stored c ts next t (subst (λ (us : List Kept). AreOff us ts) (sym now) (still_off r.kept x ts off.1 apart.0)) apart.1 h.1 ∙ (ap (λ (us : List Kept). us ++ ts) now ∙ append_assoc r.kept (x ∷ []) ts)

none_off : (ts : List Kept) → AreOff [] ts
none_off [] = tt
none_off (t ∷ ts) = (tt, none_off ts)

pub same_order : (c : Catalogue) (o : CabinetOpening) (t : Replayed) → ApartBy (λ (x : Kept). x.meta) o.kept → Replays c unplayed (all_there (compacted o.number o.book o.kept)) t → t.kept ≡ o.kept
same_order c o t apart h =
    let cuts = map (λ (k : Cut). record_of.Cut k.number k.cover) o.book.cuts in
    let stored = map stored_record o.kept in
    let parts = map-append (λ (r : Record). Some r) cuts stored in
    let floor = max 0 o.book.floor in
    let left = behind_cuts c (Some o.number) floor [] o.book.cuts (all_there stored) t (subst (λ (rs : List (Option Record)). Replays c (with_none_kept (Some o.number) floor []) rs t) parts h.1) in
    behind_stored c o.kept (with_none_kept (Some o.number) floor left.0) t (none_off o.kept) apart left.1

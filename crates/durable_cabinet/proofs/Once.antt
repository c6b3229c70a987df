-- A content opens to records in one way alone, and so to one list of what is kept.
use Rattle.std.proofs.Common.{ℕ, ◌≡◌, List, [], ◌∷◌, Option, Some, None, refl, sym, ap, subst, ◌∙◌}
use Rattle.catalog.specs.declared.catalogue.Catalogue.{Catalogue}
use Rattle.disk_model.specs.Content.{Content}
use Rattle.gate_journal.specs.Opened.{Opening, differs, no_cache, records}
use Rattle.record_text.specs.declared.entries.Record.{Record}
use Rattle.record_text.specs.Reading.{entry_of}
use Rattle.record_text.proofs.Back.{entry_back}
use Rattle.record_text.proofs.Decoded.{same_entry}
use Rattle.cabinet_records.specs.Replay.{AreRecordsOf, IsRecordOf, Replayed, Replays, replayed, unplayed}
use Rattle.durable_cabinet.specs.Images.{OpensTo}

abbrev pub bodies_in : Opening → List (List ℕ)
bodies_in no_cache = []
bodies_in (differs d) = []
bodies_in (records version bodies) = bodies

abbrev pub version_in : Opening → ℕ
version_in no_cache = 0
version_in (differs d) = 0
version_in (records version bodies) = version

entry_one : (version : ℕ) (body : List ℕ) (e f : Option Record) → IsRecordOf version body e → IsRecordOf version body f → e ≡ f
entry_one version body None None h k = refl
entry_one version body None (Some q) h k = absurd (h q k.0 k.1 k.2)
entry_one version body (Some r) None h k = absurd (k r h.0 h.1 h.2)
entry_one version body (Some r) (Some q) h k = ap (λ (x : Record). Some x) (same_entry r q (sym (entry_back r h.0) ∙ ap entry_of (h.1 ∙ sym k.1) ∙ entry_back q k.0))

entries_one : (version : ℕ) (bodies : List (List ℕ)) (es fs : List (Option Record)) → AreRecordsOf version bodies es → AreRecordsOf version bodies fs → es ≡ fs
entries_one version [] [] [] h k = refl
entries_one version [] [] (f ∷ fs) h k = absurd k
entries_one version [] (e ∷ es) fs h k = absurd h
entries_one version (body ∷ bodies) [] fs h k = absurd h
entries_one version (body ∷ bodies) (e ∷ es) [] h k = absurd k
entries_one version (body ∷ bodies) (e ∷ es) (f ∷ fs) h k = λ i. entry_one version body e f h.0 k.0 i ∷ entries_one version bodies es fs h.1 k.1 i

pub replays_once : (c : Catalogue) (a : Replayed) (es : List (Option Record)) (r t : Replayed) → Replays c a es r → Replays c a es t → r ≡ t
replays_once c a [] r t h k = h ∙ sym k
replays_once c a (None ∷ es) r t h k = absurd h
replays_once c a (Some e ∷ es) r t h k = replays_once c (replayed c a e) es r t h.1 k.1

pub opens_once : (c : Catalogue) (image : Content) (r t : Replayed) → OpensTo c image r → OpensTo c image t → r ≡ t
opens_once c image r t o p =
    let same : records o.version o.bodies ≡ records p.version p.bodies = sym o.opens ∙ p.opens in
    let version : o.version ≡ p.version = ap version_in same in
    let bodies : o.bodies ≡ p.bodies = ap bodies_in same in
    let are : AreRecordsOf p.version p.bodies o.entries = subst (λ (n : ℕ). AreRecordsOf n p.bodies o.entries) version (subst (λ (bs : List (List ℕ)). AreRecordsOf o.version bs o.entries) bodies o.are) in
    let entries : o.entries ≡ p.entries = entries_one p.version p.bodies o.entries p.entries are p.are in
    replays_once c unplayed p.entries r t (subst (λ (es : List (Option Record)). Replays c unplayed es r) entries o.replays) p.replays

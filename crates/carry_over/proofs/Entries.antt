-- A content has one list of records.
use Rattle.std.proofs.Common.{ℕ, ◌≡◌, List, [], ◌∷◌, Option, Some, None, refl, sym, ap, subst, ◌∙◌}
use Rattle.cabinet_records.specs.Replay.{AreRecordsOf, IsRecordOf}
use Rattle.durable_cabinet.proofs.Once.{bodies_in, version_in}
use Rattle.gate_journal.specs.Opened.{Opening, records}
use Rattle.record_text.specs.declared.entries.Record.{Record}
use Rattle.record_text.specs.Reading.{entry_of}
use Rattle.record_text.proofs.Back.{entry_back}
use Rattle.record_text.proofs.Decoded.{same_entry}

entry_one : (version : ℕ) (body : List ℕ) (e f : Option Record) → IsRecordOf version body e → IsRecordOf version body f → e ≡ f
entry_one version body None None h k = refl
entry_one version body None (Some q) h k = absurd (h q k.0 k.1 k.2)
entry_one version body (Some r) None h k = absurd (k r h.0 h.1 h.2)
entry_one version body (Some r) (Some q) h k = ap (λ (x : Record). Some x) (same_entry r q (sym (entry_back r h.0) ∙ ap entry_of (h.1 ∙ sym k.1) ∙ entry_back q k.0))

entries_one : (version : ℕ) (bodies : List (List ℕ)) (es fs : List (Option Record)) → AreRecordsOf version bodies es → AreRecordsOf version bodies fs → es ≡ fs
entries_one version [] [] [] h k = refl
entries_one version [] [] (f ∷ fs) h k = absurd k
entries_one version [] (e ∷ es) fs h k = absurd h
entries_one version (body ∷ bodies) [] fs h k = absurd h
entries_one version (body ∷ bodies) (e ∷ es) [] h k = absurd k
entries_one version (body ∷ bodies) (e ∷ es) (f ∷ fs) h k = λ i. entry_one version body e f h.0 k.0 i ∷ entries_one version bodies es fs h.1 k.1 i

pub one_list : (o : Opening) (v w : ℕ) (bs cs : List (List ℕ)) (es fs : List (Option Record)) → o ≡ records v bs → o ≡ records w cs → AreRecordsOf v bs es → AreRecordsOf w cs fs → es ≡ fs
one_list o v w bs cs es fs is also are also_are =
    let same : records v bs ≡ records w cs = sym is ∙ also in
    let moved : AreRecordsOf w cs es = subst (λ (n : ℕ). AreRecordsOf n cs es) (ap version_in same) (subst (λ (xs : List (List ℕ)). AreRecordsOf v xs es) (ap bodies_in same) are) in
    entries_one w cs es fs moved also_are

-- What is written of an opening says what the cabinet keeps.
use Rattle.std.proofs.Common.{ℕ, ◌≡◌, ◌<◌, List, [], ◌∷◌, ◌++◌, map, length, Option, Some, refl, sym, ap, subst, ◌∙◌, arith, length-append}
use Rattle.std.specs.List.{AllByRecursion}
use Rattle.std.proofs.lemmas.List.{length-map}
use Rattle.std.proofs.lemmas.List.Sorted.{length_permutation}
use Rattle.cabinet.specs.declared.entry.HistoryEntry.{HistoryEntry}
use Rattle.cabinet.specs.History.{first, standing}
use Rattle.cabinet.specs.State.{IsKnown, State, now}
use Rattle.cabinet_records.specs.Recorded.{IsRecordedIn, compacted, stored_record}
use Rattle.cabinet_records.specs.Replay.{AreRecordsOf, Replayed, Replays, opening_after, unplayed}
use Rattle.cabinet_records.proofs.Judged.{records_push}
use Rattle.cabinet_records.proofs.RecordedOpening.{compacts_recorded, opened_recorded}
use Rattle.cabinet_records.proofs.RecordedStanding.{stands_in}
use Rattle.gate_journal.specs.Opened.{records}
use Rattle.record_text.specs.declared.entries.Record.{Record}
use Rattle.record_text.specs.declared.entries.Record.TheVariants as record_of
use Rattle.record_text.specs.Fits.{Fits}
use Rattle.record_text.specs.Spelling.{spelling}
use Rattle.durable_cabinet.specs.Drafts.{IsCompactionOf, cut_record}
use Rattle.durable_cabinet.specs.Filed.{IsOpeningOf}
use Rattle.durable_cabinet.specs.Images.{slots_for}

-- what was just opened stands as it was opened
pub now_opened : (s : State) → s.since ≡ [] → now s ≡ first s.opening
now_opened s none = ap (λ (es : List HistoryEntry). standing s.catalogue (first s.opening) es) none

-- WRITTEN ANEW

pub compaction_few : (s : State) (bodies : List (List ℕ)) → IsKnown s → IsCompactionOf s bodies → length bodies < slots_for s.catalogue
compaction_few s bodies known is =
    let st = stands_in s known in
    let cs = map cut_record (now s).book.cuts in
    let ks = map stored_record is.kept in
    let a = ap (λ (l : List (List ℕ)). length l) is.bodies_are in
    let b = length-map (compacted s.opening.number (now s).book is.kept) spelling in
    let d = length-append cs ks in
    let e = length-map (now s).book.cuts cut_record in
    let f = length-map is.kept stored_record in
    let g = length_permutation is.kept (now s).kept is.order in
    omega (arith, a, b, d, e, f, g, st.few, st.few_listed)

spelled : (rs : List Record) → AllByRecursion Fits rs → AreRecordsOf 2 (map spelling rs) (map (λ r. Some r) rs)
spelled [] fit = tt
spelled (r ∷ rs) fit = ((fit.0, refl, λ one. absurd (omega (arith, one))), spelled rs fit.1)

pub written_anew : (s : State) (bodies : List (List ℕ)) → IsKnown s → IsCompactionOf s bodies → IsOpeningOf s (records 2 bodies)
written_anew s bodies known is =
    let rs = compacted s.opening.number (now s).book is.kept in
    record {
      version = 2;
      bodies = bodies;
      entries = map (λ r. Some r) rs;
      opens = refl;
      are = subst (λ (l : List (List ℕ)). AreRecordsOf 2 l (map (λ r. Some r) rs)) (sym is.bodies_are) (spelled rs is.fits);
      recorded = compacts_recorded s is.kept known is.order;
    }

-- ONE RECORD MORE

pub written_more : (s : State) (r : Replayed) (entries : List (Option Record)) (version : ℕ) (bodies : List (List ℕ)) (body : List ℕ) (e floor : ℕ)
    → IsKnown s → Replays s.catalogue unplayed entries r → s.opening ≡ opening_after r → s.since ≡ []
    → version ≡ 2 → AreRecordsOf version bodies entries → e ≡ s.opening.number → floor ≡ (now s).book.floor → Fits (record_of.Opened e floor) → body ≡ spelling (record_of.Opened e floor) → IsOpeningOf s (records version (bodies ++ body ∷ []))
written_more s r entries version bodies body e floor known replays opening since two are number_is floor_is fits body_is =
    let new = record_of.Opened e floor in
    let same : record_of.Opened s.opening.number s.opening.book.floor ≡ new = λ i. record_of.Opened (sym number_is i) (sym (floor_is ∙ (λ k. (now_opened s since k).book.floor)) i) in
    record {
      version = version;
      bodies = bodies ++ body ∷ [];
      entries = entries ++ Some new ∷ [];
      opens = refl;
      are = records_push version bodies entries body (Some new) are (fits, sym body_is, λ one. absurd (omega (arith, one, two)));
      recorded = subst (λ (x : Record). IsRecordedIn s (entries ++ Some x ∷ [])) same (opened_recorded s r entries known replays opening since);
    }

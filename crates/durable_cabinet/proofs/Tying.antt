-- What a call of the file of a cabinet leaves of the tie between the two, and what each of its moments leaves.
use Rattle.std.proofs.Common.{ℕ, ◌≡◌, ◌≤◌, true, List, [], ◌∷◌, ◌++◌, length, map, Option, Some, refl, sym, ap, subst, ◌∙◌, inl, arith}
use Rattle.std.specs.List.{AllByRecursion}
use Rattle.disk_model.specs.Content.{Content}
use Rattle.disk_model.specs.Images.{DiskState}
use Rattle.gate_journal.specs.declared.journal.Journal.{Journal}
use Rattle.gate_journal.specs.declared.standing.Standing.{Standing}
use Rattle.gate_journal.specs.declared.standing.Standing.TheVariants.{Settled}
use Rattle.gate_journal.specs.Layout.{Layout}
use Rattle.gate_journal.specs.Opened.{Opening, opened, records}
use Rattle.gate_journal.specs.Sound.{IsSettled, digest_of, kept_by, layout_of, other_as, slots_of}
use Rattle.record_text.specs.declared.entries.Record.{Record}
use Rattle.record_text.specs.Fits.{Fits}
use Rattle.record_text.specs.Old.{IsOld}
use Rattle.record_text.specs.Spelling.{spelling}
use Rattle.truncation_list.proofs.Answering.{answers_itself}
use Rattle.cabinet.specs.declared.kept.Kept.{Kept}
use Rattle.cabinet.specs.State.{IsKnown, State, now}
use Rattle.cabinet_records.specs.Recorded.{IsRecordedIn}
use Rattle.cabinet_records.specs.Replay.{AreRecordsOf, Replayed, unplayed}
use Rattle.cabinet_records.proofs.RecordedRestored.{records_restore}
use Rattle.cache_file.specs.File.{Anywhere, held, opens_to, unsure}
use Rattle.durable_cabinet.specs.Filed.{IsBesideOn, IsOpeningOf, on_disk}
use Rattle.durable_cabinet.specs.Images.{HasIn, IsBeside, OpensTo, Restores, blob_on, blobs_start, slots_for}
use Rattle.durable_cabinet.proofs.Blobs.{AreHeld, AreSpared}
use Rattle.durable_cabinet.proofs.Once.{bodies_in, replays_once, version_in}
use Rattle.durable_cabinet.proofs.Owning.{ours_of}

-- the cabinet with its blobs on a disk that is modelled
abbrev pub shown : State → DiskState → State
shown s disk = on_disk true disk.seen s

-- all are spared where nothing is written
pub anywhere : (ts : List Kept) → AreSpared Anywhere ts
anywhere [] = tt
anywhere (t ∷ ts) = (tt, anywhere ts)

-- RECORDS

one_more : (version : ℕ) (bodies : List (List ℕ)) (entries : List (Option Record)) (entry : Record) → Fits entry → (version ≡ 1 → IsOld entry) → AreRecordsOf version bodies entries → AreRecordsOf version (bodies ++ spelling entry ∷ []) (entries ++ Some entry ∷ [])
one_more version [] [] entry fits old are = ((fits, refl, old), tt)
one_more version [] (e ∷ entries) entry fits old are = elim are [ ]
one_more version (body ∷ bodies) [] entry fits old are = elim are [ ]
one_more version (body ∷ bodies) (e ∷ entries) entry fits old are = (are.0, one_more version bodies entries entry fits old are.1)

-- one more record that says what the cabinet then keeps
pub recorded_one : (s u : State) (version : ℕ) (bodies : List (List ℕ)) (entry : Record) → version ≡ 2 → Fits entry → ((rs : List (Option Record)) → IsRecordedIn s rs → IsRecordedIn u (rs ++ Some entry ∷ []))
    → IsOpeningOf s (records version bodies) → IsOpeningOf u (records version (bodies ++ spelling entry ∷ []))
recorded_one s u version bodies entry two fits leads r =
    let same : version ≡ r.version = ap version_in r.opens in
    record {
      version = r.version;
      bodies = r.bodies ++ spelling entry ∷ [];
      entries = r.entries ++ Some entry ∷ [];
      opens = λ k. records (same k) (ap bodies_in r.opens k ++ spelling entry ∷ []);
      are = one_more r.version r.bodies r.entries entry fits (λ one. absurd (omega (arith, two, same, one))) r.are;
      recorded = leads r.entries r.recorded;
    }

pub record_as : (s : State) (o p : Opening) → p ≡ o → IsOpeningOf s o → IsOpeningOf s p
record_as s o p same r = subst (IsOpeningOf s) (sym same) r

-- a settled journal has nothing undecided
unsure_as : (standing : Standing) (gate : ℕ) (l : Layout) (seen : Content) → standing ≡ Settled → other_as standing gate l seen ≡ records l.version (kept_by l seen)
unsure_as standing gate l seen is = ap (λ x. other_as x gate l seen) is

pub settled_unsure : (j : Journal) (disk : DiskState) → IsSettled j → unsure j disk ≡ held j disk
settled_unsure j disk settled = unsure_as j.standing j.gate (layout_of j) disk.seen settled

-- IMAGES

pub restored : (s : State) (j : Journal) (o : Opening) (disk : DiskState) (image : Content) → IsKnown s → digest_of j ≡ s.catalogue.digest → slots_of j ≡ slots_for s.catalogue → IsOpeningOf s o → opens_to j image ≡ o
    → AllByRecursion (HasIn s.catalogue image) (map (blob_on s.catalogue disk.seen) (now s).kept) → blobs_start s.catalogue ≤ length image → Restores (shown s disk) image
restored s j o disk image known digest slots r opens has whole =
    let back = records_restore s r.entries known r.recorded in
    let to : OpensTo s.catalogue image back.0 = record {
      version = r.version;
      bodies = r.bodies;
      entries = r.entries;
      opens = subst (λ n. opened s.catalogue.digest n image ≡ records r.version r.bodies) slots (subst (λ d. opened d (slots_of j) image ≡ records r.version r.bodies) digest (opens ∙ r.opens));
      are = r.are;
      replays = back.1;
      few_cuts = back.3;
    } in
    let same : back.0 ≡ r.recorded.replayed = replays_once s.catalogue unplayed r.entries back.0 r.recorded.replayed back.1 r.recorded.replays in
    record {
      replayed = back.0;
      opens = to;
      opening = ap (λ (x : Replayed). x.opening) same ∙ r.recorded.opening;
      kept = back.2;
      answers = back.4;
      has = has;
      ours = ours_of s known disk.seen image back.0 to back.2 has whole;
    }

-- the cabinet beside itself
pub beside_itself : (s : State) → IsBeside s s
beside_itself s = record { same_catalogue = refl; same_opening = refl; kept = inl refl; answers = answers_itself (now s).book }

abbrev pub beside_none : (s : State) (j : Journal) (disk : DiskState) → IsKnown s → unsure j disk ≡ held j disk → IsOpeningOf s (held j disk) → AreHeld s.catalogue disk (now s).kept → IsBesideOn s j disk
beside_none s j disk known none r holds = record { beside = s; known = known; is_beside = beside_itself s; recorded = record_as s (held j disk) (unsure j disk) none r; holds = holds; missed = inl (record_as s (held j disk) (unsure j disk) none r) }

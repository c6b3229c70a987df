-- What a call of the file of a cabinet leaves of the tie between the two, and what each of its moments leaves.
use Rattle.std.proofs.Common.{ℕ, ◌≡◌, ◌⊎◌, ◌≤◌, true, length, List, map, refl, sym, subst, ◌∙◌, inl, inr, Result}
use Rattle.std.specs.List.{AllByRecursion}
use Rattle.disk_model.specs.Content.{Content}
use Rattle.disk_model.specs.Images.{DiskState}
use Rattle.gate_journal.specs.declared.journal.Journal.{Journal}
use Rattle.gate_journal.specs.Opened.{Opening}
use Rattle.gate_journal.specs.Sound.{IsSettled, digest_of, slots_of}
use Rattle.truncation_list.specs.declared.book.Book.{Book}
use Rattle.truncation_list.specs.Books.{AnswersForBook}
use Rattle.catalog.specs.declared.catalogue.Catalogue.{Catalogue}
use Rattle.cabinet.specs.declared.kept.Kept.{Kept}
use Rattle.cabinet.specs.State.{IsKnown, State, now}
use Rattle.cabinet_records.proofs.RecordedStanding.{recorded_alike}
use Rattle.cache_file.specs.File.{Anywhere, Brings, HasHeld, IsAmong, Stays, held, opens_to, unsure}
use Rattle.durable_cabinet.specs.Alike.{IsAlikeTo}
use Rattle.durable_cabinet.specs.Filed.{IsBesideOn, IsKeptOn, IsOpeningOf}
use Rattle.durable_cabinet.specs.Missed.{HasMissed}
use Rattle.durable_cabinet.specs.Images.{HasIn, HasUndecided, IsBeside, IsLeft, IsOneRecordOn, Restores, blob_on, blobs_start, slots_for}
use Rattle.durable_cabinet.proofs.Blobs.{AreHeld, AreSpared, all_same, all_still, has_all, same_on}
use Rattle.durable_cabinet.proofs.Missing.{alike_same, missed_as, missed_still}
use Rattle.durable_cabinet.proofs.Owning.{each_has}
use Rattle.durable_cabinet.proofs.Tying.{anywhere, beside_itself, beside_none, record_as, restored, settled_unsure, shown}

-- A CABINET that keeps and lists the same

module _ (s t : State) (alike : IsAlikeTo s t) (j : Journal) (disk : DiskState) where
  pub held_alike : (ts : List Kept) → AreHeld s.catalogue disk ts → AreHeld t.catalogue disk ts
  held_alike ts h = subst (λ (c : Catalogue). AreHeld c disk ts) (sym alike.catalogue) h

  pub record_alike : (o : Opening) → IsOpeningOf s o → IsOpeningOf t o
  record_alike o r = record { version = r.version; bodies = r.bodies; entries = r.entries; opens = r.opens; are = r.are; recorded = recorded_alike s t r.entries r.recorded alike.catalogue alike.opening alike.kept alike.book alike.cuts }

  pub beside_alike : (u : State) → IsBeside s u → IsBeside t u
  beside_alike u b = record {
    same_catalogue = b.same_catalogue ∙ sym alike.catalogue;
    same_opening = b.same_opening ∙ sym alike.opening;
    kept = subst (λ (c : Catalogue). IsOneRecordOn c (now t).kept (now u).kept) (sym alike.catalogue) (subst (λ (ts : List Kept). IsOneRecordOn s.catalogue ts (now u).kept) (sym alike.kept) b.kept);
    answers = subst (λ (x : Book). AnswersForBook (now u).book x) (sym alike.book) b.answers;
  }

  -- what is undecided is still the cabinet, or the record of the same command
  pub missed_alike : (next : State) (o : Opening) → IsOpeningOf s o ⊎ HasMissed (shown s disk) (shown next disk) → IsOpeningOf t o ⊎ HasMissed (shown t disk) (shown next disk)
  missed_alike next o (inl own) = inl (record_alike o own)
  missed_alike next o (inr missed) = inr (missed_still disk.seen s t (shown next disk) alike missed)

-- AN IMAGE that has each blob which is spared

module _ (s : State) (j : Journal) (old : DiskState) (digest : digest_of j ≡ s.catalogue.digest) (slots : slots_of j ≡ slots_for s.catalogue) (spared : ℕ → ℕ → Type 0) (image : Content)
    (has : HasHeld (blobs_start s.catalogue) spared old image) where
  -- it restores a cabinet of the same catalogue, whose records it opens to
  pub restores_as : (t : State) (o : Opening) → IsKnown t → t.catalogue ≡ s.catalogue → IsOpeningOf t o → opens_to j image ≡ o → AreSpared spared (now t).kept → AreHeld s.catalogue old (now t).kept → Restores (shown t old) image
  restores_as t o known same r opens free holds =
      restored t j o old image known (subst (λ (c : Catalogue). digest_of j ≡ c.digest) (sym same) digest) (subst (λ (c : Catalogue). slots_of j ≡ slots_for c) (sym same) slots) r opens
      (subst (λ (c : Catalogue). AllByRecursion (HasIn c image) (map (blob_on c old.seen) (now t).kept)) (sym same) (has_all s.catalogue old spared (now t).kept image has free holds))
      (subst (λ (c : Catalogue). blobs_start c ≤ length image) (sym same) has.whole)

  restores_undecided : (b : IsBesideOn s j old) → HasMissed (shown s old) (shown b.beside old) → opens_to j image ≡ unsure j old → AreSpared spared (now b.beside).kept → HasUndecided (shown s old) j old image
  restores_undecided b missed opens free = record {
    unsure_is = opens;
    beside = shown b.beside old;
    is_beside = record { same_catalogue = b.is_beside.same_catalogue; same_opening = b.is_beside.same_opening; kept = b.is_beside.kept; answers = b.is_beside.answers };
    missed = missed;
    restores = restores_as b.beside (unsure j old) b.known b.is_beside.same_catalogue b.recorded opens free b.holds;
    has = each_has s.catalogue old.seen image (now b.beside).kept (has_all s.catalogue old spared (now b.beside).kept image has free b.holds);
  }

  pub left_unsure : IsKnown s → AreHeld s.catalogue old (now s).kept → AreSpared spared (now s).kept → (b : IsBesideOn s j old) → opens_to j image ≡ unsure j old → AreSpared spared (now b.beside).kept → IsLeft (shown s old) j old image
  left_unsure known holds free b opens beside_free = elim b.missed [
    | inl own ↦ inl (restores_as s (unsure j old) known refl own opens free holds)
    | inr missed ↦ inr (restores_undecided b missed opens beside_free)
  ]

-- A CALL on the records

module _ {T E : Type 0} (s u : State) (known : IsKnown s) (known_next : IsKnown u) (is_beside : IsBeside s u) (j j' : Journal) (old new : DiskState) (digest : digest_of j ≡ s.catalogue.digest) (slots : slots_of j ≡ slots_for s.catalogue)
    (kept_on : IsKeptOn s j old) (after : Opening) (leads : IsOpeningOf u after) (holds : AreHeld s.catalogue old (now u).kept) (missed : State) (alike : IsAlikeTo s missed)
    (misses : IsOpeningOf missed after ⊎ HasMissed (shown missed old) (shown u old)) (result : Result T E) (brings : Brings result after (blobs_start s.catalogue) j j' old new)
    (reads : new.may_leave new.seen) where
  still : (ts : List Kept) → AreHeld s.catalogue old ts → AreHeld s.catalogue new ts
  still ts h = all_still s.catalogue old new Anywhere brings.keeps reads ts (anywhere ts) h

  -- what is held reads as before
  reads_same : (t : State) → t.catalogue ≡ s.catalogue → AreHeld s.catalogue old (now t).kept → shown t new ≡ shown t old
  reads_same t same h = same_on true t old.seen new.seen (λ is.
      subst (λ (c : Catalogue). map (blob_on c new.seen) (now t).kept ≡ map (blob_on c old.seen) (now t).kept) (sym same) (all_same s.catalogue old new Anywhere brings.keeps reads (now t).kept (anywhere (now t).kept) h))

  missed_then : (o : Opening) → unsure j' new ≡ o → (t : State) → t.catalogue ≡ s.catalogue → AreHeld s.catalogue old (now t).kept → IsOpeningOf missed o ⊎ HasMissed (shown missed old) (shown t old)
      → IsOpeningOf missed (unsure j' new) ⊎ HasMissed (shown missed new) (shown t new)
  missed_then o is t same h (inl own) = inl (record_as missed o (unsure j' new) is own)
  missed_then o is t same h (inr m) = inr (missed_as (shown missed old) (shown missed new) (shown t old) (shown t new) (alike_same s missed old.seen new.seen alike (reads_same s refl kept_on.holds)) (reads_same t same h) m)

  beside_as : (o : Opening) → unsure j' new ≡ o → (t : State) → IsKnown t → IsBeside s t → IsOpeningOf t o → AreHeld s.catalogue old (now t).kept → IsOpeningOf missed o ⊎ HasMissed (shown missed old) (shown t old) → IsBesideOn missed j' new
  beside_as o is t known_t beside r h m = record {
    beside = t;
    known = known_t;
    is_beside = beside_alike s missed alike j' new t beside;
    recorded = record_as t o (unsure j' new) is r;
    holds = held_alike s missed alike j' new (now t).kept (still (now t).kept h);
    missed = missed_then o is t beside.same_catalogue h m;
  }

  beside_then : IsBesideOn missed j' new
  beside_then = elim brings.then_unsure [
    | inl before ↦ beside_as (held j old) before s known (beside_itself s) kept_on.recorded kept_on.holds (inl (record_alike s missed alike j old (held j old) kept_on.recorded))
    | inr (inl was) ↦
        let b = kept_on.beside in
        beside_as (unsure j old) was b.beside b.known b.is_beside b.recorded b.holds (missed_alike s missed alike j old b.beside (unsure j old) b.missed)
    | inr (inr brought) ↦ beside_as after brought u known_next is_beside leads holds misses
  ]

  pub kept_failed : held j' new ≡ held j old → IsKeptOn missed j' new
  kept_failed same = record {
    sound = brings.sound;
    recorded = record_alike s missed alike j' new (held j' new) (record_as s (held j old) (held j' new) same kept_on.recorded);
    holds = subst (AreHeld missed.catalogue new) (sym alike.kept) (held_alike s missed alike j' new (now s).kept (still (now s).kept kept_on.holds));
    beside = beside_then;
  }

  pub kept_done : held j' new ≡ after → IsSettled j' → IsKeptOn u j' new
  kept_done same settled =
      let r = record_as u after (held j' new) same leads in
      let h = subst (λ (c : Catalogue). AreHeld c new (now u).kept) (sym is_beside.same_catalogue) (still (now u).kept holds) in
      record { sound = brings.sound; recorded = r; holds = h; beside = beside_none u j' new known_next (settled_unsure j' new settled) r h }

  -- each moment leaves what could be left before it, or what it brings
  pub call_moment : (image : Content) → IsAmong j old after (opens_to j image) × HasHeld (blobs_start s.catalogue) Anywhere old image → IsLeft (shown s old) j old image ⊎ Restores (shown u old) image
  call_moment image (among, has) = elim among [
    | inl before ↦ inl (inl (restores_as s j old digest slots Anywhere image has s (held j old) known refl kept_on.recorded before (anywhere (now s).kept) kept_on.holds))
    | inr (inl was) ↦ inl (left_unsure s j old digest slots Anywhere image has known kept_on.holds (anywhere (now s).kept) kept_on.beside was (anywhere (now kept_on.beside.beside).kept))
    | inr (inr brought) ↦ inr (restores_as s j old digest slots Anywhere image has u after known_next is_beside.same_catalogue leads brought (anywhere (now u).kept) holds)
  ]

  -- the same where nothing was undecided
  pub sure_moment : IsSettled j → (image : Content) → IsAmong j old after (opens_to j image) × HasHeld (blobs_start s.catalogue) Anywhere old image → Restores (shown s old) image ⊎ Restores (shown u old) image
  sure_moment settled image (among, has) = elim among [
    | inl before ↦ inl (restores_as s j old digest slots Anywhere image has s (held j old) known refl kept_on.recorded before (anywhere (now s).kept) kept_on.holds)
    | inr (inl was) ↦ inl (restores_as s j old digest slots Anywhere image has s (held j old) known refl kept_on.recorded (was ∙ settled_unsure j old settled) (anywhere (now s).kept) kept_on.holds)
    | inr (inr brought) ↦ inr (restores_as s j old digest slots Anywhere image has u after known_next is_beside.same_catalogue leads brought (anywhere (now u).kept) holds)
  ]

-- A CALL that leaves the records

module _ (s : State) (known : IsKnown s) (j : Journal) (old : DiskState) (digest : digest_of j ≡ s.catalogue.digest) (slots : slots_of j ≡ slots_for s.catalogue) (kept_on : IsKeptOn s j old) (spared : ℕ → ℕ → Type 0)
    (free : AreSpared spared (now s).kept) where
  pub left_moment : AreSpared spared (now kept_on.beside.beside).kept → (image : Content) → ((opens_to j image ≡ held j old) ⊎ (opens_to j image ≡ unsure j old)) × HasHeld (blobs_start s.catalogue) spared old image
      → IsLeft (shown s old) j old image
  left_moment beside_free image (opens, has) = elim opens [
    | inl before ↦ inl (restores_as s j old digest slots spared image has s (held j old) known refl kept_on.recorded before free kept_on.holds)
    | inr was ↦ left_unsure s j old digest slots spared image has known kept_on.holds free kept_on.beside was beside_free
  ]

  pub settled_moment : IsSettled j → (image : Content) → ((opens_to j image ≡ held j old) ⊎ (opens_to j image ≡ unsure j old)) × HasHeld (blobs_start s.catalogue) spared old image → Restores (shown s old) image
  settled_moment settled image (opens, has) = elim opens [
    | inl before ↦ restores_as s j old digest slots spared image has s (held j old) known refl kept_on.recorded before free kept_on.holds
    | inr was ↦ restores_as s j old digest slots spared image has s (held j old) known refl kept_on.recorded (was ∙ settled_unsure j old settled) free kept_on.holds
  ]

  pub kept_stays : (new : DiskState) → AreSpared spared (now kept_on.beside.beside).kept → Stays (blobs_start s.catalogue) spared j old new → new.may_leave new.seen → IsKeptOn s j new
  kept_stays new beside_free stays reads =
      let b = kept_on.beside in
      let still : (ts : List Kept) → AreSpared spared ts → AreHeld s.catalogue old ts → AreHeld s.catalogue new ts = all_still s.catalogue old new spared stays.keeps reads in
      record {
        sound = stays.sound;
        recorded = record_as s (held j old) (held j new) stays.same_records kept_on.recorded;
        holds = still (now s).kept free kept_on.holds;
        beside = record {
          beside = b.beside;
          known = b.known;
          is_beside = b.is_beside;
          recorded = record_as b.beside (unsure j old) (unsure j new) stays.same_unsure b.recorded;
          holds = still (now b.beside).kept beside_free b.holds;
          missed = missed_then b.missed;
        };
      }
    where
      reads_same : (t : State) → t.catalogue ≡ s.catalogue → AreSpared spared (now t).kept → AreHeld s.catalogue old (now t).kept → shown t new ≡ shown t old
      reads_same t same t_free h = same_on true t old.seen new.seen (λ is.
          subst (λ (c : Catalogue). map (blob_on c new.seen) (now t).kept ≡ map (blob_on c old.seen) (now t).kept) (sym same) (all_same s.catalogue old new spared stays.keeps reads (now t).kept t_free h))

      missed_then : IsOpeningOf s (unsure j old) ⊎ HasMissed (shown s old) (shown kept_on.beside.beside old) → IsOpeningOf s (unsure j new) ⊎ HasMissed (shown s new) (shown kept_on.beside.beside new)
      missed_then (inl own) = inl (record_as s (unsure j old) (unsure j new) stays.same_unsure own)
      missed_then (inr m) =
          let b = kept_on.beside in
          inr (missed_as (shown s old) (shown s new) (shown b.beside old) (shown b.beside new) (reads_same s refl free kept_on.holds) (reads_same b.beside b.is_beside.same_catalogue beside_free b.holds) m)

-- where nothing is undecided the cabinet itself stands beside it
abbrev pub kept_settled : (s : State) (j : Journal) (disk : DiskState) → IsKnown s → IsSettled j → IsKeptOn s j disk → IsKeptOn s j disk
kept_settled s j disk known settled k = record { sound = k.sound; recorded = k.recorded; holds = k.holds; beside = beside_none s j disk known (settled_unsure j disk settled) k.recorded k.holds }

-- A CABINET that keeps and lists the same is tied to the file as that one

module _ (s t : State) (alike : IsAlikeTo s t) (j : Journal) (disk : DiskState) where
  pub kept_alike : IsKeptOn s j disk → IsKeptOn t j disk
  kept_alike k =
      let b = k.beside in
      record {
        sound = k.sound;
        recorded = record_alike s t alike j disk (held j disk) k.recorded;
        holds = subst (AreHeld t.catalogue disk) (sym alike.kept) (held_alike s t alike j disk (now s).kept k.holds);
        beside = record {
          beside = b.beside;
          known = b.known;
          is_beside = beside_alike s t alike j disk b.beside b.is_beside;
          recorded = b.recorded;
          holds = held_alike s t alike j disk (now b.beside).kept b.holds;
          missed = missed_alike s t alike j disk b.beside (unsure j disk) b.missed;
        };
      }

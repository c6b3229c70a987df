-- What a replay of the records of a disk was shown, and what it restores.
use Rattle.std.proofs.Common.{ℕ, ◌≡◌, ◌+◌, ◌≤◌, Bool, IsTrue, List, [], ◌∷◌, ◌++◌, length, Option, sym, subst, ◌∙◌}
use Rattle.std.proofs.lemmas.List.{append-nil}
use mathlib.Core.List.{append_assoc}
use Rattle.cabinet.specs.declared.kept.Kept.{Kept}
use Rattle.cabinet_records.specs.Replay.{AreRecordsOf, IsRefusedAt, IsRestored, ShownReplay}
use Rattle.catalog.specs.declared.catalogue.Catalogue.{Catalogue}
use Rattle.disk_model.specs.Content.{Content, Same}
use Rattle.disk_model.specs.Images.{ChangesBy, DiskState, Only}
use Rattle.gate_journal.specs.declared.journal.Journal.{Journal}
use Rattle.gate_journal.specs.Layout.{journal_length}
use Rattle.gate_journal.specs.Opened.{opened, records}
use Rattle.gate_journal.specs.Sound.{kept, version_of}
use Rattle.gate_journal.specs.Visiting.{Reaches, VisitsAll}
use Rattle.record_text.specs.declared.entries.Record.{Record}
use Rattle.truncation_list.specs.declared.book.Book.{Book}
use Rattle.durable_cabinet.specs.Images.{blobs_start, slots_for}
use Rattle.durable_cabinet.specs.Openings.{IsReplayed}

-- each visit shows one body more
abbrev pub shows : ℕ → List ℕ → ShownReplay → ShownReplay → Type 0
shows slot body old new = new ≡ record { catalogue = old.catalogue; bodies = old.bodies ++ body ∷ [] }

reached : (slot : ℕ) (bodies : List (List ℕ)) (old new : ShownReplay) → Reaches shows slot bodies old new → new ≡ record { catalogue = old.catalogue; bodies = old.bodies ++ bodies }
reached slot [] old new is = is ∙ (λ i. record { catalogue = old.catalogue; bodies = sym (append-nil old.bodies) i })
reached slot (b ∷ bs) old new h =
    let one = h.1 in
    (reached (slot + 1) bs h.0 new h.2 ∙ (λ i. record { catalogue = (one i).catalogue; bodies = (one i).bodies ++ bs })) ∙ (λ i. record { catalogue = old.catalogue; bodies = append_assoc old.bodies (b ∷ []) bs i })

module _ (told : Bool) (c : Catalogue) (slots : ℕ) (old new : DiskState) (before after : ShownReplay) (j : Journal)
    (slots_is : slots ≡ slots_for c) (fresh : before ≡ record { catalogue = c; bodies = [] }) (v : VisitsAll shows told c.digest slots old new before after j) where
  after_is : after ≡ record { catalogue = c; bodies = v.bodies }
  after_is = reached 0 v.bodies before after v.reaches ∙ (λ i. record { catalogue = (fresh i).catalogue; bodies = (fresh i).bodies ++ v.bodies })

  are_of : (version : ℕ) (entries : List (Option Record)) → version ≡ version_of j → AreRecordsOf version after.bodies entries → AreRecordsOf (version_of j) v.bodies entries
  are_of version entries is are = subst (λ (n : ℕ). AreRecordsOf n v.bodies entries) is (subst (λ (s : ShownReplay). AreRecordsOf version s.bodies entries) after_is are)

  opens_old : IsTrue told → opened c.digest (slots_for c) old.seen ≡ records (version_of j) v.bodies
  opens_old is = subst (λ (n : ℕ). opened c.digest n old.seen ≡ records (version_of j) v.bodies) slots_is (v.opens is).0

  pub replayed_of : (version : ℕ) (entries : List (Option Record)) (opening : Option ℕ) (ts : List Kept) (book : Book) → version ≡ version_of j
      → AreRecordsOf version after.bodies entries → IsRestored after.catalogue entries opening ts book
      → (IsTrue told → ChangesBy Same old new) → (IsTrue told → Only new.seen new.may_leave) → IsReplayed told c new j opening ts book
  replayed_of version entries opening ts book is are restored quiet only = record {
    settled = v.settled;
    same_slots = v.same_slots ∙ slots_is;
    same_digest = v.same_digest;
    bodies = v.bodies;
    entries = entries;
    are = are_of version entries is are;
    restored = subst (λ (s : ShownReplay). IsRestored s.catalogue entries opening ts book) after_is restored;
    opens = λ is_told. (
      subst (λ (x : Content). opened c.digest (slots_for c) x ≡ records (version_of j) v.bodies) (sym (quiet is_told).reads) (opens_old is_told),
      subst (λ (x : Content). kept j x ≡ v.bodies) (sym (quiet is_told).reads) (v.opens is_told).1,
    );
    sound = λ is_told whole. v.sound is_told (subst (λ (n : ℕ). journal_length n ≤ length old.seen) (sym slots_is) (subst (λ (x : Content). blobs_start c ≤ length x) (quiet is_told).reads whole));
    only = only;
  }

  pub refused_of : (version : ℕ) (entries : List (Option Record)) (slot : ℕ) → version ≡ version_of j → AreRecordsOf version after.bodies entries → IsRefusedAt after.catalogue entries slot
      → IsTrue told → (n : ℕ) × (bodies : List (List ℕ)) × (es : List (Option Record)) × (opened c.digest (slots_for c) old.seen ≡ records n bodies) × AreRecordsOf n bodies es × IsRefusedAt c es slot
  refused_of version entries slot is are refused is_told = (version_of j, v.bodies, entries, opens_old is_told, are_of version entries is are, subst (λ (s : ShownReplay). IsRefusedAt s.catalogue entries slot) after_is refused)

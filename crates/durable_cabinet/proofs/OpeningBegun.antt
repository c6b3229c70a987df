-- A cabinet that is opened with what its records are restored to.
use Rattle.std.proofs.Common.{ℕ, ◌≡◌, ◌⊎◌, ◌+◌, ◌≤◌, Bool, IsTrue, List, [], ◌∷◌, length, Option, Some, inl, inr, refl, sym, ap, subst, ◌∙◌, arith}
use Rattle.std.specs.List.{AllByRecursion}
use Rattle.std.specs.List.Sorted.{IsPermutation}
use Rattle.std.specs.Option.{option_map_or}
use Rattle.cabinet.specs.declared.kept.Kept.{Kept}
use Rattle.cabinet.specs.History.{CabinetOpening}
use Rattle.cabinet.specs.Started.{opened_state}
use Rattle.cabinet.specs.State.{State}
use Rattle.cabinet_records.specs.Replay.{AreRecordsOf, Replayed, book_after, opening_after, opening_number}
use Rattle.cache_file.specs.File.{HasBlobAt}
use Rattle.catalog.specs.declared.catalogue.Catalogue.{Catalogue}
use Rattle.base.specs.Readings.{Readings}
use Rattle.disk_model.specs.Content.{Content, bytes_at}
use Rattle.disk_model.specs.Images.{DiskState, Leaves, Only}
use Rattle.disk_model.specs.Moments.{leaves_as}
use Rattle.disk_model.proofs.Reading.{length-bytes_at}
use Rattle.gate_journal.specs.declared.journal.Journal.{Journal}
use Rattle.gate_journal.specs.Layout.{journal_length}
use Rattle.gate_journal.specs.Sound.{slots_of, version_of}
use Rattle.truncation_list.specs.declared.book.Book.{Book}
use Rattle.truncation_list.specs.Books.{AnswersForBook}
use Rattle.durable_cabinet.specs.Filed.{IsHeldOn, OpensLike, on_disk, opened_as}
use Rattle.durable_cabinet.specs.Images.{HasIn, IsOurs, OpensTo, blob_on, blobs_start}
use Rattle.durable_cabinet.specs.Openings.{IsOpeningBegun, IsReplayed, OpensWith}

-- a region within the one image is held
held_alone : (c : Catalogue) (disk : DiskState) (t : Kept) → Only disk.seen disk.may_leave → blobs_start c + t.place + t.length ≤ length disk.seen → IsHeldOn c disk t
held_alone c disk t only within =
    let at = blobs_start c + t.place in
    let long = length-bytes_at disk.seen at t.length in
    λ image is. subst (HasBlobAt at (bytes_at disk.seen at t.length)) (sym (only image is)) (record { bytes = ap (bytes_at disk.seen at) long; within = λ some. omega (arith, within, long) })

all_alone : (c : Catalogue) (disk : DiskState) (ts : List Kept) → Only disk.seen disk.may_leave → AllByRecursion (λ t. blobs_start c + t.place + t.length ≤ length disk.seen) ts → AllByRecursion (IsHeldOn c disk) ts
all_alone c disk [] only within = tt
all_alone c disk (t ∷ ts) only within = (held_alone c disk t only within.0, all_alone c disk ts only within.1)

module _ (told : Bool) (c : Catalogue) (clock : Readings) (number : ℕ) (disk : DiskState) (j : Journal) (opening : Option ℕ) (ts : List Kept) (book : Book)
    (p : IsReplayed told c disk j opening ts book) (number_is : number ≡ option_map_or (λ e. e) opening 0 + 1) where
  abbrev r : Replayed
  r = p.restored.replayed

  abbrev o : CabinetOpening
  o = record { number = number; kept = ts; book = book }

  o_is : o ≡ opening_after r
  o_is =
      let given : number ≡ option_map_or (λ e. e) r.opening 0 + 1 = number_is ∙ ap (λ (x : Option ℕ). option_map_or (λ e. e) x 0 + 1) p.restored.opening_is in
      λ i. record { number = given i; kept = p.restored.kept_is i; book = p.restored.book_is i }

  pub opens_here : IsTrue told → OpensTo c disk.seen r
  opens_here is = record { version = version_of j; bodies = p.bodies; entries = p.entries; opens = (p.opens is).0; are = p.are; replays = p.restored.replays; few_cuts = p.restored.few_cuts }

  pub state_as : (s : State) (seen : Content) → s ≡ opened_state c o clock → on_disk told seen s ≡ opened_as told seen c clock r
  state_as s seen is = ap (on_disk told seen) is ∙ (λ i. on_disk told seen (opened_state c (o_is i) clock))

  begun : (start : ℕ) → start ≡ journal_length (slots_of j) → (IsTrue told → IsOurs c disk.seen) → IsOpeningBegun told (opened_state c o clock) disk start j
  begun start at ours = record {
    settled = p.settled;
    same_slots = p.same_slots;
    same_digest = p.same_digest;
    start_is = at ∙ ap journal_length p.same_slots;
    since = refl;
    replayed = r;
    entries = p.entries;
    replays = p.restored.replays;
    opening = o_is;
    are = λ is. subst (λ (bodies : List (List ℕ)). AreRecordsOf (version_of j) bodies p.entries) (sym (p.opens is).1) p.are;
    sound = λ is. p.sound is (ours is r (opens_here is)).0;
    holds = λ is. subst (AllByRecursion (IsHeldOn c disk)) (sym p.restored.kept_is) (all_alone c disk r.kept (p.only is) (ours is r (opens_here is)).1);
  }

  pub begun_as : (s : State) (start : ℕ) → s ≡ opened_state c o clock → start ≡ journal_length (slots_of j) → (IsTrue told → IsOurs c disk.seen) → IsOpeningBegun told s disk start j
  begun_as s start is at ours = subst (λ (x : State). IsOpeningBegun told x disk start j) (sym is) (begun start at ours)

  abbrev Like : Content → Type 0
  Like image = (x : Replayed) × OpensTo c disk.seen x × OpensLike c x disk.seen image × IsOurs c image

  -- under the number of the records' last opening, or the next one
  numbered : (x : Replayed) → (opening_number x + 1 ≡ o.number) ⊎ (x.opening ≡ Some o.number) → (opening_number x ≡ opening_number r) ⊎ (x.opening ≡ Some (opening_number r + 1))
  numbered x (inl before) = let next = ap (λ (y : CabinetOpening). y.number) o_is in inl (omega (arith, before, next))
  numbered x (inr own) = inr (own ∙ ap (λ (y : CabinetOpening). Some y.number) o_is)

  like : (image : Content) → OpensWith (opened_state c o clock) disk.seen image → OpensLike c r disk.seen image
  like image w = record {
    replayed = w.replayed;
    opens = w.opens;
    opening = numbered w.replayed w.opening;
    kept = subst (IsPermutation w.replayed.kept) p.restored.kept_is w.kept;
    answers = subst (AnswersForBook (book_after w.replayed)) p.restored.book_is w.answers;
    has = subst (AllByRecursion (λ t. HasIn c image (blob_on c disk.seen t))) p.restored.kept_is w.has;
  }

  like_with : (s : State) (image : Content) → s ≡ opened_state c o clock → IsTrue told → OpensWith s disk.seen image → Like image
  like_with s image is told_is w =
      let v : OpensWith (opened_state c o clock) disk.seen image = subst (λ (x : State). OpensWith x disk.seen image) is w in
      (r, opens_here told_is, like image v, v.ours)

  pub images_like : (s : State) (new : DiskState) → s ≡ opened_state c o clock → IsTrue told → Leaves disk new (OpensWith s disk.seen) → Leaves disk new Like
  images_like s new is told_is leaves = leaves_as disk new (OpensWith s disk.seen) Like leaves (λ image. like_with s image is told_is)

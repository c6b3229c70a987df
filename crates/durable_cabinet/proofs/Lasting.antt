-- What the images of a command say of the truncations that were in force before it, and of the number of the opening.
use Rattle.std.proofs.Common.{ℕ, ◌≡◌, ◌≤◌, ◌⊎◌, Bool, IsTrue, Option, Some, refl, ap, subst, ◌∙◌, inl, inr, arith}
use Rattle.std.specs.Option.{option_map_or}
use Rattle.disk_model.specs.Content.{Content}
use Rattle.disk_model.specs.Images.{DiskState}
use Rattle.disk_model.specs.Moments.{leaves_as, leaves_none}
use Rattle.gate_journal.specs.declared.journal.Journal.{Journal}
use Rattle.catalog.specs.declared.catalogue.Catalogue.{Catalogue}
use Rattle.truncation_list.specs.declared.book.Book.{Book}
use Rattle.truncation_list.specs.Books.{AnswersForBook}
use Rattle.truncation_list.proofs.Answering.{answers_through}
use Rattle.cabinet.specs.History.{CabinetOpening}
use Rattle.cabinet.specs.State.{IsKnownAs, State, now}
use Rattle.cabinet_records.specs.Replay.{Replayed, book_after, opening_number}
use Rattle.durable_cabinet.specs.Images.{IsLeft, IsOurs, Lasts, OpensTo, Restores}
use Rattle.durable_cabinet.specs.Outlasting.{AnswersAs, Outlasts, StaysSettled}

-- what is left for a catalogue, a number of an opening and a book
abbrev Left : Catalogue → ℕ → Book → Content → Type 0
Left c e book image = AnswersAs c e book image × IsOurs c image

-- what is left of a state
abbrev LeftOf : State → Content → Type 0
LeftOf s image = Left s.catalogue s.opening.number (now s).book image

-- records that come to an opening of the same number
no_less : (s u : State) (r : Replayed) → r.opening ≡ Some u.opening.number → u.opening ≡ s.opening → s.opening.number ≤ opening_number r
no_less s u r is same =
    let number : opening_number r ≡ s.opening.number = ap (λ (o : Option ℕ). option_map_or (λ e. e) o 0) is ∙ ap (λ (o : CabinetOpening). o.number) same in
    omega (arith, number)

-- an image that restores a cabinet whose book answers for that of another one
pub answers_as : (s u : State) (image : Content) → u.catalogue ≡ s.catalogue → u.opening ≡ s.opening → AnswersForBook (now u).book (now s).book → Restores u image → LeftOf s image
answers_as s u image same same_opening answers r = (
  record {
    replayed = r.replayed;
    opens = subst (λ c. OpensTo c image r.replayed) same r.opens;
    later = no_less s u r.replayed r.opening same_opening;
    answers = answers_through (book_after r.replayed) (now u).book (now s).book r.answers answers;
  },
  subst (λ c. IsOurs c image) same r.ours,
)

answers_itself_as : (s : State) (image : Content) → Restores s image → LeftOf s image
answers_itself_as s image r = (record { replayed = r.replayed; opens = r.opens; later = no_less s s r.replayed r.opening refl; answers = r.answers }, r.ours)

pub left_answers : (s : State) (j : Journal) (disk : DiskState) (image : Content) → IsLeft s j disk image → LeftOf s image
left_answers s j disk image (inl restores) = answers_itself_as s image restores
left_answers s j disk image (inr u) = answers_as s u.beside image u.is_beside.same_catalogue u.is_beside.same_opening u.is_beside.answers u.restores

-- the second has the catalogue and the opening of the first
abbrev pub IsOfCache : State → State → Type 0
IsOfCache s t = (t.catalogue ≡ s.catalogue) × (t.opening ≡ s.opening)

-- a command that leads only to cabinets whose book answers for the one before
pub lasts_outlasts : (told told' : Bool) (faults faults' : ℕ) (s t : State) (Next : State → Type 0) (j j' : Journal) (old new : DiskState) → told' ≡ told → IsOfCache s t → ((u : State) → Next u → IsKnownAs s u) → (IsTrue told → Lasts s Next j old new)
    → faults ≤ faults' → StaysSettled faults faults' j j' → Outlasts told told' faults faults' s t j j' old new
lasts_outlasts told told' faults faults' s t Next j j' old new same_told same leads lasts later stays = record {
  same_told = same_told;
  same_catalogue = same.0;
  same_opening = same.1;
  later = later;
  settled = stays;
  images = λ is. leaves_as old new _ (LeftOf s) (lasts is) (λ image left. moment image left);
}
  where
    moment : (image : Content) → IsLeft s j old image ⊎ ((u : State) × Next u × Restores u image) → LeftOf s image
    moment image (inl left) = left_answers s j old image left
    moment image (inr reached) = let k = leads reached.0 reached.1 in answers_as s reached.0 image k.same_catalogue k.same_opening k.answers.book reached.2

-- a command that leaves the file alone
pub quiet_outlasts : (told : Bool) (faults : ℕ) (s t : State) (j : Journal) (disk : DiskState) → t.catalogue ≡ s.catalogue → t.opening ≡ s.opening → Outlasts told told faults faults s t j j disk disk
quiet_outlasts told faults s t j disk same same_opening = record { same_told = refl; same_catalogue = same; same_opening = same_opening; later = omega arith; settled = inr (λ h. h); images = λ is. leaves_none disk (LeftOf s) }

-- What a crash leaves of the truncations, and of the number of the opening, while commands are done one after another.
use Rattle.std.specs.Prelude.{ℕ, ◌≡◌, ◌≤◌, ◌+◌, ◌-◌, ◌^◌, ◌⊎◌, Bool, IsTrue, min}
use Rattle.std.proofs.Common.{refl, sym, ◌∙◌, subst, arith, inl, inr}
use Rattle.cabinet_records.specs.Replay.{Replayed, book_after, opening_number}
use Rattle.cabinet.specs.History.{CabinetOpening}
use Rattle.cabinet.specs.State.{State, now}
use Rattle.catalog.specs.declared.catalogue.Catalogue.{Catalogue}
use Rattle.base.specs.Causes.{Rose}
use Rattle.disk_model.specs.Content.{Content}
use Rattle.disk_model.specs.Images.{DiskState, Leaves}
use Rattle.disk_model.specs.Moments.{leaves_as, leaves_none, leaves_then}
use Rattle.gate_journal.specs.declared.journal.Journal.{Journal}
use Rattle.gate_journal.specs.Sound.{IsSettled}
use Rattle.truncation_list.specs.declared.book.Book.{Book}
use Rattle.truncation_list.specs.Books.{AnswersForBook}
use Rattle.truncation_list.proofs.Answering.{answers_through}
use Rattle.durable_cabinet.specs.Images.{IsOurs, OpensTo}

-- an image opens to a book that answers for this one, and the number of its last opening is no less than e
pub record AnswersAs (c : Catalogue) (e : ℕ) (book : Book) (image : Content) : Type 0 where
  pub replayed : Replayed
  pub opens : OpensTo c image replayed
  pub later : e ≤ opening_number replayed
  pub answers : AnswersForBook (book_after replayed) book

-- a journal that was settled still is, unless the count of the disk's faults rose
abbrev pub StaysSettled : ℕ → ℕ → Journal → Journal → Type 0
StaysSettled faults faults' j j' = Rose faults faults' ⊎ (IsSettled j → IsSettled j')

-- from one state to another each image of each moment is the file of a cabinet, and opens to a book that answers for that of the first, under
-- no lesser number of an opening; and the journal stays settled
pub record Outlasts (told told' : Bool) (faults faults' : ℕ) (s t : State) (j j' : Journal) (old new : DiskState) : Type 0 where
  pub same_told : told' ≡ told
  pub same_catalogue : t.catalogue ≡ s.catalogue
  pub same_opening : t.opening ≡ s.opening
  pub later : faults ≤ faults'
  pub settled : StaysSettled faults faults' j j'
  pub images : IsTrue told → Leaves old new (λ image. AnswersAs s.catalogue s.opening.number (now s).book image × IsOurs s.catalogue image)

-- what is left for a catalogue, a number of an opening and a book
abbrev Left : Catalogue → ℕ → Book → Content → Type 0
Left c e book image = AnswersAs c e book image × IsOurs c image

-- no command
pub outlasts_itself : (told : Bool) (faults : ℕ) (s : State) (j : Journal) (disk : DiskState) → Outlasts told told faults faults s s j j disk disk
outlasts_itself told faults s j disk = record { same_told = refl; same_catalogue = refl; same_opening = refl; later = omega arith; settled = inr (λ h. h); images = λ is. leaves_none disk (Left s.catalogue s.opening.number (now s).book) }

-- an image that answers for a book answers for each one that this book answers for
as_before : (c d : Catalogue) (o p : CabinetOpening) (book before : Book) (image : Content) → d ≡ c → p ≡ o → AnswersForBook book before → Left d p.number book image → Left c o.number before image
as_before c d o p book before image same same_opening answers left = (
  record {
    replayed = left.0.replayed;
    opens = subst (λ x. OpensTo x image left.0.replayed) same left.0.opens;
    later = subst (λ (x : CabinetOpening). x.number ≤ opening_number left.0.replayed) same_opening left.0.later;
    answers = answers_through (book_after left.0.replayed) book before left.0.answers answers;
  },
  subst (λ x. IsOurs x image) same left.1,
)

-- a count that never falls rose where it rose in a part of the time
rose_in : (bound first mid mid' last : ℕ) → first ≤ mid → mid' ≤ last → min (mid + 1) bound ≤ mid' → min (first + 1) bound ≤ last
rose_in bound first mid mid' last earlier later rose = omega (arith, earlier, later, rose)

settled_on : (f f' f'' : ℕ) (j j' j'' : Journal) → f ≤ f' → f' ≤ f'' → StaysSettled f f' j j' → StaysSettled f' f'' j' j'' → StaysSettled f f'' j j''
settled_on f f' f'' j j' j'' first then (inl rose) stays = inl (rose_in (2 ^ 64 - 1) f f f' f'' (omega arith) then rose)
settled_on f f' f'' j j' j'' first then (inr on) (inl rose) = inl (rose_in (2 ^ 64 - 1) f f' f'' f'' first (omega arith) rose)
settled_on f f' f'' j j' j'' first then (inr on) (inr stays) = inr (λ settled. stays (on settled))

-- commands after commands
pub outlasts_on : (told told' told'' : Bool) (f f' f'' : ℕ) (s t u : State) (j j' j'' : Journal) (old mid new : DiskState) → AnswersForBook (now t).book (now s).book → Outlasts told told' f f' s t j j' old mid → Outlasts told' told'' f' f'' t u j' j'' mid new
    → Outlasts told told'' f f'' s u j j'' old new
outlasts_on told told' told'' f f' f'' s t u j j' j'' old mid new answers first next = record {
  same_told = next.same_told ∙ first.same_told;
  same_catalogue = next.same_catalogue ∙ first.same_catalogue;
  same_opening = next.same_opening ∙ first.same_opening;
  later = omega (arith, first.later, next.later);
  settled = settled_on f f' f'' j j' j'' first.later next.later first.settled next.settled;
  images = λ is. leaves_then old mid new (Left s.catalogue s.opening.number (now s).book) (first.images is)
      (leaves_as mid new (Left t.catalogue t.opening.number (now t).book) (Left s.catalogue s.opening.number (now s).book) (next.images (subst IsTrue (sym first.same_told) is))
      (λ image. as_before s.catalogue t.catalogue s.opening t.opening (now t).book (now s).book image first.same_catalogue first.same_opening answers));
}

-- What a crash leaves of a cache that is opened and closed several times within a word.
use Rattle.std.specs.Prelude.{IsTrue}
use Rattle.std.specs.Option.{option_map_or}
use Rattle.std.proofs.Common.{ℕ, ◌≡◌, ◌<◌, ◌≤◌, ◌+◌, ◌⊎◌, Bool, Option, Some, inl, inr, sym, ap, subst, arith, ◌∙◌}
use Rattle.cabinet.specs.State.{IsKnown, State, now}
use Rattle.cabinet_records.specs.Replay.{Replayed, book_after, opening_number}
use Rattle.catalog.specs.declared.catalogue.Catalogue.{Catalogue}
use Rattle.change_feed.specs.Runs.{CabinetGoesOn}
use Rattle.base.specs.Readings.{Readings}
use Rattle.disk_model.specs.Content.{Content}
use Rattle.disk_model.specs.Images.{DiskState, Every, IsLawful, Leaves}
use Rattle.disk_model.specs.Moments.{leaves_as}
use Rattle.durable_cabinet.specs.Filed.{opened_as}
use Rattle.durable_cabinet.specs.Images.{OpensTo}
use Rattle.durable_cabinet.specs.Outlasting.{AnswersAs}
use Rattle.durable_cabinet.proofs.Once.{opens_once}
use Rattle.gate_journal.specs.declared.fault.OpenFault.{OpenFault}
use Rattle.gate_journal.specs.declared.fault.OpenFault.TheVariants as fault
use Rattle.opened_cache.specs.Change.{DiskChange}
use Rattle.opened_cache.specs.Crash.{IsLeftBy, LeftByOpening}
use Rattle.opened_cache.specs.Opened.{RefusalLeaves}
use Rattle.truncation_list.specs.Books.{AnswersForBook}
use Rattle.truncation_list.proofs.Answering.{answers_through}
use Rattle.twin_words.specs.Opens.{GoesFurther, IsLeftFor}

-- AT A MOMENT

-- what a crash leaves now is one of those at entry, or as all that a crash left since is
pub now_left : (old new : DiskState) (P : Content → Type 0) → IsLawful old → IsLawful new → Leaves old new P → (image : Content) → new.may_leave image → old.may_leave image ⊎ P image
now_left old new P first next leaves image left = elim (leaves.each old.moment image (omega arith) (next.counts_now old.moment image leaves.later left)) [
  | inl was ↦ inl (first.only_now image was)
  | inr is ↦ inr is
]

-- AN OPENING BEHIND A CLOSING

-- a cabinet that is opened where what was read answers for the one that was closed goes on from that one
pub record GoesOnLater (s t : State) : Type 0 where
  pub goes : CabinetGoesOn s t
  pub later : s.opening.number < t.opening.number

pub goes_on_later : (c : Catalogue) (clock : Readings) (told : Bool) (seen : Content) (s t : State) (r : Replayed) → t ≡ opened_as told seen c clock r → OpensTo c seen r → IsKnown t → s.catalogue ≡ c → AnswersAs c s.opening.number (now s).book seen → GoesOnLater s t
goes_on_later c clock told seen s t r begins opens known same a =
    let one : a.replayed ≡ r = opens_once c seen a.replayed r a.opens opens in
    let number : t.opening.number ≡ opening_number r + 1 = ap (λ (x : State). x.opening.number) begins in
    let later : s.opening.number ≤ opening_number r = subst (λ (x : Replayed). s.opening.number ≤ opening_number x) one a.later in
    record {
      goes = record {
        known = known;
        same_catalogue = ap (λ (x : State). x.catalogue) begins ∙ sym same;
        answers = subst (λ (x : State). AnswersForBook (now x).book (now s).book) (sym begins) (subst (λ (x : Replayed). AnswersForBook (book_after x) (now s).book) one a.answers);
      };
      later = omega (arith, number, later);
    }

-- a refusal leaves no more than an opening does
pub left_anyway : (c : Catalogue) (d : DiskChange) (cause : OpenFault) → RefusalLeaves c d cause → IsTrue d.told → Leaves d.from d.to (LeftByOpening c d.from)
left_anyway c d fault.NotACache leaves is = leaves_as d.from d.to d.from.may_leave (LeftByOpening c d.from) (leaves is) (λ image was. inl was)
left_anyway c d (fault.CatalogueDiffers found asked) leaves is = leaves_as d.from d.to d.from.may_leave (LeftByOpening c d.from) (leaves is) (λ image was. inl was)
left_anyway c d (fault.BadRecord slot) leaves is = leaves_as d.from d.to d.from.may_leave (LeftByOpening c d.from) (leaves is) (λ image was. inl was)
left_anyway c d fault.Spent leaves is = leaves is
left_anyway c d fault.DiskFault leaves is = leaves is
left_anyway c d fault.OutOfMemory leaves is = leaves is

same_or_next : (x r : Replayed) → (opening_number x ≡ opening_number r) ⊎ (x.opening ≡ Some (opening_number r + 1)) → opening_number r ≤ opening_number x
same_or_next x r (inl same) = omega (arith, same)
same_or_next x r (inr next) = let number : opening_number x ≡ opening_number r + 1 = ap (λ (o : Option ℕ). option_map_or (λ e. e) o 0) next in omega (arith, number)

through : (n m k : ℕ) → n ≤ m → m ≤ k → n ≤ k
through n m k first next = omega (arith, first, next)

answers_opening : (c : Catalogue) (s : State) (old : DiskState) → IsLawful old → Every old.may_leave (IsLeftFor c s) → (image : Content) → LeftByOpening c old image → IsLeftFor c s image
answers_opening c s old lawful closed image (inl was) = closed image was
answers_opening c s old lawful closed image (inr (r, opens, like, ours)) =
    let a = (closed old.seen lawful.reads_as).answers in
    let one : a.replayed ≡ r = opens_once c old.seen a.replayed r a.opens opens in
    record {
      answers = record {
        replayed = like.replayed;
        opens = like.opens;
        later = through s.opening.number (opening_number r) (opening_number like.replayed) (subst (λ (x : Replayed). s.opening.number ≤ opening_number x) one a.later) (same_or_next like.replayed r like.opening);
        answers = answers_through (book_after like.replayed) (book_after r) (now s).book like.answers (subst (λ (x : Replayed). AnswersForBook (book_after x) (now s).book) one a.answers);
      };
      ours = ours;
    }

-- what is left while a cabinet is opened behind a closing is left for the one that was closed
pub left_opening : (c : Catalogue) (s : State) (old new : DiskState) → IsLawful old → Every old.may_leave (IsLeftFor c s) → Leaves old new (LeftByOpening c old) → Leaves old new (IsLeftFor c s)
left_opening c s old new lawful closed leaves = leaves_as old new (LeftByOpening c old) (IsLeftFor c s) leaves (answers_opening c s old lawful closed)

-- what is left for a cabinet is left for one that it goes on from
pub left_before : (c : Catalogue) (s t : State) (image : Content) → GoesFurther s t → IsLeftFor c t image → IsLeftFor c s image
left_before c s t image later left =
    let a = left.answers in
    record {
      answers = record {
        replayed = a.replayed;
        opens = a.opens;
        later = let first = later.later in let next = a.later in omega (arith, first, next);
        answers = answers_through (book_after a.replayed) (now t).book (now s).book a.answers later.answers;
      };
      ours = left.ours;
    }

-- what a closed cabinet leaves is left for it
pub left_for : (c : Catalogue) (s : State) (image : Content) → IsLeftBy c s image → IsLeftFor c s image
left_for c s image left = record { answers = left.answers; ours = left.ours }

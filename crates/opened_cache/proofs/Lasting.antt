-- What a crash leaves while a cabinet is opened, while it works, and once it is closed.
use Rattle.std.specs.Prelude.{IsTrue}
use Rattle.std.specs.Option.{option_map_or}
use Rattle.std.proofs.Common.{ℕ, ◌≡◌, ◌≤◌, ◌+◌, ◌⊎◌, Bool, Option, Some, inl, inr, refl, sym, ap, subst, arith}
use Rattle.cabinet.specs.State.{IsKnown, IsSound, State, now}
use Rattle.cabinet_records.specs.Replay.{Replayed, book_after, opening_number}
use Rattle.catalog.specs.declared.catalogue.Catalogue.{Catalogue}
use Rattle.base.specs.Readings.{Readings}
use Rattle.disk_model.specs.Content.{Content}
use Rattle.disk_model.specs.Images.{DiskState, Every, IsLawful, Leaves}
use Rattle.disk_model.specs.Moments.{leaves_as, leaves_then}
use Rattle.durable_cabinet.specs.Images.{IsLeft as IsLeftOn, IsOurs, IsSoundImage, OpensTo, Restores}
use Rattle.durable_cabinet.specs.Outlasting.{AnswersAs, Outlasts}
use Rattle.gate_journal.specs.declared.journal.Journal.{Journal}
use Rattle.opened_cache.specs.Crash.{HadCut, HadOpening, IsLeftBy, OpensLater, IsTrueTo, KeepsNearly, ImageLasts, LeftByOpening, RestoresMissed}
use Rattle.opened_cache.specs.Opened.{IsOpened}
use Rattle.durable_cabinet.proofs.Imaging.{known_sound, missed_image}
use Rattle.durable_cabinet.proofs.Lasting.{left_answers}
use Rattle.durable_cabinet.proofs.Once.{opens_once}
use Rattle.sessions.specs.Outside.{FaultCounts}
use Rattle.truncation_list.specs.declared.book.Cut.{Cut}
use Rattle.truncation_list.specs.Books.{AnswersFor}
use Rattle.truncation_list.proofs.Answering.{answers_for_cut}

module _ (c : Catalogue) (old : DiskState) (lawful : IsLawful old) (r : Replayed) (opens : OpensTo c old.seen r) where
  -- the records at entry answer for what each image at entry answers for
  had : (cut : Cut) → HadCut c old cut → AnswersFor (book_after r) cut
  had cut each =
      let seen = each old.seen lawful.reads_as in
      subst (λ t. AnswersFor (book_after t) cut) (opens_once c old.seen seen.replayed r seen.opens opens) seen.answers

  -- the number of their opening is no less than that of each of those
  had_number : (e : ℕ) → HadOpening c old e → e ≤ opening_number r
  had_number e each =
      let seen = each old.seen lawful.reads_as in
      subst (λ t. e ≤ opening_number t) (opens_once c old.seen seen.replayed r seen.opens opens) seen.later

  no_less : (e n m : ℕ) → e ≤ n → n ≤ m → e ≤ m
  no_less e n m first next = omega (arith, first, next)

  -- so does an image whose book answers for theirs
  lasts_by : (image : Content) → AnswersAs c (opening_number r) (book_after r) image → LeftByOpening c old image ⊎ OpensLater c old image → IsOurs c image → ImageLasts c old image
  lasts_by image a newer ours = record {
    opens = λ each. (a.replayed, a.opens);
    answers = λ cut each. record { replayed = a.replayed; opens = a.opens; answers = answers_for_cut (book_after a.replayed) (book_after r) cut a.answers (had cut each) };
    numbers = λ e each. record { replayed = a.replayed; opens = a.opens; later = no_less e (opening_number r) (opening_number a.replayed) (had_number e each) a.later };
    newer = newer;
    ours = inr ours;
  }

  -- under the number of the opening that followed
  lasts_newer : (image : Content) → AnswersAs c (opening_number r + 1) (book_after r) image → IsOurs c image → ImageLasts c old image
  lasts_newer image a ours =
      lasts_by image (record { replayed = a.replayed; opens = a.opens; later = no_less (opening_number r) (opening_number r + 1) (opening_number a.replayed) (omega arith) a.later; answers = a.answers })
      (inr (r, opens, record { replayed = a.replayed; opens = a.opens; later = a.later })) ours

same_or_next : (x r : Replayed) → (opening_number x ≡ opening_number r) ⊎ (x.opening ≡ Some (opening_number r + 1)) → opening_number r ≤ opening_number x
same_or_next x r (inl same) = omega (arith, same)
same_or_next x r (inr next) = let number : opening_number x ≡ opening_number r + 1 = ap (λ (o : Option ℕ). option_map_or (λ e. e) o 0) next in omega (arith, number)

lasts_opening : (c : Catalogue) (old : DiskState) → IsLawful old → (image : Content) → LeftByOpening c old image → ImageLasts c old image
lasts_opening c old lawful image (inl was) = record { opens = λ each. each image was; answers = λ cut each. each image was; numbers = λ e each. each image was; newer = inl (inl was); ours = inl was }
lasts_opening c old lawful image (inr (r, opens, like, ours)) =
    lasts_by c old lawful r opens image (record { replayed = like.replayed; opens = like.opens; later = same_or_next like.replayed r like.opening; answers = like.answers }) (inl (inr (r, opens, like, ours))) ours

pub opening_lasts : (c : Catalogue) (old new : DiskState) → IsLawful old → Leaves old new (LeftByOpening c old) → Leaves old new (ImageLasts c old)
opening_lasts c old new lawful leaves = leaves_as old new (LeftByOpening c old) (ImageLasts c old) leaves (lasts_opening c old lawful)

-- the work of a cabinet that was opened
pub work_lasts : (c : Catalogue) (old mid new : DiskState) → IsLawful old → (r : Replayed) → OpensTo c old.seen r → Leaves old mid (ImageLasts c old)
    → Leaves mid new (λ image. AnswersAs c (opening_number r + 1) (book_after r) image × IsOurs c image) → Leaves old new (ImageLasts c old)
work_lasts c old mid new lawful r opens first next =
    leaves_then old mid new (ImageLasts c old) first
    (leaves_as mid new (λ image. AnswersAs c (opening_number r + 1) (book_after r) image × IsOurs c image) (ImageLasts c old) next (λ image left. lasts_newer c old lawful r opens image left.0 left.1))

-- WHAT IS LEFT by a cabinet between two commands

left_kept : (s : State) (j : Journal) (disk : DiskState) (image : Content) → IsLeftOn s j disk image → KeepsNearly s.catalogue s image
left_kept s j disk image (inl restores) = record { replayed = restores.replayed; opens = restores.opens; kept = (now s).kept; nearly = inl refl; same = restores.kept }
left_kept s j disk image (inr undecided) =
    let back = undecided.restores in
    record {
      replayed = back.replayed;
      opens = subst (λ c. OpensTo c image back.replayed) undecided.is_beside.same_catalogue back.opens;
      kept = (now undecided.beside).kept;
      nearly = undecided.is_beside.kept;
      same = back.kept;
    }

left_restores : (s : State) (j : Journal) (disk : DiskState) (image : Content) → IsLeftOn s j disk image → Restores s image ⊎ RestoresMissed s image
left_restores s j disk image (inl restores) = inl restores
left_restores s j disk image (inr u) = inr (record { next = u.beside; missed = u.missed; restores = u.restores })

left_sound : (s : State) → IsKnown s → (j : Journal) (disk : DiskState) (image : Content) (left : IsLeftOn s j disk image) → IsSound s → IsTrueTo s image (left_restores s j disk image left) → IsSoundImage s.catalogue image
unfolding left_restores
left_sound s known j disk image (inl restores) sound is = known_sound s image known sound restores
left_sound s known j disk image (inr u) sound is = missed_image s u.beside image u.missed u.is_beside.same_catalogue u.restores sound is

pub left_by : (s : State) → IsKnown s → (j : Journal) (disk : DiskState) → Every disk.may_leave (IsLeftOn s j disk) → Every disk.may_leave (IsOurs s.catalogue) → Every disk.may_leave (IsLeftBy s.catalogue s)
left_by s known j disk left ours = λ image is. record {
  answers = (left_answers s j disk image (left image is)).0;
  kept = left_kept s j disk image (left image is);
  restores = left_restores s j disk image (left image is);
  sound = left_sound s known j disk image (left image is);
  ours = ours image is;
}

-- a cabinet that was opened worked on to another state
pub worked : (c : Catalogue) (clock : Readings) (told told' told'' : Bool) (faults : FaultCounts) (then after : ℕ) (j j' : Journal) (old mid new : DiskState) (s u : State)
    → (IsTrue told → IsLawful old) → IsOpened c clock (record { told = told; faults = faults; from = old; to = mid }) s → (IsTrue told → Leaves old mid (ImageLasts c old))
    → told' ≡ told → Outlasts told' told'' then after s u j j' mid new → IsTrue told → Leaves old new (ImageLasts c old)
worked c clock told told' told'' faults then after j j' old mid new s u lawful opened first same outlasts is =
    let next = outlasts.images (subst IsTrue (sym same) is) in
    work_lasts c old mid new (lawful is) opened.replayed (opened.opens is) (first is)
    (subst (λ x. Leaves mid new (λ image. AnswersAs x.catalogue x.opening.number (now x).book image × IsOurs x.catalogue image)) opened.begins next)

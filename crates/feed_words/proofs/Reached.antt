-- What the row of a change does to the cabinet and to the images of the marks.
use Rattle.std.specs.Prelude.{IsTrue}
use Rattle.std.proofs.Common.{◌≡◌, ◌⊎◌, ℕ, ◌≤◌, Bool, List, Option, Some, None, refl, sym, subst, ap, inl, inr}
use Rattle.cabinet.proofs.Rows.{cuts_known}
use Rattle.cabinet.specs.declared.replies.CutReply.{CutReply}
use Rattle.cabinet.specs.declared.replies.CutReply.TheVariants as cut
use Rattle.cabinet.specs.State.{IsKnown, IsKnownAs, IsSound, State, now}
use Rattle.change_feed.specs.declared.applied.Applied.{Applied}
use Rattle.change_feed.specs.declared.applied.Applied.TheVariants as applied
use Rattle.change_feed.specs.declared.change.Change.{Change}
use Rattle.change_feed.specs.Applies.{Applies, IsCutAs, MayEndAfter, Pair, decided, mark_for, marked_cut}
use Rattle.change_feed.specs.Files.{EndsIn, MayEndIn, Stand}
use Rattle.disk_model.specs.Content.{Content}
use Rattle.disk_model.specs.Images.{DiskState, Leaves}
use Rattle.disk_model.specs.Moments.{leaves_as}
use Rattle.served_covers.specs.OfCatalogue.{IsCoverOf}
use Rattle.truncation_list.proofs.Answering.{answers_itself}
use Rattle.truncation_list.specs.Books.{AnswersForBook}
use Rattle.feed_words.specs.OneLine.{GoesTo}

-- THE CABINET

pub record GoesOn (s t : State) : Type 0 where
  pub same_catalogue : t.catalogue ≡ s.catalogue
  pub answers : AnswersForBook (now t).book (now s).book

pub goes_same : (s t : State) → t ≡ s → GoesOn s t
goes_same s t is = subst (GoesOn s) (sym is) (record { same_catalogue = refl; answers = answers_itself (now s).book })

goes_cut : (s t : Pair) (change : Change) (reply : CutReply) (stand : Stand) → IsKnown s.cabinet → IsCoverOf s.cabinet.catalogue change.cover → IsCutAs s change reply stand t → GoesOn s.cabinet t.cabinet
goes_cut s t change reply stand known cover is =
    let k : IsKnownAs s.cabinet t.cabinet = cuts_known s.cabinet t.cabinet change.cover reply known cover is.cuts in
    record { same_catalogue = k.same_catalogue; answers = k.answers.book }

row_goes : (s t : Pair) (change : Change) (reply : Applied) → IsKnown s.cabinet → IsCoverOf s.cabinet.catalogue change.cover → Applies s change reply t → GoesOn s.cabinet t.cabinet
row_goes s t change applied.Repeated known cover row = goes_same s.cabinet t.cabinet (ap (λ (x : Pair). x.cabinet) row.1)
row_goes s t change (applied.Gap k) known cover row = goes_same s.cabinet t.cabinet (ap (λ (x : Pair). x.cabinet) row.2)
row_goes s t change (applied.FeedFault None) known cover row = goes_same s.cabinet t.cabinet row.3
row_goes s t change (applied.FeedFault (Some k)) known cover row = goes_cut s t change (cut.Done k) (record { mark = s.stand.mark; undecided = Some (mark_for change k) }) known cover row.0
row_goes s t change applied.Spent known cover row = goes_cut s t change cut.Spent (decided s.stand) known cover row
row_goes s t change applied.Full known cover row = goes_cut s t change cut.Full (decided s.stand) known cover row
row_goes s t change (applied.DiskFault b a) known cover row = goes_cut s t change (cut.DiskFault b a) (decided s.stand) known cover row
row_goes s t change (applied.Done k) known cover row = goes_cut s t change (cut.Done k) (record { mark = Some (mark_for change k); undecided = None }) known cover row

-- THE IMAGES

abbrev or_zero : Option ℕ → ℕ
or_zero None = 0
or_zero (Some n) = n

some_same : (m n : ℕ) → Some m ≡ Some n → m ≡ n
some_same m n is = ap or_zero is

-- an image that ends in the mark of a cut ends in one of the stand behind it
ends_behind : (digest : List ℕ) (s t : Pair) (change : Change) (reply : Applied) → Applies s change reply t → (k : ℕ) → marked_cut reply ≡ Some k → (image : Content) → EndsIn digest (Some (mark_for change k)) image → MayEndIn digest t.stand image
ends_behind digest s t change applied.Repeated row k cuts image ends = absurd (cc)
ends_behind digest s t change (applied.Gap n) row k cuts image ends = absurd (cc)
ends_behind digest s t change (applied.FeedFault None) row k cuts image ends = absurd (cc)
ends_behind digest s t change (applied.FeedFault (Some n)) row k cuts image ends =
    subst (λ (x : Stand). MayEndIn digest x image) (sym row.0.stands) (inr (refl, subst (λ (x : ℕ). EndsIn digest (Some (mark_for change x)) image) (sym (some_same n k cuts)) ends))
ends_behind digest s t change applied.Spent row k cuts image ends = absurd (cc)
ends_behind digest s t change applied.Full row k cuts image ends = absurd (cc)
ends_behind digest s t change (applied.DiskFault b a) row k cuts image ends = absurd (cc)
ends_behind digest s t change (applied.Done n) row k cuts image ends =
    subst (λ (x : Stand). MayEndIn digest x image) (sym row.stands) (inl (subst (λ (x : ℕ). EndsIn digest (Some (mark_for change x)) image) (sym (some_same n k cuts)) ends))

either_stand : (digest : List ℕ) (s t : Pair) (change : Change) (reply : Applied) → Applies s change reply t → (image : Content) → MayEndAfter digest s.stand change reply image → MayEndIn digest s.stand image ⊎ MayEndIn digest t.stand image
either_stand digest s t change reply row image (inl may) = inl may
either_stand digest s t change reply row image (inr cuts) = inr (ends_behind digest s t change reply row cuts.0 cuts.1 image cuts.2)

-- BOTH

pub goes_to : (told : Bool) (digest : List ℕ) (from to : DiskState) (s t : Pair) (change : Change) (reply : Applied) → IsKnown s.cabinet → IsCoverOf s.cabinet.catalogue change.cover → Applies s change reply t → s.faults ≤ t.faults → s.cabinet_faults ≤ t.cabinet_faults
    → (IsSound s.cabinet → IsSound t.cabinet) → (IsTrue told → Leaves from to (MayEndAfter digest s.stand change reply)) → GoesTo told digest from to s t
goes_to told digest from to s t change reply known cover row later cabinet_later still_sound images =
    let g = row_goes s t change reply known cover row in
    record {
      images = λ is. leaves_as from to (MayEndAfter digest s.stand change reply) (λ image. MayEndIn digest s.stand image ⊎ MayEndIn digest t.stand image) (images is) (either_stand digest s t change reply row);
      later = later;
      cabinet_later = cabinet_later;
      same_catalogue = g.same_catalogue;
      answers = g.answers;
      still_sound = still_sound;
    }

-- where memory ran out, and the cabinet is as it was
pub goes_nowhere : (told : Bool) (digest : List ℕ) (from to : DiskState) (s t : Pair) → t.cabinet ≡ s.cabinet → s.faults ≤ t.faults → s.cabinet_faults ≤ t.cabinet_faults → (IsTrue told → Leaves from to (MayEndIn digest s.stand)) → GoesTo told digest from to s t
goes_nowhere told digest from to s t same later cabinet_later images =
    let g = goes_same s.cabinet t.cabinet same in
    record {
      images = λ is. leaves_as from to (MayEndIn digest s.stand) (λ image. MayEndIn digest s.stand image ⊎ MayEndIn digest t.stand image) (images is) (λ image may. inl may);
      later = later;
      cabinet_later = cabinet_later;
      same_catalogue = g.same_catalogue;
      answers = g.answers;
      still_sound = λ sound. subst IsSound (sym same) sound;
    }

-- A feed that was opened, ran and was closed.
use Rattle.std.specs.Prelude.{IsTrue}
use Rattle.std.proofs.Common.{◌≡◌, ◌⊎◌, ℕ, ◌≤◌, Bool, List, [], ◌∷◌, None, refl, sym, subst, ap, arith, inl, inr}
use Rattle.cabinet.specs.State.{IsSound, State}
use Rattle.catalog.specs.declared.catalogue.Catalogue.{Catalogue}
use Rattle.change_feed.specs.Applies.{Pair}
use Rattle.change_feed.specs.Files.{EndsIn, IsRefusedAs, MayEndIn, Stand}
use Rattle.change_feed.specs.Runs.{Runs}
use Rattle.disk_model.specs.Content.{Content, Same}
use Rattle.disk_model.specs.Images.{After, ChangesBy, DiskState, Every, Leaves}
use Rattle.disk_model.specs.Moments.{leaves_as, leaves_then}
use Rattle.gate_journal.specs.declared.fault.OpenFault.{OpenFault}
use Rattle.gate_journal.specs.declared.fault.OpenFault.TheVariants as fault
use Rattle.opened_cache.specs.Change.{DiskChange}
use Rattle.sessions.specs.Outside.{FaultCounts, InputChange, OutputChange}
use Rattle.command_status.specs.declared.status.Status.{Status}
use Rattle.command_status.specs.declared.status.Status.TheVariants as status
use Rattle.command_status.specs.Statuses.{status_of_opening}
use Rattle.tile_service.specs.Lines.{lines_of}
use Rattle.feed_words.proofs.Going.{decided_in}
use Rattle.feed_words.specs.declared.lines.FeedLinesEnd.{FeedLinesEnd}
use Rattle.feed_words.specs.declared.lines.FeedLinesEnd.TheVariants as lines_end
use Rattle.feed_words.specs.Ends.{AreQuiet, FeedsOn, HasFed, HasFedLines, HasFedNone}
use Rattle.feed_words.specs.Fed.{HasRunLines, HasRunNone, HasRunText, RunsInput, end_of_lines}
use Rattle.feed_words.specs.Run.{FeedEndsAs, FeedStep, Follow, MayEndAlong, events_of, stores_of}

-- the steps as events
follow_runs : (s t : Pair) (steps : List FeedStep) → Follow s steps t → Runs (stores_of s) (events_of steps) (stores_of t)
follow_runs s t [] f = ap stores_of f
follow_runs s t (step ∷ steps) f = (
  stores_of step.after,
  record { cover = f.0; faults = s.faults; then_faults = step.after.faults; cabinet_faults = s.cabinet_faults; then_cabinet_faults = step.after.cabinet_faults; row = f.1 },
  follow_runs step.after t steps f.2,
)

-- THE INPUT

pub runs_input : (i : InputChange) (o : OutputChange) (Stays : Type 0) (told : Bool) (digest : List ℕ) (from to : DiskState) (s t : Pair) (e : FeedLinesEnd) → HasRunText i o told digest from to s t e → RunsInput i o Stays told digest from to s t (end_of_lines e)
runs_input i o Stays told digest from to s t lines_end.Done ran = ran
runs_input i o Stays told digest from to s t (lines_end.Line n) ran = ran
runs_input i o Stays told digest from to s t lines_end.WriteFault ran = ran
runs_input i o Stays told digest from to s t lines_end.OutOfMemory ran = inr ran

-- THE MARKS

module _ (c : Catalogue) (cabinet : FaultCounts) (i : InputChange) (o : OutputChange) (m : DiskChange) (InputStays OutputStays : Type 0) where
  module _ (told' : Bool) (digest' : List ℕ) (mid : DiskState) (s t : Pair)
      (opens : IsTrue m.told → EndsIn c.digest s.stand.mark m.from.seen) (sure : s.stand.undecided ≡ None) (quiet : IsTrue m.told → ChangesBy Same m.from mid)
      (same_told : told' ≡ m.told) (same_digest : digest' ≡ c.digest)
      (left : IsTrue m.told → Every m.to.may_leave (MayEndIn c.digest t.stand))
      (before : m.faults.before ≤ s.faults) (after : t.faults ≤ m.faults.after) (cabinet_before : cabinet.before ≤ s.cabinet_faults) (cabinet_after : t.cabinet_faults ≤ cabinet.after) where
    was_there : (steps : List FeedStep) (image : Content) → After Same m.from.may_leave image → m.from.may_leave image ⊎ MayEndAlong c.digest s.stand steps image
    was_there steps image after = inl (subst m.from.may_leave (sym after.2) after.1)

    all_images : (steps : List FeedStep) → (IsTrue told' → Leaves mid m.to (MayEndAlong digest' s.stand steps)) → IsTrue m.told → Leaves m.from m.to (λ image. m.from.may_leave image ⊎ MayEndAlong c.digest s.stand steps image)
    all_images steps images is =
        leaves_then m.from mid m.to (λ image. m.from.may_leave image ⊎ MayEndAlong c.digest s.stand steps image)
        (leaves_as m.from mid (After Same m.from.may_leave) (λ image. m.from.may_leave image ⊎ MayEndAlong c.digest s.stand steps image) (quiet is).any_moment (was_there steps))
        (leaves_as mid m.to (MayEndAlong digest' s.stand steps) (λ image. m.from.may_leave image ⊎ MayEndAlong c.digest s.stand steps image) (images (subst IsTrue (sym same_told) is)) (λ image may. inr (subst (λ (d : List ℕ). MayEndAlong d s.stand steps image) same_digest may)))

    fed_lines : (text : List ℕ) (e : FeedLinesEnd) → (run : HasRunLines told' digest' mid m.to o text s t e) → HasFed c cabinet m s.cabinet t.cabinet run.steps
    fed_lines text e run = record {
      first = s;
      opens = opens;
      sure = sure;
      first_cabinet = refl;
      last = run.last;
      last_cabinet = sym run.left.cabinet;
      follow = run.follow;
      runs = follow_runs s run.last run.steps run.follow;
      marks_before = before;
      marks_after = let l = run.left.faults in omega (arith, l, after);
      cabinet_before = cabinet_before;
      cabinet_after = let l = run.left.cabinet_faults in omega (arith, l, cabinet_after);
      still_sound = run.still_sound;
      images = all_images run.steps run.images;
      left = λ is image may. decided_in c.digest run.last.stand t.stand image run.left.stand (left is image may);
    }

    fed_none : HasRunNone OutputStays told' digest' mid m.to s t → HasFedNone c cabinet m s.cabinet t.cabinet
    fed_none run = record {
      first = s;
      opens = opens;
      sure = sure;
      first_cabinet = refl;
      last = s;
      last_cabinet = sym (ap (λ (x : Pair). x.cabinet) run.same);
      follow = refl;
      runs = refl;
      marks_before = before;
      marks_after = let e = ap (λ (x : Pair). x.faults) run.same in omega (arith, e, after);
      cabinet_before = cabinet_before;
      cabinet_after = let e = ap (λ (x : Pair). x.cabinet_faults) run.same in omega (arith, e, cabinet_after);
      still_sound = λ sound. subst (λ (x : Pair). IsSound x.cabinet) (sym run.same) sound;
      images = all_images [] run.images;
      left = λ is image may. subst (λ (x : Pair). MayEndIn c.digest x.stand image) run.same (left is image may);
    }

    fed_text : (e : FeedLinesEnd) → HasRunText i o told' digest' mid m.to s t e → c ≡ s.cabinet.catalogue → HasFedLines c cabinet i o m s.cabinet t.cabinet e
    fed_text e ran same = (ran.2.steps, fed_lines ran.0 e ran.2, (ran.0, ran.1, subst (λ (x : Catalogue). FeedEndsAs x (lines_of ran.0) o ran.2.steps e) (sym same) ran.2.ends))

    pub feeds_on : (e : Status) → RunsInput i o OutputStays told' digest' mid m.to s t e → c ≡ s.cabinet.catalogue → FeedsOn c cabinet i o m InputStays OutputStays s.cabinet t.cabinet e
    feeds_on status.Done ran same = fed_text lines_end.Done ran same
    feeds_on (status.Line n) ran same = fed_text (lines_end.Line n) ran same
    feeds_on status.WriteFault ran same = fed_text lines_end.WriteFault ran same
    feeds_on status.ReadFault ran same = (fed_none ran.1, ran.0, ran.1.stays)
    feeds_on status.TooLong ran same = (fed_none ran.1, ran.0, ran.1.stays)
    feeds_on status.OutOfMemory (inl none) same = inr (inl (fed_none none, none.stays))
    feeds_on status.OutOfMemory (inr ran) same = inr (inr (fed_text lines_end.OutOfMemory ran same))
    feeds_on (status.Cache cause) ran same = absurd ran
    feeds_on status.DiskFault ran same = absurd ran
    feeds_on (status.Form cause) ran same = absurd ran
    feeds_on status.CutsFull ran same = absurd ran
    feeds_on (status.Stream session) ran same = absurd ran
    feeds_on status.Usage ran same = absurd ran
    feeds_on (status.Catalogue fault) ran same = absurd ran
    feeds_on status.ListenFault ran same = absurd ran
    feeds_on status.ThreadFault ran same = absurd ran

  -- the marks weren't opened
  pub unfed : (s : State) (f : OpenFault) → IsRefusedAs m.told c.digest m.from.seen m.faults.before m.faults.after f → AreQuiet m → InputStays → OutputStays → FeedsOn c cabinet i o m InputStays OutputStays s s (status_of_opening f)
  unfed s fault.NotACache refused quiet input output = (refused, quiet, refl, input, output)
  unfed s (fault.CatalogueDiffers found asked) refused quiet input output = (refused, quiet, refl, input, output)
  unfed s (fault.BadRecord slot) refused quiet input output = (refused, quiet, refl, input, output)
  unfed s fault.Spent refused quiet input output = absurd refused
  unfed s fault.DiskFault refused quiet input output = (refused, quiet, refl, input, output)
  unfed s fault.OutOfMemory refused quiet input output = inl (quiet, refl, input, output)

-- what the marks were left as, where they are those that were opened
pub closed_left : (told told' : Bool) (digest digest' : List ℕ) (disk : DiskState) (stand : Stand) → told' ≡ told → digest' ≡ digest → (IsTrue told' → Every disk.may_leave (MayEndIn digest' stand)) → IsTrue told → Every disk.may_leave (MayEndIn digest stand)
closed_left told told' digest digest' disk stand same_told same_digest left is = subst (λ (d : List ℕ). Every disk.may_leave (MayEndIn d stand)) same_digest (left (subst IsTrue (sym same_told) is))

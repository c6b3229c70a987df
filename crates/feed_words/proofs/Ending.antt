-- How the words of a feed end.
use Rattle.std.proofs.Common.{◌≡◌, ◌≤◌, ℕ, List, [], arith, inl, inr, subst}
use Rattle.cabinet.specs.State.{State}
use Rattle.catalog.specs.declared.catalogue.Catalogue.{Catalogue}
use Rattle.base.specs.Readings.{Readings}
use Rattle.command_setup.specs.declared.configuration.Unconfigured.{Unconfigured}
use Rattle.command_setup.specs.declared.configuration.Unconfigured.TheVariants as unconfigured
use Rattle.command_status.specs.declared.status.Status.TheVariants as status
use Rattle.durable_cabinet.specs.Filed.{IsRefusedAs}
use Rattle.gate_journal.specs.declared.fault.OpenFault.{OpenFault}
use Rattle.gate_journal.specs.declared.fault.OpenFault.TheVariants as fault
use Rattle.opened_cache.specs.Change.{DiskChange}
use Rattle.sessions.specs.Outside.{InputChange, OutputChange, counts}
use Rattle.command_status.specs.declared.status.Status.{Status}
use Rattle.command_setup.specs.Refusals.{status_of_refusal}
use Rattle.command_status.specs.Statuses.{status_of_opening}
use Rattle.opened_cache.specs.Opened.{HasOpened, RefusalLeaves}
use Rattle.feed_words.specs.declared.lines.FeedLinesEnd.{FeedLinesEnd}
use Rattle.feed_words.specs.declared.lines.FeedLinesEnd.TheVariants as lines_end
use Rattle.feed_words.specs.declared.words.FeedWord.{FeedWord}
use Rattle.feed_words.specs.declared.words.FeedWord.TheVariants as feed
use Rattle.feed_words.specs.Ends.{Feeds, FeedsOn, HasFed, HasFedLines, HasFedNone, Stays, WordEnds}
use Rattle.feed_words.specs.Run.{FeedStep}

-- FAULTS COUNTED FROM BEFORE THE OPENING

fed_wider : (c : Catalogue) (before mid after : ℕ) (m : DiskChange) (s u : State) (steps : List FeedStep) → before ≤ mid → HasFed c (counts mid after) m s u steps → HasFed c (counts before after) m s u steps
fed_wider c before mid after m s u steps later fed = record {
  first = fed.first;
  opens = fed.opens;
  sure = fed.sure;
  first_cabinet = fed.first_cabinet;
  last = fed.last;
  last_cabinet = fed.last_cabinet;
  follow = fed.follow;
  runs = fed.runs;
  marks_before = fed.marks_before;
  marks_after = fed.marks_after;
  cabinet_before = let l = fed.cabinet_before in omega (arith, l, later);
  cabinet_after = fed.cabinet_after;
  still_sound = fed.still_sound;
  images = fed.images;
  left = fed.left;
}

module _ (c : Catalogue) (before mid after : ℕ) (i : InputChange) (o : OutputChange) (m : DiskChange) (InputStays OutputStays : Type 0) (s u : State) (later : before ≤ mid) where
  lines_wider : (e : FeedLinesEnd) → HasFedLines c (counts mid after) i o m s u e → HasFedLines c (counts before after) i o m s u e
  lines_wider e fed = (fed.0, fed_wider c before mid after m s u fed.0 later fed.1, fed.2)

  none_wider : HasFedNone c (counts mid after) m s u → HasFedNone c (counts before after) m s u
  none_wider fed = fed_wider c before mid after m s u [] later fed

  feeds_wider : (e : Status) → FeedsOn c (counts mid after) i o m InputStays OutputStays s u e → FeedsOn c (counts before after) i o m InputStays OutputStays s u e
  feeds_wider status.Done fed = lines_wider lines_end.Done fed
  feeds_wider (status.Line n) fed = lines_wider (lines_end.Line n) fed
  feeds_wider status.WriteFault fed = lines_wider lines_end.WriteFault fed
  feeds_wider status.ReadFault fed = (none_wider fed.0, fed.1, fed.2)
  feeds_wider status.TooLong fed = (none_wider fed.0, fed.1, fed.2)
  feeds_wider (status.Cache cause) fed = fed
  feeds_wider status.DiskFault fed = fed
  feeds_wider status.OutOfMemory (inl quiet) = inl quiet
  feeds_wider status.OutOfMemory (inr (inl fed)) = inr (inl (none_wider fed.0, fed.1))
  feeds_wider status.OutOfMemory (inr (inr fed)) = inr (inr (lines_wider lines_end.OutOfMemory fed))
  feeds_wider (status.Form cause) fed = absurd fed
  feeds_wider status.CutsFull fed = absurd fed
  feeds_wider (status.Stream session) fed = absurd fed
  feeds_wider status.Usage fed = absurd fed
  feeds_wider (status.Catalogue fault) fed = absurd fed
  feeds_wider status.ListenFault fed = absurd fed
  feeds_wider status.ThreadFault fed = absurd fed

-- THE ENDS

module _ (c : Catalogue) (clock : Readings) (i : InputChange) (o : OutputChange) (d m : DiskChange) (InputStays OutputStays MarksStay : Type 0) where
  told_by : (s u : State) → HasOpened c clock d s u → (e : Status) → FeedsOn c d.faults i o m InputStays OutputStays s u e → Feeds c clock i o d m InputStays OutputStays MarksStay e
  told_by s u h status.Done fed = (s, u, h, fed)
  told_by s u h (status.Line n) fed = (s, u, h, fed)
  told_by s u h status.WriteFault fed = (s, u, h, fed)
  told_by s u h status.ReadFault fed = (s, u, h, fed)
  told_by s u h status.TooLong fed = (s, u, h, fed)
  told_by s u h (status.Cache cause) fed = inr (s, u, h, fed)
  told_by s u h status.DiskFault fed = inr (s, u, h, fed)
  told_by s u h status.OutOfMemory fed = inr (s, u, h, fed)
  told_by s u h (status.Form cause) fed = absurd fed
  told_by s u h status.CutsFull fed = absurd fed
  told_by s u h (status.Stream session) fed = absurd fed
  told_by s u h status.Usage fed = absurd fed
  told_by s u h (status.Catalogue fault) fed = absurd fed
  told_by s u h status.ListenFault fed = absurd fed
  told_by s u h status.ThreadFault fed = absurd fed

  -- the cache was opened, and a feed ran on its cabinet
  pub fed_tells : (s u : State) (mid : ℕ) → HasOpened c clock d s u → s.catalogue ≡ c → d.faults.before ≤ mid → (e : Status) → FeedsOn s.catalogue (counts mid d.faults.after) i o m InputStays OutputStays s u e → Feeds c clock i o d m InputStays OutputStays MarksStay e
  fed_tells s u mid h same later e fed =
      told_by s u h e (subst (λ (x : Catalogue). FeedsOn x d.faults i o m InputStays OutputStays s u e) same (feeds_wider s.catalogue d.faults.before mid d.faults.after i o m InputStays OutputStays s u later e fed))

  -- the cache wasn't opened
  pub unopened : (f : OpenFault) → IsRefusedAs d.told c d.from.seen d.faults.before d.faults.after f → RefusalLeaves c d f → InputStays → OutputStays → MarksStay → Feeds c clock i o d m InputStays OutputStays MarksStay (status_of_opening f)
  unopened fault.NotACache refused leaves input output marks = inl (refused, leaves, input, output, marks)
  unopened (fault.CatalogueDiffers found asked) refused leaves input output marks = inl (refused, leaves, input, output, marks)
  unopened (fault.BadRecord slot) refused leaves input output marks = inl (refused, leaves, input, output, marks)
  unopened fault.Spent refused leaves input output marks = inl (refused, leaves, input, output, marks)
  unopened fault.DiskFault refused leaves input output marks = inl (refused, leaves, input, output, marks)
  unopened fault.OutOfMemory refused leaves input output marks = inl (leaves, input, output, marks)

-- no end of the words is that other words are none
pub never_usage : (i : InputChange) (o : OutputChange) (d m : DiskChange) (stays : Stays) (clock : Readings) (w : FeedWord) (c : Catalogue) (s : Status) → WordEnds i o d m stays clock w c s → s ≡ status.Usage → ⊥
never_usage i o d m stays clock w c s ends is = of_word w (subst (WordEnds i o d m stays clock w c) is ends)
  where
    of_word : (w : FeedWord) → WordEnds i o d m stays clock w c status.Usage → ⊥
    of_word feed.Make ends = ends.0
    of_word feed.Run ends = ends

pub never_refused : (e : Unconfigured) → status_of_refusal e ≡ status.Usage → ⊥
never_refused unconfigured.ReadFault is = absurd (cc)
never_refused unconfigured.TooLong is = absurd (cc)
never_refused (unconfigured.Fault cause) is = absurd (cc)
never_refused unconfigured.OutOfMemory is = absurd (cc)

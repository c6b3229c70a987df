-- A twin that was opened, worked and was closed, from what its files held.
use Rattle.std.specs.Prelude.{IsTrue, ◌&&◌, true, false}
use Rattle.std.proofs.Common.{◌≡◌, ◌⊎◌, ◌≤◌, ◌+◌, ◌-◌, ◌^◌, ℕ, Bool, List, [], ◌∷◌, Option, refl, sym, subst, ap, ◌∙◌, arith, inl, inr}
use Rattle.cabinet.specs.State.{IsKnown, IsSound, State, now}
use Rattle.cabinet_records.specs.Replay.{book_after, opening_number}
use Rattle.catalog.specs.declared.catalogue.Catalogue.{Catalogue}
use Rattle.catalog.specs.Valid.{IsValid}
use Rattle.base.specs.Causes.{Rose}
use Rattle.change_feed.specs.declared.mark.Mark.{Mark}
use Rattle.change_feed.specs.Files.{EndsIn, MayEndIn, Stand}
use Rattle.change_feed.specs.Runs.{IsEither}
use Rattle.base.specs.Readings.{Readings}
use Rattle.cut_follower.specs.Lossy.{LinkEvent, Lossy, cabinet_opened, marks_opened, outbox_opened}
use Rattle.disk_model.specs.Content.{Content, Same}
use Rattle.disk_model.specs.Images.{After, DiskState, IsLawful, Leaves}
use Rattle.disk_model.specs.Moments.{leaves_as, leaves_then}
use Rattle.durable_cabinet.proofs.Pictured.{opened_sound}
use Rattle.durable_cabinet.specs.Images.{IsOurs}
use Rattle.durable_cabinet.specs.Outlasting.{AnswersAs}
use Rattle.http_wire.proofs.TakesOn.{rose_before}
use Rattle.http_wire.specs.declared.inputs.InputEnd.TheVariants as input_end
use Rattle.http_wire.specs.declared.inputs.InputEnd.{InputEnd}
use Rattle.opened_cache.proofs.Lasting.{opening_lasts, work_lasts}
use Rattle.command_status.specs.declared.status.Status.{Status}
use Rattle.opened_cache.specs.Change.{DiskChange}
use Rattle.gate_journal.specs.declared.fault.OpenFault.{OpenFault}
use Rattle.opened_cache.specs.Crash.{ImageLasts}
use Rattle.command_status.specs.Statuses.{status_of_input, status_of_opening}
use Rattle.outbox.specs.Files.{MayOpenTo, OpensToPosts}
use Rattle.outbox.specs.Posts.{MayBeFound, Outgoing}
use Rattle.sessions.specs.Outside.{counts}
use Rattle.truncation_list.specs.declared.cover.Cover.{Cover}
use Rattle.twin_events.specs.Twins.{IsAt, TwinStanding}
use Rattle.twin_lines.specs.declared.lines.Halt.{Halt}
use Rattle.twin_lines.specs.declared.lines.Halt.TheVariants as halt
use Rattle.twin_lines.specs.declared.order.LinkSide.{LinkSide}
use Rattle.twin_lines.specs.declared.order.LinkSide.TheVariants as side
use Rattle.twin_lines.specs.Steps.{Follow, MayEndAlong, MayOpenAlong, TwinMoment, TwinStep}
use Rattle.twin_words.proofs.Composing.{goes_on_later}
use Rattle.twin_words.proofs.Kept.{AllInStep, TilesAbove, in_step_alone, opens_all, steps_kept}
use Rattle.twin_words.specs.Ends.{EndsRefused, EndsRun, HasTwinned, IsText, RefusesAgain, Stays, TwinChange, Twins, all_told}
use Rattle.twin_words.specs.Opens.{IsLeftFor, IsPairOn, LeavesTwin, OpensTwin}
use Rattle.twin_words.specs.Promised.{KeepsPromise, without_packets}
use Rattle.twin_words.specs.Works.{IsEndOf, IsUnread, RunsInput, RunsNone, StopsAt, TwinWorks, WorksTo}

abbrev pub MarksEither : Type 0
MarksEither = (digest : List ℕ) (s : Stand) (found : Option Mark) (image : Content) → MayEndIn digest s image → EndsIn digest found image → IsEither s found

abbrev pub PostsFound : Type 0
PostsFound = (c : Catalogue) (s : Outgoing) (found : List Cover) (image : Content) → MayOpenTo c s image → OpensToPosts c image found → MayBeFound s found

opening_events : List LinkEvent
opening_events = cabinet_opened ∷ marks_opened ∷ outbox_opened ∷ []

-- each of three tests that hold together
pub both_true : (a b : Bool) → IsTrue (a && b) → IsTrue a × IsTrue b
both_true true b is = (refl, is)
both_true false b is = absurd (cc)

-- what was read and synced left what it might have left before
was_there : (old : DiskState) (image : Content) → After Same old.may_leave image → old.may_leave image
was_there old image after = subst old.may_leave (sym after.2) after.1

module _ (all : AllInStep) (tiles : TilesAbove) (either : MarksEither) (found : PostsFound)
    (c : Catalogue) (clock : Readings) (h : TwinChange) (d m o : DiskState) (dn mn on : ℕ) (stands : TwinStanding) (settled : Type 0)
    (valid : IsValid c) (known : IsKnown stands.cabinet) (settles : settled)
    (lawful : IsTrue h.cache.told → IsLawful h.cache.from) (marks_lawful : IsTrue h.marks.told → IsLawful h.marks.from) (outbox_lawful : IsTrue h.outbox.told → IsLawful h.outbox.from)
    (later : h.cache.faults.before ≤ dn) (marks_later : h.marks.faults.before ≤ mn) (outbox_later : h.outbox.faults.before ≤ on)
    (opens : OpensTwin c clock (record { told = h.cache.told; faults = counts h.cache.faults.before dn; from = h.cache.from; to = d }) (record { told = h.marks.told; faults = counts h.marks.faults.before mn; from = h.marks.from; to = m })
    (record { told = h.outbox.told; faults = counts h.outbox.faults.before on; from = h.outbox.from; to = o }) stands) where
  -- the disks from the opening on
  abbrev cache_then : DiskChange
  cache_then = record { told = h.cache.told; faults = counts dn h.cache.faults.after; from = d; to = h.cache.to }

  abbrev marks_then : DiskChange
  marks_then = record { told = h.marks.told; faults = counts mn h.marks.faults.after; from = m; to = h.marks.to }

  abbrev outbox_then : DiskChange
  outbox_then = record { told = h.outbox.told; faults = counts on h.outbox.faults.after; from = o; to = h.outbox.to }

  abbrev first : TwinMoment
  first = record { stands = stands; faults = record { source = h.source.faults.before; outbox = on; marks = mn; cabinet = dn } }

  abbrev Worked : TwinMoment → TwinMoment → List (List ℕ) → List TwinStep → Type 0
  Worked reached last lines steps = TwinWorks c h.source.told h.source.faults.after cache_then marks_then outbox_then settled first reached last lines steps

  files : (last : TwinMoment) (after : Lossy) → LeavesTwin c last.stands cache_then marks_then outbox_then → IsAt last.stands after → IsTrue h.cache.told → IsTrue h.marks.told → IsTrue h.outbox.told
      → (x y z : Content) → h.cache.to.may_leave x → h.marks.to.may_leave y → h.outbox.to.may_leave z → IsPairOn c after x y z
  files last after left at is marks_is outbox_is x y z in_x in_y in_z = record {
    same = ap (λ (s : State). s.catalogue) at.cabinet ∙ left.same;
    cache = subst (λ (s : State). IsLeftFor c s x) (sym at.cabinet) (left.cache is x in_x);
    marks = subst (λ (s : Stand). MayEndIn c.digest s y) (sym at.stand) (left.marks marks_is y in_y);
    outbox = subst (λ (s : Outgoing). MayOpenTo c s z) (sym at.out) (left.outbox outbox_is z in_z);
  }

  promise : (reached last : TwinMoment) (lines : List (List ℕ)) (steps : List TwinStep) → Worked reached last lines steps → IsTrue (all_told h) → (l : Lossy) → IsPairOn c l h.cache.from.seen h.marks.from.seen h.outbox.from.seen → KeepsPromise c h.cache h.marks h.outbox l first steps last
  unfolding opening_events
  promise reached last lines steps works told l pair =
      let is = both_true h.cache.told (h.marks.told && h.outbox.told) told in
      let then_is = both_true h.marks.told h.outbox.told is.1 in
      let f = opens.follower in
      let goes = goes_on_later c clock h.cache.told h.cache.from.seen l.stores.cabinet stands.cabinet f.cache.replayed f.cache.begins (f.cache.opens is.0) known pair.same pair.cache.answers in
      let begin =
      opens_all l stands goes.goes (either c.digest l.stores.stand stands.stand.mark h.marks.from.seen pair.marks (f.mark then_is.0)) f.sure
      (record { found = found c l.out stands.out.posts h.outbox.from.seen pair.outbox (opens.posts then_is.1); decided = opens.sure; silent = opens.silent }) opens.nothing_sent in
      let through = steps_kept all tiles h.source.told first steps reached (subst (λ (b : Bool). Follow b h.source.told first steps reached) told works.part.follow) begin.0 begin.1 in
      let end = works.part.more.1 through.0 through.1 in
      record {
        begins = begin.0;
        opens = begin.2;
        begins_at = begin.1;
        begins_in_step = λ st. all (without_packets l) begin.0 opening_events (in_step_alone l st) begin.2;
        through = through.0;
        steps_kept = through.2;
        more = works.part.more.0;
        after = end.0;
        passes = end.2;
        ends_at = end.1;
        ends_in_step = λ st. all through.0 end.0 works.part.more.0 st end.2;
        files = files last end.0 works.left end.1 is.0 then_is.0 then_is.1;
      }

  -- at a moment of the opening, and then of the work
  abbrev marks_of : (last : TwinMoment) (steps : List TwinStep) (image : Content) → Type 0
  marks_of last steps image = h.marks.from.may_leave image ⊎ (MayEndAlong c.digest stands.stand steps image ⊎ MayEndIn c.digest last.stands.stand image)

  abbrev posts_of : (steps : List TwinStep) (image : Content) → Type 0
  posts_of steps image = h.outbox.from.may_leave image ⊎ MayOpenAlong c stands.out steps image

  pub twinned : (reached last : TwinMoment) (lines : List (List ℕ)) (steps : List TwinStep) → Worked reached last lines steps → HasTwinned c clock h steps reached last
  twinned reached last lines steps works =
      let f = opens.follower in
      record {
        first = first;
        begun = record {
          cache = record { replayed = f.cache.replayed; begins = f.cache.begins; opens = f.cache.opens; number = f.cache.number };
          marks = f.mark;
          marks_sure = f.sure;
          outbox = opens.posts;
          outbox_sure = opens.sure;
          silent = opens.silent;
          nothing_sent = opens.nothing_sent;
        };
        later_first = record { source = omega arith; outbox = outbox_later; marks = marks_later; cabinet = later };
        follow = works.part.follow;
        later_last = record { source = works.counted.source; outbox = works.counted.outbox; marks = works.counted.marks; cabinet = works.counted.cache };
        promise = promise reached last lines steps works;
        left = record { same = works.left.same; cache = works.left.cache; marks = works.left.marks; outbox = works.left.outbox };
        marks_along = λ is.
            leaves_then h.marks.from m h.marks.to (marks_of last steps)
            (leaves_as h.marks.from m (After Same h.marks.from.may_leave) (marks_of last steps) (f.quiet is).any_moment (λ image after. inl (was_there h.marks.from image after)))
            (leaves_as m h.marks.to (λ image. MayEndAlong c.digest stands.stand steps image ⊎ MayEndIn c.digest last.stands.stand image) (marks_of last steps) (works.part.marks_along is) (λ image may. inr may));
        posts_along = λ is.
            leaves_then h.outbox.from o h.outbox.to (posts_of steps)
            (leaves_as h.outbox.from o (After Same h.outbox.from.may_leave) (posts_of steps) (opens.quiet is).any_moment (λ image after. inl (was_there h.outbox.from image after)))
            (leaves_as o h.outbox.to (MayOpenAlong c stands.out steps) (posts_of steps) (works.part.posts_along is) (λ image may. inr may));
        truth = λ tells is sound. elim (works.part.sound tells is settles (subst IsSound (sym f.cache.begins) (opened_sound h.cache.told c h.cache.from.seen clock f.cache.replayed valid is sound (f.cache.opens is)))) [
          | inl rose ↦ inl (failed last works.counted.cache rose)
          | inr holds ↦ inr holds.2
        ];
      }
    where
      failed : (last : TwinMoment) → last.faults.cabinet ≤ h.cache.faults.after → Rose dn last.faults.cabinet → Rose h.cache.faults.before h.cache.faults.after
      failed last below rose = let e = rose_before (2 ^ 64 - 1) h.cache.faults.before dn last.faults.cabinet later rose in omega (arith, e, below)

  -- THE CACHE

  answered : (image : Content) → IsLeftFor c stands.cabinet image → AnswersAs c (opening_number opens.follower.cache.replayed + 1) (book_after opens.follower.cache.replayed) image × IsOurs c image
  answered image left =
      let begins = opens.follower.cache.begins in
      let a = left.answers in (
        subst (λ (x : State). AnswersAs c x.opening.number (now x).book image) begins a,
        left.ours,
      )

  pub lasts_whole : (reached last : TwinMoment) (lines : List (List ℕ)) (steps : List TwinStep) → Worked reached last lines steps → IsTrue h.cache.told → Leaves h.cache.from h.cache.to (ImageLasts c h.cache.from)
  lasts_whole reached last lines steps works is =
      let f = opens.follower in
      work_lasts c h.cache.from d h.cache.to (lawful is) f.cache.replayed (f.cache.opens is) (opening_lasts c h.cache.from d (lawful is) (f.leaves is))
      (leaves_as d h.cache.to (IsLeftFor c stands.cabinet) (λ image. AnswersAs c (opening_number f.cache.replayed + 1) (book_after f.cache.replayed) image × IsOurs c image) (works.part.cache_images is) answered)

  -- THE ENDS

  refused_again : (last : TwinMoment) (which : LinkSide) (cause : OpenFault) → RefusesAgain c cache_then marks_then outbox_then last which cause → RefusesAgain c h.cache h.marks h.outbox last which cause
  refused_again last side.Leader cause r = record { seen = r.seen; was_left = r.was_left; refused = r.refused }
  refused_again last side.Follower cause (inl r) = inl (record { seen = r.seen; was_left = r.was_left; refused = r.refused })
  refused_again last side.Follower cause (inr r) = inr (record { seen = r.seen; was_left = r.was_left; refused = r.refused })

  ends_refused : (stays : Stays) (e : Status) (text : List ℕ) → IsText h.input text → (cause : OpenFault) → e ≡ status_of_opening cause → StopsAt c h.source.told h.source.faults.after cache_then marks_then outbox_then settled h.output 1 text first cause → EndsRefused c clock h stays e
  ends_refused stays e text is_text cause is stops = (
    cause,
    is,
    inr (record {
      steps = stops.steps;
      last = stops.last;
      twinned = twinned stops.last stops.last stops.before stops.steps stops.works;
      text = text;
      is_text = is_text;
      before = stops.before;
      line = stops.line;
      among = stops.among;
      ordered = stops.works.part.ordered;
      which = stops.which;
      stops = stops.stops;
      written = stops.written;
      refused = refused_again stops.last stops.which cause stops.refused;
    }),
  )

  ends_lines : (stays : Stays) (e : Status) (text : List ℕ) → IsText h.input text → (k : Halt) → IsEndOf k e → WorksTo c h.source.told h.source.faults.after cache_then marks_then outbox_then settled h.output 1 text first k → EndsRun c clock h stays e
  ends_lines stays e text is_text halt.Done is (steps, reached, last, lines, works, ends) = subst (EndsRun c clock h stays) (sym is) (steps, reached, last, twinned reached last lines steps works, (text, is_text, ends))
  ends_lines stays e text is_text (halt.Line k) is (steps, reached, last, lines, works, ends) = subst (EndsRun c clock h stays) (sym is) (steps, reached, last, twinned reached last lines steps works, (text, is_text, ends))
  ends_lines stays e text is_text halt.WriteFault is (steps, reached, last, lines, works, ends) = subst (EndsRun c clock h stays) (sym is) (steps, reached, last, twinned reached last lines steps works, (text, is_text, ends))
  ends_lines stays e text is_text halt.OutOfMemory is (steps, reached, last, lines, works, ends) = subst (EndsRun c clock h stays) (sym is) (inl (steps, reached, last, twinned reached last lines steps works, (text, is_text, ends)))
  ends_lines stays e text is_text (halt.Stop which k rest) is worked = absurd is

  ends_unread : (stays : Stays) (why : InputEnd) → IsUnread h.input why → RunsNone c h.source.told h.source.faults.after cache_then marks_then outbox_then settled first stays.output stays.source → EndsRun c clock h stays (status_of_input why)
  ends_unread stays input_end.ReadFault unread none = ((first, twinned first first [] [] none.works), unread, none.quiet_output, none.quiet_source)
  ends_unread stays input_end.TooLong unread none = ((first, twinned first first [] [] none.works), unread, none.quiet_output, none.quiet_source)
  ends_unread stays input_end.OutOfMemory unread none = inr ((first, twinned first first [] [] none.works), none.quiet_output, none.quiet_source)

  pub twins : (stays : Stays) (e : Status) → RunsInput c h.source.told h.source.faults.after cache_then marks_then outbox_then settled h.input h.output first stays.output stays.source e → Twins c clock h stays e
  twins stays e (inl (text, is_text, inl (cause, is, stops))) = inl (ends_refused stays e text is_text cause is stops)
  twins stays e (inl (text, is_text, inr (k, is, worked))) = inr (ends_lines stays e text is_text k is worked)
  twins stays e (inr r) = inr (subst (EndsRun c clock h stays) (sym r.1.1) (ends_unread stays r.1.0 r.1.2 r.0))

  pub lasts : (InputStays OutputStays : Type 0) (e : Status) → RunsInput c h.source.told h.source.faults.after cache_then marks_then outbox_then settled h.input h.output first InputStays OutputStays e → IsTrue h.cache.told → Leaves h.cache.from h.cache.to (ImageLasts c h.cache.from)
  lasts I O e (inl (text, is_text, inl (cause, is, stops))) told = lasts_whole stops.last stops.last stops.before stops.steps stops.works told
  lasts I O e (inl (text, is_text, inr (k, is, (steps, reached, last, lines, works, ends)))) told = lasts_whole reached last lines steps works told
  lasts I O e (inr r) told = lasts_whole first first [] [] r.0.works told

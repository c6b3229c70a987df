-- A stretch of lines, and the stop behind it.
use Rattle.std.specs.Prelude.{IsTrue, ⊤, ◌&&◌}
use Rattle.std.proofs.Common.{◌≡◌, ◌⊎◌, ℕ, ◌+◌, ◌≤◌, Bool, List, [], ◌∷◌, ◌++◌, length, Option, Some, refl, sym, subst, ap, ◌∙◌, arith, append_assoc, append-nil, inl, inr}
use Rattle.std.specs.Io.KnownBytes.{Appends}
use Rattle.cabinet.specs.State.{IsSound, now}
use Rattle.cache_core.specs.Lasting.{Lasting}
use Rattle.catalog.specs.declared.catalogue.Catalogue.{Catalogue}
use Rattle.base.specs.Causes.{Rose}
use Rattle.change_feed.specs.Files.{MayEndIn}
use Rattle.disk_model.specs.Content.{Content}
use Rattle.disk_model.specs.Images.{DiskState, Leaves}
use Rattle.disk_model.specs.Moments.{leaves_as}
use Rattle.durable_cabinet.specs.Images.{IsOurs}
use Rattle.durable_cabinet.specs.Outlasting.{AnswersAs, Outlasts}
use Rattle.gate_journal.specs.declared.journal.Journal.{Journal}
use Rattle.gate_journal.specs.Sound.{IsSettled}
use Rattle.opened_cache.specs.Change.{DiskChange}
use Rattle.sessions.specs.Outside.{OutputChange, counts}
use Rattle.twin_lines.specs.declared.lines.Halt.{Halt}
use Rattle.twin_lines.specs.Ends.{AreOrdered, DiskPassage, Ends, HasRunLines, IsAmong, passage}
use Rattle.twin_lines.specs.Steps.{AreTrue, IsLater, TwinMoment, TwinStep, faults, moment, stopped}
use Rattle.twin_events.specs.Twins.{IsAt, LeadsBy, TwinStanding}
use Rattle.cut_follower.specs.Lossy.{LinkEvent}
use Rattle.change_feed.specs.Files as marks_files
use Rattle.durable_cabinet.specs.Filed as cache_files
use Rattle.gate_journal.specs.declared.fault.OpenFault.{OpenFault}
use Rattle.command_status.specs.declared.status.Status.{Status}
use Rattle.command_status.specs.declared.status.Status.TheVariants as status
use Rattle.command_status.specs.Statuses.{status_of_opening}
use Rattle.outbox.specs.Files.{MayOpenTo}
use Rattle.outbox.specs.Files as outbox_files
use Rattle.std.proofs.lemmas.List.{length-append}
use Rattle.tile_requests.specs.Sent.{AppendsFront}
use Rattle.tile_service.specs.Lines.{lines_of}
use Rattle.truncation_list.proofs.Answering.{answers_itself}
use Rattle.twin_lines.specs.declared.lines.Halt.TheVariants as halt
use Rattle.twin_lines.specs.declared.order.TwinOrder.TheVariants as order
use Rattle.twin_lines.specs.declared.order.LinkSide.{LinkSide}
use Rattle.twin_lines.specs.declared.order.LinkSide.TheVariants as side
use Rattle.twin_lines.specs.Orders.{order_in}
use Rattle.twin_lines.specs.Texts.{answer_text, answers_from}
use Rattle.twin_words.proofs.Going.{follow_later, later_itself, later_then, ordered_length, part_then, stop_part, written_then}
use Rattle.twin_words.specs.Ends.{RefusesAgain}
use Rattle.twin_words.specs.Opens.{IsLeftFor, LeavesTwin, Restarts, StaysClosed}
use Rattle.twin_words.specs.Works.{IsEndOf, RunsOn, RunsText, TwinPart}

-- a disk over a part of a run
abbrev pub change : Bool → ℕ → ℕ → DiskState → DiskState → DiskChange
change told before after from to = record { told = told; faults = counts before after; from = from; to = to }

-- a run of lines as a part
module _ (c : Catalogue) (source : Option ℕ) (dt dt_then mt ot : Bool) (f f' : ℕ) (j j' : Journal) (d d_now m m_now o o_now : DiskState) (w : OutputChange) (n : ℕ) (text : List ℕ) (s t : TwinMoment) (h : Halt)
    (run : HasRunLines c source c.digest (passage mt m m_now) (passage ot o o_now) w n text s t h)
    (lasting : Lasting (Outlasts dt dt_then f f' s.stands.cabinet t.stands.cabinet j j' d d_now) s.stands.cabinet t.stands.cabinet)
    (same : s.stands.cabinet.catalogue ≡ c) (fs : f ≡ s.faults.cabinet) (ft : f' ≡ t.faults.cabinet) where
  left_for_it : (image : Content) → AnswersAs c s.stands.cabinet.opening.number (now s.stands.cabinet).book image × IsOurs c image → IsLeftFor c s.stands.cabinet image
  left_for_it image left = record { answers = left.0; ours = left.1 }

  run_sound : source ≡ Some c.source → IsTrue dt → IsSettled j → IsSound s.stands.cabinet → Rose s.faults.cabinet t.faults.cabinet ⊎ (IsSettled j' × IsSound t.stands.cabinet × AreTrue c run.steps)
  run_sound tells is settles sound = elim lasting.outlasts.settled [
    | inl rose ↦ inl (subst (λ (x : ℕ). Rose x t.faults.cabinet) fs (subst (λ (x : ℕ). Rose f x) ft rose))
    | inr stays ↦ inr (stays settles, run.still_sound tells sound, run.truth tells sound)
  ]

  pub run_part : (lines : List (List ℕ)) → AreOrdered c lines run.steps → IsLater run.reached.faults t.faults → (events : List LinkEvent) × LeadsBy events run.reached.stands t.stands
      → TwinPart c source (passage dt d d_now) (passage mt m m_now) (passage ot o o_now) (IsSettled j) (IsSettled j') s run.reached t lines run.steps
  run_part lines ordered short more = record {
    ordered = ordered;
    follow = run.follow (dt && (mt && ot));
    more = more;
    later = later_then s run.reached t (follow_later (dt && (mt && ot)) source s run.reached run.steps (run.follow (dt && (mt && ot)))) short;
    goes = λ is. record { later = let e = ap (λ x. x.number) lasting.outlasts.same_opening in omega (arith, e); answers = lasting.answers };
    cache_images = λ is.
        leaves_as d d_now (λ image. AnswersAs c s.stands.cabinet.opening.number (now s.stands.cabinet).book image × IsOurs c image) (IsLeftFor c s.stands.cabinet)
        (subst (λ (x : Catalogue). Leaves d d_now (λ image. AnswersAs x s.stands.cabinet.opening.number (now s.stands.cabinet).book image × IsOurs x image)) same (lasting.outlasts.images is)) left_for_it;
    marks_along = run.marks_along;
    posts_along = run.posts_along;
    sound = run_sound;
  }

-- BEHIND A STOP

unsettled : (c : Catalogue) (source : Option ℕ) (d m o : DiskPassage) (P Q : Type 0) (s reached t : TwinMoment) (lines : List (List ℕ)) (steps : List TwinStep) → TwinPart c source d m o P Q s reached t lines steps → TwinPart c source d m o P ⊤ s reached t lines steps
unsettled c source d m o P Q s reached t lines steps p = record {
  ordered = p.ordered;
  follow = p.follow;
  more = p.more;
  later = p.later;
  goes = p.goes;
  cache_images = p.cache_images;
  marks_along = p.marks_along;
  posts_along = p.posts_along;
  sound = λ tells is settles sound. elim (p.sound tells is settles sound) [
    | inl rose ↦ inl rose
    | inr holds ↦ inr (tt, holds.1, holds.2)
  ];
}

-- a part in which no line was run and the files were closed, or refused
pub closed_part : (c : Catalogue) (source : Option ℕ) (d m o : DiskPassage) (P : Type 0) (s : TwinMoment) → (IsTrue d.told → Leaves d.from d.to (IsLeftFor c s.stands.cabinet)) → (IsTrue m.told → Leaves m.from m.to (MayEndIn c.digest s.stands.stand)) → (IsTrue o.told → Leaves o.from o.to (MayOpenTo c s.stands.out))
    → TwinPart c source d m o P ⊤ s s s [] []
closed_part c source d m o P s cache marks posts = record {
  ordered = refl;
  follow = refl;
  more = ([], λ l at. (l, at, refl));
  later = later_itself s;
  goes = λ is. record { later = omega arith; answers = answers_itself (now s.stands.cabinet).book };
  cache_images = cache;
  marks_along = λ is. leaves_as m.from m.to (MayEndIn c.digest s.stands.stand) (λ image. MayEndIn c.digest s.stands.stand image ⊎ MayEndIn c.digest s.stands.stand image) (marks is) (λ image may. inl may);
  posts_along = posts;
  sound = λ tells is settles sound. inr (tt, sound, tt);
}

-- what was refused at a stop, by the counts of the moment before it
again : (c : Catalogue) (dt mt ot : Bool) (d d' m m' o o' whole whole_m whole_o : DiskState) (nd nd' nm nm' po po' kd km ko : ℕ) (s : TwinMoment) → s.faults.outbox ≡ po → s.faults.marks ≡ nm → s.faults.cabinet ≡ nd → (which : LinkSide) (cause : OpenFault)
    → StaysClosed c (change dt nd nd' d d') (change mt nm nm' m m') (change ot po po' o o') which s cause → RefusesAgain c (change dt kd nd' whole d') (change mt km nm' whole_m m') (change ot ko po' whole_o o') s which cause
again c dt mt ot d d' m m' o o' whole whole_m whole_o nd nd' nm nm' po po' kd km ko s fo fm fd side.Leader cause stays =
    record { seen = o.seen; was_left = stays.posts_seen; refused = subst (λ (x : ℕ). outbox_files.IsRefusedAs ot c o.seen x po' cause) (sym fo) stays.refuses.refused }
again c dt mt ot d d' m m' o o' whole whole_m whole_o nd nd' nm nm' po po' kd km ko s fo fm fd side.Follower cause stays = elim stays.refuses [
  | inl cache ↦ inl (record { seen = d.seen; was_left = stays.cache_seen; refused = subst (λ (x : ℕ). cache_files.IsRefusedAs dt c d.seen x nd' cause) (sym fd) cache.0.refused })
  | inr marks ↦ inr (record { seen = m.seen; was_left = stays.marks_seen; refused = subst (λ (x : ℕ). marks_files.IsRefusedAs mt c.digest m.seen x nm' cause) (sym fm) marks.1.refused })
]

pub left_as : (c : Catalogue) (dt mt ot : Bool) (d d' m m' o o' whole whole_m whole_o : DiskState) (nd nd' nm nm' po po' kd kd' km km' ko ko' : ℕ) (s : TwinStanding) → LeavesTwin c s (change dt nd nd' d d') (change mt nm nm' m m') (change ot po po' o o')
    → LeavesTwin c s (change dt kd kd' whole d') (change mt km km' whole_m m') (change ot ko ko' whole_o o')
left_as c dt mt ot d d' m m' o o' whole whole_m whole_o nd nd' nm nm' po po' kd kd' km km' ko ko' s left = record { same = left.same; cache = left.cache; marks = left.marks; outbox = left.outbox }

-- the lines were run from s to t, where one orders a stop
module _ (c : Catalogue) (source : Option ℕ) (dt mt ot : Bool) (d d1 d2 m m1 m2 o o1 o2 : DiskState) (nd nd1 nd2 nm nm1 nm2 po po1 po2 failed last_failed : ℕ) (P Q : Type 0) (a b : Option (List ℕ)) (wa wb : ℕ) (n : ℕ) (text : List ℕ) (s t : TwinMoment) (before : List (List ℕ)) (steps : List TwinStep) (k : ℕ) (line rest : List ℕ) (which : LinkSide)
    (part : TwinPart c source (passage dt d d1) (passage mt m m1) (passage ot o o1) P Q s t t before steps)
    (split : lines_of text ≡ before ++ line ∷ lines_of rest) (counted : k ≡ n + length before) (reads : order_in c line ≡ Some (order.Stop which)) (written : Appends a b (answers_from n steps))
    (fs : t.faults ≡ record { source = failed; outbox = po1; marks = nm1; cabinet = nd1 }) where
  among : IsAmong (lines_of text) before line
  among = (lines_of rest, split)

  numbered : k ≡ n + length steps
  numbered = let e = ordered_length c before steps part.ordered in counted ∙ ap (λ (x : ℕ). n + x) e

  -- the side was refused
  pub stop_refused : (cause : OpenFault) → StaysClosed c (change dt nd1 nd2 d1 d2) (change mt nm1 nm2 m1 m2) (change ot po1 po2 o1 o2) which t cause → nd1 ≤ nd2 → nm1 ≤ nm2 → po1 ≤ po2 → failed ≤ last_failed
      → RunsText c source last_failed (change dt nd nd2 d d2) (change mt nm nm2 m m2) (change ot po po2 o o2) P (record { writes = counts wa wb; from = a; to = b }) n text s (status_of_opening cause)
  stop_refused cause stays later marks_later posts_later source_later =
      let fo = ap (λ x. x.outbox) fs in
      let fm = ap (λ x. x.marks) fs in
      let fd = ap (λ x. x.cabinet) fs in
      let fr = ap (λ x. x.source) fs in
      let whole = part_then c source dt mt ot d d1 d2 m m1 m2 o o1 o2 P Q ⊤ s t t t before [] steps [] part (closed_part c source (passage dt d1 d2) (passage mt m1 m2) (passage ot o1 o2) Q t stays.cache_images stays.marks_images stays.posts_images) in
      inl (
        cause,
        refl,
        record {
          before = before;
          steps = steps;
          last = t;
          works = record {
            part = subst (λ (x : List TwinStep). TwinPart c source (passage dt d d2) (passage mt m m2) (passage ot o o2) P ⊤ s t t before x) (append-nil steps)
                (subst (λ (x : List (List ℕ)). TwinPart c source (passage dt d d2) (passage mt m m2) (passage ot o o2) P ⊤ s t t x (steps ++ [])) (append-nil before) whole);
            counted = record { source = omega (arith, fr, source_later); cache = omega (arith, fd, later); marks = omega (arith, fm, marks_later); outbox = omega (arith, fo, posts_later) };
            left = left_as c dt mt ot d1 d2 m1 m2 o1 o2 d m o nd1 nd2 nm1 nm2 po1 po2 nd nd2 nm nm2 po po2 t.stands stays.left;
          };
          line = line;
          among = among;
          which = which;
          stops = reads;
          written = written;
          refused = again c dt mt ot d1 d2 m1 m2 o1 o2 d m o nd1 nd2 nm1 nm2 po1 po2 nd nm po t fo fm fd which cause stays;
        },
      )

  -- it was opened again, at u
  module _ (R : Type 0) (u : TwinMoment) (e : Option (List ℕ)) (we : ℕ) (restarts : Restarts c source (change dt nd1 nd2 d1 d2) (change mt nm1 nm2 m1 m2) (change ot po1 po2 o1 o2) Q R which t u) where
    abbrev stop : TwinStep
    stop = record { answer = stopped which; after = u }

    whole_part : TwinPart c source (passage dt d d2) (passage mt m m2) (passage ot o o2) P R s u u (before ++ line ∷ []) (steps ++ stop ∷ [])
    whole_part = part_then c source dt mt ot d d1 d2 m m1 m2 o o1 o2 P Q R s t u u before (line ∷ []) steps (stop ∷ []) part (stop_part c source (change dt nd1 nd2 d1 d2) (change mt nm1 nm2 m1 m2) (change ot po1 po2 o1 o2) Q R which t u line reads restarts)

    pub stop_on : Appends b e (answer_text k (stopped which)) → RunsOn c source (change dt nd nd2 d d2) (change mt nm nm2 m m2) (change ot po po2 o o2) P R (record { writes = counts wa we; from = a; to = e }) n text s u (k + 1) rest
    stop_on told = record {
      before = before ++ line ∷ [];
      steps = steps ++ stop ∷ [];
      part = whole_part;
      split = split ∙ sym (append_assoc before (line ∷ []) (lines_of rest));
      counted = let more = length-append before (line ∷ []) in omega (arith, more, counted);
      written = written_then a b e n k steps (stop ∷ []) written (subst (Appends b e) (sym (append-nil (answer_text k (stopped which)))) told) numbered;
    }

    pub stop_cut : AppendsFront b e (answer_text k (stopped which)) → Rose wa we → LeavesTwin c u.stands (change dt nd2 nd2 d2 d2) (change mt nm2 nm2 m2 m2) (change ot po2 po2 o2 o2) → u.faults ≡ record { source = last_failed; outbox = po2; marks = nm2; cabinet = nd2 }
        → RunsText c source last_failed (change dt nd nd2 d d2) (change mt nm nm2 m m2) (change ot po po2 o o2) P (record { writes = counts wa we; from = a; to = e }) n text s status.WriteFault
    stop_cut front rose left fu =
        let fo = ap (λ x. x.outbox) fu in
        let fm = ap (λ x. x.marks) fu in
        let fd = ap (λ x. x.cabinet) fu in
        let fr = ap (λ x. x.source) fu in
        inr (
          halt.WriteFault,
          refl,
          (
            steps ++ stop ∷ [],
            u,
            u,
            before ++ line ∷ [],
            record {
              part = unsettled c source (passage dt d d2) (passage mt m m2) (passage ot o o2) P R s u u (before ++ line ∷ []) (steps ++ stop ∷ []) whole_part;
              counted = record { source = omega (arith, fr); cache = omega (arith, fd); marks = omega (arith, fm); outbox = omega (arith, fo) };
              left = left_as c dt mt ot d2 d2 m2 m2 o2 o2 d m o nd2 nd2 nm2 nm2 po2 po2 nd nd2 nm nm2 po po2 u.stands left;
            },
            (before, line, among, whole_part.ordered, record { before = steps; last = stop; whole = refl; sent = record { between = b; whole = written; part = subst (λ (x : ℕ). AppendsFront b e (answer_text x (stopped which))) numbered front }; failed = rose }, refl),
          ),
        )

-- THE ENDS OF A STRETCH

lines_in : (c : Catalogue) (n : ℕ) (text : List ℕ) (w : OutputChange) (steps : List TwinStep) (s t : TwinMoment) (h : Halt) → Ends c n text w steps s t h → List (List ℕ)
lines_in c n text w steps s t halt.Done ends = lines_of text
lines_in c n text w steps s t (halt.Line k) ends = ends.0
lines_in c n text w steps s t halt.WriteFault ends = ends.0 ++ ends.1 ∷ []
lines_in c n text w steps s t halt.OutOfMemory ends = ends.0
lines_in c n text w steps s t (halt.Stop which k rest) ends = ends.0

ordered_in : (c : Catalogue) (n : ℕ) (text : List ℕ) (w : OutputChange) (steps : List TwinStep) (s t : TwinMoment) (h : Halt) (ends : Ends c n text w steps s t h) → AreOrdered c (lines_in c n text w steps s t h ends) steps
unfolding lines_in
ordered_in c n text w steps s t halt.Done ends = ends.0
ordered_in c n text w steps s t (halt.Line k) ends = ends.3
ordered_in c n text w steps s t halt.WriteFault ends = ends.3
ordered_in c n text w steps s t halt.OutOfMemory ends = ends.3
ordered_in c n text w steps s t (halt.Stop which k rest) ends = ends.3

nothing_more : (s t : TwinMoment) → t ≡ s → (events : List LinkEvent) × LeadsBy events s.stands t.stands
nothing_more s t same = ([], λ l at. (l, subst (λ (x : TwinMoment). IsAt x.stands l) (sym same) at, refl))

more_in : (c : Catalogue) (n : ℕ) (text : List ℕ) (w : OutputChange) (steps : List TwinStep) (s t : TwinMoment) (h : Halt) → Ends c n text w steps s t h → (events : List LinkEvent) × LeadsBy events s.stands t.stands
more_in c n text w steps s t halt.Done ends = nothing_more s t ends.2
more_in c n text w steps s t (halt.Line k) ends = nothing_more s t ends.7
more_in c n text w steps s t halt.WriteFault ends = nothing_more s t ends.5
more_in c n text w steps s t halt.OutOfMemory ends = (ends.5.starves.events, ends.5.starves.leads)
more_in c n text w steps s t (halt.Stop which k rest) ends = nothing_more s t ends.7

no_later : (s t : TwinMoment) → t ≡ s → IsLater s.faults t.faults
no_later s t same = subst (λ (x : TwinMoment). IsLater s.faults x.faults) (sym same) (later_itself s)

later_in : (c : Catalogue) (n : ℕ) (text : List ℕ) (w : OutputChange) (steps : List TwinStep) (s t : TwinMoment) (h : Halt) → Ends c n text w steps s t h → IsLater s.faults t.faults
later_in c n text w steps s t halt.Done ends = no_later s t ends.2
later_in c n text w steps s t (halt.Line k) ends = no_later s t ends.7
later_in c n text w steps s t halt.WriteFault ends = no_later s t ends.5
later_in c n text w steps s t halt.OutOfMemory ends = ends.5.later
later_in c n text w steps s t (halt.Stop which k rest) ends = no_later s t ends.7

-- the lines ended without a stop, and the twin was closed
pub run_ended : (c : Catalogue) (source : Option ℕ) (dt dt_then mt ot : Bool) (j j' : Journal) (d d' m m' o o' : DiskState) (nd nd' nm nm' po po' failed failed' : ℕ) (w : OutputChange) (n : ℕ) (text : List ℕ) (s t : TwinStanding) (h : Halt) (kept : Status) → IsEndOf h kept
    → HasRunLines c source c.digest (passage mt m m') (passage ot o o') w n text (moment s (faults failed po nm nd)) (moment t (faults failed' po' nm' nd')) h → Lasting (Outlasts dt dt_then nd nd' s.cabinet t.cabinet j j' d d') s.cabinet t.cabinet → s.cabinet.catalogue ≡ c
    → LeavesTwin c t (change dt nd' nd' d' d') (change mt nm' nm' m' m') (change ot po' po' o' o') → RunsText c source failed' (change dt nd nd' d d') (change mt nm nm' m m') (change ot po po' o o') (IsSettled j) w n text (moment s (faults failed po nm nd)) kept
run_ended c source dt dt_then mt ot j j' d d' m m' o o' nd nd' nm nm' po po' failed failed' w n text s t h kept is run lasting same left =
    let before : TwinMoment = moment s (faults failed po nm nd) in
    let after : TwinMoment = moment t (faults failed' po' nm' nd') in
    let lines = lines_in c n text w run.steps run.reached after h run.ends in
    let part = run_part c source dt dt_then mt ot nd nd' j j' d d' m m' o o' w n text before after h run lasting same refl refl lines (ordered_in c n text w run.steps run.reached after h run.ends) (later_in c n text w run.steps run.reached after h run.ends) (more_in c n text w run.steps run.reached after h run.ends) in
    inr (
      h,
      is,
      (
        run.steps,
        run.reached,
        after,
        lines,
        record {
          part = unsettled c source (passage dt d d') (passage mt m m') (passage ot o o') (IsSettled j) (IsSettled j') before run.reached after lines run.steps part;
          counted = record { source = omega arith; cache = omega arith; marks = omega arith; outbox = omega arith };
          left = left_as c dt mt ot d' d' m' m' o' o' d m o nd' nd' nm' nm' po' po' nd nd' nm nm' po po' t left;
        },
        run.ends,
      ),
    )

-- they ended at one that orders a stop
pub run_to_stop : (c : Catalogue) (source : Option ℕ) (dt dt_then mt ot : Bool) (j j' : Journal) (d d' m m' o o' : DiskState) (nd nd' : ℕ) (w : OutputChange) (n : ℕ) (text : List ℕ) (s t : TwinMoment) (h : Halt)
    (run : HasRunLines c source c.digest (passage mt m m') (passage ot o o') w n text s t h) → Lasting (Outlasts dt dt_then nd nd' s.stands.cabinet t.stands.cabinet j j' d d') s.stands.cabinet t.stands.cabinet → s.stands.cabinet.catalogue ≡ c → nd ≡ s.faults.cabinet → nd' ≡ t.faults.cabinet
    → t ≡ run.reached → (lines : List (List ℕ)) → AreOrdered c lines run.steps → TwinPart c source (passage dt d d') (passage mt m m') (passage ot o o') (IsSettled j) (IsSettled j') s t t lines run.steps
run_to_stop c source dt dt_then mt ot j j' d d' m m' o o' nd nd' w n text s t h run lasting same fs ft reached lines ordered =
    subst (λ (x : TwinMoment). TwinPart c source (passage dt d d') (passage mt m m') (passage ot o o') (IsSettled j) (IsSettled j') s x t lines run.steps) (sym reached)
    (run_part c source dt dt_then mt ot nd nd' j j' d d' m m' o o' w n text s t h run lasting same fs ft lines ordered (no_later run.reached t reached) (nothing_more run.reached t reached))

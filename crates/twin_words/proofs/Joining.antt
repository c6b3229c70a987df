-- Stretches behind stretches.
use Rattle.std.specs.Prelude.{⊤}
use Rattle.std.proofs.Common.{◌≡◌, ℕ, ◌+◌, ◌-◌, ◌^◌, ◌<◌, ◌≤◌, Bool, List, [], ◌∷◌, ◌++◌, length, Option, refl, sym, subst, ap, ◌∙◌, arith, append_assoc, inl, inr}
use Rattle.std.proofs.lemmas.List.{length-append}
use Rattle.std.specs.Io.KnownBytes.{Appends}
use Rattle.catalog.specs.declared.catalogue.Catalogue.{Catalogue}
use Rattle.disk_model.specs.Content.{Content}
use Rattle.disk_model.specs.Images.{DiskState, Leaves}
use Rattle.disk_model.specs.Moments.{leaves_none}
use Rattle.gate_journal.specs.declared.fault.OpenFault.{OpenFault}
use Rattle.http_wire.proofs.TakesOn.{rose_before}
use Rattle.command_status.specs.declared.status.Status.{Status}
use Rattle.tile_requests.specs.Sent.{AppendsFront}
use Rattle.tile_requests.proofs.Known.{appends_nothing}
use Rattle.tile_service.specs.Lines.{lines_of}
use Rattle.sessions.specs.Outside.{InputChange, counts}
use Rattle.twin_lines.specs.declared.lines.Halt.{Halt}
use Rattle.twin_lines.specs.declared.lines.Halt.TheVariants as halt
use Rattle.twin_lines.specs.declared.order.LinkSide.{LinkSide}
use Rattle.twin_lines.specs.declared.order.LinkSide.TheVariants as side
use Rattle.twin_lines.specs.Ends.{AreOrdered, Ends, IsAmong, IsCutInLast}
use Rattle.twin_lines.specs.Steps.{TwinMoment, TwinStep}
use Rattle.twin_lines.specs.Texts.{answer_text, answers_from}
use Rattle.twin_words.proofs.Going.{no_part, ordered_length, ordered_then, part_then, weight_counts, weight_of_text, weight_then, written_then}
use Rattle.twin_words.proofs.Stretching.{change, left_as}
use Rattle.base.specs.Causes.{Rose}
use Rattle.http_wire.specs.declared.inputs.InputEnd.{InputEnd}
use Rattle.http_wire.specs.declared.inputs.InputEnd.TheVariants as input_end
use Rattle.twin_words.specs.Ends.{IsTooLong, RefusesAgain}
use Rattle.twin_words.specs.Works.{IsEndOf, IsUnread, RunsOn, RunsText, TwinWorks, weight}

-- nothing was run yet
pub nothing_on : (c : Catalogue) (source : Option ℕ) (dt mt ot : Bool) (d m o : DiskState) (nd nm po : ℕ) (P : Type 0) (a : Option (List ℕ)) (wa : ℕ) (text : List ℕ) (s : TwinMoment)
    → RunsOn c source (change dt nd nd d d) (change mt nm nm m m) (change ot po po o o) P P (record { writes = counts wa wa; from = a; to = a }) 1 text s s 1 text
nothing_on c source dt mt ot d m o nd nm po P a wa text s = record {
  before = [];
  steps = [];
  part = no_part c source dt mt ot d m o P s;
  split = refl;
  counted = refl;
  written = appends_nothing a;
}

again_as : (c : Catalogue) (dt mt ot : Bool) (d d' m m' o o' old old_m old_o : DiskState) (nd nd' nm nm' po po' kd km ko : ℕ) (s : TwinMoment) (which : LinkSide) (cause : OpenFault) → RefusesAgain c (change dt nd nd' d d') (change mt nm nm' m m') (change ot po po' o o') s which cause
    → RefusesAgain c (change dt kd nd' old d') (change mt km nm' old_m m') (change ot ko po' old_o o') s which cause
again_as c dt mt ot d d' m m' o o' old old_m old_o nd nd' nm nm' po po' kd km ko s side.Leader cause r = record { seen = r.seen; was_left = r.was_left; refused = r.refused }
again_as c dt mt ot d d' m m' o o' old old_m old_o nd nd' nm nm' po po' kd km ko s side.Follower cause (inl r) = inl (record { seen = r.seen; was_left = r.was_left; refused = r.refused })
again_as c dt mt ot d d' m m' o o' old old_m old_o nd nd' nm nm' po po' kd km ko s side.Follower cause (inr r) = inr (record { seen = r.seen; was_left = r.was_left; refused = r.refused })

module _ (c : Catalogue) (source : Option ℕ) (dt mt ot : Bool) (d d1 d2 m m1 m2 o o1 o2 : DiskState) (nd nd1 nd2 nm nm1 nm2 po po1 po2 failed : ℕ) (P Q : Type 0) (a b e : Option (List ℕ)) (wa wb we : ℕ) (text rest : List ℕ) (s t : TwinMoment) (line : ℕ)
    (f : RunsOn c source (change dt nd nd1 d d1) (change mt nm nm1 m m1) (change ot po po1 o o1) P Q (record { writes = counts wa wb; from = a; to = b }) 1 text s t line rest) where
  numbered : line ≡ 1 + length f.steps
  numbered = let k = ordered_length c f.before f.steps f.part.ordered in f.counted ∙ ap (λ (x : ℕ). 1 + x) k

  joined_among : (before : List (List ℕ)) (here : List ℕ) → IsAmong (lines_of rest) before here → IsAmong (lines_of text) (f.before ++ before) here
  joined_among before here among = (among.0, f.split ∙ ap (λ (xs : List (List ℕ)). f.before ++ xs) among.1 ∙ sym (append_assoc f.before before (here ∷ among.0)))

  joined_number : (n : ℕ) (before : List (List ℕ)) → n ≡ line + length before → n ≡ 1 + length (f.before ++ before)
  joined_number n before is = let more = length-append f.before before in let first = f.counted in omega (arith, is, more, first)

  joined_written : (steps : List TwinStep) → Appends b e (answers_from line steps) → Appends a e (answers_from 1 (f.steps ++ steps))
  joined_written steps written = written_then a b e 1 line f.steps steps f.written written numbered

  -- a stretch more
  pub on_then : (R : Type 0) (u : TwinMoment) (k : ℕ) (next : List ℕ) → RunsOn c source (change dt nd1 nd2 d1 d2) (change mt nm1 nm2 m1 m2) (change ot po1 po2 o1 o2) Q R (record { writes = counts wb we; from = b; to = e }) line rest t u k next
      → RunsOn c source (change dt nd nd2 d d2) (change mt nm nm2 m m2) (change ot po po2 o o2) P R (record { writes = counts wa we; from = a; to = e }) 1 text s u k next
  on_then R u k next g = record {
    before = f.before ++ g.before;
    steps = f.steps ++ g.steps;
    part = part_then c source dt mt ot d d1 d2 m m1 m2 o o1 o2 P Q R s t u u f.before g.before f.steps g.steps f.part g.part;
    split = f.split ∙ ap (λ (xs : List (List ℕ)). f.before ++ xs) g.split ∙ sym (append_assoc f.before g.before (lines_of next));
    counted = joined_number k g.before g.counted;
    written = joined_written g.steps g.written;
  }

  joined_works : (reached last : TwinMoment) (lines : List (List ℕ)) (steps : List TwinStep) → TwinWorks c source failed (change dt nd1 nd2 d1 d2) (change mt nm1 nm2 m1 m2) (change ot po1 po2 o1 o2) Q t reached last lines steps
      → TwinWorks c source failed (change dt nd nd2 d d2) (change mt nm nm2 m m2) (change ot po po2 o o2) P s reached last (f.before ++ lines) (f.steps ++ steps)
  joined_works reached last lines steps w = record {
    part = part_then c source dt mt ot d d1 d2 m m1 m2 o o1 o2 P Q ⊤ s t reached last f.before lines f.steps steps f.part w.part;
    counted = record { source = w.counted.source; cache = w.counted.cache; marks = w.counted.marks; outbox = w.counted.outbox };
    left = left_as c dt mt ot d1 d2 m1 m2 o1 o2 d m o nd1 nd2 nm1 nm2 po1 po2 nd nd2 nm nm2 po po2 last.stands w.left;
  }

  -- ends of the first steps, and then of the next ones
  joined_cut : (steps : List TwinStep) → wb ≡ wb → IsCutInLast line (record { writes = counts wb we; from = b; to = e }) steps → wa ≤ wb → IsCutInLast 1 (record { writes = counts wa we; from = a; to = e }) (f.steps ++ steps)
  joined_cut steps same cut later = record {
    before = f.steps ++ cut.before;
    last = cut.last;
    whole = ap (λ (xs : List TwinStep). f.steps ++ xs) cut.whole ∙ sym (append_assoc f.steps cut.before (cut.last ∷ []));
    sent = record {
      between = cut.sent.between;
      whole = written_then a b cut.sent.between 1 line f.steps cut.before f.written cut.sent.whole numbered;
      part = subst (λ (x : ℕ). AppendsFront cut.sent.between e (answer_text x cut.last.answer)) (let more = length-append f.steps cut.before in let first = numbered in omega (arith, more, first)) cut.sent.part;
    };
    failed = rose_before (2 ^ 64 - 1) wa wb we later cut.failed;
  }

  joined_ends : (h : Halt) (kept : Status) → IsEndOf h kept → wa ≤ wb → (steps : List TwinStep) (reached last : TwinMoment) → Ends c line rest (record { writes = counts wb we; from = b; to = e }) steps reached last h
      → Ends c 1 text (record { writes = counts wa we; from = a; to = e }) (f.steps ++ steps) reached last h
  joined_ends halt.Done kept is later steps reached last ends = (
    subst (λ (xs : List (List ℕ)). AreOrdered c xs (f.steps ++ steps)) (sym f.split) (ordered_then c f.before (lines_of rest) f.steps steps f.part.ordered ends.0),
    joined_written steps ends.1,
    ends.2,
  )
  joined_ends (halt.Line n) kept is later steps reached last (before, here, among, ordered, counted, none, written, same) = (
    f.before ++ before,
    here,
    joined_among before here among,
    ordered_then c f.before before f.steps steps f.part.ordered ordered,
    joined_number n before counted,
    none,
    joined_written steps written,
    same,
  )
  joined_ends halt.WriteFault kept is later steps reached last (before, here, among, ordered, cut, same) = (
    f.before ++ before,
    here,
    joined_among before here among,
    subst (λ (xs : List (List ℕ)). AreOrdered c xs (f.steps ++ steps)) (sym (append_assoc f.before before (here ∷ []))) (ordered_then c f.before (before ++ here ∷ []) f.steps steps f.part.ordered ordered),
    joined_cut steps refl cut later,
    same,
  )
  joined_ends halt.OutOfMemory kept is later steps reached last (before, here, among, ordered, written, short) = (
    f.before ++ before,
    here,
    joined_among before here among,
    ordered_then c f.before before f.steps steps f.part.ordered ordered,
    joined_written steps written,
    short,
  )
  joined_ends (halt.Stop which n next) kept is later steps reached last ends = absurd is

  -- the last stretch
  pub text_then : (kept : Status) → wa ≤ wb → RunsText c source failed (change dt nd1 nd2 d1 d2) (change mt nm1 nm2 m1 m2) (change ot po1 po2 o1 o2) Q (record { writes = counts wb we; from = b; to = e }) line rest t kept
      → RunsText c source failed (change dt nd nd2 d d2) (change mt nm nm2 m m2) (change ot po po2 o o2) P (record { writes = counts wa we; from = a; to = e }) 1 text s kept
  text_then kept later (inl (cause, is, g)) = inl (
    cause,
    is,
    record {
      before = f.before ++ g.before;
      steps = f.steps ++ g.steps;
      last = g.last;
      works = joined_works g.last g.last g.before g.steps g.works;
      line = g.line;
      among = joined_among g.before g.line g.among;
      which = g.which;
      stops = g.stops;
      written = joined_written g.steps g.written;
      refused = again_as c dt mt ot d1 d2 m1 m2 o1 o2 d m o nd1 nd2 nm1 nm2 po1 po2 nd nm po g.last g.which cause g.refused;
    },
  )
  text_then kept later (inr (h, is, (steps, reached, last, lines, works, ends))) = inr (h, is, (f.steps ++ steps, reached, last, f.before ++ lines, joined_works reached last lines steps works, joined_ends h kept is later steps reached last ends))

  -- how much is left
  pub on_few : length text ≤ 16777216 → line + weight (lines_of rest) < 2 ^ 63
  on_few short =
      let all = weight_of_text text in
      let split = ap weight f.split ∙ weight_then f.before (lines_of rest) in
      let counts_before = weight_counts f.before in
      let counted = f.counted in
      omega (arith, all, split, counts_before, counted, short)

-- why an input wasn't read
pub unread_by : (i : InputChange) (why : InputEnd) → (why ≡ input_end.ReadFault → Rose i.reads.before i.reads.after) → (why ≡ input_end.TooLong → IsTooLong i) → IsUnread i why
unread_by i input_end.ReadFault fault long = fault refl
unread_by i input_end.TooLong fault long = long refl
unread_by i input_end.OutOfMemory fault long = tt

-- a disk that is as it was
pub same_leaves : {D : Type 0} (state : D → DiskState) (d d' : D) (P : Content → Type 0) → d' ≡ d → Leaves (state d) (state d') P
same_leaves {D} state d d' P same = subst (λ (x : D). Leaves (state d) (state x) P) (sym same) (leaves_none (state d) P)

pub same_count : {D : Type 0} (count : D → ℕ) (d d' : D) → d' ≡ d → count d ≤ count d'
same_count {D} count d d' same = let e = ap count same in omega (arith, e)

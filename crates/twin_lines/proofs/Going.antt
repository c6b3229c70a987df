-- How far the lines of a twin have come, one line more, and their ends.
use Rattle.std.specs.Prelude.{IsTrue}
use Rattle.std.proofs.Common.{◌≡◌, ◌⊎◌, ℕ, ◌+◌, ◌-◌, ◌^◌, ◌≤◌, Bool, List, [], ◌∷◌, ◌++◌, length, map, Option, Some, refl, sym, subst, ap, ◌∙◌, arith, append_assoc, append-nil, inl, inr}
use Rattle.std.specs.Borrow.{Bor}
use Rattle.std.specs.Io.KnownBytes.{Appends}
use Rattle.std.proofs.lemmas.List.{length-append, map-append}
use Rattle.cabinet.specs.State.{IsSound}
use Rattle.catalog.specs.declared.catalogue.Catalogue.{Catalogue}
use Rattle.change_feed.specs.Files.{MayEndIn, Stand}
use Rattle.disk_model.specs.Content.{Content}
use Rattle.disk_model.specs.Images.{DiskState, Leaves}
use Rattle.disk_model.specs.Moments.{leaves_as, leaves_none, leaves_then}
use Rattle.http_wire.proofs.TakesOn.{rose_before}
use Rattle.sessions.specs.Outside.{OutputChange, counts}
use Rattle.matrix_geometry.specs.declared.address.Address.{Address}
use Rattle.outbox.specs.Files.{MayOpenTo}
use Rattle.outbox.specs.Posts.{Outgoing}
use Rattle.tile_requests.specs.Sent.{AppendsFront}
use Rattle.tile_requests.proofs.Known.{appends_more, appends_nothing}
use Rattle.tile_service.specs.Lines.{lines_of}
use Rattle.twin_events.specs.declared.got.Got.{Got}
use Rattle.twin_events.specs.declared.got.Got.TheVariants as got
use Rattle.twin_events.specs.Gets.{Failures, Gets}
use Rattle.twin_events.specs.Twins.{IsTwinReady, TwinStanding}
use Rattle.twin_lines.specs.declared.line_end.TwinLineEnd.{TwinLineEnd}
use Rattle.twin_lines.specs.declared.line_end.TwinLineEnd.TheVariants as line_end
use Rattle.twin_lines.specs.declared.lines.Halt.TheVariants as halt
use Rattle.twin_lines.specs.declared.order.TwinOrder.{TwinOrder}
use Rattle.twin_lines.specs.declared.order.LinkSide.{LinkSide}
use Rattle.twin_lines.specs.Ends.{AreOrdered, DiskPassage, HasRunLines, passage}
use Rattle.twin_lines.specs.OneLine.{GoesTo, IsLineAnswered, RunsOrder}
use Rattle.twin_lines.specs.Orders.{order_in}
use Rattle.twin_lines.specs.Steps.{AreTrue, Follow, IsLater, IsPicture, IsTrueAnswer, MayEndAlong, MayOpenAlong, MayOpenWhile, Runs, TwinAnswer, TwinMoment, TwinStep, answered, carried, order_of, posted, sent, stopped}
use Rattle.twin_lines.specs.Texts.{answer_text, answers_from}

-- ONE STEP MORE

pub follow_more : (told : Bool) (source : Option ℕ) (s m t : TwinMoment) (steps : List TwinStep) (answer : TwinAnswer) → Follow told source s steps m → Runs told source m answer t → IsLater m.faults t.faults
    → Follow told source s (steps ++ record { answer = answer; after = t } ∷ []) t
follow_more told source s m t [] answer f runs later = subst (λ (x : TwinMoment). Runs told source x answer t × IsLater x.faults t.faults × (t ≡ t)) f (runs, later, refl)
follow_more told source s m t (step ∷ steps) answer f runs later = (f.0, f.1, follow_more told source step.after m t steps answer f.2 runs later)

abbrev ordered_by : TwinStep → Option TwinOrder
ordered_by step = Some (order_of step.answer)

order_more : (c : Catalogue) (lines : List (List ℕ)) (steps : List TwinStep) (line : List ℕ) (step : TwinStep) → AreOrdered c lines steps → order_in c line ≡ Some (order_of step.answer) → AreOrdered c (lines ++ line ∷ []) (steps ++ step ∷ [])
order_more c lines steps line step order reads =
    map-append (order_in c) lines (line ∷ [])
    ∙ ap (λ (xs : List (Option TwinOrder)). xs ++ order_in c line ∷ []) order
    ∙ ap (λ (x : Option TwinOrder). map ordered_by steps ++ x ∷ []) reads
    ∙ sym (map-append ordered_by steps (step ∷ []))

pub answers_append : (n : ℕ) (steps more : List TwinStep) → answers_from n (steps ++ more) ≡ answers_from n steps ++ answers_from (n + length steps) more
answers_append n [] more = ap (λ (k : ℕ). answers_from k more) (omega arith)
answers_append n (step ∷ steps) more =
    ap (λ (xs : List ℕ). answer_text n step.answer ++ xs) (answers_append (n + 1) steps more ∙ ap (λ (k : ℕ). answers_from (n + 1) steps ++ answers_from k more) (omega arith))
    ∙ sym (append_assoc (answer_text n step.answer) (answers_from (n + 1) steps) (answers_from (n + length (step ∷ steps)) more))

answers_more : (n k : ℕ) (a b d : Option (List ℕ)) (steps : List TwinStep) (step : TwinStep) → k ≡ n + length steps → Appends a b (answers_from n steps) → Appends b d (answer_text k step.answer) → Appends a d (answers_from n (steps ++ step ∷ []))
answers_more n k a b d steps step at written more =
    subst (Appends a d) (sym (answers_append n steps (step ∷ [])))
    (appends_more a b d (answers_from n steps) (answers_from (n + length steps) (step ∷ [])) written
    (subst (Appends b d) (ap (λ (i : ℕ). answer_text i step.answer) at ∙ sym (append-nil (answer_text (n + length steps) step.answer))) more))

true_more : (c : Catalogue) (steps : List TwinStep) (step : TwinStep) → AreTrue c steps → IsTrueAnswer c step.answer → AreTrue c (steps ++ step ∷ [])
true_more c [] step all one = (one, tt)
true_more c (first ∷ steps) step all one = (all.0, true_more c steps step all.1 one)

-- IMAGES OF THE MARKS

ends_more : (digest : List ℕ) (s : Stand) (steps : List TwinStep) (step : TwinStep) (image : Content) → MayEndAlong digest s steps image → MayEndAlong digest s (steps ++ step ∷ []) image
ends_more digest s [] step image may = inl may
ends_more digest s (first ∷ steps) step image (inl may) = inl may
ends_more digest s (first ∷ steps) step image (inr may) = inr (ends_more digest first.after.stands.stand steps step image may)

ends_here : (told : Bool) (source : Option ℕ) (digest : List ℕ) (s m : TwinMoment) (steps : List TwinStep) (image : Content) → Follow told source s steps m → MayEndIn digest m.stands.stand image → MayEndAlong digest s.stands.stand steps image
ends_here told source digest s m [] image f may = subst (λ (x : TwinMoment). MayEndIn digest x.stands.stand image) f may
ends_here told source digest s m (first ∷ steps) image f may = inr (ends_here told source digest first.after m steps image f.2 may)

ends_next : (digest : List ℕ) (s : Stand) (steps : List TwinStep) (step : TwinStep) (image : Content) → MayEndIn digest step.after.stands.stand image → MayEndAlong digest s (steps ++ step ∷ []) image
ends_next digest s [] step image may = inr may
ends_next digest s (first ∷ steps) step image may = inr (ends_next digest first.after.stands.stand steps step image may)

-- IMAGES OF THE OUTBOX

open_while : (c : Catalogue) (s : Outgoing) (answer : TwinAnswer) (image : Content) → MayOpenTo c s image → MayOpenWhile c s answer image
open_while c s (posted cover reply) image may = inl may
open_while c s (sent place) image may = may
open_while c s (carried place arrival) image may = may
open_while c s (stopped which) image may = may
open_while c s (answered address reply) image may = may

opens_more : (c : Catalogue) (s : Outgoing) (steps : List TwinStep) (step : TwinStep) (image : Content) → MayOpenAlong c s steps image → MayOpenAlong c s (steps ++ step ∷ []) image
opens_more c s [] step image may = inl (open_while c s step.answer image may)
opens_more c s (first ∷ steps) step image (inl may) = inl may
opens_more c s (first ∷ steps) step image (inr may) = inr (opens_more c first.after.stands.out steps step image may)

opens_here : (told : Bool) (source : Option ℕ) (c : Catalogue) (s m : TwinMoment) (steps : List TwinStep) (image : Content) → Follow told source s steps m → MayOpenTo c m.stands.out image → MayOpenAlong c s.stands.out steps image
opens_here told source c s m [] image f may = subst (λ (x : TwinMoment). MayOpenTo c x.stands.out image) f may
opens_here told source c s m (first ∷ steps) image f may = inr (opens_here told source c first.after m steps image f.2 may)

opens_next : (told : Bool) (source : Option ℕ) (c : Catalogue) (s m : TwinMoment) (steps : List TwinStep) (step : TwinStep) (image : Content) → Follow told source s steps m → MayOpenWhile c m.stands.out step.answer image
    → MayOpenAlong c s.stands.out (steps ++ step ∷ []) image
opens_next told source c s m [] step image f may = inl (subst (λ (x : TwinMoment). MayOpenWhile c x.stands.out step.answer image) f may)
opens_next told source c s m (first ∷ steps) step image f may = inr (opens_next told source c first.after m steps step image f.2 may)

-- PICTURES

true_picture : (c : Catalogue) (source : Option ℕ) (s t : TwinStanding) (before after : Failures) (address : Address) (reply : Got) → Gets source s before address reply t after → s.cabinet.catalogue ≡ c → source ≡ Some c.source → IsSound s.cabinet → IsPicture c address reply
true_picture c source s t before after address (got.Tile tile) gets same told sound =
    subst (λ (x : Catalogue). IsPicture x address (got.Tile tile)) same (gets.answered.truth (subst (λ (x : Catalogue). source ≡ Some x.source) (sym same) told) sound)
true_picture c source s t before after address got.SourceFault gets same told sound = tt
true_picture c source s t before after address got.Spent gets same told sound = tt

true_answer : (c : Catalogue) (modelled : Bool) (source : Option ℕ) (s t : TwinMoment) (answer : TwinAnswer) → Runs modelled source s answer t → s.stands.cabinet.catalogue ≡ c → source ≡ Some c.source → IsSound s.stands.cabinet → IsTrueAnswer c answer
true_answer c modelled source s t (posted cover reply) runs same told sound = tt
true_answer c modelled source s t (sent place) runs same told sound = tt
true_answer c modelled source s t (carried place arrival) runs same told sound = tt
true_answer c modelled source s t (stopped which) runs same told sound = tt
true_answer c modelled source s t (answered address reply) runs same told sound = true_picture c source s.stands t.stands _ _ address reply runs same told sound

-- HOW FAR

-- since the start so many lines of the text are done, and the rest is not
pub record SoFar (c : Catalogue) (source : Option ℕ) (digest : List ℕ) (marks outbox : DiskPassage) (taken taken_now : Option (List ℕ)) (start : ℕ) (text : List ℕ) (s m : TwinMoment) (number : ℕ) (rest : List ℕ) : Type 0 where
  pub before : List (List ℕ)
  pub steps : List TwinStep
  pub split : lines_of text ≡ before ++ lines_of rest
  pub counted : number ≡ start + length before
  pub even : length steps ≡ length before
  pub order : AreOrdered c before steps
  pub follow : (told : Bool) → Follow told source s steps m
  pub written : Appends taken taken_now (answers_from start steps)
  pub truth : source ≡ Some c.source → IsSound s.stands.cabinet → AreTrue c steps
  pub still_sound : source ≡ Some c.source → IsSound s.stands.cabinet → IsSound m.stands.cabinet
  pub marks_along : IsTrue marks.told → Leaves marks.from marks.to (MayEndAlong digest s.stands.stand steps)
  pub posts_along : IsTrue outbox.told → Leaves outbox.from outbox.to (MayOpenAlong c s.stands.out steps)

pub far_start : (c : Catalogue) (source : Option ℕ) (digest : List ℕ) (marks_told posts_told : Bool) (marks outbox : DiskState) (taken : Option (List ℕ)) (start : ℕ) (text : List ℕ) (s : TwinMoment)
    → SoFar c source digest (passage marks_told marks marks) (passage posts_told outbox outbox) taken taken start text s s start text
far_start c source digest marks_told posts_told marks outbox taken start text s = record {
  before = [];
  steps = [];
  split = refl;
  counted = omega arith;
  even = refl;
  order = refl;
  follow = λ told. refl;
  written = appends_nothing taken;
  truth = λ told sound. tt;
  still_sound = λ told sound. sound;
  marks_along = λ is. leaves_none marks (MayEndIn digest s.stands.stand);
  posts_along = λ is. leaves_none outbox (MayOpenTo c s.stands.out);
}

no_rest : (rest : List ℕ) → length rest ≡ 0 → lines_of rest ≡ []
no_rest [] e = refl
no_rest (b ∷ bs) e = absurd (omega arith)

-- no line is left
pub far_done : (c : Catalogue) (source : Option ℕ) (digest : List ℕ) (marks outbox : DiskPassage) (o : OutputChange) (start : ℕ) (text rest : List ℕ) (s t : TwinMoment) (number : ℕ)
    → SoFar c source digest marks outbox o.from o.to start text s t number rest → length rest ≡ 0 → HasRunLines c source digest marks outbox o start text s t halt.Done
far_done c source digest marks outbox o start text rest s t number f none =
    let all : lines_of text ≡ f.before = f.split ∙ ap (λ (xs : List (List ℕ)). f.before ++ xs) (no_rest rest none) ∙ append-nil f.before in
    record {
      steps = f.steps;
      reached = t;
      follow = f.follow;
      ends = (subst (λ (xs : List (List ℕ)). AreOrdered c xs f.steps) (sym all) f.order, f.written, refl);
      truth = f.truth;
      still_sound = f.still_sound;
      marks_along = λ is. leaves_as marks.from marks.to (MayEndAlong digest s.stands.stand f.steps) (λ image. MayEndAlong digest s.stands.stand f.steps image ⊎ MayEndIn digest t.stands.stand image) (f.marks_along is) (λ image may. inl may);
      posts_along = f.posts_along;
    }

module _ (c c' : Catalogue) (source source' : Option ℕ) (digest digest' : List ℕ) (mt mt' pt pt' : Bool) (m_from m_mid m_to o_from o_mid o_to : DiskState) (taken taken_mid taken_now : Option (List ℕ)) (writes mid_writes now_writes start : ℕ) (text line rest next : List ℕ) (s m t : TwinMoment) (number : ℕ) (Stays : Type 0)
    (f : SoFar c source digest (passage mt m_from m_mid) (passage pt o_from o_mid) taken taken_mid start text s m number rest) (split : lines_of rest ≡ line ∷ lines_of next)
    (same_c : c' ≡ c) (same_source : source' ≡ source) (same_digest : digest' ≡ digest) (same_mt : mt' ≡ mt) (same_pt : pt' ≡ pt)
    (ready : IsTwinReady c' m.stands) (goes' : GoesTo c' source' digest' (passage mt' m_mid m_to) m t) where
  abbrev o_line : OutputChange
  o_line = record { writes = counts mid_writes now_writes; from = taken_mid; to = taken_now }

  abbrev o_all : OutputChange
  o_all = record { writes = counts writes now_writes; from = taken; to = taken_now }

  -- what a line came to, said of the catalogue, the source and the disk of the start
  abbrev Ran : TwinLineEnd → Type 0
  Ran end = RunsOrder c source (passage pt o_mid o_to) (order_in c line) number o_line Stays m t end

  abbrev Ran' : TwinLineEnd → Type 0
  Ran' end = RunsOrder c' source' (passage pt' o_mid o_to) (order_in c' line) number o_line Stays m t end

  pub ran_same : (end : TwinLineEnd) → Ran' end → Ran end
  ran_same end ran =
      subst (λ (x : Bool). RunsOrder c source (passage x o_mid o_to) (order_in c line) number o_line Stays m t end) same_pt
      (subst (λ (x : Option ℕ). RunsOrder c x (passage pt' o_mid o_to) (order_in c line) number o_line Stays m t end) same_source
      (subst (λ (x : Catalogue). RunsOrder x source' (passage pt' o_mid o_to) (order_in x line) number o_line Stays m t end) same_c ran))

  goes : GoesTo c source digest (passage mt m_mid m_to) m t
  goes =
      subst (λ (x : Bool). GoesTo c source digest (passage x m_mid m_to) m t) same_mt
      (subst (λ (x : List ℕ). GoesTo c source x (passage mt' m_mid m_to) m t) same_digest
      (subst (λ (x : Option ℕ). GoesTo c x digest' (passage mt' m_mid m_to) m t) same_source
      (subst (λ (x : Catalogue). GoesTo x source' digest' (passage mt' m_mid m_to) m t) same_c goes')))

  split_here : lines_of text ≡ f.before ++ line ∷ lines_of next
  split_here = f.split ∙ ap (λ (xs : List (List ℕ)). f.before ++ xs) split

  at_number : number ≡ start + length f.steps
  at_number = let e = f.even in let k = f.counted in omega (arith, e, k)

  sound_then : source ≡ Some c.source → IsSound s.stands.cabinet → IsSound t.stands.cabinet
  sound_then told sound = goes.still_sound told (f.still_sound told sound)

  module _ (answer : TwinAnswer) (is : IsLineAnswered c source (passage pt o_mid o_to) (order_in c line) m answer t) where
    abbrev step : TwinStep
    step = record { answer = answer; after = t }

    abbrev steps : List TwinStep
    steps = f.steps ++ step ∷ []

    step_marks : IsTrue mt → Leaves m_from m_to (MayEndAlong digest s.stands.stand steps)
    step_marks told =
        leaves_then m_from m_mid m_to (MayEndAlong digest s.stands.stand steps)
        (leaves_as m_from m_mid (MayEndAlong digest s.stands.stand f.steps) (MayEndAlong digest s.stands.stand steps) (f.marks_along told) (ends_more digest s.stands.stand f.steps step))
        (leaves_as m_mid m_to (λ image. MayEndIn digest m.stands.stand image ⊎ MayEndIn digest t.stands.stand image) (MayEndAlong digest s.stands.stand steps) (goes.images told) (λ image may. elim may [
          | inl here ↦ ends_more digest s.stands.stand f.steps step image (ends_here mt source digest s m f.steps image (f.follow mt) here)
          | inr there ↦ ends_next digest s.stands.stand f.steps step image there
        ]))

    step_posts : IsTrue pt → Leaves o_from o_to (MayOpenAlong c s.stands.out steps)
    step_posts told =
        leaves_then o_from o_mid o_to (MayOpenAlong c s.stands.out steps)
        (leaves_as o_from o_mid (MayOpenAlong c s.stands.out f.steps) (MayOpenAlong c s.stands.out steps) (f.posts_along told) (opens_more c s.stands.out f.steps step))
        (leaves_as o_mid o_to (MayOpenWhile c m.stands.out answer) (MayOpenAlong c s.stands.out steps) (is.posts told) (λ image may. opens_next pt source c s m f.steps step image (f.follow pt) may))

    step_follow : (told : Bool) → Follow told source s steps t
    step_follow told = follow_more told source s m t f.steps answer (f.follow told) (is.runs told) goes.later

    step_order : AreOrdered c (f.before ++ line ∷ []) steps
    step_order = order_more c f.before f.steps line step f.order is.asked

    step_truth : source ≡ Some c.source → IsSound s.stands.cabinet → AreTrue c steps
    step_truth told sound = true_more c f.steps step (f.truth told sound) (true_answer c pt source m t answer (is.runs pt) (ready.same ∙ same_c) told (f.still_sound told sound))

    next_by : Appends taken_mid taken_now (answer_text number answer) → SoFar c source digest (passage mt m_from m_to) (passage pt o_from o_to) taken taken_now start text s t (number + 1) next
    next_by went = record {
      before = f.before ++ line ∷ [];
      steps = steps;
      split = split_here ∙ sym (append_assoc f.before (line ∷ []) (lines_of next));
      counted = let e = length-append f.before (line ∷ []) in let k = f.counted in omega (arith, e, k);
      even = let e = length-append f.before (line ∷ []) in let d = length-append f.steps (step ∷ []) in let k = f.even in omega (arith, e, d, k);
      order = step_order;
      follow = step_follow;
      written = answers_more start number taken taken_mid taken_now f.steps step at_number f.written went;
      truth = step_truth;
      still_sound = sound_then;
      marks_along = step_marks;
      posts_along = step_posts;
    }

  pub far_next : Ran' line_end.Told → SoFar c source digest (passage mt m_from m_to) (passage pt o_from o_to) taken taken_now start text s t (number + 1) next
  far_next ran' = let ran = ran_same line_end.Told ran' in next_by ran.0 ran.1 ran.2

  pub far_cut : writes ≤ mid_writes → Ran' line_end.WriteFault → HasRunLines c source digest (passage mt m_from m_to) (passage pt o_from o_to) o_all start text s t halt.WriteFault
  far_cut later ran' =
      let ran = ran_same line_end.WriteFault ran' in
      let made : TwinStep = record { answer = ran.0; after = t } in
      record {
        steps = f.steps ++ made ∷ [];
        reached = t;
        follow = step_follow ran.0 ran.1;
        ends = (
          f.before,
          line,
          (lines_of next, split_here),
          step_order ran.0 ran.1,
          record {
            before = f.steps;
            last = made;
            whole = refl;
            sent = record { between = taken_mid; whole = f.written; part = subst (λ (i : ℕ). AppendsFront taken_mid taken_now (answer_text i ran.0)) at_number ran.2.0 };
            failed = rose_before (2 ^ 64 - 1) writes mid_writes now_writes later ran.2.1;
          },
          refl,
        );
        truth = step_truth ran.0 ran.1;
        still_sound = sound_then;
        marks_along = λ told. leaves_as m_from m_to (MayEndAlong digest s.stands.stand (f.steps ++ made ∷ [])) (λ image. MayEndAlong digest s.stands.stand (f.steps ++ made ∷ []) image ⊎ MayEndIn digest t.stands.stand image) (step_marks ran.0 ran.1 told) (λ image may. inl may);
        posts_along = step_posts ran.0 ran.1;
      }

  -- where nothing more was made
  abbrev QuietPosts : Type 0
  QuietPosts = IsTrue pt → Leaves o_mid o_to (MayOpenTo c m.stands.out)

  stay_marks : IsTrue mt → Leaves m_from m_to (λ image. MayEndAlong digest s.stands.stand f.steps image ⊎ MayEndIn digest t.stands.stand image)
  stay_marks told =
      leaves_then m_from m_mid m_to (λ image. MayEndAlong digest s.stands.stand f.steps image ⊎ MayEndIn digest t.stands.stand image)
      (leaves_as m_from m_mid (MayEndAlong digest s.stands.stand f.steps) (λ image. MayEndAlong digest s.stands.stand f.steps image ⊎ MayEndIn digest t.stands.stand image) (f.marks_along told) (λ image may. inl may))
      (leaves_as m_mid m_to (λ image. MayEndIn digest m.stands.stand image ⊎ MayEndIn digest t.stands.stand image) (λ image. MayEndAlong digest s.stands.stand f.steps image ⊎ MayEndIn digest t.stands.stand image) (goes.images told) (λ image may. elim may [
        | inl here ↦ inl (ends_here mt source digest s m f.steps image (f.follow mt) here)
        | inr there ↦ inr there
      ]))

  stay_posts : QuietPosts → IsTrue pt → Leaves o_from o_to (MayOpenAlong c s.stands.out f.steps)
  stay_posts quiet told =
      leaves_then o_from o_mid o_to (MayOpenAlong c s.stands.out f.steps) (f.posts_along told)
      (leaves_as o_mid o_to (MayOpenTo c m.stands.out) (MayOpenAlong c s.stands.out f.steps) (quiet told) (λ image may. opens_here pt source c s m f.steps image (f.follow pt) may))

  stay_written : taken_now ≡ taken_mid → Appends taken taken_now (answers_from start f.steps)
  stay_written same = subst (λ (x : Option (List ℕ)). Appends taken x (answers_from start f.steps)) (sym same) f.written

  pub far_stopped : (which : LinkSide) (behind : Bor (List ℕ)) → behind.now ≡ next → (Stays → taken_now ≡ taken_mid) → Ran' (line_end.Stop which) → HasRunLines c source digest (passage mt m_from m_to) (passage pt o_from o_to) o_all start text s t (halt.Stop which number behind)
  far_stopped which behind is same ran' =
      let ran = ran_same (line_end.Stop which) ran' in
      record {
        steps = f.steps;
        reached = m;
        follow = f.follow;
        ends = (f.before, line, subst (λ (x : List ℕ). lines_of text ≡ f.before ++ line ∷ lines_of x) (sym is) split_here, f.order, f.counted, ran.0, stay_written (same ran.2.output), ran.1);
        truth = f.truth;
        still_sound = sound_then;
        marks_along = stay_marks;
        posts_along = stay_posts ran.2.posts;
      }

  pub far_refused : (Stays → taken_now ≡ taken_mid) → Ran' line_end.Refused → HasRunLines c source digest (passage mt m_from m_to) (passage pt o_from o_to) o_all start text s t (halt.Line number)
  far_refused same ran' =
      let ran = ran_same line_end.Refused ran' in
      record {
        steps = f.steps;
        reached = m;
        follow = f.follow;
        ends = (f.before, line, (lines_of next, split_here), f.order, f.counted, ran.0, stay_written (same ran.2.output), ran.1);
        truth = f.truth;
        still_sound = sound_then;
        marks_along = stay_marks;
        posts_along = stay_posts ran.2.posts;
      }

  pub far_starved : (Stays → taken_now ≡ taken_mid) → Ran' line_end.OutOfMemory → HasRunLines c source digest (passage mt m_from m_to) (passage pt o_from o_to) o_all start text s t halt.OutOfMemory
  far_starved same ran' =
      let ran = ran_same line_end.OutOfMemory ran' in
      record {
        steps = f.steps;
        reached = m;
        follow = f.follow;
        ends = (f.before, line, (lines_of next, split_here), f.order, stay_written (same ran.1.output), ran.0);
        truth = f.truth;
        still_sound = sound_then;
        marks_along = stay_marks;
        posts_along = stay_posts ran.1.posts;
      }

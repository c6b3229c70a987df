-- Turns of a thread that has a cabinet for itself, one after the other: the laws of an access hold of them.
-- A tie between the code and its definitions: the promise can be read without it.
use Rattle.std.proofs.Common.{◌≡◌, ◌≤◌, false, List, [], ◌∷◌, ◌++◌, refl, sym, ap, subst, ◌∙◌, arith}
use Rattle.std.proofs.lemmas.Bool.{false≢true}
use Rattle.truncation_list.specs.declared.book.FrontedBook.{FrontedBook}
use Rattle.truncation_list.specs.Books.{AnswersForFronted}
use Rattle.truncation_list.proofs.Answering.{fronted_itself}
use Rattle.cabinet.specs.State.{State, fronted, now}
use Rattle.cabinet_chest.specs.declared.shown.Note.{Note}
use Rattle.cabinet_chest.specs.declared.shown.Shown.{Shown}
use Rattle.cabinet_chest.specs.Replies.{MayReply}
use Rattle.catalog.specs.declared.catalogue.Catalogue.{Catalogue}
use Rattle.turnstile.specs.declared.view.Made.{Made}
use Rattle.cache_access.specs.Alone.{AreSteps, IsStep}
use Rattle.cache_access.specs.Turned.{AreTurns}

-- the reply of a turn, by who doesn't know whether the cabinet is sound
pub unsure : (c : Catalogue) (x : Shown) (m : Made Note) → IsStep c x m → MayReply c false m.note.before m.note.after m.note.command m.note.reply
unsure c x m step = step.reply false (λ e. absurd (false≢true e))

-- NO TURN, AND TURNS AFTER TURNS

pub steps_none : (c : Catalogue) (x : Shown) → AreSteps c x [] x
steps_none c x = (refl, omega arith)

pub steps_catalogue : (c : Catalogue) (x y : Shown) (ms : List (Made Note)) → AreSteps c x ms y → x.state.catalogue ≡ c → y.state.catalogue ≡ c
steps_catalogue c x y [] h same = ap (λ (s : State). s.catalogue) h.0 ∙ same
steps_catalogue c x y (m ∷ ms) h same = steps_catalogue c m.note.after y ms h.1 ((unsure c x m h.0).goes_on.same_catalogue ∙ (unsure c x m h.0).catalogue)

-- turns from a state that was left as it was are turns from that
steps_from : (c : Catalogue) (x y z : Shown) (ns : List (Made Note)) → y.state ≡ x.state → x.faults ≤ y.faults → AreSteps c y ns z → AreSteps c x ns z
steps_from c x y z [] same later h = (h.0 ∙ same, let l = h.1 in omega arith)
steps_from c x y z (n ∷ ns) same later h =
    let l = h.0.later in
    (record { state = h.0.state ∙ same; later = omega arith; found = h.0.found; left = h.0.left; reply = h.0.reply }, h.1)

steps_on : (c : Catalogue) (x y z : Shown) (ms ns : List (Made Note)) → AreSteps c x ms y → AreSteps c y ns z → AreSteps c x (ms ++ ns) z
steps_on c x y z [] ns h k = steps_from c x y z ns h.0 h.1 k
steps_on c x y z (m ∷ ms) ns h k = (h.0, steps_on c m.note.after y z ms ns h.1 k)

pub steps_more : (x y z : Shown) (ms ns : List (Made Note)) → AreSteps x.state.catalogue x ms y → AreSteps y.state.catalogue y ns z → AreSteps x.state.catalogue x (ms ++ ns) z
steps_more x y z ms ns h k = steps_on x.state.catalogue x y z ms ns h (subst (λ (c : Catalogue). AreSteps c y ns z) (steps_catalogue x.state.catalogue x y ms h refl) k)

-- they are turns between which nothing happens
pub steps_are_turns : (c : Catalogue) (x y : Shown) (ms : List (Made Note)) → AreSteps c x ms y → AreTurns c false (fronted (now x.state)) ms (fronted (now y.state))
steps_are_turns c x y [] h = subst (λ (s : State). AnswersForFronted (fronted (now s)) (fronted (now x.state))) (sym h.0) (fronted_itself (fronted (now x.state)))
steps_are_turns c x y (m ∷ ms) h = (
  record {
    found = h.0.found;
    left = h.0.left;
    answers = subst (λ (b : FrontedBook). AnswersForFronted b (fronted (now x.state))) (sym (h.0.found ∙ ap (λ (s : State). fronted (now s)) h.0.state)) (fronted_itself (fronted (now x.state)));
    reply = unsure c x m h.0;
  },
  steps_are_turns c m.note.after y ms h.1,
)

pub steps_turns : (x y : Shown) (ms : List (Made Note)) → AreSteps x.state.catalogue x ms y → AreTurns x.state.catalogue false (fronted (now x.state)) ms (fronted (now y.state))
steps_turns x y ms h = steps_are_turns x.state.catalogue x y ms h

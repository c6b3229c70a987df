-- The hands of all workers, gathered in one.
use Rattle.std.proofs.Common.{⊎_elim, ◌≡◌, ◌∙◌, ◌<◌, ℕ, ◌+◌, Bool, List, [], ◌∷◌, ◌++◌, length, append_assoc, append-nil, refl, sym, ap, subst, arith}
use Rattle.std.proofs.lemmas.List.Elements.{Contains-append_cases, Contains-append_left, Contains-push}
use Rattle.std.specs.List.{AllByRecursion, Contains}
use Rattle.std.specs.Prelude.{MatchBool, Option}
use Rattle.atomic_table.specs.Seated.{TableId}
use Rattle.cache_hall.specs.Turned.{HallPass}
use Rattle.catalog.specs.declared.catalogue.Catalogue.{Catalogue}
use Rattle.base.specs.Causes.{Rose}
use Rattle.crossbeam_queue.specs.Passes.{Pass, view}
use Rattle.job_board.specs.Calls.{BoardHolding}
use Rattle.seed_jobs.specs.Idles.{HasHeard, Standby}
use Rattle.link_queue.proofs.Sums.{weigh-append}
use Rattle.link_queue.specs.Hands.{IsEven, IsHand, hand, with_other}
use Rattle.link_queue.specs.Weights.{weigh}
use Rattle.link_queue.specs.declared.hand.QueueHand.{QueueHand}
use Rattle.truncation_list.specs.Books.{AnswersForFronted}
use Rattle.server_workers.specs.Crew.{AreKept, AreServedBy, HasGathered, HasHeldSessions, HasServedLinks, IsWorkerReady}
use Rattle.server_workers.specs.Stints.{HeldSession, IsStint, Service, Stint, boards_of, links_in, links_of, passes_of}
use Rattle.turnstile.proofs.Notes.{the_one}
use Rattle.server_workers.proofs.Hearing.{hears_none, hears_on, hears_one, tells_on}
use Rattle.server_workers.proofs.Holding.{stint_of}

abbrev stint : {L : Type 0} → List (HeldSession L) → HallPass → BoardHolding → Stint L
stint sessions pass board = record { sessions = sessions; pass = pass; board = board }

-- one stint more, and its pass
keeps_one : {L : Type 0} (stints : List (Stint L)) (passes : List HallPass) (sessions : List (HeldSession L)) (pass : HallPass) (board : BoardHolding) → AreKept stints passes → AreKept (stint sessions pass board ∷ stints) (passes ++ pass ∷ [])
keeps_one stints passes sessions pass board kept p c = ⊎_elim
    (λ (first : Contains (pass ∷ []) p). subst (Contains (passes ++ pass ∷ [])) (the_one pass p first) (Contains-push passes pass))
    (λ (later : Contains (passes_of stints) p). Contains-append_left passes (pass ∷ []) p (kept p later))
    (Contains-append_cases (pass ∷ []) (passes_of stints) p c)

module _ {L S : Type 0} (s : Service L S) where
  pub gathers_none : (pass : HallPass) (board : BoardHolding) (source : S) (mine : Pass L (QueueHand L)) (r : Standby) → HasHeldSessions s (hand 1 [] []) pass board source mine → HasGathered s 1 pass board source mine [] r r
  gathers_none pass board source mine r w = record { stints = []; held = tt; last = w; kept = λ p c. c; heard = hears_none r }

  -- one worker more
  pub gathers_one : (parts : ℕ) (pass other_pass : HallPass) (board other_board : BoardHolding) (source other_source : S) (mine other later : Pass L (QueueHand L)) (passes : List HallPass) (before mid after : Standby) → HasGathered s parts pass board source mine passes before mid
      → HasHeldSessions s (hand 1 [] []) other_pass other_board other_source other → HasHeard mid after (other_board ∷ []) → view later ≡ with_other (view mine) (view other) → HasGathered s (parts + 1) pass board source later (passes ++ other_pass ∷ []) before after
  gathers_one parts pass other_pass board other_board source other_source mine other later passes before mid after g w heard took = record {
    stints = stint w.sessions other_pass other_board ∷ g.stints;
    kept = keeps_one g.stints passes w.sessions other_pass other_board g.kept;
    held = (stint_of s (hand 1 [] []) other_pass other_board other_source other w, g.held);
    heard = hears_one before mid after other_board (boards_of g.stints) g.heard heard;
    last = record {
      sessions = g.last.sessions;
      board_before = g.last.board_before;
      at_board = g.last.at_board;
      source_before = g.last.source_before;
      held = g.last.held;
      took = took ∙ (λ i. with_other (g.last.took i) (w.took i)) ∙ ap (hand (parts + 1) []) (sym (append_assoc (links_of w.sessions) (links_in g.stints) (links_of g.last.sessions)));
    };
  }

  -- and the hand that put the links: it has taken none
  pub gathers_put : (parts more : ℕ) (put : List L) (pass : HallPass) (board : BoardHolding) (source : S) (mine other later : Pass L (QueueHand L)) (passes : List HallPass) (before after : Standby) (g : HasGathered s parts pass board source mine passes before after) → view other ≡ hand more put []
      → view later ≡ with_other (view mine) (view other) → HasHeldSessions s (hand (parts + more) put (links_in g.stints)) pass board source later
  gathers_put parts more put pass board source mine other later passes before after g puts took = record {
    sessions = g.last.sessions;
    board_before = g.last.board_before;
    at_board = g.last.at_board;
    source_before = g.last.source_before;
    held = g.last.held;
    took = took ∙ (λ i. with_other (g.last.took i) (puts i)) ∙ ap (λ (xs : List L). hand (parts + more) xs (links_in g.stints ++ links_of g.last.sessions)) (append-nil put);
  }

  -- who is alone at the queue and has taken what was put has served all of it, with the others
  pub all_served : (parts : ℕ) (put : List L) (stints : List (Stint L)) (pass : HallPass) (board : BoardHolding) (source : S) (mine : Pass L (QueueHand L)) (passes : List HallPass) (before mid after : Standby) → AllByRecursion (IsStint s) stints → AreKept stints passes → HasHeard before mid (boards_of stints)
      → HasHeldSessions s (hand parts put (links_in stints)) pass board source mine → IsEven (view mine) → HasHeard mid after (board ∷ []) → AreServedBy s put (passes ++ pass ∷ []) before after
  all_served parts put stints pass board source mine passes before mid after held kept had w even heard = record {
    kept = keeps_one stints passes w.sessions pass board kept;
    heard = hears_one before mid after board (boards_of stints) had heard;
    served = record {
      stints = stint w.sessions pass board ∷ stints;
      held = (stint_of s (hand parts put (links_in stints)) pass board source mine w, held);
      each = λ f.
          let had = ap (λ (v : QueueHand L). weigh f v.put) w.took in
          let took = ap (λ (v : QueueHand L). weigh f v.taken) w.took in
          let e = even f in
          omega (arith, weigh-append f (links_in stints) (links_of w.sessions), weigh-append f (links_of w.sessions) (links_in stints));
    };
  }

  -- of so many others as there were, so many are left
  pub record Gather (all left : ℕ) (pass : HallPass) (board : BoardHolding) (source : S) (mine : Pass L (QueueHand L)) (passes : List HallPass) (before after : Standby) : Type 0 where
    pub gone : ℕ
    pub each : gone + left ≡ all
    pub gathered : HasGathered s (1 + gone) pass board source mine passes before after

  pub gather_begins : (all : ℕ) (pass : HallPass) (board : BoardHolding) (source : S) (mine : Pass L (QueueHand L)) (r : Standby) → HasHeldSessions s (hand 1 [] []) pass board source mine → Gather all all pass board source mine [] r r
  gather_begins all pass board source mine r w = record { gone = 0; each = omega arith; gathered = gathers_none pass board source mine r w }

  pub gather_goes_on : (all left next : ℕ) (pass other_pass : HallPass) (board other_board : BoardHolding) (source other_source : S) (mine other later : Pass L (QueueHand L)) (passes : List HallPass) (before mid after : Standby) → left ≡ next + 1 → Gather all left pass board source mine passes before mid
      → HasHeldSessions s (hand 1 [] []) other_pass other_board other_source other → HasHeard mid after (other_board ∷ []) → view later ≡ with_other (view mine) (view other) → Gather all next pass board source later (passes ++ other_pass ∷ []) before after
  gather_goes_on all left next pass other_pass board other_board source other_source mine other later passes before mid after e g w heard took = record {
    gone = g.gone + 1;
    each = omega (arith, e, g.each);
    gathered = subst (λ n. HasGathered s n pass board source later (passes ++ other_pass ∷ []) before after) (omega arith) (gathers_one (1 + g.gone) pass other_pass board other_board source other_source mine other later passes before mid after g.gathered w heard took);
  }

  pub gather_ends : (all left : ℕ) (pass : HallPass) (board : BoardHolding) (source : S) (mine : Pass L (QueueHand L)) (passes : List HallPass) (before after : Standby) → left ≡ 0 → Gather all left pass board source mine passes before after → HasGathered s (1 + all) pass board source mine passes before after
  gather_ends all left pass board source mine passes before after none g = subst (λ n. HasGathered s n pass board source mine passes before after) (omega (arith, none, g.each)) g.gathered

  -- what was served, with the pass of the upkeep and those of members put behind those that served; who runs jobs and who cancels them have
  -- heard of it
  pub links_served : (asked : ℕ) (given_before given_after links put : List L) (faults_before faults_after : ℕ) (rest kept passes members : List HallPass) (upkeep : HallPass) (before mid after : Standby) (other cancels : BoardHolding) (all : Bool) → put ≡ links → kept ≡ rest ++ upkeep ∷ []
      → passes ≡ kept ++ members → AreServedBy s put rest before mid → HasHeard mid after (other ∷ []) → AnswersForFronted cancels.book mid.board.book → given_after ≡ given_before ++ links → MatchBool all (length links ≡ asked) (Rose faults_before faults_after)
      → HasServedLinks s asked given_before given_after faults_before faults_after passes before after cancels all
  links_served asked given_before given_after links put faults_before faults_after rest kept passes members upkeep before mid after other cancels all is_put is_kept are by more told given each =
      let left = subst (λ (xs : List L). AreServedBy s xs rest before mid) is_put by in
      record {
        links = links;
        given = given;
        served = record {
          served = left.served;
          kept = λ p c.
              subst (λ (ps : List HallPass). Contains ps p) (sym are)
              (Contains-append_left kept members p (subst (λ (ps : List HallPass). Contains ps p) (sym is_kept) (Contains-append_left rest (upkeep ∷ []) p (left.kept p c))));
          heard = hears_on before mid after other (boards_of left.served.stints) left.heard more;
        };
        knows = tells_on mid cancels (boards_of left.served.stints) left.heard.theirs told;
        each = each;
      }

-- a worker that has taken over another hand may serve
pub ready_with : {L : Type 0} (queue table at : TableId) (c : Catalogue) (tells : Option ℕ) (pass : HallPass) (board : BoardHolding) (mine other later : Pass L (QueueHand L)) → IsWorkerReady queue table at c tells pass board mine → IsHand queue (with_other (view mine) (view other)) later
    → IsWorkerReady queue table at c tells pass board later
ready_with queue table at c tells pass board mine other later ready took = record {
  of = ready.of;
  at_board = ready.at_board;
  source = ready.source;
  at_queue = record { of = took.of; carries = took.carries; knows = refl };
  parts = subst (λ v. 0 < v.parts) (sym took.knows) (omega (arith, ready.parts));
}

-- A session that a counter served: what its exchanges come to.
use Rattle.std.proofs.Common.{◌≡◌, ℕ, ◌+◌, List, [], ◌∷◌, ◌++◌, Option, refl, sym, ap, subst, ◌∙◌, append_assoc, append-nil}
use Rattle.std.specs.Io.KnownBytes.{prepend_known}
use Rattle.std.proofs.lemmas.List.{map-append}
use Rattle.cabinet.specs.State.{State}
use Rattle.http_wire.specs.declared.message.Message.{Message}
use Rattle.tile_requests.specs.declared.outcome.Outcome.{Outcome}
use Rattle.sessions.specs.declared.session.SessionEnd.{SessionEnd}
use Rattle.sessions.specs.Exchanges.{AreServed, Exchange, ServerStanding, messages_of, response_at, responses_of}
use Rattle.sessions.specs.Outside.{FaultCounts, InputChange, Outside, counts}
use Rattle.sessions.specs.SessionEnds.{Ends}
use Rattle.sessions.specs.Sessions.{IsHeld}
use Rattle.tile_service.specs.Passing.{LeadsThrough}
use Rattle.tile_service.specs.Replays.{HasSessionThrough}
use Rattle.tile_service.specs.Run.{Answer}
use Rattle.tile_service.specs.Serving.{Serves, ServesAndLasts}
use Rattle.tile_service.specs.Session.{reply_text, responses}
use Rattle.tile_service.proofs.Passing.{Lasts, leads_here, leads_on}
use Rattle.tile_service.proofs.SoFar.{HasServedThrough, is_served, served_next, served_start, the_answer}

module _ {K Counter Jobs : Type 0} (Outlasts : K → K → Type 0) (state : K → State) (faults : K → ℕ) (keeper : Counter → K) (document : Counter → List ℕ) (told : Option ℕ) where
  abbrev Serving : Message → Outcome → ServerStanding Counter Jobs → ServerStanding Counter Jobs → Type 0
  Serving = ServesAndLasts Outlasts state faults keeper document told

  -- between the keepers of two standings
  abbrev Leads : ServerStanding Counter Jobs → ServerStanding Counter Jobs → State → Type 0
  Leads start now = LeadsThrough K state Outlasts (keeper start.cache) (keeper now.cache)

  -- from one standing to another these messages were answered by these responses
  pub record HasReplayed (start now : ServerStanding Counter Jobs) (messages : List Message) (texts : List (List ℕ)) : Type 0 where
    pub answers : List Answer
    pub many : ℕ
    pub through : HasServedThrough (Leads start now) told start.renders.failures now.renders.failures (counts (faults (keeper start.cache)) (faults (keeper now.cache))) (document start.cache) (state (keeper start.cache)) (state (keeper now.cache)) messages answers many
    pub are_texts : responses (document start.cache) answers ≡ texts
    pub same : document now.cache ≡ document start.cache
    pub lasts : Lasts state Outlasts (keeper start.cache) (keeper now.cache)

  module _ (itself : (a : K) → Lasts state Outlasts a a) (on : (a b c : K) → Lasts state Outlasts a b → Lasts state Outlasts b c → Lasts state Outlasts a c) (start : ServerStanding Counter Jobs) where
    none_replayed : HasReplayed start start [] []
    none_replayed =
        let first = keeper start.cache in
        record {
          answers = [];
          many = 0;
          through = served_start (Leads start start) told start.renders.failures (faults first) (document start.cache) (state first) (leads_here state Outlasts first first (itself first) (itself first));
          are_texts = refl;
          same = refl;
          lasts = itself first;
        }

    module _ {now : ServerStanding Counter Jobs} {messages : List Message} {texts : List (List ℕ)} (h : HasReplayed start now messages texts) (e : Exchange Counter Jobs) (before : e.before ≡ now) (serves : Serving e.message e.outcome e.before e.after) where
      served : Serving e.message e.outcome now e.after
      served = subst (λ (s : ServerStanding Counter Jobs). Serving e.message e.outcome s e.after) before serves

      its_message : Serves told now.renders.failures e.after.renders.failures (counts (faults (keeper now.cache)) (faults (keeper e.after.cache))) (document start.cache) (state (keeper now.cache)) e.message e.outcome (state (keeper e.after.cache))
      its_message = subst (λ (d : List ℕ). Serves told now.renders.failures e.after.renders.failures (counts (faults (keeper now.cache)) (faults (keeper e.after.cache))) d (state (keeper now.cache)) e.message e.outcome (state (keeper e.after.cache))) h.same served.serves

      one_replayed : HasReplayed start e.after (messages ++ e.message ∷ []) (texts ++ response_at (document start.cache) (h.many + 1) e ∷ [])
      one_replayed =
          let first = keeper start.cache in
          let then = keeper now.cache in
          let later = keeper e.after.cache in
          let lasts = on first then later h.lasts served.lasts in
          let answer = the_answer h.through.0 refl its_message e.left in
          record {
            answers = h.answers ++ answer ∷ [];
            many = h.many + 1;
            through = served_next h.through.0 refl its_message e.left (Leads start now) (Leads start e.after) (leads_on state Outlasts on first then later served.lasts) h.through.1 (leads_here state Outlasts first later lasts (itself later));
            are_texts = map-append (reply_text (document start.cache)) h.answers (answer ∷ []) ∙ ap (λ (them : List (List ℕ)). them ++ response_at (document start.cache) (h.many + 1) e ∷ []) h.are_texts;
            same = served.same ∙ h.same;
            lasts = lasts;
          }

    all_replayed : (es : List (Exchange Counter Jobs)) {last now : ServerStanding Counter Jobs} {messages : List Message} {texts : List (List ℕ)} (h : HasReplayed start now messages texts) → AreServed Serving now es last
        → HasReplayed start last (messages ++ messages_of es) (texts ++ responses_of (document start.cache) (h.many + 1) es)
    unfolding one_replayed
    all_replayed [] {messages = messages} {texts = texts} h are = rw (append-nil messages, append-nil texts) (subst (λ (s : ServerStanding Counter Jobs). HasReplayed start s messages texts) (sym are) h)
    all_replayed (e ∷ es) {last = last} {messages = messages} {texts = texts} h are =
        let d = document start.cache in
        let next = one_replayed h e are.0 are.1 in
        subst (λ (ms : List Message). HasReplayed start last ms (texts ++ response_at d (h.many + 1) e ∷ responses_of d (h.many + 1 + 1) es)) (append_assoc messages (e.message ∷ []) (messages_of es))
        (subst (λ (ts : List (List ℕ)). HasReplayed start last ((messages ++ e.message ∷ []) ++ messages_of es) ts) (append_assoc texts (response_at d (h.many + 1) e ∷ []) (responses_of d (h.many + 1 + 1) es)) (all_replayed es next are.2))

    -- a session that was held by such a server is one that is promised of its cabinet
    module _ {last : ServerStanding Counter Jobs} {i : InputChange} {writes : FaultCounts} {from to : Option (List ℕ)} {end : SessionEnd} (x : IsHeld Serving i (record { writes = writes; from = from; to = to }) (document start.cache) start last end) where
      whole : HasReplayed start last (messages_of x.exchanges) (responses_of (document start.cache) 1 x.exchanges)
      unfolding none_replayed
      whole = all_replayed x.exchanges none_replayed x.served

      abbrev seen : Outside
      seen = record { told = told; renders = counts start.renders.failures last.renders.failures; disk = counts (faults (keeper start.cache)) (faults (keeper last.cache)); writes = writes; from = from; to = to }

      pub replayed : HasSessionThrough (Leads start last) i seen (document start.cache) (state (keeper start.cache)) (state (keeper last.cache)) end
      replayed =
          let q = is_served (Leads start last) whole.through.0 whole.through.1 in (
            record {
              messages = messages_of x.exchanges;
              answers = whole.answers;
              held = x.held;
              stand = x.stand;
              served = q.0;
              ends = subst (λ (ts : List (List ℕ)). Ends i (record { writes = writes; from = from; to = to }) (messages_of x.exchanges) ts x.held (prepend_known x.held i.to) end) (sym whole.are_texts) x.ends;
            },
            q.1,
          )

      pub has_lasted : Lasts state Outlasts (keeper start.cache) (keeper last.cache)
      has_lasted = whole.lasts

      pub same_catalogue : (state (keeper last.cache)).catalogue ≡ (state (keeper start.cache)).catalogue
      same_catalogue = whole.through.0.catalogue

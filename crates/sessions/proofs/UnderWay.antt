-- A session that is under way: one message more, whose response was written.
use Rattle.std.proofs.Common.{◌≡◌, ℕ, ◌+◌, Bool, true, false, List, [], ◌∷◌, ◌++◌, length, Option, Some, None, inl, inr, refl, sym, ap, ◌∙◌, append-nil, arith}
use Rattle.std.specs.Io.KnownBytes.{Appends, prepend_known}
use Rattle.std.proofs.lemmas.Grind.{flat_map-append}
use Rattle.std.proofs.lemmas.List.{length-append}
use Rattle.http_wire.specs.Answers.{TakesMessage}
use Rattle.http_wire.specs.Reader.{Reading}
use Rattle.http_wire.specs.Streams.{StandIn}
use Rattle.http_wire.specs.declared.message.Message.{Message}
use Rattle.http_wire.proofs.StreamGrows.{stand_in_more}
use Rattle.tile_requests.specs.declared.outcome.Outcome.{Outcome}
use Rattle.tile_requests.specs.Requests.{answered_at}
use Rattle.tile_requests.specs.Response.{response}
use Rattle.tile_requests.specs.Routes.{spelling_of}
use Rattle.tile_requests.specs.declared.spelling.Spelling.{Spelling}
use Rattle.tile_requests.proofs.Known.{appends_more, appends_nothing}
use Rattle.sessions.specs.Coming.{Wire}
use Rattle.sessions.specs.Exchanges.{AreServed, Exchange, ServerStanding, messages_of, response_at, responses_of}
use Rattle.sessions.specs.Responses.{MayTell}
use Rattle.sessions.specs.SessionEnds.{AreOpen, all_of}

-- EXCHANGES

-- how one message is served, from one standing to another
abbrev pub Serving : Type 0 → Type 0 → Type 1
Serving Cache Jobs = Message → Outcome → ServerStanding Cache Jobs → ServerStanding Cache Jobs → Type 0

module _ {Cache Jobs : Type 0} where
  messages_more : (es : List (Exchange Cache Jobs)) (e : Exchange Cache Jobs) → messages_of (es ++ e ∷ []) ≡ messages_of es ++ e.message ∷ []
  messages_more [] e = refl
  messages_more (x ∷ es) e = ap (λ ms. x.message ∷ ms) (messages_more es e)

  responses_more : (document : List ℕ) (i : ℕ) (es : List (Exchange Cache Jobs)) (e : Exchange Cache Jobs) → responses_of document i (es ++ e ∷ []) ≡ responses_of document i es ++ response_at document (i + length es) e ∷ []
  responses_more document i [] e = let n : i ≡ i + length {A = Exchange Cache Jobs} [] = omega arith in ap (λ k. response_at document k e ∷ []) n
  responses_more document i (x ∷ es) e =
      let n : i + 1 + length es ≡ i + length (x ∷ es) = omega arith in
      ap (λ them. response_at document i x ∷ them) (responses_more document (i + 1) es e ∙ ap (λ k. responses_of document (i + 1) es ++ response_at document k e ∷ []) n)

  length_messages : (es : List (Exchange Cache Jobs)) → length (messages_of es) ≡ length es
  length_messages [] = refl
  length_messages (x ∷ es) = let e = length_messages es in omega (arith, e)

  served_more : (Serves : Serving Cache Jobs) (start : ServerStanding Cache Jobs) (es : List (Exchange Cache Jobs)) (now : ServerStanding Cache Jobs) (e : Exchange Cache Jobs) → AreServed Serves start es now
      → e.before ≡ now → Serves e.message e.outcome e.before e.after → AreServed Serves start (es ++ e ∷ []) e.after
  served_more Serves start [] now e are same is = (same ∙ are, is, refl)
  served_more Serves start (x ∷ es) now e are same is = (are.0, are.1, served_more Serves x.after es now e are.2 same is)

-- messages came from one standing to another, and these are their responses
pub record HasServed {Cache Jobs : Type 0} (Serves : Serving Cache Jobs) (document : List ℕ) (start now : ServerStanding Cache Jobs) (messages : List Message) (responses : List (List ℕ)) : Type 0 where
  pub exchanges : List (Exchange Cache Jobs)
  pub served : AreServed Serves start exchanges now
  pub are_messages : messages ≡ messages_of exchanges
  pub are_responses : responses ≡ responses_of document 1 exchanges

pub served_none : {Cache Jobs : Type 0} (Serves : Serving Cache Jobs) (document : List ℕ) (start : ServerStanding Cache Jobs) → HasServed Serves document start start [] []
served_none Serves document start = record { exchanges = []; served = refl; are_messages = refl; are_responses = refl }

served_next : {Cache Jobs : Type 0} {Serves : Serving Cache Jobs} {document : List ℕ} {start now there : ServerStanding Cache Jobs} {messages : List Message} {responses : List (List ℕ)} (h : HasServed Serves document start now messages responses)
    (m : Message) (o : Outcome) (left : Bool) → Serves m o now there → (n : ℕ) → length messages ≡ n → HasServed Serves document start there (messages ++ m ∷ []) (responses ++ response document m (n + 1) (answered_at (spelling_of m) left o) ∷ [])
served_next {Cache} {Jobs} {Serves} {document} {start} {now} {there} {messages} {responses} h m o left serves n many =
    let e : Exchange Cache Jobs = record { message = m; outcome = o; left = left; before = now; after = there } in
    let all : length (messages_of h.exchanges) ≡ length h.exchanges = length_messages h.exchanges in
    let same : length messages ≡ length (messages_of h.exchanges) = ap (λ (ms : List Message). length ms) h.are_messages in
    let at : n + 1 ≡ 1 + length h.exchanges = omega (arith, all, same, many) in
    record {
      exchanges = h.exchanges ++ e ∷ [];
      served = served_more Serves start h.exchanges now e h.served refl serves;
      are_messages = ap (λ ms. ms ++ m ∷ []) h.are_messages ∙ sym (messages_more h.exchanges e);
      are_responses =
          ap (λ them. them ++ response document m (n + 1) (answered_at (spelling_of m) left o) ∷ []) h.are_responses
          ∙ ap (λ i. responses_of document 1 h.exchanges ++ response document m i (answered_at (spelling_of m) left o) ∷ []) at
          ∙ sym (responses_more document 1 h.exchanges e);
    }

-- HOW FAR

-- how all stands at a moment of a session: the server, and the link
pub record Moment (Cache Jobs : Type 0) : Type 0 where
  pub server : ServerStanding Cache Jobs
  pub wire : Wire

-- since the start n messages were answered, none of them the last of its connection, and these bytes are held
pub record IsUnderWay {Cache Jobs : Type 0} (Serves : Serving Cache Jobs) (document : List ℕ) (start now : Moment Cache Jobs) (held : List ℕ) (n : ℕ) : Type 0 where
  pub messages : List Message
  pub responses : List (List ℕ)
  pub all_open : AreOpen messages
  pub many : length messages ≡ n
  pub stand : StandIn start.wire.left messages (prepend_known held now.wire.left)
  pub served : HasServed Serves document start.server now.server messages responses
  pub text : Appends start.wire.taken now.wire.taken (all_of responses)

-- before the first message
pub stand_none : (bytes : Option (List ℕ)) → StandIn bytes [] (prepend_known [] bytes)
stand_none None = tt
stand_none (Some bytes) = refl

pub under_way_start : {Cache Jobs : Type 0} {Serves : Serving Cache Jobs} {document : List ℕ} {start : Moment Cache Jobs} (reading : Reading) → reading ≡ record { held = []; ended = None } → IsUnderWay Serves document start start reading.held 0
under_way_start {Serves = Serves} {document = document} {start = start} reading e =
    record {
      messages = [];
      responses = [];
      all_open = tt;
      many = refl;
      stand = rw e (stand_none start.wire.left);
      served = served_none Serves document start.server;
      text = appends_nothing start.wire.taken;
    }

-- ONE MESSAGE MORE

-- how a text is sent: the bytes that were taken before and after it, and the text
abbrev pub Sending : Type 1
Sending = Option (List ℕ) → Option (List ℕ) → List ℕ → Type 0

-- m was read, with these bytes held after it, and served, and its response was sent so
pub record Meets {Cache Jobs : Type 0} (Serves : Serving Cache Jobs) (document : List ℕ) (Sends : Sending) (now there : Moment Cache Jobs) (held later : List ℕ) (n : ℕ) (m : Message) : Type 0 where
  pub takes : TakesMessage (prepend_known held now.wire.left) m (prepend_known later there.wire.left)
  pub outcome : Outcome
  pub serves : Serves m outcome now.server there.server
  pub sends : MayTell (spelling_of m) outcome (λ o. Sends now.wire.taken there.wire.taken (response document m (n + 1) o))

-- n messages were answered, none of them the last of its connection, and then m, whose response was sent so behind theirs
pub record IsAnswered {Cache Jobs : Type 0} (Serves : Serving Cache Jobs) (document : List ℕ) (Sends : Sending) (start now : Moment Cache Jobs) (held : List ℕ) (n : ℕ) (m : Message) : Type 0 where
  pub earlier : List Message
  pub before_it : List (List ℕ)
  pub response : List ℕ
  pub all_open : AreOpen earlier
  pub many : length earlier ≡ n
  pub stand : StandIn start.wire.left (earlier ++ m ∷ []) (prepend_known held now.wire.left)
  pub served : HasServed Serves document start.server now.server (earlier ++ m ∷ []) (before_it ++ response ∷ [])
  pub between : Option (List ℕ)
  pub text : Appends start.wire.taken between (all_of before_it)
  pub sent : Sends between now.wire.taken response

-- what is told is told of the answer's outcome
which_told : (spelling : Spelling) (o : Outcome) (P : Outcome → Type 0) → MayTell spelling o P → (left : Bool) × P (answered_at spelling left o)
which_told spelling o P (inl k) = (true, k)
which_told spelling o P (inr k) = (false, rw k.0 k.1)

module _ {Cache Jobs : Type 0} {Serves : Serving Cache Jobs} {document : List ℕ} {Sends : Sending} {start now there : Moment Cache Jobs} {held later : List ℕ} {n : ℕ} {m : Message}
    (f : IsUnderWay Serves document start now held n) (met : Meets Serves document Sends now there held later n m) where
  pub answered : IsAnswered Serves document Sends start there later n m
  answered =
      let k = which_told (spelling_of m) met.outcome (λ o. Sends now.wire.taken there.wire.taken (response document m (n + 1) o)) met.sends in
      record {
        earlier = f.messages;
        before_it = f.responses;
        response = response document m (n + 1) (answered_at (spelling_of m) k.0 met.outcome);
        all_open = f.all_open;
        many = f.many;
        stand = stand_in_more start.wire.left (prepend_known held now.wire.left) (prepend_known later there.wire.left) f.messages m f.stand met.takes;
        served = served_next f.served m met.outcome k.0 met.serves n f.many;
        between = now.wire.taken;
        text = f.text;
        sent = k.1;
      }

-- all of it was written
pub whole_text : {Cache Jobs : Type 0} {Serves : Serving Cache Jobs} {document : List ℕ} {start now : Moment Cache Jobs} {held : List ℕ} {n : ℕ} {m : Message} (a : IsAnswered Serves document Appends start now held n m)
    → Appends start.wire.taken now.wire.taken (all_of (a.before_it ++ a.response ∷ []))
whole_text {start = start} {now = now} a =
    let one : Appends a.between now.wire.taken (all_of (a.response ∷ [])) = rw (append-nil a.response) a.sent in
    rw (flat_map-append (λ (r : List ℕ). r) a.before_it (a.response ∷ [])) (appends_more start.wire.taken a.between now.wire.taken _ _ a.text one)

open_more : (messages : List Message) (m : Message) → AreOpen messages → m.last ≡ false → AreOpen (messages ++ m ∷ [])
open_more [] m all e = (e, tt)
open_more (x ∷ messages) m all e = (all.0, open_more messages m all.1 e)

one_longer : (messages : List Message) (m : Message) (n : ℕ) → length messages ≡ n → length (messages ++ m ∷ []) ≡ n + 1
one_longer messages m n e = length-append messages (m ∷ []) ∙ ap (λ k. k + 1) e

-- and the session goes on
pub under_way_next : {Cache Jobs : Type 0} {Serves : Serving Cache Jobs} {document : List ℕ} {start now there : Moment Cache Jobs} {held later : List ℕ} {n : ℕ} {m : Message}
    → IsUnderWay Serves document start now held n → Meets Serves document Appends now there held later n m → m.last ≡ false → IsUnderWay Serves document start there later (n + 1)
under_way_next {m = m} f met last =
    let a = answered f met in
    record {
      messages = a.earlier ++ m ∷ [];
      responses = a.before_it ++ a.response ∷ [];
      all_open = open_more a.earlier m a.all_open last;
      many = one_longer a.earlier m _ a.many;
      stand = a.stand;
      served = a.served;
      text = whole_text a;
    }

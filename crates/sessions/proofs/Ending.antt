-- The ends of a session that is under way.
use Rattle.std.proofs.Common.{◌≡◌, ℕ, ◌+◌, ◌<◌, ◌≤◌, true, false, List, [], ◌∷◌, ◌++◌, length, Option, Some, None, inl, inr, refl, sym, ap, subst, ◌∙◌, arith}
use Rattle.std.specs.Io.KnownBytes.{Appends, Keeps, prepend_known}
use Rattle.std.proofs.lemmas.List.{length-append}
use Rattle.base.specs.Causes.{Rose}
use Rattle.http_wire.specs.Answers.{IsPartOfTake}
use Rattle.http_wire.specs.Streams.{Stand, StandIn}
use Rattle.http_wire.specs.declared.message.Message.{Message}
use Rattle.tile_requests.specs.Sent.{AppendsFront}
use Rattle.tile_requests.proofs.Known.{appends_more, appends_nothing}
use Rattle.sessions.specs.declared.session.SessionEnd.{SessionEnd}
use Rattle.sessions.specs.declared.session.SessionEnd.TheVariants.{Closed, Truncated, Bad, ReadFault, WriteFault, TooMany, OutOfMemory}
use Rattle.sessions.specs.Coming.{EndsUnmet, Wire}
use Rattle.sessions.specs.Exchanges.{responses_of}
use Rattle.sessions.specs.Outside.{InputChange, OutputChange, counts}
use Rattle.sessions.specs.Responses.{bad_text}
use Rattle.sessions.specs.SessionEnds.{AreOpen, Ends, GoBefore, GoOn, all_of}
use Rattle.sessions.specs.Sessions.{IsHeld}
use Rattle.sessions.proofs.UnderWay.{HasServed, IsAnswered, IsUnderWay, Moment, Sending, Serving, served_none, stand_none, whole_text}

-- the messages stand before bytes that stay
stand_kept : (a b c : Option (List ℕ)) (ms : List Message) → StandIn a ms b → Keeps b c → StandIn a ms c
stand_kept None b c ms s k = tt
stand_kept (Some x) None c ms s k = absurd s
stand_kept (Some x) (Some y) None ms s k = absurd k
stand_kept (Some x) (Some y) (Some z) ms s k = subst (Stand x ms) (sym k) s

-- what was seen of the link, from one moment to another
abbrev pub input : Wire → Wire → InputChange
input a b = record { reads = counts a.reads b.reads; from = a.left; to = b.left }

abbrev pub output : Wire → Wire → OutputChange
output a b = record { writes = counts a.writes b.writes; from = a.taken; to = b.taken }

-- the session was held from one moment to another
abbrev pub IsHeldTo : {Cache Jobs : Type 0} → Serving Cache Jobs → List ℕ → Moment Cache Jobs → Moment Cache Jobs → SessionEnd → Type 0
IsHeldTo Serves document start now end = IsHeld Serves (input start.wire now.wire) (output start.wire now.wire) document start.server now.server end

module _ {Cache Jobs : Type 0} {Serves : Serving Cache Jobs} {document : List ℕ} where
  -- the exchanges, and the end after their messages
  is_held : (start now : Moment Cache Jobs) (held : List ℕ) (messages : List Message) (responses : List (List ℕ)) (end : SessionEnd) → StandIn start.wire.left messages (prepend_known held now.wire.left)
      → HasServed Serves document start.server now.server messages responses → Ends (input start.wire now.wire) (output start.wire now.wire) messages responses held (prepend_known held now.wire.left) end → IsHeldTo Serves document start now end
  is_held start now held messages responses end stand h ends = record {
    exchanges = h.exchanges;
    held = held;
    stand = subst (λ (ms : List Message). StandIn start.wire.left ms (prepend_known held now.wire.left)) h.are_messages stand;
    served = h.served;
    ends =
        subst (λ (ms : List Message). Ends (input start.wire now.wire) (output start.wire now.wire) ms (responses_of document 1 h.exchanges) held (prepend_known held now.wire.left) end) h.are_messages
        (subst (λ (them : List (List ℕ)). Ends (input start.wire now.wire) (output start.wire now.wire) messages them held (prepend_known held now.wire.left) end) h.are_responses ends);
  }

  -- no memory was there to read at all
  pub unbegun : {start : Moment Cache Jobs} → IsHeldTo Serves document start start OutOfMemory
  unbegun {start} = is_held start start [] [] [] OutOfMemory (stand_none start.wire.left) (served_none Serves document start.server) (record { all_open = tt; few = omega arith }, appends_nothing start.wire.taken)

  -- WHERE NO FURTHER MESSAGE CAME

  go_on : {start now : Moment Cache Jobs} {held : List ℕ} {n : ℕ} (f : IsUnderWay Serves document start now held n) → n < 10000 → GoOn f.messages
  go_on f few = record { all_open = f.all_open; few = let e = f.many in omega arith }

  -- only the link went on, and these bytes are held then
  module _ {start now : Moment Cache Jobs} {there : Wire} {held : List ℕ} {n : ℕ} (f : IsUnderWay Serves document start now held n) (few : n < 10000) (later : List ℕ) where
    -- the session has ended so
    ended : (end : SessionEnd) → Keeps (prepend_known held now.wire.left) (prepend_known later there.left) → Ends (input start.wire there) (output start.wire there) f.messages f.responses later (prepend_known later there.left) end
        → IsHeldTo Serves document start (record now { wire = there }) end
    ended end k ends = is_held start (record now { wire = there }) later f.messages f.responses end (stand_kept start.wire.left (prepend_known held now.wire.left) (prepend_known later there.left) f.messages f.stand k) f.served ends

    -- no message came, and the faults of the link's earlier moments are no fewer
    pub ends_unmet : start.wire.reads ≤ now.wire.reads → start.wire.writes ≤ now.wire.writes → (end : SessionEnd) → EndsUnmet now.wire there held later end → IsHeldTo Serves document start (record now { wire = there }) end
    ends_unmet reads writes Closed x = ended Closed x.0.0 (inr (go_on f few, x.0.1), rw x.1 f.text)
    ends_unmet reads writes Truncated x = ended Truncated x.0.0 (go_on f few, x.0.1, rw x.1 f.text)
    ends_unmet reads writes (Bad status) x = ended (Bad status) x.0.0 (go_on f few, x.0.1, appends_more start.wire.taken now.wire.taken there.taken (all_of f.responses) (bad_text status) f.text x.1)
    ends_unmet reads writes ReadFault x = let rose = x.2 in ended ReadFault x.0 (go_on f few, x.1, omega arith, rw x.3 f.text)
    ends_unmet reads writes WriteFault x =
        let rose = x.3 in
        ended WriteFault x.1.0 (all_of f.responses, bad_text x.0, inr (x.0, go_on f few, x.1.1, refl, refl), omega arith, record { between = now.wire.taken; whole = f.text; part = x.2 })
    ends_unmet reads writes TooMany x = absurd x
    -- of the bytes that were taken some may be lost
    ends_unmet reads writes OutOfMemory x =
        is_held start (record now { wire = there }) x.0.0 f.messages f.responses OutOfMemory (stand_kept start.wire.left (prepend_known held now.wire.left) (prepend_known x.0.0 there.left) f.messages f.stand x.0.1) f.served (go_on f few, rw x.1 f.text)

  -- AFTER A MESSAGE

  module _ {Sends : Sending} {start now : Moment Cache Jobs} {held : List ℕ} {n : ℕ} {m : Message} (few : n < 10000) (part : IsPartOfTake held) (a : IsAnswered Serves document Sends start now held n m) where
    go_before : GoBefore (a.earlier ++ m ∷ []) held m
    go_before = record { before = a.earlier; whole = refl; go_on = record { all_open = a.all_open; few = let e = a.many in omega arith }; looks_no_further = part }

    ended_behind : (end : SessionEnd) → Ends (input start.wire now.wire) (output start.wire now.wire) (a.earlier ++ m ∷ []) (a.before_it ++ a.response ∷ []) held (prepend_known held now.wire.left) end → IsHeldTo Serves document start now end
    ended_behind end ends = is_held start now held (a.earlier ++ m ∷ []) (a.before_it ++ a.response ∷ []) end a.stand a.served ends

  pub closed_behind : {start now : Moment Cache Jobs} {held : List ℕ} {n : ℕ} {m : Message} → n < 10000 → IsPartOfTake held → m.last ≡ true → IsAnswered Serves document Appends start now held n m → IsHeldTo Serves document start now Closed
  closed_behind {m = m} few part last a = ended_behind few part a Closed (inl (m, go_before few part a, last), whole_text a)

  pub cut_off_behind : {start now : Moment Cache Jobs} {held : List ℕ} {n : ℕ} {m : Message} → n < 10000 → IsPartOfTake held → Rose start.wire.writes now.wire.writes → IsAnswered Serves document AppendsFront start now held n m → IsHeldTo Serves document start now WriteFault
  cut_off_behind {m = m} few part rose a =
      ended_behind few part a WriteFault (
        all_of a.before_it,
        a.response,
        inl (m, go_before few part a, a.before_it, refl, refl),
        rose,
        record { between = a.between; whole = a.text; part = a.sent },
      )

-- AFTER THE 10,000TH

-- messages of which none is the last of its connection, with one of them after the others
abbrev OneBehind : List Message → Type 0
OneBehind messages = (earlier : List Message) × (m : Message) × (messages ≡ earlier ++ m ∷ []) × AreOpen earlier × (m.last ≡ false)

one_behind : (messages : List Message) → 0 < length messages → AreOpen messages → OneBehind messages
one_behind [] some all = absurd (omega arith)
one_behind (m ∷ []) some all = ([], m, refl, tt, all.0)
one_behind (x ∷ y ∷ messages) some all =
    let later = one_behind (y ∷ messages) (omega arith) all.1 in
    (x ∷ later.0, later.1, rw later.2 refl, (all.0, later.3), later.4)

pub too_many : {Cache Jobs : Type 0} {Serves : Serving Cache Jobs} {document : List ℕ} {start now : Moment Cache Jobs} {held : List ℕ} {n : ℕ} → IsUnderWay Serves document start now held n → n ≡ 10000 → IsPartOfTake held
    → IsHeldTo Serves document start now TooMany
too_many {start = start} {now = now} {held = held} f all part =
    let many = f.many in
    let last = one_behind f.messages (omega arith) f.all_open in
    let count : length f.messages ≡ length last.0 + 1 = ap (λ (xs : List Message). length xs) last.2 ∙ length-append last.0 (last.1 ∷ []) in
    is_held start now held f.messages f.responses TooMany f.stand f.served (last.1, record { before = last.0; whole = last.2; go_on = record { all_open = last.3; few = omega arith }; looks_no_further = part }, last.4, omega arith, f.text)

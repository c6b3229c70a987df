-- How far a session has come: its messages so far and their answers, one message more, and what is promised of them.
use Rattle.std.proofs.Common.{◌≡◌, ℕ, ◌+◌, ◌≤◌, Bool, List, [], ◌∷◌, ◌++◌, length, map, Option, Some, refl, sym, ap, subst, ◌∙◌, arith, append_assoc, append-nil}
use Rattle.std.specs.List.{AllByRecursion}
use Rattle.std.proofs.lemmas.List.{length-append, map-append}
use Rattle.std.proofs.lemmas.List.Sums.{sum_by-append}
use Rattle.cabinet.specs.State.{State, IsSound}
use Rattle.base.specs.Causes.{RoseBy}
use Rattle.http_wire.specs.declared.message.Message.{Message}
use Rattle.tile_requests.specs.declared.outcome.Outcome.{Outcome}
use Rattle.tile_requests.specs.declared.request.Mode.TheVariants.{Gets}
use Rattle.tile_service.specs.OneLine.{IsRunState}
use Rattle.tile_requests.specs.Requests.{Chance, answered_at}
use Rattle.tile_requests.specs.Routes.{spelling_of}
use Rattle.sessions.specs.Outside.{FaultCounts, counts}
use Rattle.tile_service.specs.Passing.{AfterMessages}
use Rattle.tile_service.specs.Run.{RunState, Answer, disk_faults, sent, failures, IsTrue}
use Rattle.tile_service.specs.Serving.{answer_to, Serves}
use Rattle.tile_service.specs.Session.{lone, and_then, session, IsSessionServed}
use Rattle.tile_service.proofs.Passing.{ServedSoFar, served_all, served_more, served_none}
use Rattle.tile_service.proofs.Far.{IsPlaced, answers_later, all_fresh, all_append}
use Rattle.tile_service.proofs.Tiles.{AreAnswered, session_answered}

-- n messages came to these answers
pub record HasServed (told : Option ℕ) (before now : ℕ) (disk : FaultCounts) (document : List ℕ) (s t : State) (messages : List Message) (answers : List Answer) (n : ℕ) : Type 0 where
  pub made : List Chance
  pub goes : (tail : List Message) (more : List Chance) → session (lone s document) 1 (messages ++ tail) (made ++ more) ≡ and_then (lone t document, answers) (λ w. session w (n + 1) tail more)
  pub many : length messages ≡ n
  pub each : map (λ a. a.message) answers ≡ messages
  pub later : before ≤ now
  pub failed : RoseBy (failures answers) before now
  pub faults : RoseBy (disk_faults made) disk.before disk.after
  pub sound : told ≡ Some s.catalogue.source → IsSound s → IsSound t
  pub truth : told ≡ Some s.catalogue.source → IsSound s → AllByRecursion (IsTrue s.catalogue) answers
  pub fresh : AllByRecursion (IsPlaced s.catalogue t.history) answers
  pub catalogue : t.catalogue ≡ s.catalogue

-- and P holds of the cabinet after each of them
abbrev pub HasServedThrough : (State → Type 0) → Option ℕ → ℕ → ℕ → FaultCounts → List ℕ → State → State → List Message → List Answer → ℕ → Type 0
HasServedThrough P told before now disk document s t messages answers n = (h : HasServed told before now disk document s t messages answers n) × ServedSoFar P document s messages h.made

pub served_start : (P : State → Type 0) (told : Option ℕ) (count faults : ℕ) (document : List ℕ) (s : State) → P s → HasServedThrough P told count count (counts faults faults) document s s [] [] 0
served_start P told count faults document s is = (
  record {
    made = [];
    goes = λ tail more. refl;
    many = refl;
    each = refl;
    later = omega arith;
    failed = omega arith;
    faults = omega arith;
    sound = λ tells is. is;
    truth = λ tells is. tt;
    fresh = tt;
    catalogue = refl;
  },
  served_none P document s is,
)

-- a session of one actor who isn't busy
lone_world : (s : State) (document : List ℕ) → IsRunState (lone s document)
lone_world s document = (tt, tt)

-- one message, and then others
one_message : (w u : RunState) (n : ℕ) (m : Message) (c : Chance) (news : List Answer) → sent w n c Gets 0 m ≡ (u, news)
    → (tail : List Message) (more : List Chance) → session w n (m ∷ tail) (c ∷ more) ≡ and_then (u, news) (λ x. session x (n + 1) tail more)
one_message w u n m c news e tail more = rw e refl

-- answers before what comes to others
abbrev behind_answers : List Answer → RunState × List Answer → RunState × List Answer
behind_answers answers r = (r.0, answers ++ r.1)

behind_both : (answers news : List Answer) (r : RunState × List Answer) → behind_answers answers (behind_answers news r) ≡ behind_answers (answers ++ news) r
behind_both answers news r = ap (λ (xs : List Answer). let p : RunState × List Answer = (r.0, xs) in p) (sym (append_assoc answers news r.1))

module _ {told told' : Option ℕ} {before mid after disk_before disk_mid disk_after : ℕ} {document : List ℕ} {s t u : State} {messages : List Message} {answers : List Answer} {n : ℕ} {m : Message} {o : Outcome}
    (f : HasServed told before mid (counts disk_before disk_mid) document s t messages answers n) (same : told' ≡ told) (h : Serves told' mid after (counts disk_mid disk_after) document t m o u) (left : Bool) where
  abbrev pub the_answer : Answer
  the_answer = answer_to (n + 1) m h.request (length t.history) (answered_at (spelling_of m) left o)

  goes_more : (tail : List Message) (more : List Chance) → session (lone s document) 1 ((messages ++ m ∷ []) ++ tail) ((f.made ++ h.chance left ∷ []) ++ more) ≡ and_then (lone u document, answers ++ the_answer ∷ []) (λ w. session w (n + 1 + 1) tail more)
  goes_more tail more =
      rw (append_assoc messages (m ∷ []) tail, append_assoc f.made (h.chance left ∷ []) more) (
      f.goes (m ∷ tail) (h.chance left ∷ more)
      ∙ ap (behind_answers answers) (one_message (lone t document) (lone u document) (n + 1) m (h.chance left) (the_answer ∷ []) (h.made (n + 1) left) tail more)
      ∙ behind_both answers (the_answer ∷ []) (session (lone u document) (n + 1 + 1) tail more))

  more_failed : RoseBy (failures (answers ++ the_answer ∷ [])) before after
  more_failed =
      let b = (h.keeps (n + 1) left).failed before (failures answers) (let i = f.failed in omega arith) in
      let e : failures (answers ++ the_answer ∷ []) ≡ failures answers + failures (the_answer ∷ []) = sum_by-append _ answers (the_answer ∷ []) in
      rw e (omega arith)

  more_faults : RoseBy (disk_faults (f.made ++ h.chance left ∷ [])) disk_before disk_after
  more_faults =
      let i = f.faults in
      let j = h.faults left in
      let e : disk_faults (f.made ++ h.chance left ∷ []) ≡ disk_faults f.made + disk_faults (h.chance left ∷ []) = sum_by-append _ f.made (h.chance left ∷ []) in
      rw e (omega arith)

  -- the source is modelled as the catalogue's, as it was at the start
  tells : told ≡ Some s.catalogue.source → told' ≡ Some t.catalogue.source
  tells e = same ∙ e ∙ ap (λ c. Some c.source) (sym f.catalogue)

  more_truth : told ≡ Some s.catalogue.source → IsSound s → AllByRecursion (IsTrue s.catalogue) (answers ++ the_answer ∷ [])
  more_truth e is = all_append (IsTrue s.catalogue) answers (the_answer ∷ []) (f.truth e is) (rw (sym f.catalogue) ((h.keeps (n + 1) left).truth (tells e) (lone_world t document) (f.sound e is, (tt, tt))))

  more_fresh : AllByRecursion (IsPlaced s.catalogue u.history) (answers ++ the_answer ∷ [])
  more_fresh =
      let k = h.keeps (n + 1) left in
      all_append (IsPlaced s.catalogue u.history) answers (the_answer ∷ []) (answers_later s.catalogue t.history u.history k.grows answers f.fresh) (rw (sym f.catalogue) (k.fresh (lone_world t document)))

  came_to : (more : List Chance) → (session (lone s document) 1 (messages ++ m ∷ []) ((f.made ++ h.chance left ∷ []) ++ more)).0.cabinet ≡ u
  came_to more = subst (λ (ms : List Message). (session (lone s document) 1 ms ((f.made ++ h.chance left ∷ []) ++ more)).0.cabinet ≡ u) (append-nil (messages ++ m ∷ [])) (ap (λ (d : RunState × List Answer). d.0.cabinet) (goes_more [] more))

  pub served_next : (P Q : State → Type 0) → ((x : State) → P x → Q x) → ServedSoFar P document s messages f.made → Q u
      → HasServedThrough Q told before after (counts disk_before disk_after) document s u (messages ++ m ∷ []) (answers ++ the_answer ∷ []) (n + 1)
  served_next P Q onward so is =
      let k = h.keeps (n + 1) left in (
        record {
          made = f.made ++ h.chance left ∷ [];
          goes = goes_more;
          many = let e = length-append messages (m ∷ []) in let i = f.many in omega arith;
          each = map-append (λ a. a.message) answers (the_answer ∷ []) ∙ rw f.each refl;
          later = let i = f.later in let j = k.later in omega arith;
          failed = more_failed;
          faults = more_faults;
          sound = λ e is. (k.sound (tells e) (lone_world t document) (f.sound e is, (tt, tt))).0;
          truth = more_truth;
          fresh = more_fresh;
          catalogue = k.catalogue ∙ f.catalogue;
        },
        served_more P Q document s messages f.made m (h.chance left) u so onward came_to is,
      )

-- that is what is promised
pub is_served : (P : State → Type 0) {told : Option ℕ} {before now : ℕ} {disk : FaultCounts} {document : List ℕ} {s t : State} {messages : List Message} {answers : List Answer} {n : ℕ}
    → (f : HasServed told before now disk document s t messages answers n) → ServedSoFar P document s messages f.made
    → (h : IsSessionServed told (record { before = before; after = now }) disk document s t messages answers) × AfterMessages P document s messages h.chances
is_served P {document = document} {s} {t} {messages} {answers} f so =
    let made : session (lone s document) 1 messages f.made ≡ (lone t document, answers) = rw (append-nil messages, append-nil f.made, append-nil answers) at (f.goes [] []) in (
      record {
        chances = f.made;
        made = made;
        each = f.each;
        failed = f.failed;
        faults = f.faults;
        truth = f.truth;
        sound = f.sound;
        fresh = all_fresh s.catalogue t.history answers f.fresh;
        tiles = (subst (λ d. AreAnswered s d.0.cabinet d.1) made (session_answered (lone s document) 1 messages f.made)).1;
      },
      served_all P document s messages f.made so,
    )

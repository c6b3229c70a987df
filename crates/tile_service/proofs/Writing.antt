-- The answer of a line is written, all of it or a front.
use Rattle.std.proofs.Common.{◌≡◌, ℕ, Bool, true, false, List, [], ◌∷◌, Option, None, Some, refl, inl, inr, sym, subst, flat_map, append-nil}
use Rattle.std.specs.Io.KnownBytes.{Appends}
use Rattle.base.specs.Causes.{Rose}
use Rattle.cabinet.specs.State.{State}
use Rattle.tile_service.specs.declared.action_end.ActionEnd.TheVariants.{Refused, Silent, Answers}
use Rattle.tile_service.specs.declared.action_end.LineAnswer as code
use Rattle.tile_requests.specs.declared.outcome.Outcome.{Outcome}
use Rattle.tile_service.specs.declared.one_line.ScheduleLineEnd.TheVariants as line_end
use Rattle.tile_service.specs.declared.seats.ActorPlace.{ActorPlace}
use Rattle.tile_service.specs.declared.cache_tally.CacheResult.{CacheResult}
use Rattle.tile_service.specs.declared.cache_tally.CacheResult.TheVariants.{Hit, Miss, Other}
use Rattle.tile_service.specs.Lines.{action_in}
use Rattle.sessions.specs.Responses.{MayTell}
use Rattle.tile_service.specs.OneLine.{IsLine, AnswersWith, Performs, answer_with}
use Rattle.sessions.specs.Outside.{FaultCounts, Outside}
use Rattle.tile_requests.specs.Response.{framed, response_with}
use Rattle.tile_requests.specs.Requests.{answered_at}
use Rattle.tile_service.specs.Run.{RunState, Answer, answer_text}
use Rattle.tile_requests.specs.Sent.{AppendsFront}
use Rattle.tile_service.specs.CacheTally.{one_of, result_of, tally_of}
use Rattle.tile_service.specs.Written.{Writes}
use Rattle.tile_requests.proofs.Known.{appends_nothing}

counted_one : (a : Answer) (k : CacheResult) → k ≡ result_of a.outcome → tally_of (a ∷ []) ≡ one_of (Some k)
counted_one a Hit e = rw (sym e) refl
counted_one a Miss e = rw (sym e) refl
counted_one a Other e = rw (sym e) refl

module _ (told : Option ℕ) (before after : ℕ) (disk : FaultCounts) (w : RunState) (n : ℕ) (line : List ℕ) (t : RunState) (r : code.LineAnswer) (h : AnswersWith told before after disk w n (action_in line) t r) where
  abbrev the_answer : Bool → Answer
  the_answer left = answer_with r n h.message h.request h.place left

  answer_is : (left : Bool) → framed n r.actor r.start (response_with w.capabilities r.spelling false (answered_at r.spelling left r.outcome)) ≡ answer_text w.capabilities (the_answer left)
  answer_is left = rw (h.open_after, h.spelling) refl

  its_text : (left : Bool) → framed n r.actor r.start (response_with w.capabilities r.spelling false (answered_at r.spelling left r.outcome)) ≡ flat_map (answer_text w.capabilities) (the_answer left ∷ [])
  its_text left = rw (h.open_after, h.spelling) (sym (append-nil (framed n r.actor r.start (response_with w.capabilities r.spelling false (answered_at r.spelling left r.outcome)))))

  its_line : (left : Bool) → IsLine told before after disk w n line t (the_answer left ∷ [])
  its_line left = record { chance = h.chance left; made = h.made left; faults = h.faults left; keeps = h.keeps left }

  -- what is told is told of the answer's outcome
  which_told : (P : Outcome → Type 0) → MayTell r.spelling r.outcome P → (left : Bool) × P (answered_at r.spelling left r.outcome)
  which_told P (inl k) = (true, k)
  which_told P (inr k) = (false, rw k.0 k.1)

  one_told : (P : List ℕ → Type 0) → MayTell r.spelling r.outcome (λ o. P (framed n r.actor r.start (response_with w.capabilities r.spelling false o))) → (answer : Answer) × IsLine told before after disk w n line t (answer ∷ []) × P (answer_text w.capabilities answer)
  one_told P k = let m = which_told (λ o. P (framed n r.actor r.start (response_with w.capabilities r.spelling false o))) k in (the_answer m.0, its_line m.0, subst P (answer_is m.0) m.1)

  line_counted : (P : List ℕ → Type 0) (k : CacheResult) → MayTell r.spelling r.outcome (λ o. (k ≡ result_of o) × P (framed n r.actor r.start (response_with w.capabilities r.spelling false o)))
      → (answers : List Answer) × IsLine told before after disk w n line t answers × P (flat_map (answer_text w.capabilities) answers) × (tally_of answers ≡ one_of (Some k))
  line_counted P k told_so =
      let m = which_told (λ o. (k ≡ result_of o) × P (framed n r.actor r.start (response_with w.capabilities r.spelling false o))) told_so in
      (the_answer m.0 ∷ [], its_line m.0, subst P (its_text m.0) m.1.1, counted_one (the_answer m.0) k (rw h.spelling m.1.0))

abbrev outside : Option ℕ → ℕ → ℕ → FaultCounts → ℕ → ℕ → Option (List ℕ) → Option (List ℕ) → Outside
outside told before after disk sb sa from to = record { told = told; renders = record { before = before; after = after }; disk = disk; writes = record { before = sb; after = sa }; from = from; to = to }

module _ (told : Option ℕ) (before after : ℕ) (disk : FaultCounts) (sb sa : ℕ) (from to : Option (List ℕ)) (s : State) (document : List ℕ) (seats : List ActorPlace) (n : ℕ) (line : List ℕ) (t : State) (seats' : List ActorPlace) where
  pub writes_refused : to ≡ from → Performs told before after disk s document seats n (action_in line) t seats' Refused → Writes (outside told before after disk sb sa from to) s document seats n line t seats' line_end.Refused
  writes_refused same f busy h = let d = f busy h in (d.0, d.1, (d.2.0, d.2.1, d.2.2, d.2.3, same))

  pub writes_nothing : to ≡ from → Performs told before after disk s document seats n (action_in line) t seats' Silent → Writes (outside told before after disk sb sa from to) s document seats n line t seats' (line_end.Done None)
  writes_nothing same f busy h =
      let d = f busy h in
      let P : Option (List ℕ) → Type 0 = λ x. Appends from x [] in
      (d.0, d.1, ([], record { chance = d.2.0; made = d.2.1; faults = d.2.2; keeps = d.2.3 }, subst P (sym same) (appends_nothing from), refl))

  pub writes_answer : (words : List ℕ) → words ≡ document → (r : code.LineAnswer) (k : CacheResult) → MayTell r.spelling r.outcome (λ o. (k ≡ result_of o) × Appends from to (framed n r.actor r.start (response_with words r.spelling false o))) → Performs told before after disk s document seats n (action_in line) t seats' (Answers r)
      → Writes (outside told before after disk sb sa from to) s document seats n line t seats' (line_end.Done (Some k))
  writes_answer words same r k h f busy is =
      let d = f busy is in
      let told_so = subst (λ x. MayTell r.spelling r.outcome (λ o. (k ≡ result_of o) × Appends from to (framed n r.actor r.start (response_with x r.spelling false o)))) same h in
      (d.0, d.1, line_counted told before after disk _ n line _ r d.2 (Appends from to) k told_so)

  pub writes_front : (words : List ℕ) → words ≡ document → (r : code.LineAnswer) → MayTell r.spelling r.outcome (λ o. AppendsFront from to (framed n r.actor r.start (response_with words r.spelling false o))) → Rose sb sa → Performs told before after disk s document seats n (action_in line) t seats' (Answers r)
      → Writes (outside told before after disk sb sa from to) s document seats n line t seats' line_end.WriteFault
  writes_front words same r k rose f busy h =
      let d = f busy h in
      let told_so = subst (λ x. MayTell r.spelling r.outcome (λ o. AppendsFront from to (framed n r.actor r.start (response_with x r.spelling false o)))) same k in
      let l = one_told told before after disk _ n line _ r d.2 (AppendsFront from to) told_so in
      (d.0, d.1, (l.0, l.1, l.2, rose))

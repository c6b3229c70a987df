-- Why each answer of a session came.
use Rattle.std.proofs.Common.{ℕ, ◌≡◌, Bool, true, false, if◌then◌else◌, List, [], ◌∷◌, Option, Some, None, Result, Ok, Err, inl, inr, refl, sym, subst, ◌∙◌}
use Rattle.std.specs.Prelude.{◌⊎◌, MatchOption}
use Rattle.std.specs.List.{AllByRecursion}
use Rattle.cabinet.specs.declared.replies.CutReply.{CutReply}
use Rattle.cabinet.specs.declared.replies.CutReply.TheVariants as cut
use Rattle.cabinet.specs.declared.replies.Expired.{Expired}
use Rattle.cabinet.specs.declared.replies.Expired.TheVariants as expired
use Rattle.cabinet.specs.Commands.{IsCountedExpired, Expires}
use Rattle.cabinet_chest.specs.declared.command.Command.{Command}
use Rattle.cabinet_chest.specs.declared.command.Command.TheVariants as command
use Rattle.cabinet_chest.specs.declared.command.Reply.{Reply}
use Rattle.cabinet_chest.specs.declared.command.Reply.TheVariants as reply
use Rattle.cabinet_chest.specs.declared.shown.Note.{Note}
use Rattle.cabinet_chest.specs.declared.shown.Shown.{Shown}
use Rattle.cabinet_chest.specs.Replies.{IsCutAnswered, IsReplyTo, MayReply}
use Rattle.cache_core.specs.declared.outcome.Tile.{Tile}
use Rattle.catalog.specs.declared.catalogue.Catalogue.{Catalogue}
use Rattle.base.specs.Causes.{Rose}
use Rattle.composite_requests.specs.declared.request.CompositeRequest.{CompositeRequest}
use Rattle.composite_requests.specs.declared.request.CompositeRequest.TheVariants as composite_request
use Rattle.composite_requests.specs.Routes.{request_for as composite_request_for}
use Rattle.layer_recipes.specs.declared.book.RecipeBook.{RecipeBook}
use Rattle.layer_recipes.specs.declared.composed.Composed.{Composed}
use Rattle.layer_recipes.specs.declared.composed.ComposeFault.{ComposeFault}
use Rattle.layer_recipes.specs.declared.composed.ComposeFault.TheVariants as compose_fault
use Rattle.layer_recipes.specs.declared.place.TilePlace.{TilePlace}
use Rattle.job_board.specs.Calls.{BoardHolding, MakesOne}
use Rattle.job_board.specs.declared.shown.BoardCommand.TheVariants as board_command
use Rattle.job_board.specs.declared.shown.BoardReply.TheVariants as board_reply
use Rattle.job_requests.specs.declared.request.JobRequest.{JobRequest}
use Rattle.job_requests.specs.declared.request.JobRequest.TheVariants as job_request
use Rattle.job_requests.specs.Routes.{request_for as job_request_for}
use Rattle.job_requests.specs.Served.{AreAllJobs, AreLooks, IsLookServed, IsStatusServed, IsStopServed, IsSubmissionServed, ServesJob, outcome_of_look, outcome_of_status, outcome_of_submission}
use Rattle.job_requests.specs.Texts.{statuses_text}
use Rattle.job_board.specs.declared.status.JobStatus.{JobStatus}
use Rattle.job_forms.specs.declared.job.Job.{Job}
use Rattle.matrix_geometry.specs.declared.address.Address.{Address}
use Rattle.source_render.specs.Renders.{Renders}
use Rattle.truncation_list.specs.declared.book.FrontedBook.{FrontedBook}
use Rattle.truncation_list.specs.declared.cover.Cover.{Cover}
use Rattle.turnstile.specs.declared.view.Made.{Made}
use Rattle.cache_access.specs.declared.fault.GetFault.{GetFault}
use Rattle.cache_access.specs.declared.fault.GetFault.TheVariants as fault
use Rattle.cache_access.specs.Gets.{HasMetSpent}
use Rattle.cache_hall.specs.Gets.{HasGot, IsGot}
use Rattle.cache_access.specs.Turned.{AreTurns, IsOf, IsTurn}
use Rattle.tile_requests.specs.declared.outcome.Outcome.{Outcome}
use Rattle.tile_requests.specs.declared.outcome.Outcome.TheVariants as outcome
use Rattle.tile_requests.specs.declared.outcome.Plain.TheVariants as plain
use Rattle.tile_requests.specs.declared.request.Request.{Request}
use Rattle.tile_requests.specs.declared.request.Request.TheVariants as request
use Rattle.tile_requests.specs.Requests.{answered_at, is_made, told_at}
use Rattle.tile_requests.specs.Routes.{spelling_of}
use Rattle.hall_sessions.specs.Caused.{AsksFor, AsksForComposite, AsksForTile, AsksOfJobs, HasAnswer, HasComposition, HasCutTurn, HasExpiryTurn, IsCaused, IsGiven, outcome_told}
use Rattle.hall_sessions.specs.Composites.{IsComposed, outcome_of_composition}
use Rattle.hall_sessions.specs.Exchanges.{AreExchanges, HallExchange, IsExchange}
use Rattle.hall_sessions.specs.Served.{IsCacheMessageServed, IsCompositeMessageServed, IsJobMessageServed, IsOtherMessageServed, IsRequestServed}
use Rattle.tile_requests.specs.Served.{IsCutServed, IsUsageServed, outcome_of_cut, outcome_of_expiry, outcome_of_get}
use Rattle.hall_sessions.proofs.Apart.{no_composite_at_tile}
use Rattle.hall_sessions.proofs.Unknown.{found_again}

-- A DISK THAT FAILED

cut_same : (x y : CutReply) → reply.Cut x ≡ reply.Cut y → y ≡ x
cut_same x y e = cc

expired_same : (x y : Expired) → reply.Expired x ≡ reply.Expired y → y ≡ x
expired_same x y e = cc

rose_by : (x y before after : ℕ) → Rose x y → x ≡ before → y ≡ after → Rose before after
rose_by x y before after rose is_before is_after = subst (λ (n : ℕ). Rose before n) is_after (subst (λ (n : ℕ). Rose n y) is_before rose)

module _ (c : Catalogue) (told : Bool) (x y : ℕ) where
  cut_failed : (cover : Cover) (b a : Shown) (does : Command) (r : Reply) → does ≡ command.Cut cover → r ≡ reply.Cut (cut.DiskFault x y) → MayReply c told b a does r → Rose b.faults a.faults
  cut_failed cover b a does r is so may =
      let h : IsReplyTo c told b a (command.Cut cover) (reply.Cut (cut.DiskFault x y)) = subst (λ (z : Reply). IsReplyTo c told b a (command.Cut cover) z) so (subst (λ (d : Command). IsReplyTo c told b a d r) is may.answer) in
      let answered : IsCutAnswered b a cover (cut.DiskFault x y) = subst (λ (z : CutReply). IsCutAnswered b a cover z) (cut_same (cut.DiskFault x y) h.0 h.1) h.2 in
      rose_by x y b.faults a.faults answered.row.3 answered.counted.0 answered.counted.1

  expiry_failed : (b a : Shown) (does : Command) (r : Reply) → does ≡ command.Expire → r ≡ reply.Expired (expired.DiskFault x y) → MayReply c told b a does r → Rose b.faults a.faults
  expiry_failed b a does r is so may =
      let h : IsReplyTo c told b a command.Expire (reply.Expired (expired.DiskFault x y)) = subst (λ (z : Reply). IsReplyTo c told b a command.Expire z) so (subst (λ (d : Command). IsReplyTo c told b a d r) is may.answer) in
      let same = expired_same (expired.DiskFault x y) h.0 h.1 in
      let row : Expires b.state (expired.DiskFault x y) a.state = subst (λ (z : Expired). Expires b.state z a.state) same h.2 in
      let counted : IsCountedExpired b.faults a.faults (expired.DiskFault x y) = subst (λ (z : Expired). IsCountedExpired b.faults a.faults z) same h.3 in
      rose_by x y b.faults a.faults row.1 counted.0 counted.1

-- the one turn of a message
only_turn : (c : Catalogue) (told : Bool) (seen sees : FrontedBook) (gained : List (Made Note)) (m : Made Note) → gained ≡ m ∷ [] → AreTurns c told seen gained sees → IsTurn c told seen m
only_turn c told seen sees gained m one turns = let h : AreTurns c told seen (m ∷ []) sees = subst (λ (ms : List (Made Note)). AreTurns c told seen ms sees) one turns in h.0

-- REQUESTS DIFFER

one_address : (x y : Address) → request.Tile x ≡ request.Tile y → x ≡ y
one_address x y e = cc

not_a_cut : (cover : Cover) (a : Address) → request.Truncation cover ≡ request.Tile a → ⊥
not_a_cut cover a e = absurd (cc)

not_an_expiry : (a : Address) → request.Expiry ≡ request.Tile a → ⊥
not_an_expiry a e = absurd (cc)

none_is_some : {A : Type 0} (x : A) → None ≡ Some x → ⊥
none_is_some x e = absurd (cc)

-- EACH CAUSE

module _ (c : Catalogue) (recipes : RecipeBook) (told : Bool) (e : HallExchange) where
  -- the cause of an answer, or memory ran out for it
  or_memory : (made : Bool) (o : Outcome) → IsCaused c recipes told e o → IsCaused c recipes told e (if made then outcome.Plain plain.NoMemory else o)
  or_memory true o h = tt
  or_memory false o h = h

  caused_told : (left : Bool) (o : Outcome) → IsCaused c recipes told e o → IsCaused c recipes told e (answered_at (spelling_of e.message) left o)
  caused_told true o h = h
  caused_told false o h = or_memory (is_made (spelling_of e.message) o) o h

  caused_while : (left : Bool) (o : Outcome) → IsCaused c recipes told e o → IsCaused c recipes told e (told_at left o)
  caused_while true o h = h
  caused_while false o h = tt

  caused_as : (o p : Outcome) → o ≡ p → IsCaused c recipes told e p → IsCaused c recipes told e o
  caused_as o p is h = subst (IsCaused c recipes told e) (sym is) h

  got_caused : (a : Address) → AsksFor c recipes e.message (request.Tile a) → (o : Outcome) → (o ≡ outcome.SourceFailed → Rose e.renders_before.failures e.renders_after.failures) → (result : Result Tile GetFault) → IsGot c told a e.seen e.gained result → o ≡ outcome_of_get result
      → IsCaused c recipes told e o
  got_caused a asks o rose (Ok tile) got is = caused_as o (outcome.Tile tile.hit tile.number tile.bytes) is (a, asks, got)
  got_caused a asks o rose (Err fault.SourceFault) got is = caused_as o outcome.SourceFailed is (inl (a, asks, got, rose is))
  got_caused a asks o rose (Err fault.Spent) got is = caused_as o (outcome.Plain plain.Spent) is (inl (a, asks, got))
  got_caused a asks o rose (Err fault.OutOfMemory) got is = caused_as o (outcome.Plain plain.NoMemory) is tt

  module _ (turns : AreTurns c told e.seen e.gained e.sees) where
    cut_reply_caused : (cover : Cover) → AsksFor c recipes e.message (request.Truncation cover) → (o : Outcome) (m : Made Note) → e.gained ≡ m ∷ [] → (r : CutReply) → IsOf (command.Cut cover) (reply.Cut r) m → o ≡ outcome_of_cut r → IsCaused c recipes told e o
    cut_reply_caused cover asks o m one (cut.Done k) of is = caused_as o (outcome.Cut k) is (record { cover = cover; asks = asks; turn = m; one = one; of = of })
    cut_reply_caused cover asks o m one cut.Full of is = caused_as o (outcome.Plain plain.CutsFull) is (record { cover = cover; asks = asks; turn = m; one = one; of = of })
    cut_reply_caused cover asks o m one (cut.DiskFault b a) of is =
        let turn = only_turn c told e.seen e.sees e.gained m one turns in
        let rose = cut_failed c told b a cover m.note.before m.note.after m.note.command m.note.reply of.command of.reply turn.reply in
        caused_as o (outcome.Plain plain.DiskFault) is (inl (b, a, record { cover = cover; asks = asks; turn = m; one = one; of = of }, rose))
    cut_reply_caused cover asks o m one cut.Spent of is = caused_as o (outcome.Plain plain.CutSpent) is (record { cover = cover; asks = asks; turn = m; one = one; of = of })

    cut_caused : (cover : Cover) → AsksFor c recipes e.message (request.Truncation cover) → (o : Outcome) → IsCutServed cover e.gained o → IsCaused c recipes told e o
    cut_caused cover asks o (inl h) = cut_reply_caused cover asks o h.0 h.2 h.1 h.3 h.4
    cut_caused cover asks o (inr h) = caused_as o (outcome.Plain plain.NoMemory) h.1 tt

    expiry_reply_caused : AsksFor c recipes e.message request.Expiry → (o : Outcome) (m : Made Note) (left : Bool) → e.gained ≡ m ∷ [] → (r : Expired) → IsOf command.Expire (reply.Expired r) m → o ≡ outcome_of_expiry c r left → IsCaused c recipes told e o
    expiry_reply_caused asks o m left one (expired.Dropped k) of is = caused_as o (outcome_of_expiry c (expired.Dropped k) left) is (caused_while left _ (k, record { asks = asks; turn = m; one = one; of = of }, refl))
    expiry_reply_caused asks o m left one (expired.DiskFault b a) of is =
        let turn = only_turn c told e.seen e.sees e.gained m one turns in
        let rose = expiry_failed c told b a m.note.before m.note.after m.note.command m.note.reply of.command of.reply turn.reply in
        caused_as o (outcome.Plain plain.DiskFault) is (inr (b, a, record { asks = asks; turn = m; one = one; of = of }, rose))
    expiry_reply_caused asks o m left one expired.Within of is = caused_as o (outcome.Plain plain.Within) is (record { asks = asks; turn = m; one = one; of = of })

    usage_caused : AsksFor c recipes e.message request.Usage → (o : Outcome) → IsUsageServed c e.gained o → IsCaused c recipes told e o
    usage_caused asks o (inl h) = caused_as o (outcome.Usage h.0) h.2 (asks, h.1)
    usage_caused asks o (inr h) = caused_as o (outcome.Plain plain.NoMemory) h.1 tt

    request_caused : (r : Request) → AsksFor c recipes e.message r → (o : Outcome) → (o ≡ outcome.SourceFailed → Rose e.renders_before.failures e.renders_after.failures) → IsRequestServed c told e.seen r e.gained o → IsCaused c recipes told e o
    request_caused (request.Tile a) asks o rose h = got_caused a asks o rose h.0 h.1 h.2
    request_caused request.Capabilities asks o rose h = caused_as o outcome.Document h.1 asks
    request_caused (request.Refused code locator) asks o rose h = caused_as o (outcome.Refused code locator) h.1 (inl asks)
    request_caused request.NotFound asks o rose h = caused_as o (outcome.Plain plain.NotFound) h.1 (inl asks)
    request_caused request.WrongMethod asks o rose h = caused_as o (outcome.Plain plain.WrongMethod) h.1 (inl asks)
    request_caused request.Usage asks o rose h = usage_caused asks o h
    request_caused (request.Truncation cover) asks o rose h = cut_caused cover asks o h
    request_caused (request.Unformed f) asks o rose h = caused_as o (outcome.Unformed f) h.1 (inl asks)
    request_caused request.Expiry asks o rose h = expiry_reply_caused asks o h.0 h.2 h.3 h.1 h.4 h.5

  -- AT THE BOARD

  submission_caused : (job : Job) → AsksOfJobs c e.message (job_request.Submission job) → (o : Outcome) → IsSubmissionServed c job e.board_before e.board_after o → IsCaused c recipes told e o
  submission_caused job asks o (inl (Some n, left, one, is)) = caused_as o (outcome_of_submission (Some n) left) is (caused_while left _ (inl (n, record { job = job; asks = asks; one = one }, refl)))
  submission_caused job asks o (inl (None, left, one, is)) = caused_as o (outcome.Plain plain.BoardFull) is (record { job = job; asks = asks; one = one })
  submission_caused job asks o (inr h) = caused_as o (outcome.Plain plain.NoMemory) h.1 tt

  look_caused : (n : ℕ) → AsksOfJobs c e.message (job_request.Look n) → (o : Outcome) → IsLookServed n e.board_before e.board_after o → IsCaused c recipes told e o
  look_caused n asks o (Some p, left, one, is) =
      caused_as o (outcome_of_look n (Some p) left) is (caused_while left _ (inr (inl (n, p, record { before = e.board_before; asks = inl (asks, refl); one = one }, refl))))
  look_caused n asks o (None, left, one, is) = caused_as o (outcome.Plain plain.NotFound) is (inr (inr (inl (record { number = n; found_none = inl (asks, one) }))))

  stopped_caused : (n : ℕ) → AsksOfJobs c e.message (job_request.Stop n) → (o : Outcome) (between : BoardHolding) → MakesOne e.board_before between (board_command.Stop n) (board_reply.Stop true) → IsLookServed n between e.board_after o → IsCaused c recipes told e o
  stopped_caused n asks o between stop (Some p, left, one, is) =
      caused_as o (outcome_of_look n (Some p) left) is (caused_while left _ (inr (inl (n, p, record { before = between; asks = inr (asks, stop); one = one }, refl))))
  stopped_caused n asks o between stop (None, left, one, is) = absurd (found_again e.board_before between e.board_after n stop one)

  stop_caused : (n : ℕ) → AsksOfJobs c e.message (job_request.Stop n) → (o : Outcome) → IsStopServed n e.board_before e.board_after o → IsCaused c recipes told e o
  stop_caused n asks o (inl h) = caused_as o (outcome.Plain plain.NotFound) h.1 (inr (inr (inl (record { number = n; found_none = inr (inl (asks, h.0)) }))))
  stop_caused n asks o (inr h) = stopped_caused n asks o h.0 h.1 h.2

  status_caused : (n : ℕ) → AsksOfJobs c e.message (job_request.Status n) → (o : Outcome) → IsStatusServed n e.board_before e.board_after o → IsCaused c recipes told e o
  status_caused n asks o (Some s, left, one, is) =
      caused_as o (outcome_of_status n (Some s) left) is (caused_while left _ (inr (inr (inl (n, s, record { asks = asks; one = one }, refl)))))
  status_caused n asks o (None, left, one, is) = caused_as o (outcome.Plain plain.NotFound) is (inr (inr (inl (record { number = n; found_none = inr (inr (asks, one)) }))))

  statuses_caused : AsksOfJobs c e.message job_request.Statuses → (o : Outcome) (found : List JobStatus) (between : BoardHolding) → AreLooks 1 found e.board_before between
      → (AreAllJobs found between e.board_after × (o ≡ outcome.Job (statuses_text 1 found))) ⊎ ((e.board_after ≡ between) × (o ≡ outcome.Plain plain.NoMemory)) → IsCaused c recipes told e o
  statuses_caused asks o found between looks (inl h) =
      caused_as o (outcome.Job (statuses_text 1 found)) h.1 (inr (inr (inr (found, record { asks = asks; between = between; looks = looks; all = h.0 }, refl))))
  statuses_caused asks o found between looks (inr h) = caused_as o (outcome.Plain plain.NoMemory) h.1 tt

  job_caused : (r : JobRequest) → AsksOfJobs c e.message r → (o : Outcome) → ServesJob c r e.board_before e.board_after o → IsCaused c recipes told e o
  job_caused (job_request.Submission job) asks o h = submission_caused job asks o h
  job_caused (job_request.Unformed f) asks o h = caused_as o (outcome.Unformed f) h.1 (inr asks)
  job_caused (job_request.Look n) asks o h = look_caused n asks o h
  job_caused (job_request.Stop n) asks o h = stop_caused n asks o h
  job_caused (job_request.Status n) asks o h = status_caused n asks o h
  job_caused job_request.Statuses asks o h = statuses_caused asks o h.found h.between h.looks h.told
  job_caused job_request.NotFound asks o h = caused_as o (outcome.Plain plain.NotFound) h.1 (inr (inl asks))
  job_caused job_request.WrongMethod asks o h = caused_as o (outcome.Plain plain.WrongMethod) h.1 (inr (inl asks))

  job_message_caused : (r : JobRequest) → AsksOfJobs c e.message r → (o : Outcome) → IsJobMessageServed c r e.gained e.board_before e.board_after o → IsCaused c recipes told e o
  job_message_caused r asks o (inl h) = job_caused r asks o h.1
  job_message_caused r asks o (inr h) = caused_as o (outcome.Plain plain.NoMemory) h.0.1 tt

  -- BELOW /composites/

  module _ (rose : e.came_to ≡ outcome.SourceFailed → Rose e.renders_before.failures e.renders_after.failures) where
    composition_caused : (number : ℕ) (place : TilePlace) → AsksForComposite c recipes e.message (composite_request.Composite number place) → (result : Result Composed ComposeFault) → IsComposed c e.renders_after.gave recipes told e.seen number place e.gained result
        → e.came_to ≡ outcome_of_composition result → IsCaused c recipes told e e.came_to
    composition_caused number place asks (Ok composed) h is =
        caused_as e.came_to (outcome_of_composition (Ok composed)) is (record { came_to = composed; composition = record { number = number; place = place; asks = asks; composed = h }; numbered = refl; is_text = refl })
    composition_caused number place asks (Err compose_fault.SourceFault) h is = caused_as e.came_to outcome.SourceFailed is (inr (record { number = number; place = place; asks = asks; composed = h }, rose is))
    composition_caused number place asks (Err compose_fault.Spent) h is = caused_as e.came_to (outcome.Plain plain.Spent) is (inr (record { number = number; place = place; asks = asks; composed = h }))
    composition_caused number place asks (Err compose_fault.OutOfMemory) h is = caused_as e.came_to (outcome.Plain plain.NoMemory) is tt

    composite_caused : (r : CompositeRequest) → AsksForComposite c recipes e.message r → IsCompositeMessageServed c e.renders_after.gave recipes told e.seen r e.gained e.came_to → IsCaused c recipes told e e.came_to
    composite_caused (composite_request.Composite number place) asks (inl h) = composition_caused number place asks h.0 h.1 h.2
    composite_caused (composite_request.Refused code locator) asks (inl h) = caused_as e.came_to (outcome.Refused code locator) h.1 (inr asks)
    composite_caused composite_request.NotFound asks (inl h) = caused_as e.came_to (outcome.Plain plain.NotFound) h.1 (inr (inr (inr asks)))
    composite_caused composite_request.WrongMethod asks (inl h) = caused_as e.came_to (outcome.Plain plain.WrongMethod) h.1 (inr (inr asks))
    composite_caused r asks (inr h) = caused_as e.came_to (outcome.Plain plain.NoMemory) h.1 tt

  -- A MESSAGE

  module _ (turns : AreTurns c told e.seen e.gained e.sees) (rose : e.came_to ≡ outcome.SourceFailed → Rose e.renders_before.failures e.renders_after.failures) where
    other_caused : (r : Option Request) → job_request_for c e.message ≡ None → composite_request_for c recipes e.message ≡ None → IsOtherMessageServed c told e.seen e.message r e.gained e.came_to → IsCaused c recipes told e e.came_to
    other_caused None other none h = caused_as e.came_to (outcome.Plain plain.NoMemory) h.1 tt
    other_caused (Some r) other none h = request_caused turns r (record { no_job = other; no_composite = none; is = sym h.0 }) e.came_to rose h.1

    cache_caused : (asked : Option CompositeRequest) → job_request_for c e.message ≡ None → composite_request_for c recipes e.message ≡ asked
        → MatchOption asked (IsOtherMessageServed c told e.seen e.message e.request e.gained e.came_to) (λ r. IsCompositeMessageServed c e.renders_after.gave recipes told e.seen r e.gained e.came_to × (e.request ≡ None)) → IsCaused c recipes told e e.came_to
    cache_caused None other is h = other_caused e.request other is h
    cache_caused (Some r) other is h = composite_caused rose r (record { no_job = other; is = is }) h.0

    message_caused : (asked : Option JobRequest) → job_request_for c e.message ≡ asked
        → MatchOption asked (IsCacheMessageServed c e.renders_after.gave recipes told e.seen e.message e.request e.gained e.came_to × (e.board_after ≡ e.board_before)) (λ r. IsJobMessageServed c r e.gained e.board_before e.board_after e.came_to × (e.request ≡ None)) → IsCaused c recipes told e e.came_to
    message_caused None is h = cache_caused (composite_request_for c recipes e.message) is refl h.0
    message_caused (Some r) is h = job_message_caused r is e.came_to h.0

  -- WHO ASKS FOR A TILE

  module _ (a : Address) (asks : AsksForTile c e.message a) where
    -- a message asks for one thing
    one_request : (r : Request) → AsksFor c recipes e.message r → r ≡ request.Tile a
    one_request r other = sym other.is ∙ asks.is

    no_job : (r : JobRequest) → AsksOfJobs c e.message r → ⊥
    no_job r other = absurd (none_is_some r (sym asks.no_job ∙ other))

    no_composite : (r : CompositeRequest) → AsksForComposite c recipes e.message r → ⊥
    no_composite r other = absurd (none_is_some r (sym (no_composite_at_tile c recipes e.message a asks.is) ∙ other.is))

    no_cut : (r : CutReply) → HasCutTurn c recipes e r → ⊥
    no_cut r h = absurd (not_a_cut h.cover a (one_request (request.Truncation h.cover) h.asks))

    no_expiry : (r : Expired) → HasExpiryTurn c recipes e r → ⊥
    no_expiry r h = absurd (not_an_expiry a (one_request request.Expiry h.asks))

    no_look : (n : ℕ) → (AsksOfJobs c e.message (job_request.Look n) × MakesOne e.board_before e.board_after (board_command.Look n) (board_reply.Look None)) ⊎ ((AsksOfJobs c e.message (job_request.Stop n) × MakesOne e.board_before e.board_after (board_command.Stop n) (board_reply.Stop false)) ⊎ (AsksOfJobs c e.message (job_request.Status n) × MakesOne e.board_before e.board_after (board_command.Look n) (board_reply.Look None))) → ⊥
    no_look n (inl h) = no_job (job_request.Look n) h.0
    no_look n (inr (inl h)) = no_job (job_request.Stop n) h.0
    no_look n (inr (inr h)) = no_job (job_request.Status n) h.0

    no_progress : (n : ℕ) (before : BoardHolding) → (AsksOfJobs c e.message (job_request.Look n) × (before ≡ e.board_before)) ⊎ (AsksOfJobs c e.message (job_request.Stop n) × MakesOne e.board_before before (board_command.Stop n) (board_reply.Stop true)) → ⊥
    no_progress n before (inl h) = no_job (job_request.Look n) h.0
    no_progress n before (inr h) = no_job (job_request.Stop n) h.0

    no_composition : (result : Result Composed ComposeFault) → HasComposition c recipes told e result → ⊥
    no_composition result h = no_composite (composite_request.Composite h.number h.place) h.asks

    given_of : (o : Outcome) → outcome_told e ≡ o → IsCaused c recipes told e o
        → IsGiven c told a e ⊎ ((outcome_told e ≡ outcome.Plain plain.NoMemory) ⊎ (((outcome_told e ≡ outcome.SourceFailed) × Rose e.renders_before.failures e.renders_after.failures) ⊎ ((outcome_told e ≡ outcome.Plain plain.Spent) × HasMetSpent a e.gained)))
    given_of (outcome.Tile hit k bytes) is h =
        let tile : Tile = record { hit = hit; number = k; bytes = bytes } in
        inl (record { tile = tile; is = is; got = subst (λ (b : Address). HasGot c told b e.seen e.gained tile) (one_address h.0 a (one_request (request.Tile h.0) h.1)) h.2 })
    given_of outcome.Document is h = let other = one_request request.Capabilities h in absurd (cc)
    given_of (outcome.Refused code locator) is (inl h) = let other = one_request (request.Refused code locator) h in absurd (cc)
    given_of (outcome.Refused code locator) is (inr h) = absurd (no_composite (composite_request.Refused code locator) h)
    given_of (outcome.Plain plain.NotFound) is (inl h) = let other = one_request request.NotFound h in absurd (cc)
    given_of (outcome.Plain plain.NotFound) is (inr (inl h)) = absurd (no_job job_request.NotFound h)
    given_of (outcome.Plain plain.NotFound) is (inr (inr (inl h))) = absurd (no_look h.number h.found_none)
    given_of (outcome.Plain plain.NotFound) is (inr (inr (inr h))) = absurd (no_composite composite_request.NotFound h)
    given_of (outcome.Plain plain.WrongMethod) is (inl h) = let other = one_request request.WrongMethod h in absurd (cc)
    given_of (outcome.Plain plain.WrongMethod) is (inr (inl h)) = absurd (no_job job_request.WrongMethod h)
    given_of (outcome.Plain plain.WrongMethod) is (inr (inr h)) = absurd (no_composite composite_request.WrongMethod h)
    given_of outcome.SourceFailed is (inl h) = inr (inr (inl (is, h.3)))
    given_of outcome.SourceFailed is (inr h) = absurd (no_composition (Err compose_fault.SourceFault) h.0)
    given_of (outcome.Plain plain.Spent) is (inl h) = inr (inr (inr (is, subst (λ (b : Address). HasMetSpent b e.gained) (one_address h.0 a (one_request (request.Tile h.0) h.1)) h.2)))
    given_of (outcome.Plain plain.Spent) is (inr h) = absurd (no_composition (Err compose_fault.Spent) h)
    given_of (outcome.Usage text) is h = let other = one_request request.Usage h.0 in absurd (cc)
    given_of (outcome.Cut k) is h = absurd (no_cut (cut.Done k) h)
    given_of (outcome.Plain plain.CutsFull) is h = absurd (no_cut cut.Full h)
    given_of (outcome.Plain plain.CutSpent) is h = absurd (no_cut cut.Spent h)
    given_of (outcome.Unformed f) is (inl h) = let other = one_request (request.Unformed f) h in absurd (cc)
    given_of (outcome.Unformed f) is (inr h) = absurd (no_job (job_request.Unformed f) h)
    given_of (outcome.Dropped text) is h = absurd (no_expiry (expired.Dropped h.0) h.1)
    given_of (outcome.Plain plain.Within) is h = absurd (no_expiry expired.Within h)
    given_of (outcome.Job text) is (inl h) = absurd (no_job (job_request.Submission h.1.job) h.1.asks)
    given_of (outcome.Job text) is (inr (inl h)) = absurd (no_progress h.0 h.2.before h.2.asks)
    given_of (outcome.Job text) is (inr (inr (inl h))) = absurd (no_job (job_request.Status h.0) h.2.asks)
    given_of (outcome.Job text) is (inr (inr (inr h))) = absurd (no_job job_request.Statuses h.1.asks)
    given_of (outcome.Composite numbers text) is h = absurd (no_composition (Ok h.came_to) h.composition)
    given_of (outcome.Plain plain.BoardFull) is h = absurd (no_job (job_request.Submission h.job) h.asks)
    given_of (outcome.Plain plain.DiskFault) is (inl h) = absurd (no_cut (cut.DiskFault h.0 h.1) h.2)
    given_of (outcome.Plain plain.DiskFault) is (inr h) = absurd (no_expiry (expired.DiskFault h.0 h.1) h.2)
    given_of (outcome.Plain plain.NoMemory) is h = inr (inl is)

-- THE WHOLE

pub has_answer : (c : Catalogue) (recipes : RecipeBook) (told : Bool) (e : HallExchange) → IsExchange c recipes told e → HasAnswer c recipes told e
has_answer c recipes told e h =
    let cause = caused_told c recipes told e e.left e.came_to (message_caused c recipes told e h.turns h.cause (job_request_for c e.message) refl h.served) in
    record { tiles = λ a asks. given_of c recipes told e a asks (outcome_told e) refl cause; cause = cause }

pub have_answers : (c : Catalogue) (recipes : RecipeBook) (told : Bool) (seen : FrontedBook) (board : BoardHolding) (renders : Renders) (es : List HallExchange) (sees : FrontedBook) (board_after : BoardHolding) (after : Renders)
    → AreExchanges c recipes told seen board renders es sees board_after after → AllByRecursion (HasAnswer c recipes told) es
have_answers c recipes told seen board renders [] sees board_after after are = tt
have_answers c recipes told seen board renders (e ∷ es) sees board_after after are = (has_answer c recipes told e are.3, have_answers c recipes told e.sees e.board_after e.renders_after es sees board_after after are.4)

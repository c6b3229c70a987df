-- Requests and messages over a hall and a board.
use Rattle.std.proofs.Common.{ℕ, ◌≡◌, Bool, true, false, List, [], Option, Some, None, inl, inr, refl, sym, subst, ◌∙◌}
use Rattle.std.specs.Prelude.{◌⊎◌, MatchOption}
use Rattle.catalog.specs.declared.catalogue.Catalogue.{Catalogue}
use Rattle.composite_requests.specs.declared.request.CompositeRequest.{CompositeRequest}
use Rattle.composite_requests.specs.Routes.{request_for as composite_request_for}
use Rattle.http_wire.specs.declared.message.Message.{Message}
use Rattle.job_board.specs.Calls.{BoardHolding}
use Rattle.job_requests.specs.declared.request.JobRequest.{JobRequest}
use Rattle.job_requests.specs.declared.request.JobRequest.TheVariants as job_request
use Rattle.job_requests.specs.Routes.{request_for as job_request_for}
use Rattle.job_requests.specs.Served.{ServesJob, outcome_of_look, outcome_of_status, outcome_of_submission}
use Rattle.job_requests.specs.Texts.{progress_text, status_text, submitted_text}
use Rattle.job_board.specs.declared.status.JobStatus.{JobStatus}
use Rattle.layer_recipes.specs.declared.book.RecipeBook.{RecipeBook}
use Rattle.cabinet_chest.specs.declared.shown.Note.{Note}
use Rattle.cache_hall.specs.Turned.{HallPass}
use Rattle.cache_hall.specs.Gained.{gains_none}
use Rattle.turnstile.specs.declared.view.Made.{Made}
use Rattle.source_render.specs.Renders.{GivenImage, Renders}
use Rattle.tile_requests.specs.declared.outcome.Outcome.{Outcome}
use Rattle.tile_requests.specs.declared.outcome.Outcome.TheVariants as outcome
use Rattle.tile_requests.specs.declared.outcome.Plain.TheVariants as plain
use Rattle.tile_requests.specs.declared.message_ref.MessageRef.{MessageRef}
use Rattle.tile_requests.specs.declared.request.Request.{Request}
use Rattle.tile_requests.specs.Requests.{told_at}
use Rattle.tile_requests.specs.Routes.{request_for}
use Rattle.tile_requests.specs.Shown.{shown_message}
use Rattle.hall_sessions.specs.Composites.{ServesComposite}
use Rattle.hall_sessions.specs.Requested.{ServesRequest}
use Rattle.hall_sessions.specs.Served.{IsCompositeMessageServed, IsJobMessageServed, IsOtherMessageServed, ServesOverHall}

-- WHERE A JOB IS ASKED FOR THE SOURCE HAS NO PART

told_of_job : (left : Bool) (text : List ℕ) → told_at left (outcome.Job text) ≡ outcome.SourceFailed → ⊥
told_of_job true text e = absurd (cc)
told_of_job false text e = absurd (cc)

told_of_look : (n : ℕ) (p : Option JobStatus) (left : Bool) → outcome_of_look n p left ≡ outcome.SourceFailed → ⊥
told_of_look n (Some p) left e = told_of_job left (progress_text n p.progress) e
told_of_look n None left e = absurd (cc)

told_of_status : (n : ℕ) (s : Option JobStatus) (left : Bool) → outcome_of_status n s left ≡ outcome.SourceFailed → ⊥
told_of_status n (Some s) left e = told_of_job left (status_text n s) e
told_of_status n None left e = absurd (cc)

told_of_submission : (n : Option ℕ) (left : Bool) → outcome_of_submission n left ≡ outcome.SourceFailed → ⊥
told_of_submission (Some n) left e = told_of_job left (submitted_text n) e
told_of_submission None left e = absurd (cc)

module _ (c : Catalogue) (board board_after : BoardHolding) (o : Outcome) where
  no_source_failed : (r : JobRequest) → ServesJob c r board board_after o → o ≡ outcome.SourceFailed → ⊥
  no_source_failed (job_request.Submission job) (inl h) e = told_of_submission h.0 h.1 (sym h.3 ∙ e)
  no_source_failed (job_request.Submission job) (inr h) e = let is = h.1 in absurd (cc)
  no_source_failed (job_request.Unformed fault) h e = let is = h.1 in absurd (cc)
  no_source_failed (job_request.Look n) h e = told_of_look n h.0 h.1 (sym h.3 ∙ e)
  no_source_failed (job_request.Stop n) (inl h) e = let is = h.1 in absurd (cc)
  no_source_failed (job_request.Stop n) (inr h) e = let look = h.2 in told_of_look n look.0 look.1 (sym look.3 ∙ e)
  no_source_failed (job_request.Status n) h e = told_of_status n h.0 h.1 (sym h.3 ∙ e)
  no_source_failed job_request.Statuses h e = statuses_told h.told e
    where
      statuses_told : {All Same : Type 0} {text : List ℕ} → (All × (o ≡ outcome.Job text)) ⊎ (Same × (o ≡ outcome.Plain plain.NoMemory)) → o ≡ outcome.SourceFailed → ⊥
      statuses_told (inl h) e = let is = h.1 in absurd (cc)
      statuses_told (inr h) e = let is = h.1 in absurd (cc)
  no_source_failed job_request.NotFound h e = let is = h.1 in absurd (cc)
  no_source_failed job_request.WrongMethod h e = let is = h.1 in absurd (cc)

-- what a message asks of jobs is the same whether it is the last of its connection or not
pub asked_of_jobs : (c : Catalogue) (parts : MessageRef) (m : Message) → parts.method ≡ m.method → parts.target.now ≡ m.target → parts.body.now ≡ m.body → job_request_for c (shown_message parts) ≡ job_request_for c m
unfolding job_request_for
asked_of_jobs c parts m method target body = rw (method, target, body) refl

-- and so is what it asks for below /composites/
pub asked_of_composites : (c : Catalogue) (recipes : RecipeBook) (parts : MessageRef) (m : Message) → parts.method ≡ m.method → parts.target.now ≡ m.target → composite_request_for c recipes (shown_message parts) ≡ composite_request_for c recipes m
unfolding composite_request_for
asked_of_composites c recipes parts m method target = rw (method, target) refl

-- a message was served by a pass that stood so, by what it asks of jobs, and by what it asks for below /composites/
abbrev IsServedAs : Catalogue → List GivenImage → RecipeBook → HallPass → Message → Option Request → List (Made Note) → BoardHolding → BoardHolding → Outcome → Option JobRequest → Option CompositeRequest → Type 0
IsServedAs c gave recipes p m request gained board board_after o of_jobs of_composites =
    MatchOption of_jobs
    (MatchOption of_composites (IsOtherMessageServed c p.told p.book m request gained o) (λ r. IsCompositeMessageServed c gave recipes p.told p.book r gained o × (request ≡ None)) × (board_after ≡ board))
    (λ r. IsJobMessageServed c r gained board board_after o × (request ≡ None))

unread_as : (c : Catalogue) (gave : List GivenImage) (recipes : RecipeBook) (p : HallPass) (m : Message) (board : BoardHolding) (of_jobs : Option JobRequest) (of_composites : Option CompositeRequest) → IsServedAs c gave recipes p m None [] board board (outcome.Plain plain.NoMemory) of_jobs of_composites
unread_as c gave recipes p m board None None = ((refl, refl), refl)
unread_as c gave recipes p m board None (Some r) = ((inr (refl, refl), refl), refl)
unread_as c gave recipes p m board (Some r) of_composites = (inr ((refl, refl), refl), refl)

-- REQUESTS AND MESSAGES

module _ (c : Catalogue) (recipes : RecipeBook) (before after : Renders) (p : HallPass) where
  -- no memory was left to read the message
  pub unread : (m : Message) (board : BoardHolding) → ServesOverHall c recipes before after m p p board board (outcome.Plain plain.NoMemory)
  unread m board = record {
    gained = [];
    gains = gains_none c p;
    request = None;
    served = unread_as c after.gave recipes p m board (job_request_for c m) (composite_request_for c recipes m);
    from_source = tt;
    cause = λ e. absurd (cc);
  }

  -- the message asks this of jobs
  pub served_at_board : (m : Message) (board board_after : BoardHolding) (r : JobRequest) (o : Outcome) → Some r ≡ job_request_for c m → ServesJob c r board board_after o → ServesOverHall c recipes before after m p p board board_after o
  served_at_board m board board_after r o asks h = record {
    gained = [];
    gains = gains_none c p;
    request = None;
    served = subst (λ (j : Option JobRequest). IsServedAs c after.gave recipes p m None [] board board_after o j (composite_request_for c recipes m)) asks (inl (refl, h), refl);
    from_source = tt;
    cause = λ e. absurd (no_source_failed c board board_after o r h e);
  }

  -- the message asks nothing of jobs, and this below /composites/
  pub composed_so : (q : HallPass) (m : Message) (board : BoardHolding) (r : CompositeRequest) (o : Outcome) → None ≡ job_request_for c m → Some r ≡ composite_request_for c recipes m → ServesComposite c recipes before after r p q o
      → ServesOverHall c recipes before after m p q board board o
  composed_so q m board r o other asks h = record {
    gained = h.gained;
    gains = h.gains;
    request = None;
    served =
        subst (λ (j : Option JobRequest). IsServedAs c after.gave recipes p m None h.gained board board o j (composite_request_for c recipes m)) other
        (subst (λ (x : Option CompositeRequest). IsServedAs c after.gave recipes p m None h.gained board board o None x) asks ((inl h.served, refl), refl));
    from_source = h.from_source;
    cause = h.cause;
  }

  -- the message asks nothing of jobs and nothing below /composites/, and this by the table of paths
  pub read_so : (q : HallPass) (m : Message) (board : BoardHolding) (r : Request) (o : Outcome) → None ≡ job_request_for c m → None ≡ composite_request_for c recipes m → r ≡ request_for c m → ServesRequest c before after r p q o
      → ServesOverHall c recipes before after m p q board board o
  read_so q m board r o other none is h = record {
    gained = h.gained;
    gains = h.gains;
    request = Some r;
    served =
        subst (λ (j : Option JobRequest). IsServedAs c after.gave recipes p m (Some r) h.gained board board o j (composite_request_for c recipes m)) other
        (subst (λ (x : Option CompositeRequest). IsServedAs c after.gave recipes p m (Some r) h.gained board board o None x) none ((is, h.served), refl));
    from_source = h.from_source;
    cause = h.cause;
  }

-- What a request comes to: the turns that are made for it at the cache, whoever makes them, and the outcome that they are answered by.
use Rattle.std.specs.Prelude.{ℕ, ◌≡◌, ◌⊎◌, Bool, List, [], ◌∷◌, MatchOption, Result}
use Rattle.cabinet.specs.declared.replies.CutReply.{CutReply}
use Rattle.cabinet.specs.declared.replies.CutReply.TheVariants as cut
use Rattle.cabinet.specs.declared.replies.Expired.{Expired}
use Rattle.cabinet.specs.declared.replies.Expired.TheVariants as expired
use Rattle.cabinet_chest.specs.declared.command.Command.TheVariants as command
use Rattle.cabinet_chest.specs.declared.command.Reply.TheVariants as reply
use Rattle.cabinet_chest.specs.declared.shown.Note.{Note}
use Rattle.cache_access.specs.declared.fault.GetFault.{GetFault}
use Rattle.cache_access.specs.Gets.{IsGot}
use Rattle.cache_access.specs.Sourced.{AreFromSource}
use Rattle.cache_access.specs.Turned.{IsOf}
use Rattle.cache_core.specs.declared.outcome.Tile.{Tile}
use Rattle.catalog.specs.declared.catalogue.Catalogue.{Catalogue}
use Rattle.base.specs.Causes.{Rose}
use Rattle.matrix_geometry.specs.declared.address.Address.{Address}
use Rattle.source_render.specs.Renders.{Renders}
use Rattle.truncation_list.specs.declared.book.FrontedBook.{FrontedBook}
use Rattle.truncation_list.specs.declared.cover.Cover.{Cover}
use Rattle.turnstile.specs.declared.view.Made.{Made}
use Rattle.tile_requests.specs.declared.outcome.Outcome.{Outcome}
use Rattle.tile_requests.specs.declared.outcome.Outcome.TheVariants as outcome
use Rattle.tile_requests.specs.declared.outcome.Plain.TheVariants as plain
use Rattle.tile_requests.specs.declared.request.Request.{Request}
use Rattle.tile_requests.specs.declared.request.Request.TheVariants as request
use Rattle.tile_requests.specs.Counted.{AreAllCounts, IsCounted}
use Rattle.tile_requests.specs.Events.{ended_by}
use Rattle.tile_requests.specs.Requests.{outcome_of, tile_of, told_at}
use Rattle.tile_requests.specs.Texts.{dropped_text}

-- A TILE

abbrev pub outcome_of_get : Result Tile GetFault → Outcome
outcome_of_get result = outcome_of (ended_by result)

-- the turns of a get, which says what is answered; `Sound` is what makes the bytes the encoded tile's
abbrev pub IsTileServed : Catalogue → Type 0 → Address → FrontedBook → List (Made Note) → Outcome → Type 0
IsTileServed c Sound a seen gained o = (result : Result Tile GetFault) × IsGot c Sound a seen gained result × (o ≡ outcome_of_get result)

-- A TRUNCATION

abbrev pub outcome_of_cut : CutReply → Outcome
outcome_of_cut (cut.Done number) = outcome.Cut number
outcome_of_cut cut.Full = outcome.Plain plain.CutsFull
outcome_of_cut (cut.DiskFault b a) = outcome.Plain plain.DiskFault
outcome_of_cut cut.Spent = outcome.Plain plain.CutSpent

-- one turn, which says what is answered; or memory ran out for it
abbrev pub IsCutServed : Cover → List (Made Note) → Outcome → Type 0
IsCutServed cover gained o =
    ((m : Made Note) × (r : CutReply) × (gained ≡ m ∷ []) × IsOf (command.Cut cover) (reply.Cut r) m × (o ≡ outcome_of_cut r)) ⊎ ((gained ≡ []) × (o ≡ outcome.Plain plain.NoMemory))

-- AN EXPIRY

-- while memory is left for the text
abbrev pub outcome_of_expiry : Catalogue → Expired → Bool → Outcome
outcome_of_expiry c (expired.Dropped m) left = told_at left (outcome.Dropped (dropped_text c m))
outcome_of_expiry c (expired.DiskFault b a) left = outcome.Plain plain.DiskFault
outcome_of_expiry c expired.Within left = outcome.Plain plain.Within

-- one turn, which says what is answered
abbrev pub IsExpiryServed : Catalogue → List (Made Note) → Outcome → Type 0
IsExpiryServed c gained o = (m : Made Note) × (r : Expired) × (left : Bool) × (gained ≡ m ∷ []) × IsOf command.Expire (reply.Expired r) m × (o ≡ outcome_of_expiry c r left)

-- WHAT IS KEPT

-- one turn for each line, or counts alone, where memory ran out for the text
abbrev pub IsUsageServed : Catalogue → List (Made Note) → Outcome → Type 0
IsUsageServed c gained o = ((text : List ℕ) × IsCounted c gained text × (o ≡ outcome.Usage text)) ⊎ (AreAllCounts gained × (o ≡ outcome.Plain plain.NoMemory))

-- ANY REQUEST

-- one that is answered without a render: the turns that were made, and the outcome
abbrev pub IsServedAtOnce : Catalogue → Request → List (Made Note) → Outcome → Type 0
IsServedAtOnce c (request.Tile a) gained o = ⊥
IsServedAtOnce c request.Capabilities gained o = (gained ≡ []) × (o ≡ outcome.Document)
IsServedAtOnce c (request.Refused code locator) gained o = (gained ≡ []) × (o ≡ outcome.Refused code locator)
IsServedAtOnce c request.NotFound gained o = (gained ≡ []) × (o ≡ outcome.Plain plain.NotFound)
IsServedAtOnce c request.WrongMethod gained o = (gained ≡ []) × (o ≡ outcome.Plain plain.WrongMethod)
IsServedAtOnce c request.Usage gained o = IsUsageServed c gained o
IsServedAtOnce c (request.Truncation cover) gained o = IsCutServed cover gained o
IsServedAtOnce c (request.Unformed fault) gained o = (gained ≡ []) × (o ≡ outcome.Unformed fault)
IsServedAtOnce c request.Expiry gained o = IsExpiryServed c gained o

-- any, of who had seen this book
abbrev pub IsRequestServed : Catalogue → Type 0 → FrontedBook → Request → List (Made Note) → Outcome → Type 0
IsRequestServed c Sound seen r gained o = MatchOption (tile_of r) (IsServedAtOnce c r gained o) (λ a. IsTileServed c Sound a seen gained o)

module _ {C : Type 0} (leads : C → C → List (Made Note) → Type 0) where
  -- a request that is answered without a render was served
  pub record ServesAtOnce (c : Catalogue) (r : Request) (before after : C) (o : Outcome) : Type 0 where
    pub gained : List (Made Note)
    pub gains : leads before after gained
    pub served : IsServedAtOnce c r gained o

  -- a request was served, while the source went from what it had done to this: it failed only if its count rose, and each blob that was
  -- handed in is cut out of what it has given
  pub record ServesRequest (c : Catalogue) (Sound : Type 0) (seen : FrontedBook) (renders_before renders_after : Renders) (r : Request) (before after : C) (o : Outcome) : Type 0 where
    pub gained : List (Made Note)
    pub gains : leads before after gained
    pub served : IsRequestServed c Sound seen r gained o
    pub from_source : AreFromSource c renders_after.gave gained
    pub cause : o ≡ outcome.SourceFailed → Rose renders_before.failures renders_after.failures

-- A request and its events in a line, as a function of the cabinet. What happens by chance in a line, that memory runs out,
-- which moment the clock gives, which bytes a rendering gives or that it fails, and that a disk fails, is taken as it happened, and so
-- are the bytes of a kept blob where blobs are not modelled; all else is fixed.
use Rattle.std.specs.Prelude.{length, nat_lt, ℕ, ◌≡◌, Bool, true, false, if◌then◌else◌, List, Option, Some, None, IfSome, ⊤}
use Rattle.cabinet.specs.declared.entry.HistoryEntry.TheVariants as entry
use Rattle.cabinet.specs.Fresh.{IsFresh}
use Rattle.cabinet.specs.Commands.{book_before}
use Rattle.cabinet.specs.Counted.{scope_exceeded, victim_in}
use Rattle.cabinet.specs.History.{History, next}
use Rattle.cabinet.specs.State.{State, now, with_cut, with_dropped, with_entry}
use Rattle.cache_core.specs.declared.actor.Actor.{Actor}
use Rattle.cache_core.specs.declared.actor.Actor.TheVariants.{Idle, Waiting, Holding, Rendered, Failed}
use Rattle.cache_core.specs.declared.outcome.TileOutcome.TheVariants as core
use Rattle.cache_core.specs.declared.outcome.TileOutcome as cached
use Rattle.cache_core.specs.Steps.{Stepped, began, advanced, disk_faults}
use Rattle.catalog.specs.declared.catalogue.Catalogue.{Catalogue}
use Rattle.catalog.specs.declared.catalogue.Scope.{Scope}
use Rattle.catalog.specs.LookUp.{IsTile}
use Rattle.matrix_geometry.specs.declared.address.Address.{Address}
use Rattle.metatile_plan.specs.declared.metatile.MetaKey.{MetaKey}
use Rattle.raster_field.specs.TileText.{tile_text}
use Rattle.served_covers.specs.OfCatalogue.{IsCoverOf}
use Rattle.truncation_list.specs.declared.cover.Cover.{Cover}
use Rattle.tile_requests.specs.declared.outcome.Outcome.{Outcome}
use Rattle.tile_requests.specs.declared.outcome.Outcome.TheVariants as outcome
use Rattle.tile_requests.specs.declared.outcome.Plain.TheVariants as plain
use Rattle.tile_requests.specs.declared.request.Mode.{Mode}
use Rattle.tile_requests.specs.declared.request.Mode.TheVariants.{Gets, Asks, Forces}
use Rattle.tile_requests.specs.declared.request.Request.{Request}
use Rattle.tile_requests.specs.declared.request.Request.TheVariants as request
use Rattle.tile_requests.specs.declared.spelling.Spelling.{Spelling}
use Rattle.tile_requests.specs.declared.spelling.Spelling.TheVariants.{Ppm, Png}
use Rattle.tile_requests.specs.Texts.{usage_text, dropped_text}

-- CHANCES

-- What happened by chance in a line. Memory was left or not: to read its request; for its first ask or force or its truncation; for
-- what follows, or the text that it tells; and for the body of its answer, where one is made. The moment is the one that the clock
-- gave to its ask or force, in seconds. The bytes are those that the rendering gave, by their places in the blob, or none where it failed; where
-- blobs are not modelled they are those of the kept blob that was read. The disk failed or not: what is kept went unread at the ask; and
-- the blob, the truncation or the expiry went unwritten.
pub record Chance : Type 0 where
  pub read : Bool
  pub ask : Bool
  pub moment : ℕ
  pub unread : Bool
  pub work : Bool
  pub bytes : Option (ℕ → ℕ)
  pub unwritten : Bool
  pub left : Bool

-- nothing happened by chance
abbrev pub calm : Chance
calm = record { read = true; ask = true; moment = 0; unread = false; work = true; bytes = None; unwritten = false; left = true }

-- how many faults of the disk a chance names
abbrev pub disk_faults_in : Chance → ℕ
disk_faults_in c = disk_faults c.unread c.unwritten

-- THE EVENTS OF A LINE

-- the actor has work that waits for no other
abbrev pub is_at_work : Actor → Bool
is_at_work Idle = false
is_at_work (Waiting a force) = false
is_at_work (Holding t a) = true
is_at_work (Rendered t blob tile) = true
is_at_work (Failed t) = true

abbrev pub further : Chance → Stepped → Stepped
further c r = if is_at_work r.actor then advanced r.cabinet r.actor c.work c.moment c.unread c.bytes c.unwritten else r

-- the render and the finish follow in the same line
abbrev pub carried_on : Chance → Stepped → Stepped
carried_on c r = further c (further c r)

-- the events of the line that asks for a tile: a GET goes on until it is answered or waits; an ask and a force stay the one
-- event
abbrev pub events : Mode → State → Address → Chance → Stepped
events Gets s a c = carried_on c (began s a false c.ask c.moment c.unread c.bytes)
events Asks s a c = began s a false c.ask c.moment c.unread c.bytes
events Forces s a c = began s a true c.ask c.moment c.unread c.bytes

-- the outcome of a request for a tile as that of a request
abbrev pub outcome_of : cached.TileOutcome → Outcome
outcome_of (core.Tile tile) = outcome.Tile tile.hit tile.number tile.bytes
outcome_of core.SourceFailed = outcome.SourceFailed
outcome_of core.Spent = outcome.Plain plain.Spent
outcome_of core.NoMemory = outcome.Plain plain.NoMemory

-- where no memory is left, the outcome says so
abbrev pub told_at : Bool → Outcome → Outcome
told_at left o = if left then o else outcome.Plain plain.NoMemory

-- a tile is spelt otherwise than it lies ready
abbrev pub is_respelt : Spelling → Bool
is_respelt Ppm = false
is_respelt Png = true

-- the body of the response is a text that is made for it, which takes memory; a tile or a composite as a pixmap, the document and what was told already
-- lie ready
abbrev pub is_made : Spelling → Outcome → Bool
is_made spelling (outcome.Tile hit k text) = is_respelt spelling
is_made spelling outcome.Document = false
is_made spelling (outcome.Refused code locator) = true
is_made spelling (outcome.Plain p) = false
is_made spelling outcome.SourceFailed = true
is_made spelling (outcome.Usage text) = false
is_made spelling (outcome.Cut number) = true
is_made spelling (outcome.Unformed fault) = true
is_made spelling (outcome.Dropped text) = false
is_made spelling (outcome.Job text) = false
is_made spelling (outcome.Composite numbers text) = is_respelt spelling

-- what is answered: where no memory is left for the text that is to be made, that
abbrev pub answered_at : Spelling → Bool → Outcome → Outcome
answered_at spelling true o = o
answered_at spelling false o = if is_made spelling o then outcome.Plain plain.NoMemory else o

-- COMMANDS

-- the text of what is kept
abbrev pub told_usage : State → Bool → Outcome
told_usage s left = told_at left (outcome.Usage (usage_text s))

-- the truncation is written down, or goes unwritten, and then its number is spent
abbrev pub cut_at : State → Cover → ℕ → Bool → State × Outcome
cut_at s cover t true = (with_entry s (entry.Missed t), outcome.Plain plain.DiskFault)
cut_at s cover t false = (with_cut s t cover, outcome.Cut t)

-- the cover is cut, unless as many cuts would stay in force as may be, or no number is left
abbrev pub cut_by : State → Cover → Bool → Option ℕ → State × Outcome
cut_by s cover unwritten None = (s, outcome.Plain plain.CutSpent)
cut_by s cover unwritten (Some t) = if nat_lt (length (book_before s cover).cuts) s.catalogue.cut_limit then cut_at s cover t unwritten else (s, outcome.Plain plain.CutsFull)

-- a truncation, while memory is left
abbrev pub cut : State → Cover → Bool → Bool → State × Outcome
cut s cover left unwritten = if left then cut_by s cover unwritten (next s.opening (now s)) else (s, outcome.Plain plain.NoMemory)

-- a metatile is dropped, whether memory is left to tell it or not
abbrev pub dropped : State → Bool → Option MetaKey → State × Outcome
dropped s left None = (s, outcome.Plain plain.Within)
dropped s left (Some m) = (with_dropped s m, told_at left (outcome.Dropped (dropped_text s.catalogue m)))

-- that of the scope whose quota is exceeded, unless the expiry goes unwritten
abbrev pub expired_in : State → Bool → Option Scope → Bool → State × Outcome
expired_in s left None unwritten = (s, outcome.Plain plain.Within)
expired_in s left (Some scope) true = (s, outcome.Plain plain.DiskFault)
expired_in s left (Some scope) false = dropped s left (victim_in s scope)

-- an expiry
abbrev pub expired : State → Bool → Bool → State × Outcome
expired s left unwritten = expired_in s left (scope_exceeded s) unwritten

-- WHAT IS ANSWERED WITHOUT A RENDER

-- What a request that asks for no tile comes to, by the chance of its line: the cabinet after it, and the outcome. The line of a tile is
-- never looked up: its request comes to the events above.
abbrev pub at_once : State → Chance → Request → State × Outcome
at_once s c (request.Tile a) = (s, outcome.Plain plain.NoMemory)
at_once s c request.Capabilities = (s, outcome.Document)
at_once s c (request.Refused code locator) = (s, outcome.Refused code locator)
at_once s c request.NotFound = (s, outcome.Plain plain.NotFound)
at_once s c request.WrongMethod = (s, outcome.Plain plain.WrongMethod)
at_once s c request.Usage = (s, told_usage s c.work)
at_once s c (request.Truncation cover) = cut s cover c.ask c.unwritten
at_once s c (request.Unformed fault) = (s, outcome.Unformed fault)
at_once s c request.Expiry = expired s c.work c.unwritten

-- WHAT IS SAID OF REQUESTS

-- 1 where the source failed at the render of this actor, and it is yet to be answered
abbrev pub owed : Actor → ℕ
owed Idle = 0
owed (Waiting a force) = 0
owed (Holding t a) = 0
owed (Rendered t blob tile) = 0
owed (Failed t) = 1

-- the tile that a request asks for
abbrev pub tile_of : Request → Option Address
tile_of (request.Tile a) = Some a
tile_of other = None

-- the number of a tile that is answered, and the encoded tile
abbrev pub tile_in : Outcome → Option (ℕ × List ℕ)
tile_in (outcome.Tile hit k text) = Some (k, text)
tile_in other = None

-- a tile that is asked for is of the catalogue, and the cover of a truncation
abbrev pub IsOf : Catalogue → Request → Type 0
IsOf c (request.Tile a) = IsTile c a
IsOf c (request.Truncation cover) = IsCoverOf c cover
IsOf c other = ⊤

-- the bytes of a tile that is answered are the encoded tile of its number
abbrev pub IsTrueTile : Catalogue → Address → Outcome → Type 0
IsTrueTile c a o = IfSome (tile_in o) (λ t. t.1 ≡ tile_text c t.0 a)

abbrev pub IsTrueAnswer : Catalogue → Request → Outcome → Type 0
IsTrueAnswer c r o = IfSome (tile_of r) (λ a. IsTrueTile c a o)

-- a tile that is answered is fresh at an ask that was made when the history had p entries
abbrev pub IsFreshTile : Catalogue → History → ℕ → Address → Outcome → Type 0
IsFreshTile c h p a o = IfSome (tile_in o) (λ t. IsFresh c h p a t.0)

abbrev pub IsFreshAnswer : Catalogue → History → ℕ → Request → Outcome → Type 0
IsFreshAnswer c h p r o = IfSome (tile_of r) (λ a. IsFreshTile c h p a o)

-- A request for a tile as single events: an ask or a force, the render, and the finish. What happens by chance in an
-- event, that memory runs out, which moment the clock gives, which bytes a rendering gives or that it fails, and that a disk fails, is
-- taken as it happened, and so are the bytes of a kept blob where blobs are not modelled; all else is fixed, and so is how many bytes
-- the blob has.
use Rattle.std.specs.Prelude.{ℕ, ◌+◌, Bool, true, false, nat_le, List, length, map, Option, Some, None}
use Rattle.std.specs.List.{range_with_len}
use Rattle.std.specs.Option.{option_map_or}
use Rattle.cabinet.specs.declared.entry.HistoryEntry.TheVariants as entry
use Rattle.cabinet.specs.declared.kept.Kept.{Kept}
use Rattle.cabinet.specs.Commands.{answering, others, place_for, kept_at}
use Rattle.cabinet.specs.History.{next}
use Rattle.cabinet.specs.State.{State, now, asked_at, with_entry, with_blob, kept_text}
use Rattle.catalog.specs.declared.catalogue.Catalogue.{Catalogue}
use Rattle.matrix_geometry.specs.declared.address.Address.{Address}
use Rattle.metatile_locks.specs.declared.render.Render.{Render}
use Rattle.metatile_locks.specs.Running.{running_for, render_of}
use Rattle.metatile_locks.specs.Tickets.{Ticketed}
use Rattle.metatile_plan.specs.declared.metatile.MetaKey.{MetaKey}
use Rattle.raster_field.specs.Blocks.{block_of, blob_size, tile_part}
use Rattle.cache_core.specs.declared.actor.Actor.{Actor}
use Rattle.cache_core.specs.declared.actor.Actor.TheVariants.{Idle, Waiting, Holding, Rendered, Failed}
use Rattle.cache_core.specs.declared.outcome.TileOutcome.{TileOutcome}
use Rattle.cache_core.specs.declared.outcome.TileOutcome.TheVariants as outcome
use Rattle.cache_core.specs.declared.outcome.Tile.{Tile}

-- what an event came to: the cabinet after it, the actor, and the outcome where the request ended
pub record Stepped : Type 0 where
  pub cabinet : State
  pub actor : Actor
  pub outcome : Option TileOutcome

abbrev pub goes_on : State → Actor → Stepped
goes_on s actor = record { cabinet = s; actor = actor; outcome = None }

abbrev pub ends : State → TileOutcome → Stepped
ends s o = record { cabinet = s; actor = Idle; outcome = Some o }

-- THE ASK AND THE FORCE

abbrev pub tile_at : Bool → ℕ → List ℕ → Tile
tile_at hit k bytes = record { hit = hit; number = k; bytes = bytes }

-- the blob of a metatile that has these bytes, by their places
abbrev pub blob_of : Catalogue → MetaKey → (ℕ → ℕ) → List ℕ
blob_of c m bytes = map bytes (range_with_len 0 (blob_size c m))

-- bytes that came by chance, 0 at each place where none did
abbrev pub bytes_in : Option (ℕ → ℕ) → ℕ → ℕ
bytes_in None = λ i. 0
bytes_in (Some bytes) = bytes

-- the blob that is kept of the metatile; where blobs are not modelled it has these bytes
abbrev pub kept_blob : State → MetaKey → Option (ℕ → ℕ) → List ℕ
kept_blob s m bytes = option_map_or (λ text. text) (kept_text s m) (blob_of s.catalogue m (bytes_in bytes))

-- the metatile is kept: the tile is its part of the blob
abbrev pub hit : State → Address → Option (ℕ → ℕ) → Kept → Stepped
hit s a bytes t = ends (with_entry s (entry.Used (block_of s.catalogue a))) (outcome.Tile (tile_at true t.number (tile_part s.catalogue a (kept_blob s (block_of s.catalogue a) bytes))))

abbrev pub ticket_for : State → Address → ℕ → Ticketed
ticket_for s a k = record { number = k; meta = block_of s.catalogue a }

-- the next number, where one is left, is given for a render
abbrev pub given : State → Address → Option ℕ → Stepped
given s a None = ends s outcome.Spent
given s a (Some k) = goes_on (with_entry s (entry.Started k (block_of s.catalogue a))) (Holding (ticket_for s a k) a)

-- while a render of the metatile runs that is not overtaken, the actor waits
abbrev pub unless_busy : State → Address → Bool → Option ℕ → Stepped
unless_busy s a force (Some j) = goes_on s (Waiting a force)
unless_busy s a force None = given s a (next s.opening (now s))

abbrev pub render_wanted : State → Address → Bool → Stepped
render_wanted s a force = unless_busy s a force (running_for (block_of s.catalogue a) (now s).out)

abbrev pub unless_kept : State → Address → Option (ℕ → ℕ) → Option Kept → Stepped
unless_kept s a bytes (Some t) = hit s a bytes t
unless_kept s a bytes None = render_wanted s a false

-- what went unread answers nothing
abbrev pub unless_unread : Bool → Option Kept → Option Kept
unless_unread true kept = None
unless_unread false kept = kept

abbrev pub asked : State → Address → Bool → Bool → Option (ℕ → ℕ) → Stepped
asked s a true unread bytes = render_wanted s a true
asked s a false unread bytes = unless_kept s a bytes (unless_unread unread (answering s a))

-- with a force no kept tile is an answer, and nor is one that goes unread; memory is left, and the clock gives a moment, or memory
-- runs out
abbrev pub began : State → Address → Bool → Bool → ℕ → Bool → Option (ℕ → ℕ) → Stepped
began s a force false n unread bytes = ends s outcome.NoMemory
began s a force true n unread bytes = asked (asked_at n s) a force unread bytes

-- THE END OF A RENDER

-- the ticket is taken off; a stranger's ticket changes nothing
abbrev pub off : State → Ticketed → Option Render → State
off s t None = s
off s t (Some r) = with_entry s (entry.Ended t.number)

abbrev pub abandoned : State → Ticketed → State
abandoned s t = off s t (render_of t (now s).out)

-- a render that was begun at the moment n: its blob is kept at its place, unless it went unwritten
abbrev pub stored : State → Ticketed → ℕ → List ℕ → Option ℕ → Bool → State
stored s t n blob None unwritten = with_entry s (entry.Ended t.number)
stored s t n blob (Some place) true = with_entry s (entry.Ended t.number)
stored s t n blob (Some place) false = with_blob s (kept_at t n place (length blob)) blob

-- as many others as may be are kept, or there is no place, or the blob goes unwritten, or it is kept
abbrev pub with_room : State → Ticketed → ℕ → List ℕ → Bool → Bool → State
with_room s t n blob unwritten true = with_entry s (entry.Ended t.number)
with_room s t n blob unwritten false = stored s t n blob (place_for s (length blob)) unwritten

abbrev pub unless_overtaken : State → Ticketed → ℕ → List ℕ → Bool → Option ℕ → State
unless_overtaken s t n blob unwritten (Some cut) = with_entry s (entry.Ended t.number)
unless_overtaken s t n blob unwritten None = with_room s t n blob unwritten (nat_le s.catalogue.kept_limit (others s t.meta))

abbrev pub ended : State → Ticketed → List ℕ → Bool → Option Render → State
ended s t blob unwritten None = s
ended s t blob unwritten (Some r) = unless_overtaken s t r.moment blob unwritten r.mark

abbrev pub finished : State → Ticketed → List ℕ → Bool → State
finished s t blob unwritten = ended s t blob unwritten (render_of t (now s).out)

-- THE RENDER

abbrev pub holds : State → Ticketed → Address → List ℕ → Stepped
holds s t a blob = goes_on s (Rendered t blob (tile_at false t.number (tile_part s.catalogue a blob)))

-- a rendering that failed, or the bytes that it gave
abbrev pub painted : State → Ticketed → Address → Option (ℕ → ℕ) → Stepped
painted s t a None = goes_on s (Failed t)
painted s t a (Some bytes) = holds s t a (blob_of s.catalogue t.meta bytes)

abbrev pub rendered : State → Ticketed → Address → Bool → Option (ℕ → ℕ) → Stepped
rendered s t a false bytes = ends (abandoned s t) outcome.NoMemory
rendered s t a true bytes = painted s t a bytes

-- THE NEXT EVENT of an actor: memory is left or runs out, the clock gives a moment to one that asks or forces again, what is kept may
-- go unread then, a rendering gives these bytes or fails, or a kept blob has them, and a blob that is handed in may go unwritten
abbrev pub advanced : State → Actor → Bool → ℕ → Bool → Option (ℕ → ℕ) → Bool → Stepped
advanced s Idle left n unread bytes unwritten = goes_on s Idle
advanced s (Waiting a force) left n unread bytes unwritten = began s a force left n unread bytes
advanced s (Holding t a) left n unread bytes unwritten = rendered s t a left bytes
advanced s (Rendered t text tile) left n unread bytes unwritten = ends (finished s t text unwritten) (outcome.Tile tile)
advanced s (Failed t) left n unread bytes unwritten = ends (abandoned s t) outcome.SourceFailed

-- an actor that gives up abandons its ticket
abbrev pub given_up : State → Actor → State
given_up s Idle = s
given_up s (Waiting a force) = s
given_up s (Holding t a) = abandoned s t
given_up s (Rendered t text tile) = abandoned s t
given_up s (Failed t) = abandoned s t

-- FAULTS OF A DISK that chances name

abbrev pub one_where : Bool → ℕ
one_where true = 1
one_where false = 0

-- what went unread, and what went unwritten
abbrev pub disk_faults : Bool → Bool → ℕ
disk_faults unread unwritten = one_where unread + one_where unwritten

-- A visit to a place of a job, by a thread that has the cabinet for itself, as the events of its metatile, or the row of its cut.
use Rattle.std.specs.Prelude.{◌≡◌, Bool, true, false, fold, if◌then◌else◌, List, Result, Ok, Err}
use Rattle.std.specs.declared.alloc.AllocError.{AllocError}
use Rattle.cabinet.specs.Commands.{Cuts}
use Rattle.cabinet.specs.declared.entry.HistoryEntry.{HistoryEntry}
use Rattle.cabinet.specs.declared.entry.HistoryEntry.TheVariants as entry
use Rattle.cabinet.specs.declared.replies.CutReply.{CutReply}
use Rattle.cabinet.specs.State.{State}
use Rattle.cache_core.specs.declared.outcome.TileOutcome.{TileOutcome}
use Rattle.cache_core.specs.declared.outcome.TileOutcome.TheVariants as outcome
use Rattle.cache_core.specs.Steps.{Stepped, began, ends}
use Rattle.job_places.specs.declared.place.PlaceEnd.{PlaceEnd}
use Rattle.job_places.specs.declared.place.PlaceEnd.TheVariants.{Done, Failed, Unkept}
use Rattle.job_places.specs.declared.place.PlaceFault.TheVariants as fault
use Rattle.job_places.specs.Ends.{end_of_cut}
use Rattle.job_forms.specs.Places.{Place, Metatile, Cut}
use Rattle.metatile_plan.specs.declared.metatile.MetaKey.{MetaKey}
use Rattle.raster_field.specs.Blocks.{first_tile}
use Rattle.tile_requests.specs.Requests.{Chance, further}
use Rattle.truncation_list.specs.declared.cover.Cover.{Cover}

-- A METATILE

-- what happens by chance at a metatile, event by event: at its ask or force, at its render, and at the end of the render
pub record Chances : Type 0 where
  pub asking : Chance
  pub rendering : Chance
  pub ending : Chance

-- A metatile is asked for by its first tile, or a render of it is forced. Where that gives a ticket, it is rendered at once, and then the
-- blob is handed in, or the ticket given back where the source failed.
abbrev pub refreshed : Bool → State → MetaKey → Chances → Stepped
refreshed force s m c =
    further c.ending (further c.rendering (began s (first_tile s.catalogue m) force c.asking.ask c.asking.moment c.asking.unread c.asking.bytes))

-- a metatile is kept by what happened, or was kept and is used
abbrev pub is_keeping : HistoryEntry → Bool
is_keeping (entry.At moment) = false
is_keeping (entry.Started number m) = false
is_keeping (entry.Cut number cover) = false
is_keeping (entry.Missed number) = false
is_keeping (entry.Stored number m place length moment uses) = true
is_keeping (entry.Counted m uses) = false
is_keeping (entry.Ended number) = false
is_keeping (entry.Used m) = true
is_keeping (entry.Dropped m) = false

-- so it is by what happened last
abbrev pub ends_keeping : List HistoryEntry → Bool
ends_keeping history = fold (λ before e. is_keeping e) false history

-- a tile came: its metatile is kept, or it is rendered and not kept, and then the last that happened in the cabinet is the end of its render
abbrev pub end_of_tile : State → PlaceEnd
end_of_tile u = if ends_keeping u.history then Done else Unkept

-- how the outcome of its tile, and the cabinet after it, end the place
abbrev pub EndsBy : State → TileOutcome → PlaceEnd → Type 0
EndsBy u (outcome.Tile tile) e = e ≡ end_of_tile u
EndsBy u outcome.SourceFailed e = e ≡ Failed fault.Source
EndsBy u outcome.Spent e = e ≡ Failed fault.Spent
EndsBy u outcome.NoMemory e = e ≡ Failed fault.Memory

-- from s a metatile was refreshed to its outcome, in u
abbrev pub IsRefreshed : Bool → State → MetaKey → Chances → PlaceEnd → State → Type 0
IsRefreshed force s m c e u = (o : TileOutcome) × (refreshed force s m c ≡ ends u o) × EndsBy u o e

-- A CUT

-- the cabinet cuts, or memory runs out, and then nothing changes
abbrev pub CutsOnce : State → Cover → Result CutReply AllocError → State → Type 0
CutsOnce s cover (Ok reply) u = Cuts s cover reply u
CutsOnce s cover (Err failed) u = u ≡ s

-- from s the one cut was made or refused, in u
abbrev pub IsCut : State → Cover → PlaceEnd → State → Type 0
IsCut s cover e u = (reply : Result CutReply AllocError) × CutsOnce s cover reply u × (e ≡ end_of_cut reply)

-- A PLACE

-- with force a metatile is rendered that is kept; a cut takes no chance
abbrev pub IsVisitedAt : Bool → State → Place → Chances → PlaceEnd → State → Type 0
IsVisitedAt force s (Metatile m) c e u = IsRefreshed force s m c e u
IsVisitedAt force s (Cut cover) c e u = IsCut s cover e u

-- by a thread that has the cabinet for itself: a place, what happened there by chance, and how it ended
pub record LoneVisit : Type 0 where
  pub place : Place
  pub chances : Chances
  pub end : PlaceEnd

-- from s the place was visited so, to u
abbrev pub IsVisited : Bool → State → LoneVisit → State → Type 0
IsVisited force s v u = IsVisitedAt force s v.place v.chances v.end u

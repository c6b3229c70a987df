-- The steps of a cabinet's core: what is to come of a command, told before anything changes, so that a cabinet on a disk can write it
-- down first.
use Rattle.std.specs.Prelude.{ℕ, ◌≡◌, ◌≤◌, ◌<◌, length, Option, Some, None, IsSome}
use Rattle.catalog.specs.declared.catalogue.Scope.{Scope}
use Rattle.matrix_geometry.specs.declared.address.Address.{Address}
use Rattle.metatile_locks.specs.Tickets.{Ticketed}
use Rattle.raster_field.specs.Blocks.{block_of, blob_size}
use Rattle.truncation_list.specs.declared.cover.Cover.{Cover}
use Rattle.truncation_list.specs.Listed.{HasRoomFor, Room}
use Rattle.cabinet.specs.declared.entry.HistoryEntry.TheVariants as entry
use Rattle.cabinet.specs.declared.kept.Kept.{Kept}
use Rattle.cabinet.specs.declared.judged.Judged.{Judged}
use Rattle.cabinet.specs.declared.judged.Judged.TheVariants as judged
use Rattle.cabinet.specs.declared.judged.Admitted.{Admitted}
use Rattle.cabinet.specs.declared.judged.Admitted.TheVariants as admitted
use Rattle.cabinet.specs.declared.judged.Unsaved.{Unsaved}
use Rattle.cabinet.specs.declared.replies.Forced.{Forced}
use Rattle.cabinet.specs.Commands.{IsForcedOf, Runs, answering, book_before, kept_at, others, place_for}
use Rattle.cabinet.specs.Counted.{scope_exceeded, unsaved_in, uses, victim_in}
use Rattle.cabinet.specs.History.{kept_of, next}
use Rattle.cabinet.specs.State.{State, asked_at, now, with_entry}
use Rattle.metatile_locks.specs.Running.{render_of}

-- what contracts see of a core: the cabinet, and the room of its list of cuts
pub record Cored : Type 0 where
  pub state : State
  pub room : Room

-- the core is as before, but for the room that it has
abbrev pub IsSame : Cored → Cored → Type 0
IsSame old new = new.state ≡ old.state

-- THE ASK of a tile whose metatile is kept: what is kept answers, within its age limit, or a render is asked for
abbrev pub AsksKept : State → Address → Option Forced → State → Type 0
AsksKept s a None new = IsSome (answering (asked_at new.clock.moment s) a) × (new ≡ with_entry (asked_at new.clock.moment s) (entry.Used (block_of s.catalogue a)))
AsksKept s a (Some forced) new = (answering (asked_at new.clock.moment s) a ≡ None) × IsForcedOf (asked_at new.clock.moment s) (block_of s.catalogue a) forced new

-- THE END OF A RENDER, of which this is to be said
abbrev pub Judges : State → Ticketed → Judged → Type 0
Judges s t judged.Stranger = render_of t (now s).out ≡ None
Judges s t (judged.Overtaken cut) = (n : ℕ) × Runs s t n (Some cut)
Judges s t judged.Full = (n : ℕ) × Runs s t n None × (s.catalogue.kept_limit ≤ others s t.meta)
Judges s t judged.NoRoom = (n : ℕ) × Runs s t n None × (others s t.meta < s.catalogue.kept_limit) × (place_for s (blob_size s.catalogue t.meta) ≡ None)
Judges s t (judged.Fits kept) =
    (n : ℕ) × Runs s t n None × (others s t.meta < s.catalogue.kept_limit) × (place_for s (blob_size s.catalogue t.meta) ≡ Some kept.place) × (kept ≡ kept_at t n kept.place (blob_size s.catalogue t.meta))

-- A CUT with this cover: its number, or why there is none
abbrev pub Admits : State → Cover → Admitted → Type 0
Admits s cover (admitted.Number t) = (next s.opening (now s) ≡ Some t) × (length (book_before s cover).cuts < s.catalogue.cut_limit)
Admits s cover admitted.Full = IsSome (next s.opening (now s)) × (s.catalogue.cut_limit ≤ length (book_before s cover).cuts)
Admits s cover admitted.Spent = next s.opening (now s) ≡ None

-- its list has room for a cut of the cover
abbrev pub IsReadyFor : Cored → Cover → Type 0
IsReadyFor core cover = HasRoomFor core.room cover

-- AN EXPIRY drops this one, none exactly where no quota is exceeded
abbrev pub GoesFirst : State → Option Kept → Type 0
GoesFirst s None = scope_exceeded s ≡ None
GoesFirst s (Some t) = (scope : Scope) × (scope_exceeded s ≡ Some scope) × (victim_in s scope ≡ Some t.meta) × (kept_of t.meta (now s) ≡ Some t)

-- the uses of this one are to be saved, none exactly where all are
abbrev pub IsUnsavedFirst : State → Option Unsaved → Type 0
IsUnsavedFirst s None = unsaved_in s None
IsUnsavedFirst s (Some x) = unsaved_in s (Some x.kept.meta) × (kept_of x.kept.meta (now s) ≡ Some x.kept) × (x.uses ≡ uses s.history x.kept.meta)

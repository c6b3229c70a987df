-- A command that the disk failed at: what its record would have led to.
use Rattle.std.specs.Prelude.{ℕ, ◌≡◌, ◌⊎◌, List, ⊤}
use Rattle.std.proofs.Common.{inl, inr}
use Rattle.metatile_locks.specs.Tickets.{Ticketed}
use Rattle.metatile_plan.specs.declared.metatile.MetaKey.{MetaKey}
use Rattle.raster_field.specs.Blocks.{block_text}
use Rattle.truncation_list.specs.declared.cover.Cover.{Cover}
use Rattle.cabinet.specs.declared.entry.HistoryEntry.TheVariants as entry
use Rattle.cabinet.specs.declared.replies.CutReply.TheVariants as cut
use Rattle.cabinet.specs.declared.replies.Expired.TheVariants as expired
use Rattle.cabinet.specs.declared.replies.Finished.TheVariants as finished
use Rattle.cabinet.specs.declared.replies.Saved.TheVariants as saved
use Rattle.cabinet.specs.Commands.{Cuts, Expires, Finishes, Saves}
use Rattle.cabinet.specs.State.{IsKnown, State, with_entry}
use Rattle.durable_cabinet.specs.Alike.{IsAlikeTo}

-- From a cabinet a command would have led to the second one, and as the disk failed it led to the third: the blob of a render would be kept, which
-- ended; a truncation would be done, whose number was given; a metatile would expire; or its uses would be saved.
abbrev pub Misses : State → State → State → Type 0
Misses s next missed =
    ((t : Ticketed) × (blob : List ℕ) × Finishes s t blob finished.Kept next × (missed ≡ with_entry s (entry.Ended t.number)))
    ⊎ ((cover : Cover) × (t : ℕ) × Cuts s cover (cut.Done t) next × (missed ≡ with_entry s (entry.Missed t)))
    ⊎ ((m : MetaKey) × Expires s (expired.Dropped m) next × (missed ≡ s)) ⊎ ((m : MetaKey) × Saves s (saved.Done m) next × (missed ≡ s))

-- where that was a render, its blob is that of its metatile in the picture of its number
abbrev pub IsPicture : (s next missed : State) → Misses s next missed → Type 0
IsPicture s next missed (inl render) = render.1 ≡ block_text s.catalogue render.0.number render.0.meta
IsPicture s next missed (inr other) = ⊤

-- The disk failed at a command of this cabinet that would have led to `next`, and since then nothing was kept, dropped, cut or saved.
pub record HasMissed (s next : State) : Type 0 where
  pub from : State
  pub missed : State
  pub misses : Misses from next missed
  pub known : IsKnown next
  pub alike : IsAlikeTo missed s
  pub blobs : s.blobs ≡ missed.blobs

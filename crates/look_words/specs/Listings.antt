-- How the lines of a list are written.
use Rattle.std.specs.Prelude.{ℕ, ◌≤◌, List}
use Rattle.command_status.specs.declared.status.Status.{Status}
use Rattle.command_status.specs.declared.status.Status.TheVariants as status
use Rattle.opened_cache.specs.Change.{HasWritten, IsCutShort}
use Rattle.sessions.specs.Outside.{OutputChange}
use Rattle.look_words.specs.Lists.{HasBegun}
use Rattle.look_words.specs.declared.listing.ListingEnd.{ListingEnd}
use Rattle.look_words.specs.declared.listing.ListingEnd.TheVariants as listing

-- how a text was written: whole, or up to a write that failed, or a front of it before memory ran out
abbrev pub IsWrittenSo : OutputChange → List ℕ → ListingEnd → Type 0
IsWrittenSo o text listing.Done = HasWritten o text
IsWrittenSo o text listing.WriteFault = IsCutShort o text
IsWrittenSo o text listing.OutOfMemory = HasBegun o text

-- the status that tells how it ended
abbrev pub status_of_listing : ListingEnd → Status
status_of_listing listing.Done = status.Done
status_of_listing listing.WriteFault = status.WriteFault
status_of_listing listing.OutOfMemory = status.OutOfMemory

-- so it is of a text, and the count of the output's faults didn't fall
pub record IsListedSo (o : OutputChange) (text : List ℕ) (end : ListingEnd) : Type 0 where
  pub written : IsWrittenSo o text end
  pub later : o.writes.before ≤ o.writes.after

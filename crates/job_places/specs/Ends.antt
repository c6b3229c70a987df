-- How what was done at a place ends it.
use Rattle.std.specs.Prelude.{Bool, true, false, Result, Ok, Err}
use Rattle.std.specs.declared.alloc.AllocError.{AllocError}
use Rattle.cabinet.specs.declared.replies.CutReply.{CutReply}
use Rattle.cabinet.specs.declared.replies.CutReply.TheVariants as cut
use Rattle.cache_access.specs.declared.fault.GetFault.{GetFault}
use Rattle.cache_access.specs.declared.fault.GetFault.TheVariants as got
use Rattle.cache_access.specs.declared.refreshed.Refreshed.{Refreshed}
use Rattle.cache_access.specs.declared.refreshed.Refreshed.TheVariants as refreshed
use Rattle.job_places.specs.declared.place.PlaceEnd.{PlaceEnd}
use Rattle.job_places.specs.declared.place.PlaceEnd.TheVariants.{Done, Failed, Unkept}
use Rattle.job_places.specs.declared.place.PlaceFault.TheVariants as fault

-- by a refresh of its metatile: it is kept, or rendered and could not be kept
abbrev pub end_of_refresh : Result Refreshed GetFault → PlaceEnd
end_of_refresh (Ok (refreshed.AlreadyKept number)) = Done
end_of_refresh (Ok (refreshed.Made number)) = Done
end_of_refresh (Ok (refreshed.Unkept number)) = Unkept
end_of_refresh (Err got.SourceFault) = Failed fault.Source
end_of_refresh (Err got.Spent) = Failed fault.Spent
end_of_refresh (Err got.OutOfMemory) = Failed fault.Memory

-- by the reply of its one cut
abbrev pub end_of_cut : Result CutReply AllocError → PlaceEnd
end_of_cut (Ok (cut.Done number)) = Done
end_of_cut (Ok cut.Full) = Failed fault.CutsFull
end_of_cut (Ok (cut.DiskFault before after)) = Failed fault.Disk
end_of_cut (Ok cut.Spent) = Failed fault.Spent
end_of_cut (Err failed) = Failed fault.Memory

-- one that could not be kept is done, too
abbrev pub is_done : PlaceEnd → Bool
is_done Done = true
is_done Unkept = true
is_done (Failed cause) = false

abbrev pub is_unkept : PlaceEnd → Bool
is_unkept Done = false
is_unkept Unkept = true
is_unkept (Failed cause) = false

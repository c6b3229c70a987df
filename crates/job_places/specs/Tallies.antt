-- How the places of a job ended, counted.
use Rattle.std.specs.Prelude.{◌+◌, not, List, length, count_by}
use Rattle.job_places.specs.declared.place.PlaceEnd.{PlaceEnd}
use Rattle.job_places.specs.declared.place.PlaceEnd.TheVariants.{Done, Failed, Unkept}
use Rattle.job_places.specs.declared.tally.Tally.{Tally}
use Rattle.job_places.specs.Ends.{is_done, is_unkept}

-- how many places ended, how many of them are done, how many failed, and how many of those done could not be kept
abbrev pub tally_of : List PlaceEnd → Tally
tally_of ends = record { places = length ends; done = count_by is_done ends; failed = count_by (λ e. not (is_done e)) ends; unkept = count_by is_unkept ends }

-- a tally with one more place, which ended so
abbrev pub one_more : PlaceEnd → Tally → Tally
one_more Done t = record { places = t.places + 1; done = t.done + 1; failed = t.failed; unkept = t.unkept }
one_more Unkept t = record { places = t.places + 1; done = t.done + 1; failed = t.failed; unkept = t.unkept + 1 }
one_more (Failed cause) t = record { places = t.places + 1; done = t.done; failed = t.failed + 1; unkept = t.unkept }

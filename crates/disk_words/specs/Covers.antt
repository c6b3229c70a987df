-- The cover that an input has.
use Rattle.std.specs.Prelude.{◌≡◌, Result, Ok}
use Rattle.catalog.specs.declared.catalogue.Catalogue.{Catalogue}
use Rattle.command_status.specs.declared.status.Status.{Status}
use Rattle.job_forms.specs.declared.fault.JobFault.{JobFault}
use Rattle.job_forms.specs.Cover.{cover_of}
use Rattle.opened_cache.specs.Inputs.{HasFault, HasMore, IsRead, Reads}
use Rattle.disk_words.specs.declared.cover_input.TheConstants.{COVER_LIMIT}
use Rattle.sessions.specs.Outside.{InputChange}
use Rattle.truncation_list.specs.declared.cover.Cover.{Cover}

-- it is the cover of its text
abbrev pub IsCoverIn : Catalogue → InputChange → Cover → Type 0
IsCoverIn c i cover = IsRead COVER_LIMIT (cover_of c) i (λ outcome. outcome ≡ Ok cover)

-- its text has this fault, which isn't want of memory
abbrev pub IsFormedSo : Catalogue → InputChange → JobFault → Type 0
IsFormedSo c i fault = HasFault COVER_LIMIT (cover_of c) i fault

-- one byte more than a cover may have was taken
abbrev pub IsTooLong : InputChange → Type 0
IsTooLong i = HasMore COVER_LIMIT i

-- what a reading of an input gave: its cover, or the status of a word that has none
abbrev pub ReadsCover : Catalogue → InputChange → Result Cover Status → Type 0
ReadsCover c i result = Reads COVER_LIMIT (cover_of c) i result

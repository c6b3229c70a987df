-- The status of words whose catalogue or capabilities document was refused.
use Rattle.command_setup.specs.declared.configuration.Unconfigured.{Unconfigured}
use Rattle.command_setup.specs.declared.configuration.Unconfigured.TheVariants as unconfigured
use Rattle.command_status.specs.declared.status.Status.TheVariants as status
use Rattle.command_status.specs.declared.status.Status.{Status}

abbrev pub status_of_refusal : Unconfigured → Status
status_of_refusal unconfigured.ReadFault = status.ReadFault
status_of_refusal unconfigured.TooLong = status.TooLong
status_of_refusal (unconfigured.Fault fault) = status.Catalogue fault
status_of_refusal unconfigured.OutOfMemory = status.OutOfMemory

-- The end of the words of a link, by how the link ended, or why it wasn't begun.
use Rattle.std.specs.Prelude.{Result, Ok, Err}
use Rattle.command_status.specs.declared.status.Status.TheVariants as status
use Rattle.cut_follower.specs.declared.ends.LinkEnd.{LinkEnd}
use Rattle.cut_follower.specs.declared.ends.LinkEnd.TheVariants as link_end
use Rattle.gate_journal.specs.declared.fault.OpenFault.{OpenFault}
use Rattle.command_status.specs.Statuses.{status_of_opening}
use Rattle.link_words.specs.declared.ends.LinkingEnd.{LinkingEnd}
use Rattle.link_words.specs.declared.ends.LinkingEnd.TheVariants as linking

abbrev pub ending_of_link : LinkEnd → LinkingEnd
ending_of_link link_end.Finished = linking.Status status.Done
ending_of_link link_end.Truncated = linking.Linked link_end.Truncated
ending_of_link link_end.BadPacket = linking.Linked link_end.BadPacket
ending_of_link link_end.ReadFault = linking.Status status.ReadFault
ending_of_link link_end.WriteFault = linking.Status status.WriteFault
ending_of_link (link_end.Stopped reply) = linking.Linked (link_end.Stopped reply)
ending_of_link link_end.TooMany = linking.Linked link_end.TooMany
ending_of_link link_end.OutOfMemory = linking.Status status.OutOfMemory

-- the link ended so, or a file wasn't opened for this cause
abbrev pub ending_of : Result LinkEnd OpenFault → LinkingEnd
ending_of (Ok e) = ending_of_link e
ending_of (Err fault) = linking.Status (status_of_opening fault)

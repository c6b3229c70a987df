-- The end of a server by how its links were served, or by why its recipes were not read.
use Rattle.command_status.specs.declared.status.Status.TheVariants as status
use Rattle.command_status.specs.declared.status.Status.{Status}
use Rattle.server_command.specs.declared.ends.ServerEnd.{ServerEnd}
use Rattle.server_command.specs.declared.ends.ServerEnd.TheVariants as end
use Rattle.server_command.specs.declared.recipes.UnreadRecipes.{UnreadRecipes}
use Rattle.server_command.specs.declared.recipes.UnreadRecipes.TheVariants as unread
use Rattle.server_workers.specs.declared.ends.ServiceEnd.{ServiceEnd}
use Rattle.server_workers.specs.declared.ends.ServiceEnd.TheVariants as service

abbrev pub status_of_service : ServiceEnd → Status
status_of_service service.Done = status.Done
status_of_service service.ListenFault = status.ListenFault
status_of_service service.OutOfMemory = status.OutOfMemory
status_of_service service.NoThreads = status.ThreadFault

abbrev pub end_of_recipes : UnreadRecipes → ServerEnd
end_of_recipes unread.ReadFault = end.Ended status.ReadFault
end_of_recipes unread.TooLong = end.Ended status.TooLong
end_of_recipes (unread.Fault f) = end.Recipes f
end_of_recipes unread.OutOfMemory = end.Ended status.OutOfMemory

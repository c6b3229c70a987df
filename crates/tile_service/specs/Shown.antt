-- What values of the code show, in the terms of the definitions.
-- A tie between the code and its definitions: the promise can be read without it.
use Rattle.tile_requests.specs.Shown.{shown_message}
use Rattle.tile_service.specs.declared.lines.Action as code
use Rattle.tile_service.specs.declared.lines.Action.TheVariants as said
use Rattle.tile_service.specs.Lines.{Action, Nothing, Sends, Steps}

-- an action of the code, which borrows its message
abbrev pub shown_action : code.Action → Action
shown_action said.Nothing = Nothing
shown_action (said.Sends mode actor message) = Sends mode actor (shown_message message)
shown_action (said.Steps actor) = Steps actor

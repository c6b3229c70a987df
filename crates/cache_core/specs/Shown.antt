-- what a step and the cabinet after it are seen as
use Rattle.std.specs.Prelude.{⊤}
use Rattle.cabinet.specs.State.{State}
use Rattle.cache_core.specs.declared.actor.Actor.{Actor}
use Rattle.cache_core.specs.declared.actor.Actor.TheVariants.{Idle, Waiting, Holding, Rendered, Failed}
use Rattle.cache_core.specs.declared.actor.Step.{Step}
use Rattle.cache_core.specs.Steps.{Stepped}

abbrev pub shown : Step → State → Stepped
shown step s = record { cabinet = s; actor = step.actor; outcome = step.outcome }

-- the source failed at the render of this actor
abbrev pub IsFailed : Actor → Type 0
IsFailed Idle = ⊥
IsFailed (Waiting a force) = ⊥
IsFailed (Holding t a) = ⊥
IsFailed (Rendered t blob tile) = ⊥
IsFailed (Failed t) = ⊤

abbrev pub IsIdle : Actor → Type 0
IsIdle Idle = ⊤
IsIdle (Waiting a force) = ⊥
IsIdle (Holding t a) = ⊥
IsIdle (Rendered t blob tile) = ⊥
IsIdle (Failed t) = ⊥

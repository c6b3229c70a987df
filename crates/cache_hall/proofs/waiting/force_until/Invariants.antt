use Rattle.cache_access.specs.Waits.{IsWaitingForced}
use Rattle.turnstile.specs.Passes.{Stays}
use Rattle.cache_hall.specs.Turned.{GainsTurns}
use Rattle.cache_hall.proofs.waiting.force_until.Given as goal

abbrev pub invariant-forcing : goal.invariant-forcing
invariant-forcing g l =
    (goal.iterator-forcing g).can_next l.iterator' × (goal.iterator-forcing g).is_finite l.iterator'
    × Stays l.fn.pass l.pass × IsWaitingForced (GainsTurns l.fn.hall.catalogue) l.fn.meta l.fn.pass l.pass

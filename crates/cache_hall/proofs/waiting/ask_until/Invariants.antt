use Rattle.cache_access.specs.Waits.{IsWaiting}
use Rattle.turnstile.specs.Passes.{Stays}
use Rattle.cache_hall.specs.Turned.{GainsTurns}
use Rattle.cache_hall.proofs.waiting.ask_until.Given as goal

abbrev pub invariant-asking : goal.invariant-asking
invariant-asking g l =
    (goal.iterator-asking g).can_next l.iterator' × (goal.iterator-asking g).is_finite l.iterator'
    × Stays l.fn.pass l.pass × IsWaiting (GainsTurns l.fn.hall.catalogue) l.fn.address l.fn.pass l.pass

use Rattle.std.proofs.Common.{refl}
use Rattle.matchit.proofs.OnLiterals.{matchit_on_literals}
use Rattle.wmts_rest.proofs.table.router.Goals as goal

pub returns : goal.returns
unfolding matchit_on_literals
returns c =
    let first = c.in_ok-insert.ensures in
    let second = c.in_ok-insert-2.ensures in
    rw (second.1, first.1, c.new-router.ensures) refl

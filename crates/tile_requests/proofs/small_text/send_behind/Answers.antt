use Rattle.tile_requests.proofs.Known.{front_sent}
use Rattle.tile_requests.proofs.small_text.send_behind.Goals as goal

pub returns-then-body-gt-SMALL_BODY-clause-err : goal.returns-then-body-gt-SMALL_BODY-clause-err
returns-then-body-gt-SMALL_BODY-clause-err g c = rw c.as_slice.ensures.value at (front_sent _ _ _ _ c.send_both.ensures.err)

pub returns-clause-err : goal.returns-clause-err
returns-clause-err g c = rw (c.as_slice-2.ensures.value, c.add.ensures.items) at (front_sent _ _ _ _ c.send.ensures.err)

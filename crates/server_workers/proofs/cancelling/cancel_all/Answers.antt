use Rattle.std.proofs.Common.{refl}
use Rattle.server_workers.proofs.Stopping.{stopped_none, stopped_too}
use Rattle.server_workers.proofs.cancelling.cancel_all.Goals as goal

pub cancelling-init : goal.cancelling-init
cancelling-init g c = record { of = c.requires.of; stops = stopped_none c.args.pass.now }

pub cancelling-preserved : goal.cancelling-preserved
cancelling-preserved g c = record { of = c.stop.ensures.of; stops = stopped_too c.cancelling.index _ _ c.cancelling.pass c.stop.new.pass c.stop.result refl c.cancelling.invariant.stops c.stop.ensures.stop }

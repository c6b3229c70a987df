use Rattle.std.proofs.Common.{◌∙◌, sym}
use Rattle.cabinet_records.proofs.AimedCuts.{is_zoom}
use Rattle.cabinet_records.proofs.replay.aiming.is_same.Goals as goal

pub returns : goal.returns
returns c = λ is. is_zoom c.args.zoom.now c.args.other.now (sym c.eq.ensures ∙ is)

use Rattle.http_wire.proofs.OneReading.{streams_agree}
use Rattle.http_wire.proofs.laws.one_reading.Goals as goal

pub returns : goal.returns
returns c = streams_agree

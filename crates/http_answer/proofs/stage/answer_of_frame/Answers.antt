use Rattle.std.proofs.Common.{refl}
use Rattle.http_answer.proofs.Told.{chunks_begin}
use Rattle.http_answer.proofs.stage.answer_of_frame.Goals as goal

pub returns-in-Chunked : goal.returns-in-Chunked
returns-in-Chunked c = c.chunked.ensures c.args.bytes.items (chunks_begin c.args.bytes.items c.args.head _ c.requires c.in-Chunked.is refl)

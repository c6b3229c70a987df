use Rattle.std.proofs.Common.{refl, inl}
use Rattle.http_answer.proofs.ChunksTaken.{still_unchunked, waits_for_chunk, whole_chunks, broken_chunk}
use Rattle.http_answer.proofs.stage.chunked.Goals as goal

pub returns-in-Open : goal.returns-in-Open
returns-in-Open c came u =
    let told = c.in-Open.ensures in
    let waits = waits_for_chunk c.args.bytes.items c.unchunk.new.bytes.items came c.args.from c.in-Open.cursor.to c.in-Open.cursor.at u told.0 told.1 in
    (record { at = still_unchunked c.args.bytes.items c.unchunk.new.bytes.items came c.args.from c.in-Open.cursor u told.0; waits = waits }, refl, inl waits)

pub returns-in-Whole : goal.returns-in-Whole
returns-in-Whole c came u =
    let told = c.in-Whole.ensures in
    whole_chunks c.args.bytes.items c.unchunk.new.bytes.items came _ told.1 c.args.from c.in-Whole.to told.0 u told.2 told.3 c.truncate.ensures.items

pub returns-in-Broken : goal.returns-in-Broken
returns-in-Broken c came u =
    let told = c.in-Broken.ensures in
    broken_chunk c.args.bytes.items c.unchunk.new.bytes.items came c.args.from told.0 told.1 u told.2 told.3

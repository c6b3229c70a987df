use Rattle.std.proofs.Common.{rules}
use Rattle.cache_core.proofs.Lasting.{abandon_lasts, finish_lasts}
use Rattle.twin_events.proofs.getting.end_render.Goals as goal

pub returns-in-Ok-clause-lasts : goal.returns-in-Ok-clause-lasts
returns-in-Ok-clause-lasts g c =
    let K = g.K.Keeper in
    finish_lasts (K.outlasts c.args.cabinet.now c.finish.new.self) (K.state c.args.cabinet.now) (K.state c.finish.new.self) c.finish.ensures.lasts c.known.ensures c.args.ticket c.in-Ok.field-0.blob c.finish.result (search rules) c.finish.ensures.finished

pub returns-in-Err-Source-clause-lasts : goal.returns-in-Err-Source-clause-lasts
returns-in-Err-Source-clause-lasts g c =
    let K = g.K.Keeper in
    abandon_lasts (K.outlasts c.args.cabinet.now c.abandon.new.self) (K.state c.args.cabinet.now) (K.state c.abandon.new.self) c.abandon.ensures.lasts c.known.ensures c.args.ticket c.abandon.ensures.abandons

pub returns-in-Err-Memory-clause-lasts : goal.returns-in-Err-Memory-clause-lasts
returns-in-Err-Memory-clause-lasts g c =
    let K = g.K.Keeper in
    abandon_lasts (K.outlasts c.args.cabinet.now c.abandon-in-Err-Memory.new.self) (K.state c.args.cabinet.now) (K.state c.abandon-in-Err-Memory.new.self) c.abandon-in-Err-Memory.ensures.lasts c.known.ensures c.args.ticket c.abandon-in-Err-Memory.ensures.abandons

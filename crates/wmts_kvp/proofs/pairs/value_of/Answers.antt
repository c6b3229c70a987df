use Rattle.std.proofs.Common.{sym, ◌∙◌, arith}
use Rattle.wmts_kvp.proofs.Values.{value_found, value_behind, value_nowhere}
use Rattle.wmts_kvp.proofs.pairs.value_of.Goals as goal

pub returns-then-is_same : goal.returns-then-is_same
returns-then-is_same c =
    value_found c.args.name.now c.args.pairs.now c.loop-key.key-index c.loop-key-item.result _ _ _ (omega arith) c.loop-key-item.is c.bytes.ensures (sym c.is_same.ensures ∙ c.if-is_same.true) c.bytes-then-is_same.ensures c.loop-key.invariant

pub loop-key-preserved : goal.loop-key-preserved
loop-key-preserved c =
    value_behind c.args.name.now c.args.pairs.now c.loop-key.key-index c.loop-key-item.result _ _ (omega arith) c.loop-key-item.is c.bytes.ensures (sym c.is_same.ensures ∙ c.if-is_same.false) c.loop-key.invariant

pub returns : goal.returns
returns c = value_nowhere c.args.name.now c.args.pairs.now c.loop-key.key-index _ (omega arith) c.loop-key.invariant

use Rattle.std.proofs.lemmas.Result.{err_from_is_err_and}
use Rattle.serde_json.specs.View.{view}
use Rattle.config_text.specs.Ages.{age_row}
use Rattle.config_text.proofs.Loop.{goes_on, stops, ends}
use Rattle.config_text.proofs.ages.rows_of.Goals as goal

pub returns-in_err-row : goal.returns-in_err-row
returns-in_err-row c =
    let p = err_from_is_err_and c.from_residual.result c.from_residual.ensures.1 in
    rw (p.1, p.2) (stops view (λ before. age_row c.args.at) c.args.values.now c.loop-value.value-index c.value-item.result c.loop-value.rows.items c.in_err-row.field-0.0 _ c.loop-value-test.true c.value-item.is c.in_err-row.ensures c.loop-value.invariant)

pub loop-value-preserved : goal.loop-value-preserved
loop-value-preserved c =
    rw c.in_ok-push.ensures.items
    (goes_on view (λ before. age_row c.args.at) c.args.values.now c.loop-value.value-index c.value-item.result c.loop-value.rows.items c.in_ok-row.row _ c.loop-value-test.true c.value-item.is c.in_ok-row.ensures c.loop-value.invariant)

pub returns : goal.returns
returns c = ends view (λ before. age_row c.args.at) c.args.values.now c.loop-value.value-index c.loop-value.rows.items _ c.loop-value-test.false c.loop-value.invariant

use Rattle.std.proofs.Common.{arith, length-append, refl}
use Rattle.std.proofs.lemmas.Result.{err_from_is_err_and}
use Rattle.http_source.proofs.Templates.{layer_stops, templates_more}
use Rattle.http_source.proofs.config.layer_templates.Goals as goal

pub returns-in_err-template : goal.returns-in_err-template
returns-in_err-template c =
    let p = err_from_is_err_and c.from_residual.result c.from_residual.ensures.1 in
    rw (p.1, p.2) (layer_stops c.args.urls.now c.loop-url.templates.items c.loop-url.url-index _ c.url-item.result c.in_err-template.field-0.0 (omega (arith, c.len-at.ensures, c.loop-url.invariant.count)) c.loop-url-test.true c.url-item.is c.loop-url.invariant.are c.in_err-template.ensures)

pub loop-url-preserved : goal.loop-url-preserved
loop-url-preserved c =
    rw c.in_ok-push.ensures.items
    record {
      count = simp length-append (omega arith);
      are = templates_more c.args.urls.now c.loop-url.templates.items c.loop-url.url-index c.url-item.result _ c.loop-url-test.true c.url-item.is c.loop-url.invariant.are refl c.in_ok-template.ensures;
    }

use Rattle.std.proofs.Common.{◌≡◌, Some, length, slice_get, sym, ap, ◌∙◌, arith}
use Rattle.job_forms.specs.Places.{metas_in_some, metas_on}
use Rattle.job_forms.proofs.ZoomSteps.{get_here, get_next, length_next}
use Rattle.job_forms.proofs.zooms.meta_at.Goals as goal

pub returns-then-left-here : goal.returns-then-left-here
returns-then-left-here c =
    let here : slice_get (metas_on c.args.catalogue.now c.args.cover.now c.args.theme c.zooms.z) c.zooms.left ≡ Some c.meta_in.result =
    ap (λ m. slice_get (metas_in_some c.args.theme c.args.cover.now.grid c.zooms.z m) c.zooms.left) (sym c.metas_at-metas.ensures.metas) ∙ c.meta_in.ensures in
    sym c.zooms.invariant.same ∙ get_here (metas_on c.args.catalogue.now c.args.cover.now c.args.theme) c.zooms.z c.end_of-end.result c.zooms.left c.meta_in.result c.zooms-test.true here

pub zooms-preserved : goal.zooms-preserved
zooms-preserved c =
    let f = metas_on c.args.catalogue.now c.args.cover.now c.args.theme in
    let here : length (f c.zooms.z) ≡ c.from-here.result =
    ap (λ m. length (metas_in_some c.args.theme c.args.cover.now.grid c.zooms.z m)) (sym c.metas_at-metas.ensures.metas) ∙ c.how_many.ensures.value c.args.theme c.args.cover.now.grid c.zooms.z ∙ sym c.from-here.ensures in
    let all = length_next f c.zooms.z c.end_of-end.result c.from-here.result c.zooms-test.true here in
    let later = get_next f c.zooms.z c.end_of-end.result c.from-here.result c.zooms.left c.zooms-test.true here c.if-left-here.false in
    record {
      within = omega (arith, all, c.zooms.invariant.within, c.if-left-here.false);
      same = sym later ∙ c.zooms.invariant.same;
    }

use Rattle.std.proofs.Common.{◌≡◌, length, sym, ap, ◌∙◌, arith}
use Rattle.job_forms.specs.Places.{metas_in_some, metas_on}
use Rattle.job_forms.proofs.ZoomSteps.{counted_next}
use Rattle.job_forms.proofs.zooms.how_many_each.Goals as goal

pub zooms-preserved : goal.zooms-preserved
zooms-preserved c = record {
  each = λ theme.
      let here : length (metas_on c.args.catalogue.now c.args.cover.now theme c.zooms.z) ≡ c.from-all.result =
      ap (λ m. length (metas_in_some theme c.args.cover.now.grid c.zooms.z m)) (sym c.metas_at.ensures.metas) ∙ c.how_many.ensures.value theme c.args.cover.now.grid c.zooms.z ∙ sym c.from-all.ensures in
      c.zooms.invariant.each theme ∙ counted_next (metas_on c.args.catalogue.now c.args.cover.now theme) c.zooms.z c.end_of-end.result c.zooms.all c.from-all.result c.zooms-test.true here;
  most = omega (arith, c.zooms.invariant.most, c.how_many.ensures.most, c.from-all.ensures, c.zooms-test.true);
}

use Rattle.std.proofs.Common.{◌≡◌, Some, subst}
use Rattle.std.specs.Prelude.{slice_get}
use Rattle.catalog.specs.declared.catalogue.Catalogue.{Catalogue}
use Rattle.job_forms.specs.Places.{Metatile, places}
use Rattle.source_render.specs.Renders.{renders}
use Rattle.job_places.proofs.Refreshing.{refreshed_so}
use Rattle.job_places.proofs.visiting.refresh_at.Goals as goal

pub returns-clause-visits : goal.returns-clause-visits
returns-clause-visits g c =
    let at = subst (λ (d : Catalogue). slice_get (places d c.args.job.now) c.args.place ≡ Some (Metatile c.nth-meta.result)) c.catalogue.ensures c.nth-meta.ensures.place in
    let did = c.refresh.ensures in
    let S = g.S.Source in
    rw c.end_of_refresh.ensures
    (refreshed_so (g.A.Access.gains c.args.access.now) c.args.cache.now c.refresh.new.cache _ _ c.args.job.now c.args.place _ _ (renders (S.faults c.args.source.now) (S.gave c.args.source.now)) (renders (S.faults c.refresh.new.source) (S.gave c.refresh.new.source)) c.nth-meta.result c.forces-is_forced.result c.refresh.result at c.forces-is_forced.ensures did.refreshes did.later did.grows did.cause)

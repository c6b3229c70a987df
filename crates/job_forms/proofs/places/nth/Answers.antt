use Rattle.std.proofs.Common.{arith}
use Rattle.job_forms.proofs.PlaceLists.{found, some_each}
use Rattle.job_forms.proofs.places.nth.Goals as goal

pub nonzero_div-place : goal.nonzero_div-place
nonzero_div-place c = (some_each c.args.catalogue.now c.args.job.now c.how_many_each-each.result c.args.i c.requires.kind c.how_many_each-each.ensures.each c.requires.place).0

pub theme_at-theme-requires-clause-place : goal.theme_at-theme-requires-clause-place
theme_at-theme-requires-clause-place c =
    rw c.from-place.ensures (some_each c.args.catalogue.now c.args.job.now c.how_many_each-each.result c.args.i c.requires.kind c.how_many_each-each.ensures.each c.requires.place).1

pub nonzero_rem-place : goal.nonzero_rem-place
nonzero_rem-place c = (some_each c.args.catalogue.now c.args.job.now c.how_many_each-each.result c.args.i c.requires.kind c.how_many_each-each.ensures.each c.requires.place).0

pub meta_at-requires-clause-place : goal.meta_at-requires-clause-place
meta_at-requires-clause-place c =
    let some = (some_each c.args.catalogue.now c.args.job.now c.how_many_each-each.result c.args.i c.requires.kind c.how_many_each-each.ensures.each c.requires.place).0 in
    rw (c.how_many_each-each.ensures.each c.theme_at-theme.result) (omega (arith, some))

pub returns : goal.returns
returns c =
    let theme = rw c.from-place.ensures at c.theme_at-theme.ensures in
    let meta = rw c.from-place.ensures at c.meta_at.ensures in
    let at = found c.args.catalogue.now c.args.job.now c.how_many_each-each.result c.args.i c.theme_at-theme.result c.meta_at.result c.requires.valid c.requires.fits.cover c.requires.kind c.how_many_each-each.ensures.each theme meta in
    record { place = at.place; meta = at.meta }

use Rattle.std.proofs.Common.{sym}
use Rattle.job_forms.proofs.PlaceLists.{metatiles_length}
use Rattle.job_forms.proofs.places.how_many_metatiles.Goals as goal

pub returns : goal.returns
returns c =
    rw (c.from.ensures, c.how_many_themes.ensures.value) (sym (metatiles_length c.args.catalogue.now c.args.cover.now c.how_many_each.result c.how_many_each.ensures.each))

use Rattle.opened_cache.proofs.Lasting.{left_by}
use Rattle.opened_cache.proofs.lent_cabinet.leaves_now.Goals as goal

pub returns : goal.returns
returns g c = λ told. left_by _ c.known.ensures _ _ (c.images.ensures.left told) (c.images.ensures.ours told)

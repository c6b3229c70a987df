use Rattle.opened_cache.proofs.Lasting.{left_by}
use Rattle.opened_cache.proofs.opening.close_cache.Goals as goal

pub returns-clause-closed : goal.returns-clause-closed
returns-clause-closed g c =
    rw (c.into_disk.ensures, c.take_apart.ensures.disk) (record {
      left = λ told. left_by _ c.known.ensures _ _ (c.images.ensures.left told) (c.images.ensures.ours told);
      restores = c.images.ensures.settled;
      sound = c.images.ensures.all_sound;
    })

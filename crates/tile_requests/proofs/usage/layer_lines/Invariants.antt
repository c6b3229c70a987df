use Rattle.std.proofs.Common.{◌≡◌, ◌≤◌, length}
use Rattle.cache_access.specs.Turned.{Goes}
use Rattle.tile_requests.specs.Counting.{HasCounted}
use Rattle.tile_requests.proofs.usage.layer_lines.Given as goal

abbrev pub invariant-counting : goal.invariant-counting
invariant-counting g l =
    let A = g.A.Access in
    let way = l.access in
    let c = A.catalogue way l.fn.cache in
    record {
      told : HasCounted (A.gains way) c l.fn.cache l.cache l.number l.text.items;
      goes : Goes (A.catalogue way) (A.reaches way) (A.owes way) (A.lasts way) l.fn.cache l.cache;
      still : A.sound way l.fn.cache → A.sound way l.cache;
      rests : A.rests way l.fn.cache → A.rests way l.cache;
      layers : l.layers ≡ length c.layers;
      within : l.number ≤ length c.layers;
    }

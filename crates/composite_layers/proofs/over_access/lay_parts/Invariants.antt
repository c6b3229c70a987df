use Rattle.std.proofs.Common.{◌≡◌, ◌≤◌, Some, take}
use Rattle.cache_access.specs.Turned.{Goes}
use Rattle.source_render.specs.Renders.{StaysGiven, renders}
use Rattle.composite_layers.specs.OverAccess.{AreLaidSoFar, GetsAt, moment_of}
use Rattle.composite_layers.proofs.over_access.lay_parts.Given as goal

-- the parts before this one were got and laid
abbrev pub invariant-loop-part : goal.invariant-loop-part
invariant-loop-part g l =
    let A = g.A.Access in
    let S = g.S.Source in
    let way = l.access in
    let told = S.told l.fn.source in
    let c = A.catalogue way l.fn.cache in
    record {
      laid : AreLaidSoFar (GetsAt (A.gains way) (A.sound way) (A.seen way) told c) l.place (moment_of l.fn.cache (renders (S.faults l.fn.source) (S.gave l.fn.source))) (take l.part-index l.parts) l.fn.overlay l.overlay l.numbers.items (moment_of l.cache (renders (S.faults l.source) (S.gave l.source)));
      goes : Goes (A.catalogue way) (A.reaches way) (A.owes way) (A.lasts way) l.fn.cache l.cache;
      still : told ≡ Some c.source → A.sound way l.fn.cache → A.sound way l.cache;
      rests : A.rests way l.cache;
      later : S.faults l.fn.source ≤ S.faults l.source;
      told : S.told l.source ≡ told;
      grows : StaysGiven (S.gave l.fn.source) (S.gave l.source);
    }

use Rattle.std.proofs.Common.{◌≡◌, rules, subst, sym}
use Rattle.metatile_locks.specs.Running.{block}
use Rattle.raster_field.specs.Blocks.{factors_at}
use Rattle.truncation_list.specs.declared.block.Block.{Block}
use Rattle.truncation_list.specs.Listed.{Listed}
use Rattle.cabinet_records.specs.Played.{IsNewerThan}
use Rattle.cabinet_records.proofs.AimedCuts.{newer_where, of_zoom}
use Rattle.cabinet_records.proofs.Allowing.{newer_is}
use Rattle.cabinet_records.proofs.replay.newer.is_newer.Goals as goal

pub hit_since-requires : goal.hit_since-requires
hit_since-requires c =
    let layout = c.layout_of-layout.result in
    of_zoom c.args.meta.now layout.factors layout.matrix c.zoom_of-zoom.result c.layout_of-layout.ensures.limits c.layout_of-layout.ensures.plan c.zoom_of-zoom.ensures

pub returns-in-Some : goal.returns-in-Some
returns-in-Some c =
    let layout = c.layout_of-layout.result in
    let e = c.layout_of-layout.ensures in
    newer_where c.args.catalogue.now c.args.cuts.now.book.cuts c.args.number c.args.meta.now layout.factors layout.matrix c.zoom_of-zoom.result c.in-Some.is_hit e.factors e.matrix c.zoom_of-zoom.ensures c.in-Some.ensures

pub returns-in-None : goal.returns-in-None
returns-in-None c =
    let x = c.layout_of-layout.result.matrix in
    let m = c.args.meta.now in
    let cuts = c.args.cuts.now.book.cuts in
    let n = newer_is c.args.catalogue.now cuts c.args.number m x c.layout_of-layout.ensures.matrix in
    let b : Block = record { theme = m.theme; grid = m.grid; z = m.z; tiles = c.tiles_of.result } in
    let same : b ≡ block (factors_at c.args.catalogue.now m.theme) x m = search rules in
    let Than = λ (y : Block). IsNewerThan cuts x y c.args.number in
    let list = λ (l : Listed). IsNewerThan l.book.cuts x b c.args.number in
    (λ is. n.0 (subst Than same (subst list c.list.ensures (c.is_newer_than.ensures.0 is))), λ all. c.is_newer_than.ensures.1 (subst list (sym c.list.ensures) (subst Than (sym same) (n.1 all))))

use Rattle.std.proofs.Common.{◌≡◌, ℕ, List, length, ap, ◌∙◌, rules}
use Rattle.metatile_plan.proofs.Sides.{window_on}
use Rattle.ppm_slice.specs.Cut.{cut_block}
use Rattle.ppm_slice.proofs.Blobs.{block_length, cut_is_block}
use Rattle.ppm_slice.proofs.slicing.slice_blob.Goals as goal

pub returns-clause-length : goal.returns-clause-length
returns-clause-length c =
    let k = c.args.meta.now in let f = c.args.f.now in let m = c.args.m.now in let r = c.args.raster.now in
    let block = c.tiles_of.ensures.block in let here = rw c.tiles_of.ensures.range at block in
    let cut : c.add_block.new.blob.items ≡ cut_block f m k r = search rules in
    ap (λ (xs : List ℕ). length xs) cut
    ∙ block_length f m k r c.width.ensures.whole c.requires.width c.requires.height (window_on f m k c.requires.limits c.requires.plan c.requires.meta) here.rows here.cols

pub returns-clause-picture : goal.returns-clause-picture
returns-clause-picture c x number is e g shows =
    let k = c.args.meta.now in let f = c.args.f.now in let m = c.args.m.now in let r = c.args.raster.now in
    let block = c.tiles_of.ensures.block in let here = rw c.tiles_of.ensures.range at block in
    let cut : c.add_block.new.blob.items ≡ cut_block f m k r = search rules in
    cut ∙ cut_is_block x k number f m r c.requires.limits c.requires.plan c.requires.meta here.rows here.cols is e g shows

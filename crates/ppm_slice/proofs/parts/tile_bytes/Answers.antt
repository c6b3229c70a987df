use Rattle.std.proofs.Common.{◌≡◌, ◌+◌, ◌-◌, ℕ, List, take, drop, ap, ◌∙◌, arith}
use Rattle.metatile_plan.specs.declared.span.Span.{Span}
use Rattle.metatile_plan.specs.Texts.{span_of}
use Rattle.raster_field.specs.Blocks.{part_of}
use Rattle.ppm_slice.proofs.Blobs.{part_is_text}
use Rattle.ppm_slice.proofs.parts.tile_bytes.Goals as goal

pub returns : goal.returns
returns c =
    let k = c.args.meta.now in let f = c.args.f.now in let m = c.args.m.now in let span = c.tile_span_in_blob-span.result in
    let e : span.start + span.length - span.start ≡ span.length = omega arith in
    let part : take (span.start + span.length - span.start) (drop span.start c.args.blob.now) ≡ part_of (span_of f m k c.args.row c.args.col) c.args.blob.now =
    ap (λ (n : ℕ). take n (drop span.start c.args.blob.now)) e ∙ ap (λ (s : Span). part_of s c.args.blob.now) c.tile_span_in_blob-span.ensures.span in
    record {
      part = part;
      text = λ x number is g h blob. part ∙ ap (λ (xs : List ℕ). part_of (span_of f m k c.args.row c.args.col) xs) blob ∙ part_is_text x k number c.args.row c.args.col f m is g h c.requires.tile;
    }

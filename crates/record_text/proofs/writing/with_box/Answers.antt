use Rattle.std.proofs.Common.{◌++◌, ℤ, ap, ◌∙◌}
use Rattle.std.proofs.lemmas.Int.{to_z-of_z}
use Rattle.std.specs.Int.{w64}
use Rattle.byteorder.specs.Endian.{big_bytes}
use Rattle.record_text.specs.Spelling.{coordinate}
use Rattle.record_text.proofs.Drafts.{five}
use Rattle.record_text.proofs.writing.with_box.Goals as goal

pub returns-clause-bytes : goal.returns-clause-bytes
returns-clause-bytes c =
    let edges = c.args.edges in
    let fits = c.requires.fits in
    let one = c.with_coordinate.ensures.bytes ∙ ap (λ (z : ℤ). c.number.result ++ coordinate z) (to_z-of_z w64 edges.min_x fits.min_x) in
    let two = c.with_coordinate-lower.ensures.bytes ∙ ap (λ (z : ℤ). c.with_coordinate.result ++ coordinate z) (to_z-of_z w64 edges.min_y fits.min_y) in
    let three = c.with_coordinate-2.ensures.bytes ∙ ap (λ (z : ℤ). c.with_coordinate-lower.result ++ coordinate z) (to_z-of_z w64 edges.max_x fits.max_x) in
    let four = c.with_coordinate-3.ensures.bytes ∙ ap (λ (z : ℤ). c.with_coordinate-2.result ++ coordinate z) (to_z-of_z w64 edges.max_y fits.max_y) in
    five c.args.draft (big_bytes 1 1) (coordinate edges.min_x) (coordinate edges.min_y) (coordinate edges.max_x) (coordinate edges.max_y) c.number.result c.with_coordinate.result c.with_coordinate-lower.result c.with_coordinate-2.result c.with_coordinate-3.result c.number.ensures.bytes one two three four

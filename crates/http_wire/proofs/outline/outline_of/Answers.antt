use Rattle.std.proofs.Common.{◌∙◌, ◌≤◌, arith, ap, List, ℕ, length, length-take}
use Rattle.std.specs.Prelude.{slice_range}
use Rattle.http_wire.proofs.HeadAtFront.{begins_of, refused, same_fields, outlined}
use Rattle.http_wire.proofs.outline.outline_of.Goals as goal

pub returns-in-Err : goal.returns-in-Err
returns-in-Err c =
    let is = c.requires.is in
    refused c.args.held.now is.0 _ _ _ (begins_of c.args.held.now c.args.headers.now c.args.spans.now is.0 c.requires.room is.1 c.requires.within)
    (same_fields _ _ _ _ _ _ c.front_of-first.ensures c.split_at.ensures.front is.1.fields) c.in-Err.ensures

pub returns : goal.returns
returns c =
    let is = c.requires.is in
    let upto = length-take 16384 c.args.held.now in
    let within = c.requires.within.section.len_fits in
    let fits : c.args.spans.now.len ≤ length c.args.held.now = omega (arith, upto, within) in
    let at = λ (a b : ℕ). ap (λ (l : List ℕ). slice_range l a b) c.front_of-first.ensures in
    outlined c.args.held.now _ is.0 _ c.of-2.result.now c.of.result.now c.args.spans.now.version c.has_close-closes.result
    (begins_of c.args.held.now c.args.headers.now c.args.spans.now is.0 c.requires.room is.1 c.requires.within) fits
    (same_fields _ _ _ _ _ _ c.front_of-first.ensures c.split_at.ensures.front is.1.fields) c.in-Ok.ensures
    c.in_ok-method.ensures (c.of-2.ensures ∙ at _ _ ∙ is.1.method) c.in_ok-target.ensures (c.of.ensures ∙ at _ _ ∙ is.1.path)
    c.is_last_of.ensures is.1.version c.has_close-closes.ensures

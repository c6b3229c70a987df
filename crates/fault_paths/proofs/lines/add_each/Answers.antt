use Rattle.std.proofs.Common.{◌++◌, ◌∙◌, ap, length, refl, rules}
use Rattle.std.proofs.lemmas.Option.{slice_get_read}
use Rattle.serde_json.specs.View.{view}
use Rattle.fault_paths.specs.Paths.{found_line}
use Rattle.fault_paths.proofs.Each.{one_more}
use Rattle.fault_paths.proofs.lines.add_each.Goals as goal

pub loop-outer-preserved : goal.loop-outer-preserved
loop-outer-preserved c =
    let xs = c.args.objects.now in
    let i = c.loop-outer.outer in
    let text = c.loop-outer.text.items in
    let x = slice_get_read xs (length xs) i c.index-objects-outer.result refl (search rules) c.index-objects-outer.is in
    record { rest = one_more view c.args.sought c.args.name.now xs i c.index-objects-outer.result text c.add_found.new.text.items _ x c.loop-outer.invariant.rest (c.in_ok-add_found.ensures ∙ ap (λ o. text ++ found_line c.args.sought i o) c.entry_of.ensures) }

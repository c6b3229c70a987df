use Rattle.std.specs.Prelude.{Vec, slice_range}
use Rattle.std.specs.declared.alloc.Global.{Global}
use Rattle.std.proofs.Common.{ℕ, ◌≡◌, ◌+◌, ◌-◌, ◌≤◌, List, length, ap, sym, ◌∙◌, arith}
use Rattle.base.proofs.Parts.{part_length, part_of_part}
use Rattle.base.proofs.shared.SharedText.part.Goals as goal

pub returns-in-Ok : goal.returns-in-Ok
returns-in-Ok c =
    let t = c.self.inside in
    let from = c.args.from in
    let to = c.args.to in
    let items = t.text.value.items in
    let long : length c.args.self.now ≡ t.end - t.start = ap length (sym c.self.view_is) ∙ part_length items t.start t.end c.self.invariant.0 c.self.invariant.1 in
    let inside : to ≤ length c.args.self.now = c.requires.inside in
    ap (λ (v : Vec ℕ Global). slice_range v.items (t.start + from) (t.start + to)) c.in-Ok.ensures
    ∙ sym (part_of_part items t.start t.end from to c.requires.order (omega arith))
    ∙ ap (λ (v : List ℕ). slice_range v from to) c.self.view_is

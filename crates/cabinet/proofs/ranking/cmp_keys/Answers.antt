use Rattle.std.proofs.Common.{◌≡◌, [], ◌∷◌, length, arith}
use Rattle.expiry_policy.proofs.Orders.{cmp_parts, then_equal, then_then}
use Rattle.cabinet.proofs.ranking.cmp_keys.Goals as goal

pub returns : goal.returns
returns c =
    let a = c.args.a.now in
    let b = c.args.b.now in
    let as_long : length a.theme.dims ≡ length b.theme.dims = omega arith in
    let parts = cmp_parts a.theme.dims b.theme.dims (a.grid ∷ a.z ∷ a.row ∷ a.col ∷ []) (b.grid ∷ b.z ∷ b.row ∷ b.col ∷ []) as_long in
    rw (c.cmp.ensures, parts) (simp (then_then, then_equal))

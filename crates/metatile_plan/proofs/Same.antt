-- When two keys of metatiles are one.
use Rattle.std.proofs.Common.{◌≡◌, ℕ, Bool, true, false, ◌&&◌, ◌==◌, refl, sym, arith, eq-eqb}
use Rattle.std.proofs.lemmas.Bool.Decides.{nat_tests}
use Rattle.std.proofs.lemmas.Cmp.{nat_list_eq_equiv}
use Rattle.std.specs.Cmp.Lexicographic.{same_text}
use Rattle.metatile_plan.specs.declared.metatile.MetaKey.{MetaKey}
use Rattle.metatile_plan.specs.Keys.{same_meta}

both : (s t : Bool) → (s && t) ≡ true → (s ≡ true) × (t ≡ true)
both true t h = (refl, h)
both false t h = (h, absurd (cc))

one : (x y : ℕ) → (x == y) ≡ true → x ≡ y
one x y h = grind (arith, nat_tests)

itself : (x : ℕ) → (x == x) ≡ true
itself x = eq-eqb x x refl

pub same_meta_is : (a b : MetaKey) → same_meta a b ≡ true → a ≡ b
same_meta_is a b e =
    let col = both _ _ e in let row = both _ _ col.0 in let z = both _ _ row.0 in let grid = both _ _ z.0 in
    let dims = both _ _ grid.0 in let theme = both _ _ dims.0 in
    let e0 = one _ _ theme.0 in let e1 = one _ _ theme.1 in let e2 = same_text _ _ (sym dims.1) in let e3 = one _ _ grid.1 in
    let e4 = one _ _ z.1 in let e5 = one _ _ row.1 in let e6 = one _ _ col.1 in
    λ i. record { theme = record { layer = e0 i; style = e1 i; dims = e2 i }; grid = e3 i; z = e4 i; row = e5 i; col = e6 i }

pub same_meta_self : (a : MetaKey) → same_meta a a ≡ true
same_meta_self a =
    λ i. itself a.theme.layer i && itself a.theme.style i && nat_list_eq_equiv.refl a.theme.dims i && itself a.grid i && itself a.z i && itself a.row i && itself a.col i

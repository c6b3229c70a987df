-- Keys that are one, whichever is named first.
use Rattle.std.proofs.Common.{◌≡◌, Bool, true, false, refl, subst}
use Rattle.metatile_plan.specs.declared.metatile.MetaKey.{MetaKey}
use Rattle.metatile_plan.specs.Keys.{same_meta}
use Rattle.metatile_plan.proofs.Same.{same_meta_is, same_meta_self}

same_if : (a b : MetaKey) → same_meta a b ≡ true → same_meta b a ≡ true
same_if a b h = subst (λ (x : MetaKey). same_meta x a ≡ true) (same_meta_is a b h) (same_meta_self a)

pub same_sym : (a b : MetaKey) → same_meta a b ≡ same_meta b a
same_sym a b = pick (same_meta a b) (same_meta b a) refl refl
  where
    pick : (p q : Bool) → same_meta a b ≡ p → same_meta b a ≡ q → p ≡ q
    pick true true x y = refl
    pick false false x y = refl
    pick true false x y = let z = same_if a b x in absurd (cc)
    pick false true x y = let z = same_if b a y in absurd (cc)

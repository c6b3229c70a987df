-- What the entries of a map hold of a metatile, before and after a change.
use Rattle.std.proofs.Common.{ℕ, zero, suc, ◌≡◌, ◌≢◌, ◌+◌, ◌++◌, Bool, true, false, cond, List, [], ◌∷◌, add-one, take, slice_get, Option, None, Some, refl, sym, ap, subst, ◌∙◌}
use Rattle.std.specs.Prelude.{is_some}
use Rattle.std.specs.List.{IsDistinct}
use Rattle.std.specs.Map.{keys_of, lookup, lookup_key}
use Rattle.std.specs.Option.{option_map}
use Rattle.metatile_plan.specs.declared.metatile.MetaKey.{MetaKey}
use Rattle.metatile_plan.specs.Keys.{same_meta}
use Rattle.metatile_plan.proofs.Same.{same_meta_is, same_meta_self}
use Rattle.metatile_locks.proofs.Lists.{all_map, all_weaker}
use Rattle.cabinet.specs.declared.kept.Blob.{Blob}
use Rattle.cabinet.specs.declared.kept.KeptBlob.{KeptBlob}
use Rattle.cabinet.specs.Fresh.{ApartBy}
use Rattle.cabinet.specs.Ordered.{as_kept, held_at, held_of}
use Rattle.cabinet.proofs.Lists.{all_of_map}
use Rattle.cabinet.proofs.UsesAfter.{same_swap}

abbrev Entries : Type 0
Entries = List (MetaKey × Blob)

-- what is found of a metatile is what its entry holds
pub held_lookup : (m : MetaKey) (es : Entries) → held_at (held_of es) m ≡ option_map (λ b. as_kept (m, b)) (lookup (same_meta m) es)
held_lookup m [] = refl
held_lookup m (e ∷ es) = ap (λ v. cond v (Some (as_kept e)) (held_at (held_of es) m)) (same_swap e.0 m) ∙ chosen (same_meta m e.0) refl (held_lookup m es)
  where
    chosen : (v : Bool) → same_meta m e.0 ≡ v → held_at (held_of es) m ≡ option_map (λ b. as_kept (m, b)) (lookup (same_meta m) es)
        → cond v (Some (as_kept e)) (held_at (held_of es) m) ≡ option_map (λ b. as_kept (m, b)) (cond v (Some e.1) (lookup (same_meta m) es))
    chosen true is ih = λ i. Some (as_kept (sym (same_meta_is m e.0 is) i, e.1))
    chosen false is ih = ih

pub some_held : (m : MetaKey) (es : Entries) → is_some (lookup (same_meta m) es) ≡ is_some (held_at (held_of es) m)
some_held m es = mapped (lookup (same_meta m) es) ∙ sym (ap is_some (held_lookup m es))
  where
    mapped : (o : Option Blob) → is_some o ≡ is_some (option_map (λ b. as_kept (m, b)) o)
    mapped None = refl
    mapped (Some b) = refl

-- where one metatile has another blob or none
pub held_updated : (m k : MetaKey) (es later : Entries) (w : Option Blob) → lookup (same_meta m) later ≡ cond (same_meta k m) w (lookup (same_meta m) es)
    → held_at (held_of later) m ≡ cond (same_meta m k) (option_map (λ b. as_kept (k, b)) w) (held_at (held_of es) m)
held_updated m k es later w e =
    held_lookup m later ∙ ap (option_map (λ b. as_kept (m, b))) (e ∙ ap (λ v. cond v w (lookup (same_meta m) es)) (same_swap k m)) ∙ chosen (same_meta m k) refl
  where
    chosen : (v : Bool) → same_meta m k ≡ v → option_map (λ b. as_kept (m, b)) (cond v w (lookup (same_meta m) es)) ≡ cond v (option_map (λ b. as_kept (k, b)) w) (held_at (held_of es) m)
    chosen true is = λ i. option_map (λ b. as_kept (same_meta_is m k is i, b)) w
    chosen false is = sym (held_lookup m es)

-- each metatile has one entry
pub held_apart : (es : Entries) → IsDistinct same_meta (keys_of es) → ApartBy (λ b. b.kept.meta) (held_of es)
unfolding IsDistinct
held_apart [] d = tt
held_apart (e ∷ es) d = (
  all_map as_kept (λ (b : KeptBlob). e.0 ≢ b.kept.meta) es (all_weaker (λ (x : MetaKey × Blob). same_meta e.0 x.0 ≡ false) (λ x. e.0 ≢ x.0) (λ x off same. differs e.0 x.0 off same) es (all_of_map (λ (x : MetaKey × Blob). x.0) (λ k. same_meta e.0 k ≡ false) es d.0)),
  held_apart es d.1,
)
  where
    differs : (m n : MetaKey) → same_meta m n ≡ false → m ≢ n
    differs m n off same = let on = subst (λ (x : MetaKey). same_meta m x ≡ true) same (same_meta_self m) in let f : true ≡ false = sym on ∙ off in absurd (cc)

-- ENTRIES BY INDEX

pub held_get : (es : Entries) (i : ℕ) (e : MetaKey × Blob) → slice_get es i ≡ Some e → slice_get (held_of es) i ≡ Some (as_kept e)
held_get [] i e at = absurd (cc)
held_get (x ∷ xs) zero e at = let same : x ≡ e = cc in ap (λ (y : MetaKey × Blob). Some (as_kept y)) same
held_get (x ∷ xs) (suc i) e at = held_get xs i e at

-- one more of the first ones
pub taken_next : {X : Type 0} (xs : List X) (i : ℕ) (x : X) → slice_get xs i ≡ Some x → take (i + 1) xs ≡ take i xs ++ x ∷ []
taken_next [] i x e = absurd (cc)
taken_next (y ∷ ys) zero x e = let same : y ≡ x = cc in ap (λ z. z ∷ []) same
taken_next (y ∷ ys) (suc i) x e = rw add-one (ap (λ zs. y ∷ zs) (taken_again ys i x e))
  where
    taken_again : {X : Type 0} (xs : List X) (i : ℕ) (x : X) → slice_get xs i ≡ Some x → take (suc i) xs ≡ take i xs ++ x ∷ []
    taken_again [] i x e = absurd (cc)
    taken_again (y ∷ ys) zero x e = let same : y ≡ x = cc in ap (λ z. z ∷ []) same
    taken_again (y ∷ ys) (suc i) x e = ap (λ zs. y ∷ zs) (taken_again ys i x e)

-- the key that is found passes
pub key_passes : (test : MetaKey → Bool) (es : Entries) (k : MetaKey) → lookup_key test es ≡ Some k → test k ≡ true
key_passes test [] k e = absurd (cc)
key_passes test (x ∷ xs) k e = chosen (test x.0) refl e (key_passes test xs k)
  where
    chosen : (v : Bool) → test x.0 ≡ v → cond v (Some x.0) (lookup_key test xs) ≡ Some k → (lookup_key test xs ≡ Some k → test k ≡ true) → test k ≡ true
    chosen true is e ih = let same : x.0 ≡ k = cc in ap test (sym same) ∙ is
    chosen false is e ih = ih e

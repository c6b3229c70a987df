use Rattle.std.proofs.Common.{ℕ, zero, suc, ◌≡◌, List, [], ◌∷◌, Some, None, Bor, ap, subst, sym, ◌∙◌, slice_get}
use Rattle.std.specs.List.{IsDistinct}
use Rattle.std.specs.Map.{lookup, lookup_key, values_of}
use Rattle.std.specs.Option.{option_map}
use Rattle.indexmap.specs.IndexMap.{IsUnique, set_value_at}
use Rattle.indexmap.proofs.CallerLemmas.{keys-with_value_at, updates-with_value_at}
use Rattle.metatile_plan.specs.declared.metatile.MetaKey.{MetaKey}
use Rattle.metatile_plan.specs.Keys.{same_meta}
use Rattle.metatile_plan.proofs.Same.{same_meta_is}
use Rattle.expiry_policy.proofs.Lookups.{derived_is, same_meta_laws}
use Rattle.cabinet.specs.declared.kept.Blob.{Blob}
use Rattle.cabinet.specs.Ordered.{as_kept, held_at, held_of, recounted}
use Rattle.cabinet.proofs.Lookups.{held_apart, held_lookup, held_updated, key_passes}
use Rattle.cabinet.proofs.Recounts.{none_counted, one_counted}
use Rattle.cabinet.proofs.held.recount.Goals as goal

pub returns-in-None-clause-once : goal.returns-in-None-clause-once
returns-in-None-clause-once c = held_apart c.args.held.now.entries (subst (λ eq. IsUnique eq c.args.held.now) derived_is c.len-count.ensures.unique)

pub returns-in-None-clause-held : goal.returns-in-None-clause-held
returns-in-None-clause-held c =
    let es = c.args.held.now.entries in
    let m = c.args.meta.now in
    let value = subst (λ eq. option_map (λ (p : ℕ × Bor MetaKey × Bor Blob). p.2.now) c.get_full.result ≡ lookup (eq m) es) derived_is c.get_full.ensures.value in
    let none : lookup (same_meta m) es ≡ None = sym value ∙ ap (option_map (λ (p : ℕ × Bor MetaKey × Bor Blob). p.2.now)) c.in-None.is in
    none_counted m c.args.uses (held_of es) (held_lookup m es ∙ ap (option_map (λ (b : Blob). as_kept (m, b))) none)

-- the blob that is counted is the metatile's
counted_blob : (es : List (MetaKey × Blob)) (at : ℕ) (k : MetaKey) (v w : Blob) → slice_get es at ≡ Some (k, v) → slice_get (values_of es) at ≡ Some w → v ≡ w
counted_blob [] at k v w e f = absurd (cc)
counted_blob (x ∷ xs) zero k v w e f = let same : x ≡ (k, v) = cc in let d : x.1 ≡ w = cc in sym (ap (λ (y : MetaKey × Blob). y.1) same) ∙ d
counted_blob (x ∷ xs) (suc at) k v w e f = counted_blob xs at k v w e f

abbrev later_entries : goal.After-held-1 → List (MetaKey × Blob)
later_entries c =
    let w = c.index_mut.result.now in
    set_value_at c.args.held.now.entries c.in-Some.at (record { number = w.number; place = w.place; length = w.length; moment = w.moment; uses = c.args.uses; text = w.text })

-- what is held of each metatile once the uses are set
counted : (c : goal.After-held-1) → (k : MetaKey) → held_at (held_of (later_entries c)) k ≡ option_map (recounted c.args.meta.now c.args.uses) (held_at (held_of c.args.held.now.entries) k)
counted c =
    let held = c.args.held.now in
    let es = held.entries in
    let m = c.args.meta.now in
    let at = c.in-Some.at in
    let v = c.in-Some.field-0-2.now in
    let w = c.index_mut.result.now in
    let set : Blob = record { number = w.number; place = w.place; length = w.length; moment = w.moment; uses = c.args.uses; text = w.text } in
    let entry : slice_get es at ≡ Some (c.in-Some.field-0-1.now, v) = rw c.in-Some.is at c.get_full.ensures.entry in
    let key : lookup_key (same_meta m) es ≡ Some c.in-Some.field-0-1.now =
    sym (subst (λ eq. option_map (λ (p : ℕ × Bor MetaKey × Bor Blob). p.1.now) c.get_full.result ≡ lookup_key (eq m) es) derived_is c.get_full.ensures.key) ∙ ap (option_map (λ (p : ℕ × Bor MetaKey × Bor Blob). p.1.now)) c.in-Some.is in
    let value : lookup (same_meta m) es ≡ Some v =
    sym (subst (λ eq. option_map (λ (p : ℕ × Bor MetaKey × Bor Blob). p.2.now) c.get_full.result ≡ lookup (eq m) es) derived_is c.get_full.ensures.value) ∙ ap (option_map (λ (p : ℕ × Bor MetaKey × Bor Blob). p.2.now)) c.in-Some.is in
    let is : m ≡ c.in-Some.field-0-1.now = same_meta_is m c.in-Some.field-0-1.now (key_passes (same_meta m) es c.in-Some.field-0-1.now key) in
    let mine : slice_get es at ≡ Some (m, v) = subst (λ (k : MetaKey). slice_get es at ≡ Some (k, v)) (sym is) entry in
    let same : v ≡ w = counted_blob es at m v w mine c.index_mut.ensures.value in
    let unique = subst (λ eq. IsUnique eq held) derived_is c.len-count.ensures.unique in
    let updates = updates-with_value_at held at set same_meta_laws unique m v mine in
    let here : held_at (held_of es) m ≡ Some (as_kept (m, w)) = held_lookup m es ∙ ap (option_map (λ (b : Blob). as_kept (m, b))) (value ∙ ap Some same) in
    one_counted m c.args.uses w (held_of es) (held_of (later_entries c)) here (λ k. held_updated k m es (later_entries c) (Some set) (updates.0 k))

pub returns-in-Some-clause-once : goal.returns-in-Some-clause-once
returns-in-Some-clause-once c =
    let w = c.index_mut.result.now in
    let unique = subst (λ eq. IsUnique eq c.args.held.now) derived_is c.len-count.ensures.unique in
    held_apart (later_entries c) (subst (IsDistinct same_meta) (sym (keys-with_value_at c.args.held.now c.in-Some.at (record { number = w.number; place = w.place; length = w.length; moment = w.moment; uses = c.args.uses; text = w.text }))) unique)

pub returns-in-Some-clause-held : goal.returns-in-Some-clause-held
returns-in-Some-clause-held c = counted c

-- The entries of the hot tier, and the texts that they hold.
use Rattle.std.specs.Prelude.{IfOk, IfSome}
use Rattle.std.proofs.Common.{ℕ, ◌≡◌, ◌⊎◌, ◌-◌, true, List, [], ◌∷◌, map, take, Contains, Option, Some, None, Result, Ok, Err, inl, inr, refl, sym, ap, subst, ◌∙◌}
use Rattle.std.proofs.Math.Bool.{and_assoc}
use Rattle.std.specs.List.{AllByRecursion}
use Rattle.std.specs.Map.{lookup, lookup_entry, remove_entry}
use Rattle.std.specs.Option.{option_map_or}
use Rattle.lru.specs.LruCache.{LruCache, promoted, put_entries}
use Rattle.lru.proofs.CallerLemmas.{Contains-lookup, Contains-lookup_entry, Contains-promoted, Contains-put_entries}
use Rattle.lru.proofs.Splits.{Contains-cons, Contains-head, Contains-nil, Contains-tail}
use Rattle.matrix_geometry.specs.declared.address.Address.{Address}
use Rattle.metatile_locks.proofs.Lists.{all_map}
use Rattle.metatile_plan.specs.declared.metatile.MetaKey.{MetaKey}
use Rattle.metatile_plan.specs.Keys.{same_meta}
use Rattle.metatile_plan.proofs.Same.{same_meta_is}
use Rattle.cabinet.proofs.Lists.{all_contained, all_of}
use Rattle.durable_cabinet.specs.contracts.texts.TileKeyPartialEq.TheImpl.{eq-value as derived}
use Rattle.durable_cabinet.specs.declared.texts.HotText.{HotText}
use Rattle.durable_cabinet.specs.declared.texts.TileKey.{TileKey}
use Rattle.durable_cabinet.specs.Hot.{HotTile, address_of, hot_tile, tile_of}

-- KEYS

-- a key has the fields of one of a metatile
abbrev like : TileKey → MetaKey
like k = record { theme = k.theme; grid = k.grid; z = k.z; row = k.row; col = k.col }

alike : (a b : TileKey) → derived.it a b ≡ same_meta (like a) (like b)
alike a b = simp and_assoc

-- equal keys are of one tile
pub key_is : (a b : TileKey) → derived.it a b ≡ true → address_of b ≡ address_of a
key_is a b same = sym (ap (λ (m : MetaKey). address m) (same_meta_is (like a) (like b) (sym (alike a b) ∙ same)))
  where
    address : MetaKey → Address
    address m = record { theme = m.theme; grid = m.grid; z = m.z; row = m.row; col = m.col }

-- ENTRIES

abbrev Entries : Type 0
Entries = List (TileKey × HotText)

holds_tile : (es : Entries) (e : TileKey × HotText) → Contains es e → Contains (map tile_of es) (tile_of e)
holds_tile [] e has = absurd (Contains-nil e has)
holds_tile (x ∷ xs) e has = elim (Contains-cons x xs e has) [
  | inl same ↦ subst (λ y. Contains (tile_of x ∷ map tile_of xs) (tile_of y)) same (Contains-head (tile_of x) (map tile_of xs))
  | inr later ↦ Contains-tail (tile_of x) (map tile_of xs) (tile_of e) (holds_tile xs e later)
]

-- where a key was used last, nothing else is there
pub among_promoted : (k : TileKey) (es : Entries) → AllByRecursion (Contains (map tile_of es)) (map tile_of (promoted (derived.it k) es))
among_promoted k es = all_map tile_of (Contains (map tile_of es)) (promoted (derived.it k) es)
    (all_of (λ e. Contains (map tile_of es) (tile_of e)) (promoted (derived.it k) es) (λ e has. holds_tile es e (Contains-promoted (derived.it k) es e has)))

-- what is found by a key is a text of its tile
pub found_tile : (es : Entries) (k : TileKey) (v : HotText) → lookup (derived.it k) es ≡ Some v → Contains (map tile_of es) (hot_tile (address_of k) v.number v.text)
found_tile es k v is =
    let f = Contains-lookup (derived.it k) es v is in
    subst (λ (a : Address). Contains (map tile_of es) (hot_tile a v.number v.text)) (key_is k f.0 f.2) (holds_tile es (f.0, v) f.1)

-- a text that is shared with what is found by a key
pub shared_tile : {E : Type 0} (r : Result (Option (List ℕ)) E) (es : Entries) (k : TileKey) (v : HotText) (n : ℕ) → lookup (derived.it k) es ≡ Some v
    → IfOk r (λ found. IfSome found (λ text. (v.number ≡ n) × (text ≡ v.text))) → IfOk r (λ found. IfSome found (λ text. Contains (map tile_of es) (hot_tile (address_of k) n text)))
shared_tile (Ok (Some text)) es k v n is same = subst (Contains (map tile_of es)) (λ i. hot_tile (address_of k) (same.0 i) (sym same.1 i)) (found_tile es k v is)
shared_tile (Ok None) es k v n is same = tt
shared_tile (Err fault) es k v n is same = tt

-- what is found among the texts that are left was there before
pub found_among : {E : Type 0} (r : Result (Option (List ℕ)) E) (later old : List HotTile) (n : ℕ) (a b : Address) → a ≡ b → AllByRecursion (Contains old) later
    → IfOk r (λ found. IfSome found (λ text. Contains later (hot_tile a n text))) → IfOk r (λ found. IfSome found (λ text. Contains old (hot_tile b n text)))
found_among (Ok (Some text)) later old n a b same among has = subst (λ (x : Address). Contains old (hot_tile x n text)) same (all_contained (Contains old) later (hot_tile a n text) among has)
found_among (Ok None) later old n a b same among has = tt
found_among (Err fault) later old n a b same among has = tt

module _ (c : LruCache TileKey HotText) (k : TileKey) (v : HotText) where
  abbrev put : Entries
  put = put_entries derived.it c k v

  abbrev new : HotTile
  new = hot_tile (address_of k) v.number v.text

  abbrev IsOldOrNew : HotTile → Type 0
  IsOldOrNew x = Contains (map tile_of c.entries) x ⊎ (x ≡ new)

  one_put : (e : TileKey × HotText) → e.1 ≡ v → address_of e.0 ≡ address_of k → tile_of e ≡ new
  one_put e value key = λ i. hot_tile (key i) (value i).number (value i).text

  old_or_new : (e : TileKey × HotText) → Contains put e → IsOldOrNew (tile_of e)
  old_or_new e has = elim (Contains-put_entries derived.it c k v e has) [
    | inl was ↦ inl (holds_tile c.entries e was)
    | inr (value, inl same) ↦ inr (one_put e value (ap address_of same))
    | inr (value, inr (w, was, same)) ↦ inr (one_put e value (key_is k e.0 same))
  ]

  -- after a put each text was there, or is the one that was put
  pub among_put : AllByRecursion IsOldOrNew (map tile_of put)
  among_put = all_map tile_of IsOldOrNew put (all_of (λ e. IsOldOrNew (tile_of e)) put old_or_new)

  abbrev putting : Option (TileKey × HotText) → Entries
  putting o = option_map_or (λ e. (e.0, v) ∷ remove_entry (derived.it k) c.entries) o ((k, v) ∷ take (c.cap - 1) c.entries)

  first_there : (o : Option (TileKey × HotText)) → lookup_entry (derived.it k) c.entries ≡ o → Contains (map tile_of (putting o)) new
  first_there None is = Contains-head new (map tile_of (take (c.cap - 1) c.entries))
  first_there (Some e) is =
      let rest = map tile_of (remove_entry (derived.it k) c.entries) in
      let same = one_put (e.0, v) refl (key_is k e.0 (Contains-lookup_entry (derived.it k) c.entries e is).1) in
      subst (λ x. Contains (x ∷ rest) new) (sym same) (Contains-head new rest)

  -- and that one is there
  pub put_there : Contains (map tile_of put) new
  put_there = first_there (lookup_entry (derived.it k) c.entries) refl

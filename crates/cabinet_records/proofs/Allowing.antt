-- Why the tests of a replay decide whether a record may follow.
use Rattle.std.proofs.Common.{ℕ, ◌≡◌, ◌≢◌, ◌<◌, ◌≤◌, ◌==◌, Bool, true, false, not, List, [], ◌∷◌, map, fold, find, filter, length, Option, Some, None, IsTrue, refl, sym, ap, subst, ◌∙◌, arith}
use Rattle.std.specs.Prelude.{IsSome, IsSomeAnd, nat_le, ◌&&◌, ◌||◌}
use Rattle.std.specs.List.{AllByRecursion}
use Rattle.std.specs.Option.{option_map_or}
use Rattle.std.proofs.lemmas.Bool.Decides.{nat_tests}
use Rattle.std.proofs.lemmas.List.{length-map}
use Rattle.catalog.specs.declared.catalogue.Catalogue.{Catalogue}
use Rattle.catalog.specs.LookUp.{matrix_in}
use Rattle.matrix_geometry.specs.declared.matrix.Matrix.{Matrix}
use Rattle.metatile_locks.specs.Running.{block}
use Rattle.metatile_locks.proofs.Lists.{all_filter, all_map, all_weaker, found, none_passes}
use Rattle.metatile_plan.specs.declared.metatile.MetaKey.{MetaKey}
use Rattle.raster_field.specs.Blocks.{factors_at}
use Rattle.truncation_list.specs.declared.block.Block.{Block}
use Rattle.truncation_list.specs.declared.book.Cut.{Cut}
use Rattle.truncation_list.specs.Books.{greatest_number}
use Rattle.truncation_list.specs.Covers.{hits}
use Rattle.truncation_list.specs.Listed.{is_hit_since}
use Rattle.cabinet.specs.declared.kept.Kept.{Kept}
use Rattle.cabinet.specs.declared.kept.KeptBlob.{KeptBlob}
use Rattle.cabinet.specs.Fresh.{ApartBy, IsNewer}
use Rattle.cabinet.specs.History.{but, is_of, lesser}
use Rattle.cabinet.specs.Hits.{hits_of}
use Rattle.cabinet_records.specs.Placed.{ArePlaced, has_number}
use Rattle.cabinet_records.specs.Played.{IsNewerThan}
use Rattle.cabinet.specs.Shelved.{listed}
use Rattle.cabinet.proofs.Holding.{least_has, least_most}
use Rattle.cabinet.proofs.Lists.{all_of_map, map_filter}
use Rattle.cabinet.proofs.Once.{but_none}
use Rattle.cabinet_records.proofs.Tied.{found_off, others_differ}

-- A FLOOR BELOW ALL THAT IS KEPT

abbrev numbers : List KeptBlob → List ℕ
numbers blobs = map (λ b. b.kept.number) blobs

pub none_least : (P : Kept → Type 0) (blobs : List KeptBlob) → fold lesser None (numbers blobs) ≡ None → AllByRecursion P (listed blobs)
none_least P [] e = tt
none_least P (b ∷ bs) e = let l = least_most (numbers bs) (Some b.kept.number) b.kept.number refl in absurd (let f : ◌≡◌ {A = Option ℕ} (Some l.0) None = sym l.1 ∙ e in cc)

pub some_least : (floor least : ℕ) (blobs : List KeptBlob) → fold lesser None (numbers blobs) ≡ Some least → (floor < least → AllByRecursion (λ t. floor < t.number) (listed blobs)) × (AllByRecursion (λ t. floor < t.number) (listed blobs) → floor < least)
some_least floor least [] e = absurd (cc)
some_least floor least (b ∷ bs) e =
    let l = least_most (numbers bs) (Some b.kept.number) b.kept.number refl in
    let same : l.0 ≡ least = let f : ◌≡◌ {A = Option ℕ} (Some l.0) (Some least) = sym l.1 ∙ e in cc in
    let first = l.2 in (
      λ under. (
        omega arith,
        all_map (λ (x : KeptBlob). x.kept) (λ t. floor < t.number) bs
            (all_weaker (λ (x : KeptBlob). l.0 ≤ x.kept.number) (λ x. floor < x.kept.number) (λ x m. omega arith) bs (all_of_map (λ (x : KeptBlob). x.kept.number) (λ n. l.0 ≤ n) bs l.3)),
      ),
      λ all.
          let each = all_map (λ (x : KeptBlob). x.kept.number) (λ n. floor < n) bs (all_of_map (λ (x : KeptBlob). x.kept) (λ t. floor < t.number) bs all.1) in
          let low = all.0 in
          let under : floor < l.0 = least_has (λ n. floor < n) (numbers bs) (Some b.kept.number) each (λ n f. let d : b.kept.number ≡ n = cc in omega arith) l.0 l.1 in
          omega arith,
    )

-- A NUMBER ABOVE ALL CUTS

all_below : (number : ℕ) (cuts : List Cut) → greatest_number cuts < number → AllByRecursion (λ k. k.number < number) cuts
all_below number [] l = tt
all_below number (k ∷ ks) l = (omega arith, all_below number ks (omega arith))

greatest_below : (number : ℕ) (k : Cut) (ks : List Cut) → AllByRecursion (λ x. x.number < number) (k ∷ ks) → greatest_number (k ∷ ks) < number
greatest_below number k [] a = let l = a.0 in omega arith
greatest_below number k (x ∷ xs) a = let l = a.0 in let rest = greatest_below number x xs a.1 in omega arith

pub above_is : (number : ℕ) (cuts : List Cut) → (length cuts ≡ 0 → ⊥) → (greatest_number cuts < number → AllByRecursion (λ k. k.number < number) cuts) × (AllByRecursion (λ k. k.number < number) cuts → greatest_number cuts < number)
above_is number [] some = absurd (some refl)
above_is number (k ∷ ks) some = (all_below number (k ∷ ks), greatest_below number k ks)

-- A NUMBER OF ITS OWN

not_placed : (places : ℕ → Option ℕ) (next number : ℕ) (t : Kept) → places number ≡ None → IsSomeAnd (places t.number) (λ place. place < next) → number ≢ t.number
not_placed places next number t none some e = subst (λ (o : Option ℕ). IsSomeAnd o (λ place. place < next)) (ap places (sym e) ∙ none) some

pub own_none : (places : ℕ → Option ℕ) (next number : ℕ) (m : MetaKey) (kept : List Kept) → ArePlaced places next kept → places number ≡ None → AllByRecursion (λ u. number ≢ u.number) (but m kept)
own_none places next number m kept p none =
    all_filter (λ (u : Kept). number ≢ u.number) (λ u. not (is_of m u)) kept
    (all_weaker (λ (u : Kept). IsSomeAnd (places u.number) (λ place. place < next)) (λ u. number ≢ u.number) (λ u some. not_placed places next number u none some) kept p.each)

-- one of them has the number
has_it : (number : ℕ) (kept : List Kept) → AllByRecursion (λ u. number ≢ u.number) kept → IsSome (find (has_number number) kept) → ⊥
has_it number kept off some = chosen (find (has_number number) kept) refl some
  where
    chosen : (o : Option Kept) → find (has_number number) kept ≡ o → IsSome o → ⊥
    chosen None e h = cc
    chosen (Some u) e h = let f = found (has_number number) (λ (x : Kept). number ≢ x.number) kept u off e in let same = f.0 in f.1 (grind (arith, nat_tests))

pub own_other : (places : ℕ → Option ℕ) (next number : ℕ) (m : MetaKey) (kept : List Kept) → ArePlaced places next kept → IsSome (places number) → find (is_of m) kept ≡ None → AllByRecursion (λ u. number ≢ u.number) (but m kept) → ⊥
own_other places next number m kept p some none off =
    has_it number kept (subst (AllByRecursion (λ (u : Kept). number ≢ u.number)) (but_none m kept (none_passes (is_of m) kept none)) off) (p.only number some)

pub own_is : (places : ℕ → Option ℕ) (next number : ℕ) (m : MetaKey) (t : Kept) (kept : List Kept) → ApartBy (λ t. t.meta) kept → ArePlaced places next kept → IsSome (places number) → find (is_of m) kept ≡ Some t
    → ((t.number == number) ≡ true → AllByRecursion (λ u. number ≢ u.number) (but m kept)) × (AllByRecursion (λ u. number ≢ u.number) (but m kept) → (t.number == number) ≡ true)
own_is places next number m t kept once p some e = (
  λ is. let same : t.number ≡ number = grind (arith, nat_tests) in subst (λ (n : ℕ). AllByRecursion (λ u. n ≢ u.number) (but m kept)) same (others_differ places next kept m t once p e),
  λ off. chosen (t.number == number) refl off,
)
  where
    chosen : (v : Bool) → (t.number == number) ≡ v → AllByRecursion (λ u. number ≢ u.number) (but m kept) → v ≡ true
    chosen true is off = refl
    chosen false is off = absurd (has_it number (but m kept) off (subst IsSome (found_off kept m t number once e is) (p.only number some)))

-- NEWER THAN EACH CUT THAT HITS

module _ (x : Matrix) (b : Block) (n : ℕ) where
  abbrev IsNewerIf : Cut → Type 0
  IsNewerIf k = IsTrue (hits k.cover x b) → k.number < n

  -- no cut of the number or a greater one hits the block
  pub since_newer : (cuts : List Cut) → is_hit_since cuts x b n ≡ false → IsNewerThan cuts x b n
  since_newer [] none = tt
  since_newer (k ∷ cuts) none = chosen (nat_le n k.number) refl (hits k.cover x b) refl none (since_newer cuts)
    where
      chosen : (later : Bool) → nat_le n k.number ≡ later → (hit : Bool) → hits k.cover x b ≡ hit → ((later && hit) || is_hit_since cuts x b n) ≡ false
          → (is_hit_since cuts x b n ≡ false → IsNewerThan cuts x b n) → IsNewerIf k × IsNewerThan cuts x b n
      chosen true late true there none rest = absurd (cc)
      chosen true late false off none rest = ((λ hit. absurd (cc)), rest none)
      chosen false early hit there none rest = ((λ _. grind (arith, nat_tests)), rest none)

  pub newer_since : (cuts : List Cut) → IsNewerThan cuts x b n → is_hit_since cuts x b n ≡ false
  newer_since [] all = refl
  newer_since (k ∷ cuts) all = chosen (nat_le n k.number) refl (hits k.cover x b) refl all.0 (newer_since cuts all.1)
    where
      chosen : (later : Bool) → nat_le n k.number ≡ later → (hit : Bool) → hits k.cover x b ≡ hit → IsNewerIf k → is_hit_since cuts x b n ≡ false → ((later && hit) || is_hit_since cuts x b n) ≡ false
      chosen true late true there newer rest = let under : k.number < n = newer there in absurd (grind (arith, nat_tests))
      chosen true late false off newer rest = rest
      chosen false early hit there newer rest = rest

pub newer_is : (c : Catalogue) (cuts : List Cut) (n : ℕ) (m : MetaKey) (x : Matrix) → matrix_in c m.grid m.z ≡ Some x
    → (IsNewerThan cuts x (block (factors_at c m.theme) x m) n → IsNewer c cuts n m) × (IsNewer c cuts n m → IsNewerThan cuts x (block (factors_at c m.theme) x m) n)
newer_is c cuts n m x at =
    let b = block (factors_at c m.theme) x m in
    let same : (k : Cut) → hits_of c k.cover m ≡ hits k.cover x b = λ k. ap (λ (o : Option Matrix). option_map_or (λ y. hits k.cover y (block (factors_at c m.theme) y m)) o false) at in (
      λ each. all_weaker (λ (k : Cut). IsTrue (hits k.cover x b) → k.number < n) (λ k. IsTrue (hits_of c k.cover m) → k.number < n) (λ k h hit. h (sym (same k) ∙ hit)) cuts each,
      λ all. all_weaker (λ (k : Cut). IsTrue (hits_of c k.cover m) → k.number < n) (λ k. IsTrue (hits k.cover x b) → k.number < n) (λ k h hit. h (same k ∙ hit)) cuts all,
    )

-- LENGTHS

pub others_count : (m : MetaKey) (blobs : List KeptBlob) → length (filter (λ b. not (is_of m b.kept)) blobs) ≡ length (but m (listed blobs))
others_count m blobs = sym (length-map (filter (λ (b : KeptBlob). not (is_of m b.kept)) blobs) (λ b. b.kept)) ∙ ap length (map_filter (λ (b : KeptBlob). b.kept) (λ t. not (is_of m t)) blobs)

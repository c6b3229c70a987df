-- Seals one after the other.
use Rattle.std.proofs.Common.{ℕ, ◌≡◌, ◌≢◌, ◌+◌, ◌/◌, Bool, IsTrue, List, [], ◌∷◌, ◌++◌, fold, length-append, refl, sym, ap, subst, ◌∙◌}
use Rattle.std.specs.List.{AllByRecursion, AllZip}
use Rattle.std.proofs.lemmas.List.Sums.{fold-append}
use Rattle.disk_model.specs.Content.{Content}
use Rattle.summed_disk.specs.Entries.{entry_at, sum_at}
use Rattle.cache_seal.specs.declared.counting.Fate.{Fate}
use Rattle.cache_seal.specs.declared.counting.Fate.TheVariants as fate
use Rattle.cache_seal.specs.declared.counting.SealTally.{SealTally}
use Rattle.cache_seal.specs.declared.tiles.DiskTile.{DiskTile}
use Rattle.cache_seal.specs.Fates.{Becomes, noted}
use Rattle.cache_seal.specs.Seals.{AreSealed, BecomesOf, HasSealed, IsBeside, sum_of}

-- no tile of the one list begins in the grain of one of the other
abbrev pub BeginApart : ℕ → List DiskTile → List DiskTile → Type 0
BeginApart grain us vs = AllByRecursion (λ u. IsBeside grain vs (u.at / grain)) us

all_two : {X : Type 0} (P Q : X → Type 0) (xs : List X) → AllByRecursion P xs → AllByRecursion Q xs → AllByRecursion (λ x. P x × Q x) xs
all_two P Q [] h k = tt
all_two P Q (x ∷ xs) h k = ((h.0, k.0), all_two P Q xs h.1 k.1)

all_less : {X : Type 0} (P Q : X → Type 0) → ((x : X) → P x → Q x) → (xs : List X) → AllByRecursion P xs → AllByRecursion Q xs
all_less P Q f [] h = tt
all_less P Q f (x ∷ xs) h = (f x h.0, all_less P Q f xs h.1)

all_nothing : {X : Type 0} (P : X → Type 0) → ((x : X) → P x) → (xs : List X) → AllByRecursion P xs
all_nothing P f [] = tt
all_nothing P f (x ∷ xs) = (f x, all_nothing P f xs)

pub apart_back : (grain : ℕ) (us vs : List DiskTile) → BeginApart grain us vs → BeginApart grain vs us
apart_back grain [] vs h = all_nothing (λ (v : DiskTile). IsBeside grain [] (v.at / grain)) (λ v. tt) vs
apart_back grain (u ∷ us) vs h =
    all_two (λ (v : DiskTile). v.at / grain ≢ u.at / grain) (λ (v : DiskTile). IsBeside grain us (v.at / grain)) vs
    (all_less (λ (v : DiskTile). u.at / grain ≢ v.at / grain) (λ (v : DiskTile). v.at / grain ≢ u.at / grain) (λ v not is. not (sym is)) vs h.0)
    (apart_back grain us vs h.1)

-- the parts of what holds of each tile of two lists
beside_left : (grain k : ℕ) (us vs : List DiskTile) → IsBeside grain (us ++ vs) k → IsBeside grain us k
beside_left grain k [] vs h = tt
beside_left grain k (u ∷ us) vs h = (h.0, beside_left grain k us vs h.1)

beside_right : (grain k : ℕ) (us vs : List DiskTile) → IsBeside grain (us ++ vs) k → IsBeside grain vs k
beside_right grain k [] vs h = h
beside_right grain k (u ∷ us) vs h = beside_right grain k us vs h.1

each_joined : {A B : Type 0} (R : A → B → Type 0) (us vs : List A) (fs hs : List B) → AllZip R us fs → AllZip R vs hs → AllZip R (us ++ vs) (fs ++ hs)
each_joined R [] vs [] hs a b = b
each_joined R [] vs (f ∷ fs) hs a b = absurd a
each_joined R (u ∷ us) vs [] hs a b = absurd a
each_joined R (u ∷ us) vs (f ∷ fs) hs a b = (a.0, each_joined R us vs fs hs a.1 b)

module _ (grain : ℕ) (anew : Bool) (seen old mid new : Content) where
  -- what became of an entry that isn't touched any more
  firsts : (vs : List DiskTile) → ((k : ℕ) → IsBeside grain vs k → entry_at new k ≡ entry_at mid k) → (us : List DiskTile) (fs : List Fate) → AllZip (BecomesOf grain anew seen old mid) us fs → BeginApart grain us vs
      → AllZip (BecomesOf grain anew seen old new) us fs
  firsts vs others [] [] each apart = tt
  firsts vs others [] (f ∷ fs) each apart = absurd each
  firsts vs others (u ∷ us) [] each apart = absurd each
  firsts vs others (u ∷ us) (f ∷ fs) each apart = (
    subst (λ (e : ℕ). Becomes anew (sum_of seen u) (sum_at old grain u.at) e f) (sym (others (u.at / grain) apart.0)) each.0,
    firsts vs others us fs each.1 apart.1,
  )

  -- what becomes of one that wasn't touched before
  lasts : (us : List DiskTile) → ((k : ℕ) → IsBeside grain us k → entry_at mid k ≡ entry_at old k) → (vs : List DiskTile) (hs : List Fate) → AllZip (BecomesOf grain anew seen mid new) vs hs → BeginApart grain vs us
      → AllZip (BecomesOf grain anew seen old new) vs hs
  lasts us others [] [] each apart = tt
  lasts us others [] (h ∷ hs) each apart = absurd each
  lasts us others (v ∷ vs) [] each apart = absurd each
  lasts us others (v ∷ vs) (h ∷ hs) each apart = (
    subst (λ (e : ℕ). Becomes anew (sum_of seen v) e (sum_at new grain v.at) h) (others (v.at / grain) apart.0) each.0,
    lasts us others vs hs each.1 apart.1,
  )

  pub sealed_then : (us vs : List DiskTile) (fs hs : List Fate) → BeginApart grain us vs → AreSealed grain anew seen us fs old mid → AreSealed grain anew seen vs hs mid new
      → AreSealed grain anew seen (us ++ vs) (fs ++ hs) old new
  sealed_then us vs fs hs apart a b = record {
    each = each_joined (BecomesOf grain anew seen old new) us vs fs hs (firsts vs b.others us fs a.each apart) (lasts us a.others vs hs b.each (apart_back grain us vs apart));
    others = λ k beside. b.others k (beside_right grain k us vs beside) ∙ a.others k (beside_left grain k us vs beside);
  }

pub sealed_none : (grain : ℕ) (anew : Bool) (seen old : Content) → AreSealed grain anew seen [] [] old old
sealed_none grain anew seen old = record { each = tt; others = λ k beside. refl }

module _ (disk_told sums_told : Bool) (grain : ℕ) (anew : Bool) (seen : Content) where
  -- of no tile
  pub none_sealed : (old : Content) (tally : SealTally) → HasSealed disk_told sums_told grain anew seen [] old old tally tally
  none_sealed old tally = record { fates = []; one_each = refl; counted = refl; sealed = λ a b. sealed_none grain anew seen old }

  -- of tiles, and of further ones
  pub then_sealed : (us vs : List DiskTile) (old mid new : Content) (t0 t1 t2 : SealTally) → BeginApart grain us vs → HasSealed disk_told sums_told grain anew seen us old mid t0 t1
      → HasSealed disk_told sums_told grain anew seen vs mid new t1 t2 → HasSealed disk_told sums_told grain anew seen (us ++ vs) old new t0 t2
  then_sealed us vs old mid new t0 t1 t2 apart a b = record {
    fates = a.fates ++ b.fates;
    one_each = length-append a.fates b.fates ∙ (λ k. a.one_each k + b.one_each k) ∙ sym (length-append us vs);
    counted = b.counted ∙ ap (λ (t : SealTally). fold noted t b.fates) a.counted ∙ sym (fold-append noted t0 a.fates b.fates);
    sealed = λ x y. sealed_then grain anew seen old mid new us vs a.fates b.fates apart (a.sealed x y) (b.sealed x y);
  }

  -- of one tile
  pub one_sealed : (tile : DiskTile) (f : Fate) (old new : Content) (t0 t1 : SealTally) → t1 ≡ noted t0 f → (IsTrue disk_told → IsTrue sums_told → AreSealed grain anew seen (tile ∷ []) (f ∷ []) old new)
      → HasSealed disk_told sums_told grain anew seen (tile ∷ []) old new t0 t1
  one_sealed tile f old new t0 t1 is sealed = record { fates = f ∷ []; one_each = refl; counted = is; sealed = sealed }

-- what was said of a content is said of the same one, and of disks that are modelled alike
pub same_sealed : (a b a' b' : Bool) (grain : ℕ) (anew : Bool) (seen seen' : Content) (tiles : List DiskTile) (old new : Content) (t0 t1 : SealTally) → (IsTrue a → IsTrue a') → (IsTrue b → IsTrue b') → (IsTrue a → seen' ≡ seen)
    → HasSealed a' b' grain anew seen' tiles old new t0 t1 → HasSealed a b grain anew seen tiles old new t0 t1
same_sealed a b a' b' grain anew seen seen' tiles old new t0 t1 one two same h = record {
  fates = h.fates;
  one_each = h.one_each;
  counted = h.counted;
  sealed = λ x y. subst (λ (s : Content). AreSealed grain anew s tiles h.fates old new) (same x) (h.sealed (one x) (two y));
}

-- COUNTS

pub tiles_more : (t t' : SealTally) (f : Fate) → t' ≡ noted t f → t'.tiles ≡ t.tiles + 1
tiles_more t t' fate.Sealed is = ap (λ (x : SealTally). x.tiles) is
tiles_more t t' fate.Fitted is = ap (λ (x : SealTally). x.tiles) is
tiles_more t t' fate.Unfit is = ap (λ (x : SealTally). x.tiles) is
tiles_more t t' fate.Unread is = ap (λ (x : SealTally). x.tiles) is

-- What a pass over what is kept has come to.
use Rattle.std.proofs.Common.{◌≡◌, Bool, true, false, cond, not, List, [], ◌∷◌, filter, find, Option, Some, None, refl, sym, ap, subst, ◌∙◌}
use Rattle.std.specs.Prelude.{is_some}
use Rattle.std.specs.List.{AllByRecursion}
use Rattle.catalog.specs.declared.catalogue.Catalogue.{Catalogue}
use Rattle.expiry_policy.specs.Victims.{Counts, use_of}
use Rattle.extent_map.specs.Parts.{LieInOrder}
use Rattle.extent_map.specs.Spaces.{IsTaken, Space}
use Rattle.metatile_plan.specs.declared.metatile.MetaKey.{MetaKey}
use Rattle.metatile_plan.specs.Keys.{same_meta}
use Rattle.metatile_plan.proofs.Same.{same_meta_is}
use Rattle.quota_ledger.specs.Accounts.{Accounts, removed}
use Rattle.metatile_locks.proofs.Lists.{all_map, found}
use Rattle.truncation_list.specs.declared.cover.Cover.{Cover}
use Rattle.cabinet.specs.declared.kept.Kept.{Kept}
use Rattle.cabinet.specs.declared.kept.KeptBlob.{KeptBlob}
use Rattle.cabinet.specs.Gaps.{region}
use Rattle.cabinet.specs.History.{is_of}
use Rattle.cabinet.specs.Hits.{hits_of}
use Rattle.cabinet.specs.Shelved.{IsShelved, LeavesUses, listed, with_forgotten}
use Rattle.cabinet.proofs.OnShelf.{dropped_shelved}
use Rattle.cabinet.proofs.Orders.{others}

-- those of the list that are kept on are those of the old one
pub record IsSifting (keep : MetaKey → Bool) (c : Catalogue) (old now : List KeptBlob) (counts counts' : Counts) (space' : Space) (ledger' : Accounts) : Type 0 where
  pub shelved : IsShelved c now space' ledger' counts'
  pub left : filter (λ b. keep b.kept.meta) now ≡ filter (λ b. keep b.kept.meta) old
  pub policy : counts'.policy ≡ counts.policy
  pub layers : counts'.layers ≡ counts.layers
  pub clock : counts'.now ≡ counts.now
  pub uses : (m : MetaKey) → cond (keep m) (use_of counts' m) None ≡ cond (keep m) (use_of counts m) None

-- what is kept on of a list without one that is not
pub left_out : (keep : MetaKey → Bool) (m : MetaKey) → keep m ≡ false → (bs : List KeptBlob) → filter (λ b. keep b.kept.meta) (others m bs) ≡ filter (λ b. keep b.kept.meta) bs
left_out keep m off [] = refl
left_out keep m off (b ∷ bs) = chosen (same_meta b.kept.meta m) refl (left_out keep m off bs)
  where
    chosen : (v : Bool) → same_meta b.kept.meta m ≡ v → filter (λ b. keep b.kept.meta) (others m bs) ≡ filter (λ b. keep b.kept.meta) bs
        → filter (λ b. keep b.kept.meta) (cond (not v) (b ∷ others m bs) (others m bs)) ≡ filter (λ b. keep b.kept.meta) (b ∷ bs)
    chosen true is ih = let gone : keep b.kept.meta ≡ false = ap keep (same_meta_is b.kept.meta m is) ∙ off in ih ∙ sym (ap (λ (v : Bool). cond v (b ∷ filter (λ b. keep b.kept.meta) bs) (filter (λ b. keep b.kept.meta) bs)) gone)
    chosen false is ih = ap (λ (xs : List KeptBlob). cond (keep b.kept.meta) (b ∷ xs) xs) ih

pub all_stay : (keep : MetaKey → Bool) (bs : List KeptBlob) → AllByRecursion (λ b. keep b.kept.meta ≡ true) bs → filter (λ b. keep b.kept.meta) bs ≡ bs
all_stay keep [] a = refl
all_stay keep (b ∷ bs) a = rw a.0 (ap (λ xs. b ∷ xs) (all_stay keep bs a.1))

-- what is not kept on has no uses
none_used : {X Y : Type 0} (a : Option X) (b : Option Y) → is_some a ≡ is_some b → b ≡ None → a ≡ None
none_used None b e n = refl
none_used (Some x) b e n = let f : true ≡ false = e ∙ ap is_some n in absurd (cc)

module _ (keep : MetaKey → Bool) (c : Catalogue) (old now : List KeptBlob) (counts counts' : Counts) (space' : Space) (ledger' : Accounts) (s : IsSifting keep c old now counts counts' space' ledger') where
  -- one that is hit goes
  pub one_goes : (t : Kept) (given : Space) (left : Accounts) (after : Counts) (then : List KeptBlob) → keep t.meta ≡ false → find (is_of t.meta) (listed now) ≡ Some t → LieInOrder 0 given.parts given.size
      → IsTaken given (region t) space' → left ≡ removed t.meta.theme.layer t.length ledger' → LeavesUses counts' counts'.now (with_forgotten t.meta (use_of counts')) after → then ≡ others t.meta now
      → IsSifting keep c old then counts after given left
  one_goes t given left after then off is sound taken bytes uses those = record {
    shelved = subst (λ (bs : List KeptBlob). IsShelved c bs given left after) (sym those) (dropped_shelved c now space' ledger' counts' s.shelved t.meta t given left after is sound taken bytes uses);
    left = ap (filter (λ b. keep b.kept.meta)) those ∙ left_out keep t.meta off now ∙ s.left;
    policy = uses.policy ∙ s.policy;
    layers = uses.layers ∙ s.layers;
    clock = uses.now ∙ s.clock;
    uses = λ m. ap (λ o. cond (keep m) o None) (uses.uses m) ∙ spared m (same_meta m t.meta) refl ∙ s.uses m;
  }
    where
      spared : (m : MetaKey) (v : Bool) → same_meta m t.meta ≡ v → cond (keep m) (cond v None (use_of counts' m)) None ≡ cond (keep m) (use_of counts' m) None
      spared m true e = let gone : keep m ≡ false = ap keep (same_meta_is m t.meta e) ∙ off in rw gone refl
      spared m false e = refl

  -- NONE IS HIT any more

  module _ (all_kept : AllByRecursion (λ b. keep b.kept.meta ≡ true) now) where
    pub sifted_list : now ≡ filter (λ b. keep b.kept.meta) old
    sifted_list = sym (all_stay keep now all_kept) ∙ s.left

    pub sifted_uses : (m : MetaKey) → use_of counts' m ≡ cond (keep m) (use_of counts m) None
    sifted_uses m = chosen (keep m) refl (s.uses m)
      where
        chosen : (v : Bool) → keep m ≡ v → cond v (use_of counts' m) None ≡ cond v (use_of counts m) None → use_of counts' m ≡ cond v (use_of counts m) None
        chosen true e same = same
        chosen false e same = none_used (use_of counts' m) (find (is_of m) (listed now)) (s.shelved.keys m) (not_found (find (is_of m) (listed now)) refl)
          where
            not_found : (o : Option Kept) → find (is_of m) (listed now) ≡ o → find (is_of m) (listed now) ≡ None
            not_found None at = at
            not_found (Some t) at =
                let f = found (is_of m) (λ x. keep x.meta ≡ true) (listed now) t (all_map (λ (b : KeptBlob). b.kept) (λ x. keep x.meta ≡ true) now all_kept) at in
                let g : true ≡ false = sym f.1 ∙ ap keep (same_meta_is t.meta m f.0) ∙ e in
                absurd (cc)

-- nothing went yet
pub sifting_start : (keep : MetaKey → Bool) (c : Catalogue) (blobs : List KeptBlob) (counts : Counts) (space : Space) (ledger : Accounts) → IsShelved c blobs space ledger counts → IsSifting keep c blobs blobs counts counts space ledger
sifting_start keep c blobs counts space ledger n = record { shelved = n; left = refl; policy = refl; layers = refl; clock = refl; uses = λ m. refl }

-- what is not hit is kept on
pub none_goes : (c : Catalogue) (cover : Cover) (blobs : List KeptBlob) → AllByRecursion (λ b. hits_of c cover b.kept.meta ≡ false) blobs → AllByRecursion (λ b. not (hits_of c cover b.kept.meta) ≡ true) blobs
none_goes c cover [] a = tt
none_goes c cover (b ∷ bs) a = (ap not a.0, none_goes c cover bs a.1)

-- What a replay has dropped so far of what a cut hits.
use Rattle.std.proofs.Common.{ℕ, ◌≡◌, ◌≤◌, ◌==◌, Bool, true, false, cond, not, List, length, filter, find, Option, Some, None, refl, sym, ap, subst, ◌∙◌, arith}
use Rattle.std.specs.List.{AllByRecursion}
use Rattle.extent_map.specs.Spaces.{IsSound, IsTaken, Space}
use Rattle.metatile_locks.proofs.Lists.{few}
use Rattle.metatile_plan.specs.declared.metatile.MetaKey.{MetaKey}
use Rattle.cabinet.specs.declared.kept.Kept.{Kept}
use Rattle.cabinet.specs.declared.kept.KeptBlob.{KeptBlob}
use Rattle.cabinet.specs.Gaps.{region}
use Rattle.cabinet.specs.History.{is_of}
use Rattle.cabinet_records.specs.Placed.{AreTied}
use Rattle.cabinet.specs.Shelved.{listed}
use Rattle.cabinet.proofs.Lists.{map_filter}
use Rattle.cabinet.proofs.Orders.{others}
use Rattle.cabinet.proofs.Sifts.{all_stay, left_out}
use Rattle.cabinet_records.proofs.Tied.{dropped_tied}

-- those of the list that are kept on are those of the old one, what is kept is tied as before, and is no more
pub record IsSparing (keep : MetaKey → Bool) (old now : List KeptBlob) (space space' : Space) (places places' : ℕ → Option ℕ) : Type 0 where
  pub tied : (next : ℕ) → AreTied next (listed old) space places → AreTied next (listed now) space' places'
  pub size : space'.size ≡ space.size
  pub left : filter (λ b. keep b.kept.meta) now ≡ filter (λ b. keep b.kept.meta) old
  pub less : length now ≤ length old

-- nothing went yet
pub sparing_start : (keep : MetaKey → Bool) (blobs : List KeptBlob) (space : Space) (places : ℕ → Option ℕ) → IsSparing keep blobs blobs space space places places
sparing_start keep blobs space places = record { tied = λ next a. a; size = refl; left = refl; less = omega arith }

module _ (keep : MetaKey → Bool) (old now : List KeptBlob) (space space' : Space) (places places' : ℕ → Option ℕ) (s : IsSparing keep old now space space' places places') where
  -- one that is hit goes
  pub one_goes : (t : Kept) (given : Space) (after : ℕ → Option ℕ) (then : List KeptBlob) → keep t.meta ≡ false → find (is_of t.meta) (listed now) ≡ Some t → IsSound given → IsTaken given (region t) space'
      → ((n : ℕ) → after n ≡ cond (t.number == n) None (places' n)) → then ≡ others t.meta now → IsSparing keep old then space given places after
  one_goes t given after then off is sound taken gone those = record {
    tied = λ next a. subst (λ (ts : List Kept). AreTied next ts given after) (sym (ap listed those ∙ map_filter (λ (b : KeptBlob). b.kept) (λ x. not (is_of t.meta x)) now))
        (dropped_tied next (listed now) space' given places' after t.meta t (s.tied next a) is sound taken gone);
    size = sym taken.same_size ∙ s.size;
    left = ap (filter (λ b. keep b.kept.meta)) those ∙ left_out keep t.meta off now ∙ s.left;
    less = omega (arith, s.less, ap length those, few (λ (b : KeptBlob). not (is_of t.meta b.kept)) now);
  }

  -- NONE IS HIT any more

  module _ (all_kept : AllByRecursion (λ b. keep b.kept.meta ≡ true) now) where
    spared_blobs : now ≡ filter (λ b. keep b.kept.meta) old
    spared_blobs = sym (all_stay keep now all_kept) ∙ s.left

    pub spared_list : listed now ≡ filter (λ t. keep t.meta) (listed old)
    spared_list = ap listed spared_blobs ∙ map_filter (λ (b : KeptBlob). b.kept) (λ t. keep t.meta) old

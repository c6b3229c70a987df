-- One key more among all, of a metatile that wasn't there.
use Rattle.std.proofs.Common.{ℕ, ◌≡◌, ◌≢◌, ◌+◌, ◌-◌, ◌*◌, ◌/◌, ◌<◌, ◌≤◌, cond, true, List, [], length, get_or, set, take, Some, None, sym, ap, subst, ◌∙◌, arith}
use Rattle.std.specs.List.{AllByRecursion, remove}
use Rattle.metatile_plan.specs.declared.metatile.MetaKey.{MetaKey}
use Rattle.metatile_plan.specs.Keys.{same_meta}
use Rattle.metatile_plan.proofs.Same.{same_meta_is}
use Rattle.kept_areas.specs.declared.spot.KeptSpot.{KeptSpot}
use Rattle.kept_areas.specs.Areas.{AreOnce, all_spots, number_in, without}
use Rattle.kept_areas.specs.Kept.{IsEntered, IsKept, IsUsed, chunk_at}
use Rattle.kept_areas.proofs.InChunks.{entered_length, left_in, none_left, removed}
use Rattle.kept_areas.proofs.Leaving.{once_others, others, spots_without}
use Rattle.kept_areas.proofs.Numbers.{none_of, number_put, once_put}
use Rattle.kept_areas.proofs.Parted.{without_is}
use Rattle.kept_areas.proofs.Used.{own_first, place_first, used_set}

once_entered : (m : MetaKey) (n : ℕ) (old new : List KeptSpot) → IsEntered (record { meta = m; number = n }) old new → number_in old m ≡ None → AreOnce old → AreOnce new
once_entered m n old new e none o =
    subst AreOnce (sym e.new_is) (once_put m n e.before e.behind (subst AreOnce e.old_is o) (subst (AllByRecursion (λ t. m ≢ t.meta)) e.old_is (none_of m old none)))

pub number_entered : (m : MetaKey) (n : ℕ) (old new : List KeptSpot) → IsEntered (record { meta = m; number = n }) old new → number_in old m ≡ None → (k : MetaKey) → number_in new k ≡ cond (same_meta k m) (Some n) (number_in old k)
number_entered m n old new e none k =
    let before = none_left m e.before e.behind (subst (λ (zs : List KeptSpot). number_in zs m ≡ None) e.old_is none) in
    ap (λ (zs : List KeptSpot). number_in zs k) e.new_is ∙ number_put m n e.before e.behind before k ∙ ap (λ (zs : List KeptSpot). cond (same_meta k m) (Some n) (number_in zs k)) (sym e.old_is)

-- the chunks made ready, and then a key entered
pub kept_entered : (m : MetaKey) (n : ℕ) (old ready new : List (List KeptSpot)) (taken room was used : ℕ) → all_spots ready ≡ all_spots old → length ready ≡ length old → IsEntered (record { meta = m; number = n }) (all_spots ready) (all_spots new) → length new ≡ length ready
    → number_in (all_spots old) m ≡ None → taken < room → IsKept old taken room was → IsUsed new used → IsKept new (taken + 1) room used
kept_entered m n old ready new taken room was used same same_len e len none spare k first =
    let long = entered_length (record { meta = m; number = n }) (all_spots ready) (all_spots new) e in
    let as_before = ap (λ (zs : List KeptSpot). length zs) same in
    let counted = k.counted in
    record {
      once = once_entered m n (all_spots ready) (all_spots new) e (ap (λ (zs : List KeptSpot). number_in zs m) same ∙ none) (subst AreOnce (sym same) k.once);
      counted = omega arith;
      within = omega arith;
      enough = subst (λ n. room ≤ n / 2 * 512) (sym (len ∙ same_len)) k.enough;
      first = first;
    }

-- a key that stands in a chunk taken out
pub record IsLeft (m : MetaKey) (sss : List (List KeptSpot)) (chunk i : ℕ) (ds : List KeptSpot) (d : KeptSpot) : Type 0 where
  pub known : chunk < length sss
  pub within : i < length (get_or sss chunk ds)
  pub at : (get_or (get_or sss chunk ds) i d).meta ≡ m

-- as it was found among the first chunks
pub is_left : (m : MetaKey) (sss first : List (List KeptSpot)) (used chunk i : ℕ) (d : KeptSpot) → first ≡ take used sss → chunk < length first → i < length (chunk_at first chunk) → ((e : KeptSpot) → same_meta (get_or (chunk_at first chunk) i e).meta m ≡ true)
    → IsLeft m sss chunk i [] d
is_left m sss first used chunk i d is known within at =
    let own = own_first sss first used chunk is known in
    record {
      known = (place_first sss first used chunk is known).1;
      within = subst (λ (ss : List KeptSpot). i < length ss) own within;
      at = subst (λ (ss : List KeptSpot). (get_or ss i d).meta ≡ m) own (same_meta_is (get_or (chunk_at first chunk) i d).meta m (at d));
    }

pub left_without : (m : MetaKey) (sss : List (List KeptSpot)) (chunk i : ℕ) (ds : List KeptSpot) (d : KeptSpot) → IsLeft m sss chunk i ds d → AreOnce (all_spots sss) → set sss chunk (remove (get_or sss chunk ds) i) ≡ without m sss
left_without m sss chunk i ds d is once = without_is m sss chunk i ds d once is.known is.within is.at

pub left_length : (m : MetaKey) (sss : List (List KeptSpot)) (chunk i : ℕ) (ds : List KeptSpot) (d : KeptSpot) → IsLeft m sss chunk i ds d → length (all_spots sss) ≡ length (all_spots (set sss chunk (remove (get_or sss chunk ds) i))) + 1
left_length m sss chunk i ds d is =
    let s = get_or (get_or sss chunk ds) i d in
    entered_length s (all_spots (set sss chunk (remove (get_or sss chunk ds) i))) (all_spots sss) (left_in s sss chunk ds (remove (get_or sss chunk ds) i) is.known (removed (get_or sss chunk ds) i d is.within))

pub kept_left : (m : MetaKey) (sss new : List (List KeptSpot)) (chunk i taken room used : ℕ) (ds : List KeptSpot) (d : KeptSpot) → IsLeft m sss chunk i ds d → new ≡ set sss chunk (remove (get_or sss chunk ds) i) → length new ≡ length sss
    → IsKept sss taken room used → chunk < used → IsKept new (taken - 1) room used
kept_left m sss new chunk i taken room used ds d is new_is len k among =
    let fewer = left_length m sss chunk i ds d is in
    let long = ap (λ (qss : List (List KeptSpot)). length (all_spots qss)) new_is in
    let counted = k.counted in let within = k.within in
    let whole : all_spots new ≡ others m (all_spots sss) = ap all_spots (new_is ∙ left_without m sss chunk i ds d is k.once) ∙ spots_without m sss in
    record {
      once = subst AreOnce (sym whole) (once_others m (all_spots sss) k.once);
      counted = omega arith;
      within = omega arith;
      enough = subst (λ n. room ≤ n / 2 * 512) (sym len) k.enough;
      first = subst (λ (qss : List (List KeptSpot)). IsUsed qss used) (sym new_is) (used_set sss used chunk (remove (get_or sss chunk ds) i) among k.first);
    }

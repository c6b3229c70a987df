-- The orders of uses are total, so of two uses at most one goes before the other.
use Rattle.std.proofs.Common.{◌≡◌, true, false, List, Ordering, ap, ◌∙◌}
use Rattle.std.specs.Cmp.{IsTotalOrder}
use Rattle.std.specs.Cmp.Lexicographic.{on_texts, slice_cmp}
use Rattle.std.specs.Ordering.{is_lt, nat_cmp, on, ordering_reverse}
use Rattle.std.proofs.lemmas.Cmp.{tied_itself}
use Rattle.metatile_plan.specs.declared.metatile.MetaKey.{MetaKey}
use Rattle.expiry_policy.specs.declared.held.UseTally.{UseTally}
use Rattle.expiry_policy.specs.declared.order.Order.{Order}
use Rattle.expiry_policy.specs.declared.uses.Use.{Use}
use Rattle.expiry_policy.specs.Entries.{goes, use_at}
use Rattle.expiry_policy.specs.Orders.{precedes, ranked}
use Rattle.expiry_policy.proofs.First.{is_less, stays_through}
use Rattle.expiry_policy.proofs.Winners.{IsRanking}

abbrev cmp_ranked : Order → Use → Use → Ordering
cmp_ranked o = on (ranked o.ranking o.policy) (slice_cmp nat_cmp)

ranked_total : (o : Order) → IsTotalOrder (cmp_ranked o)
ranked_total o = on_texts (ranked o.ranking o.policy)

-- no use goes before itself
pub precedes_alone : (o : Order) (u : Use) → precedes o u u ≡ false
unfolding precedes
precedes_alone o u = ap is_lt (tied_itself (ranked_total o) u)

-- one that goes before another does not go after it
pub precedes_one_way : (o : Order) (u v : Use) → precedes o u v ≡ true → precedes o v u ≡ false
unfolding precedes
precedes_one_way o u v h = ap is_lt ((ranked_total o).antisymm v u ∙ ap ordering_reverse (is_less (cmp_ranked o u v) h))

-- one that does not go before a second, before which a third does not go: the third does not go before it
pub precedes_through : (o : Order) (u v w : Use) → precedes o v u ≡ false → precedes o w v ≡ false → precedes o w u ≡ false
unfolding precedes
precedes_through o u v w h k = stays_through (cmp_ranked o) (ranked_total o) u v w h k

pub goes_ranks : (o : Order) (es : List (MetaKey × UseTally)) → IsRanking (goes o es)
goes_ranks o es = record {
  alone = λ a. precedes_alone o (use_at es a);
  one_way = λ a b h. precedes_one_way o (use_at es a) (use_at es b) h;
  through = λ a b c h k. precedes_through o (use_at es a) (use_at es b) (use_at es c) h k;
}

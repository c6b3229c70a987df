use Rattle.std.proofs.Common.{rules, arith, of_calls, ◌≡◌, ◌<◌, ◌≤◌, ltb, true, false}
use Rattle.std.proofs.lemmas.Bool.Decides.{nat_tests}
use Rattle.std.proofs.lemmas.Fn.{always_returns_same}
use Rattle.std.proofs.lemmas.List.Sorted.{IsPartitionedBy-ltb}
use Rattle.std.specs.List.Sorted.{IsPartitionPoint}
use Rattle.extent_map.specs.declared.part.Extent.{Extent}
use Rattle.extent_map.proofs.Order.{never_falls}
use Rattle.extent_map.proofs.Claims.{within_take, within_drop}
use Rattle.extent_map.proofs.holes.starts_before.Goals as goal

point : (c : goal.After-partition_point) → IsPartitionPoint (λ (q : Extent). ltb q.place c.args.place ≡ true) (λ (q : Extent). ltb q.place c.args.place ≡ false) c.args.parts.now c.partition_point.result
point c =
    c.partition_point.ensures.partitioned (λ q. ltb q.place c.args.place) (always_returns_same _ _ _ (λ a r f k. search (rules, of_calls))) (IsPartitionedBy-ltb (λ q. q.place) c.args.parts.now c.args.place (never_falls c.args.parts.now c.requires.rising))

pub returns-clause-before : goal.returns-clause-before
returns-clause-before c =
    within_take (λ q. q.place < c.args.place) c.args.parts.now c.partition_point.result (λ k d l m. let yes = (point c).0 k d l m in grind (arith, nat_tests))

pub returns-clause-behind : goal.returns-clause-behind
returns-clause-behind c =
    within_drop (λ q. c.args.place ≤ q.place) c.args.parts.now c.partition_point.result (λ k d l m. let fails = (point c).1 k d l m in grind (arith, nat_tests))

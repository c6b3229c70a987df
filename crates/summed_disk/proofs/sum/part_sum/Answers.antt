use Rattle.std.proofs.Common.{ℕ, ◌≡◌, ◌+◌, ◌*◌, ◌/◌, ◌∙◌, List, ap, length, arith}
use Rattle.summed_disk.specs.Sum.{lane, multiplier, step}
use Rattle.summed_disk.proofs.Words.{lane_next}
use Rattle.summed_disk.proofs.sum.part_sum.Goals as goal

pub loop-n-preserved : goal.loop-n-preserved
loop-n-preserved c =
    let bytes : List ℕ = c.args.bytes.now in
    let n : ℕ = c.loop-n.n in
    let l = c.loop-n.lanes in
    let inv = c.loop-n.invariant in
    record {
      a = c.stepped-lanes.ensures.a ∙ lane_next bytes 0 (step multiplier c.args.part.number) n (32 * n) l.a inv.a (omega arith);
      b = c.stepped-lanes.ensures.b ∙ lane_next bytes 1 (step multiplier c.args.part.from) n (32 * n + 8) l.b inv.b (omega arith);
      c = c.stepped-lanes.ensures.c ∙ lane_next bytes 2 (step multiplier (length bytes)) n (32 * n + 16) l.c inv.c (omega arith);
      d = c.stepped-lanes.ensures.d ∙ lane_next bytes 3 (step multiplier 0) n (32 * n + 24) l.d inv.d (omega arith);
    }

pub returns : goal.returns
returns c =
    let bytes : List ℕ = c.args.bytes.now in
    let groups : ℕ = length bytes / 32 in
    let l = c.loop-n.lanes in
    let inv = c.loop-n.invariant in
    let all : c.loop-n.n ≡ groups = let end = c.loop-n.auto.n-end in let not = c.loop-n-test.false in omega arith in
    let a = c.stepped_last-lanes.ensures.a ∙ lane_next bytes 0 (step multiplier c.args.part.number) groups (32 * groups) l.a (inv.a ∙ ap (lane bytes 0 (step multiplier c.args.part.number)) all) (omega arith) in
    let b = c.stepped_last-lanes.ensures.b ∙ lane_next bytes 1 (step multiplier c.args.part.from) groups (32 * groups + 8) l.b (inv.b ∙ ap (lane bytes 1 (step multiplier c.args.part.from)) all) (omega arith) in
    let third = c.stepped_last-lanes.ensures.c ∙ lane_next bytes 2 (step multiplier (length bytes)) groups (32 * groups + 16) l.c (inv.c ∙ ap (lane bytes 2 (step multiplier (length bytes))) all) (omega arith) in
    let fourth = c.stepped_last-lanes.ensures.d ∙ lane_next bytes 3 (step multiplier 0) groups (32 * groups + 24) l.d (inv.d ∙ ap (lane bytes 3 (step multiplier 0)) all) (omega arith) in
    let five = c.step-5.ensures ∙ (λ t. step (a t) (b t)) in
    let six = c.step-6.ensures ∙ (λ t. step (five t) (third t)) in
    c.step-7.ensures ∙ (λ t. step (six t) (fourth t))

-- How calls follow one another in time.
use Rattle.std.proofs.Common.{arith, inl, inr, ⊎_elim}
use Rattle.disk_model.specs.Content.{Content}
use Rattle.disk_model.specs.Images.{DiskState, Every, After, Elapses, Steps, Leaves, ChangesBy}

-- no call
pub leaves_none : (disk : DiskState) (P : Content → Type 0) → Leaves disk disk P
leaves_none disk P = record { later = omega arith; each = λ t c le left. inl left }

-- one call
pub leaves_at : (old new : DiskState) (P : Content → Type 0) → Elapses old new → Every new.may_leave P → Leaves old new P
leaves_at old new P time each = record {
  later = time.later;
  each = λ t c le left. ⊎_elim (λ was. inl was) (λ now. inr (each c now)) (time.nothing_else t c le left);
}

-- said less exactly
pub leaves_as : (old new : DiskState) (P Q : Content → Type 0) → Leaves old new P → Every P Q → Leaves old new Q
leaves_as old new P Q leaves weaker = record {
  later = leaves.later;
  each = λ t c le left. ⊎_elim (λ was. inl was) (λ now. inr (weaker c now)) (leaves.each t c le left);
}

-- one after the other
pub leaves_then : (old mid new : DiskState) (P : Content → Type 0) → Leaves old mid P → Leaves mid new P → Leaves old new P
leaves_then old mid new P first next = record {
  later = let a = first.later in let b = next.later in omega arith;
  each = λ t c le left. ⊎_elim (λ was. first.each t c le was) (λ now. inr now) (next.each t c (let a = first.later in omega arith) left);
}

-- one call as some calls
pub changes_at : (step : Content → Content → Type 0) (old new : DiskState) → Steps step old new → ChangesBy step old new
changes_at step old new one = record {
  reads = one.reads;
  crash = one.crash;
  any_moment = leaves_at old new (After step old.may_leave) one.time one.crash;
}

-- one step after another is a step of the third kind
abbrev pub Chains : (first next whole : Content → Content → Type 0) → Type 0
Chains first next whole = (c d e : Content) → first c d → next d e → whole c e

-- a step is one of another kind
abbrev pub Includes : (step wider : Content → Content → Type 0) → Type 0
Includes step wider = (c d : Content) → step c d → wider c d

-- some calls after some calls
pub changes_then : (first next whole : Content → Content → Type 0) (old mid new : DiskState) → Includes first whole → Chains first next whole
    → ChangesBy first old mid → ChangesBy next mid new → ChangesBy whole old new
changes_then first next whole old mid new includes chains one two = record {
  reads = chains old.seen mid.seen new.seen one.reads two.reads;
  crash = λ c now. joined c (two.crash c now);
  any_moment = leaves_then old mid new (After whole old.may_leave)
      (leaves_as old mid (After first old.may_leave) (After whole old.may_leave) one.any_moment (λ c after. (after.0, after.1, includes after.0 c after.2)))
      (leaves_as mid new (After next mid.may_leave) (After whole old.may_leave) two.any_moment joined);
}
  where
    joined : (c : Content) → After next mid.may_leave c → After whole old.may_leave c
    joined c (d, was, step) = let before = one.crash d was in (before.0, before.1, chains before.0 d c before.2 step)

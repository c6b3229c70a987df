-- what a ticket is seen as
use Rattle.std.specs.Prelude.{ℕ}
use Rattle.metatile_plan.specs.declared.metatile.MetaKey.{MetaKey}

-- the number of a render, and its metatile
pub record Ticketed : Type 0 where
  pub number : ℕ
  pub meta : MetaKey

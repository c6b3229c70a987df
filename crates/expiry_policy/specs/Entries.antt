-- The uses as a map's entries have them.
use Rattle.std.specs.Prelude.{ℕ, Bool, List, [], ◌∷◌, map, slice_index_or}
use Rattle.metatile_plan.specs.declared.metatile.MetaKey.{MetaKey}
use Rattle.expiry_policy.specs.declared.held.UseTally.{UseTally}
use Rattle.expiry_policy.specs.declared.order.Order.{Order}
use Rattle.expiry_policy.specs.declared.uses.Use.{Use}
use Rattle.expiry_policy.specs.Orders.{precedes}

-- the use that an entry stands for
abbrev pub as_use : MetaKey × UseTally → Use
as_use e = record { meta = e.0; uses = e.1.uses; saved = e.1.saved; last = e.1.last }

abbrev pub uses_of : List (MetaKey × UseTally) → List Use
uses_of es = map as_use es

-- an entry of zeros
abbrev pub nothing : MetaKey × UseTally
nothing = (record { theme = record { layer = 0; style = 0; dims = 0 ∷ 0 ∷ 0 ∷ 0 ∷ [] }; grid = 0; z = 0; row = 0; col = 0 }, record { uses = 0; saved = 0; last = 0 })

-- the use of the entry at an index
unfoldable pub use_at : List (MetaKey × UseTally) → ℕ → Use
use_at es i = as_use (slice_index_or es i nothing)

-- the entry at the first index goes before the one at the second
abbrev pub goes : Order → List (MetaKey × UseTally) → ℕ → ℕ → Bool
goes o es i j = precedes o (use_at es i) (use_at es j)

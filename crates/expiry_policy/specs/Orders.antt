-- The orders in which uses are ranked, and which use goes first.
use Rattle.std.specs.Prelude.{ℕ, ◌≡◌, ◌==◌, Bool, true, false, if◌then◌else◌, List, ◌∷◌, Option, Some, None}
use Rattle.std.specs.Ordering.{is_lt, nat_cmp}
use Rattle.std.specs.Cmp.Lexicographic.{slice_cmp}
use Rattle.catalog.specs.declared.catalogue.Policy.{Policy}
use Rattle.metatile_plan.specs.declared.metatile.MetaKey.{MetaKey}
use Rattle.expiry_policy.specs.declared.order.Order.{Order}
use Rattle.expiry_policy.specs.declared.order.Ranking.{Ranking}
use Rattle.expiry_policy.specs.declared.order.Ranking.TheVariants.{Expiry, Unsaved}
use Rattle.expiry_policy.specs.declared.uses.Use.{Use}
use Rattle.expiry_policy.specs.Victims.{fields, rank}

-- what a ranking goes by: what the policy does, or whether all uses are saved, and the key
abbrev pub ranked : Ranking → Policy → Use → List ℕ
ranked Expiry p u = rank p u
ranked Unsaved p u = (if u.uses == u.saved then 1 else 0) ∷ fields u.meta

-- the first of the two goes before the second
unfoldable pub precedes : Order → Use → Use → Bool
precedes o u v = is_lt (slice_cmp nat_cmp (ranked o.ranking o.policy u) (ranked o.ranking o.policy v))

-- the use is one of a held metatile that passes the test, and none such goes before it
pub record Leads (o : Order) (test : MetaKey → Bool) (uses : MetaKey → Option Use) (u : Use) : Type 0 where
  pub held : uses u.meta ≡ Some u
  pub tested : test u.meta ≡ true
  pub before : (n : MetaKey) (v : Use) → test n ≡ true → uses n ≡ Some v → precedes o v u ≡ false

-- the use that leads; none exactly where nothing that passes the test is held
abbrev pub IsFirst : Order → (MetaKey → Bool) → (MetaKey → Option Use) → Option Use → Type 0
IsFirst o test uses None = (n : MetaKey) → test n ≡ true → uses n ≡ None
IsFirst o test uses (Some u) = Leads o test uses u

-- the latter where it goes before the former
abbrev pub sooner : Order → Option Use → Option Use → Option Use
sooner o None b = b
sooner o (Some u) None = Some u
sooner o (Some u) (Some v) = if precedes o v u then Some v else Some u

-- the key of a use that is not saved
abbrev pub unsaved_key : Option Use → Option MetaKey
unsaved_key None = None
unsaved_key (Some u) = if u.uses == u.saved then None else Some u.meta

-- What contracts see of a list of links, and what an accept of it does.
use Rattle.std.specs.Prelude.{◌≡◌, ℕ, Bool, List, [], ◌∷◌, ◌++◌, Result, Ok, Err}
use Rattle.base.specs.Causes.{risen}
use Rattle.http_wire.specs.declared.memory_link.MemoryLink.{MemoryLink}
use Rattle.http_wire.specs.declared.streams.Failed.{Failed}

-- the links that are left, those that were given, how often none was left, and whether no further one is wanted
pub record Offer : Type 0 where
  pub links : List MemoryLink
  pub given : List MemoryLink
  pub faults : ℕ
  pub closed : Bool

-- the first link is given and joins those that were, and it fails where none is left
abbrev pub Offers : Offer → Offer → Result MemoryLink Failed → Type 0
Offers before after (Ok link) = (before.links ≡ link ∷ after.links) × (after.given ≡ before.given ++ link ∷ []) × (after.faults ≡ before.faults) × (after.closed ≡ before.closed)
Offers before after (Err _) = (before.links ≡ []) × (after ≡ record before { faults = risen before.faults 1 })

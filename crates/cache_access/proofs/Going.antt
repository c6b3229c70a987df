-- Calls through an access, one after the other.
use Rattle.std.proofs.Common.{refl, ◌∙◌}
use Rattle.catalog.specs.declared.catalogue.Catalogue.{Catalogue}
use Rattle.cache_access.specs.Turned.{Goes}

module _ {C : Type 0} (catalogue : C → Catalogue) (Reached Owing : C → Type 0) (Lasting : C → C → Type 0) where
  pub goes_here : (x : C) → Reached x → Lasting x x → Goes catalogue Reached Owing Lasting x x
  goes_here x reached lasts = record { reaches = reached; same = refl; owes = λ o. o; lasts = lasts }

  pub goes_on : (x y z : C) → (Lasting x y → Lasting y z → Lasting x z) → Goes catalogue Reached Owing Lasting x y → Goes catalogue Reached Owing Lasting y z → Goes catalogue Reached Owing Lasting x z
  goes_on x y z on first then = record { reaches = then.reaches; same = then.same ∙ first.same; owes = λ o. first.owes (then.owes o); lasts = on first.lasts then.lasts }

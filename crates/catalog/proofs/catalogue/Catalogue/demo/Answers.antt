use Rattle.std.proofs.Common.{◌≡◌, Result, Ok, Err, IfOk, sym, subst}
use Rattle.std.specs.declared.alloc.AllocError.{AllocError}
use Rattle.catalog.specs.declared.catalogue.Catalogue.{Catalogue}
use Rattle.catalog.specs.Demo.{demo}
use Rattle.catalog.specs.Valid.{IsValid}
use Rattle.catalog.proofs.DemoValid.{demo_valid}
use Rattle.catalog.proofs.catalogue.Catalogue.demo.Goals as goal

valid_of : (made : Result Catalogue AllocError) → IfOk made (λ c. c ≡ demo) → IfOk made (λ c. IsValid c)
valid_of (Ok c) is = subst (λ (c : Catalogue). IsValid c) (sym is) demo_valid
valid_of (Err e) is = tt

pub returns-clause-valid : goal.returns-clause-valid
returns-clause-valid c = valid_of c.built_in.result c.built_in.ensures

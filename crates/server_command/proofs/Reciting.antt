-- What a fault that was told says of the reading of recipes.
use Rattle.std.proofs.Common.{◌≡◌, List, Err, refl}
use Rattle.layer_recipes.specs.Books.{BookOutcome, Entry, FailsBook}
use Rattle.layer_recipes.specs.declared.book_fault.BookFault.{BookFault}
use Rattle.layer_recipes.specs.declared.book_fault.BookFault.TheVariants as variant

pub told : (fault : BookFault) (reading : BookOutcome (List Entry)) → (fault ≡ variant.OutOfMemory → ⊥) → FailsBook fault reading → reading ≡ Err fault
told variant.NotJson reading other fails = fails
told variant.Limit reading other fails = fails
told (variant.Name at) reading other fails = fails
told (variant.Recipe at f) reading other fails = fails
told variant.OutOfMemory reading other fails = absurd (other refl)

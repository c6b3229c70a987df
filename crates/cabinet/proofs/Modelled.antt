-- What holds of blobs where they are modelled.
use Rattle.std.proofs.Common.{Option, Some, None}
use Rattle.std.specs.Prelude.{IfSome, IsSomeAnd}
use Rattle.std.specs.Option.{option_map}

pub if_some_so : {X : Type 0} {P Q : X → Type 0} → ((x : X) → P x → Q x) → (o : Option X) → IfSome o P → IfSome o Q
if_some_so on None h = tt
if_some_so on (Some x) h = on x h

module _ {X Y : Type 0} (P : X → Type 0) (Q : Y → Type 0) (f : X → Y) (on : (x : X) → P x → Q (f x)) where
  pub if_some_made : (o : Option X) → IfSome o P → IfSome (option_map f o) Q
  if_some_made None h = tt
  if_some_made (Some x) h = on x h

  pub some_and_made : (o : Option X) → IsSomeAnd o P → IsSomeAnd (option_map f o) Q
  some_and_made None h = h
  some_and_made (Some x) h = on x h

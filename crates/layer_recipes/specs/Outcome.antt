-- Reading in order, with the first fault met.
use Rattle.std.specs.Prelude.{◌≡◌, List, [], ◌∷◌, ◌++◌, Result, Ok, Err}
use Rattle.layer_recipes.specs.declared.fault.RecipeFault.{RecipeFault}
use Rattle.layer_recipes.specs.declared.fault.RecipeFault.TheVariants.{NotJson, Missing, Bad, Limit, OutOfMemory}

-- what was read, or the first fault
abbrev pub Outcome : Type 0 → Type 0
Outcome A = Result A RecipeFault

infixl 10 ◌>>=◌
abbrev pub ◌>>=◌ : {A B : Type 0} → Outcome A → (A → Outcome B) → Outcome B
(Ok x) >>= f = f x
(Err fault) >>= f = Err fault

-- the values of a list, each read after those before it
unfoldable pub entries : {D A : Type 0} → (List A → D → Outcome A) → List A → List D → Outcome (List A)
entries form before [] = Ok before
entries form before (d ∷ ds) = do
  x ← form before d
  entries form (before ++ x ∷ []) ds

-- the reading ends in this fault, unless memory ran out
abbrev pub Fails : {A : Type 0} → RecipeFault → Outcome A → Type 0
Fails NotJson outcome = outcome ≡ Err NotJson
Fails (Missing field part) outcome = outcome ≡ Err (Missing field part)
Fails (Bad field part) outcome = outcome ≡ Err (Bad field part)
Fails (Limit field part) outcome = outcome ≡ Err (Limit field part)
Fails OutOfMemory outcome = Unit {0}

-- what a call returned, seen by view, is the outcome of the reading, unless memory ran out
abbrev pub Gives : {X A : Type 0} → (X → A) → Outcome X → Outcome A → Type 0
Gives view (Ok x) outcome = outcome ≡ Ok (view x)
Gives view (Err fault) outcome = Fails fault outcome

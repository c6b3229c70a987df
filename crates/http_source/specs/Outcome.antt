-- Reading in order, with the first fault met.
use Rattle.std.specs.Prelude.{◌≡◌, List, [], ◌∷◌, ◌++◌, Result, Ok, Err, ⊤}
use Rattle.http_source.specs.declared.fault.RendererFault.{RendererFault}
use Rattle.http_source.specs.declared.fault.RendererFault.TheVariants.{NotJson, Missing, Bad, Duplicate, Limit, Template, OutOfMemory}

-- what was read, or the first fault
abbrev pub Outcome : Type 0 → Type 0
Outcome A = Result A RendererFault

infixl 10 ◌>>=◌
abbrev pub ◌>>=◌ : {A B : Type 0} → Outcome A → (A → Outcome B) → Outcome B
(Ok x) >>= f = f x
(Err fault) >>= f = Err fault

-- the values of a list, each read after those before it
unfoldable pub entries : {D A : Type 0} → (List A → D → Outcome A) → List A → List D → Outcome (List A)
entries form before [] = Ok before
entries form before (d ∷ ds) = do
  x ← form before d
  entries form (before ++ x ∷ []) ds

-- the reading ends in this fault, unless memory ran out; no template is read yet
abbrev pub Fails : {A : Type 0} → RendererFault → Outcome A → Type 0
Fails NotJson outcome = outcome ≡ Err NotJson
Fails (Missing field at) outcome = outcome ≡ Err (Missing field at)
Fails (Bad field at) outcome = outcome ≡ Err (Bad field at)
Fails (Duplicate field at) outcome = outcome ≡ Err (Duplicate field at)
Fails (Limit field at) outcome = outcome ≡ Err (Limit field at)
Fails (Template field at how) outcome = ⊥
Fails OutOfMemory outcome = ⊤

-- what a call returned, seen by view, is the outcome of the reading, unless memory ran out
abbrev pub Gives : {X A : Type 0} → (X → A) → Outcome X → Outcome A → Type 0
Gives view (Ok x) outcome = outcome ≡ Ok (view x)
Gives view (Err fault) outcome = Fails fault outcome

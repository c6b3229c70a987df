-- Reading in order, with the first fault met.
use Rattle.std.specs.Prelude.{ℕ, ◌≡◌, List, [], ◌∷◌, ◌++◌, Result, Ok, Err, Option, Some, None}
use Rattle.serde_json.specs.Data.{Data}
use Rattle.json_forms.specs.Forms as forms
use Rattle.catalog.specs.declared.fault.CatalogueFault.{CatalogueFault}
use Rattle.catalog.specs.declared.fault.CatalogueFault.TheVariants.{OutOfMemory, NotJson, Missing, Bad, Duplicate, Limit}
use Rattle.catalog.specs.FirstFault.{Test}

infixl 10 ◌>>=◌
abbrev pub ◌>>=◌ : {A B : Type 0} → Result A CatalogueFault → (A → Result B CatalogueFault) → Result B CatalogueFault
(Ok x) >>= f = f x
(Err e) >>= f = Err e

-- a value that met a test
abbrev pub tested : {A : Type 0} → Test → A → Result A CatalogueFault
tested (Ok u) x = Ok x
tested (Err fault) x = Err fault

-- the values of a list, each read after those before it
unfoldable pub entries : {D A : Type 0} → (List A → D → Result A CatalogueFault) → List A → List D → Result (List A) CatalogueFault
entries form before [] = Ok before
entries form before (d ∷ ds) = do
  x ← form before d
  entries form (before ++ x ∷ []) ds

-- the reading ends in this fault, unless memory ran out
abbrev pub Fails : {A : Type 0} → CatalogueFault → Result A CatalogueFault → Type 0
Fails OutOfMemory reading = Unit {0}
Fails NotJson reading = reading ≡ Err NotJson
Fails (Missing f at) reading = reading ≡ Err (Missing f at)
Fails (Bad f at) reading = reading ≡ Err (Bad f at)
Fails (Duplicate f at) reading = reading ≡ Err (Duplicate f at)
Fails (Limit f at) reading = reading ≡ Err (Limit f at)

-- what a call returned, seen by view, is what the reading gives, unless memory ran out
abbrev pub Gives : {X A : Type 0} → (X → A) → Result X CatalogueFault → Result A CatalogueFault → Type 0
Gives view (Ok x) reading = reading ≡ Ok (view x)
Gives view (Err e) reading = Fails e reading

-- the value of a text that is one JSON object
abbrev pub object_or : Option Data → Result Data CatalogueFault
object_or None = Err NotJson
object_or (Some d) = Ok d

unfoldable pub object_of : List ℕ → Result Data CatalogueFault
object_of text = object_or (forms.object_of text)

-- Reading in order, with the first fault met.
use Rattle.std.specs.Prelude.{◌≡◌, Result, Ok, Err}
use Rattle.job_forms.specs.declared.fault.JobFault.{JobFault}
use Rattle.job_forms.specs.declared.fault.JobFault.TheVariants.{NotJson, Missing, Bad, Limit, OutOfMemory}

-- what was read, or the first fault
abbrev pub Outcome : Type 0 → Type 0
Outcome A = Result A JobFault

infixl 10 ◌>>=◌
abbrev pub ◌>>=◌ : {A B : Type 0} → Outcome A → (A → Outcome B) → Outcome B
(Ok x) >>= f = f x
(Err fault) >>= f = Err fault

-- the reading ends in this fault, unless memory ran out
abbrev pub Fails : {A : Type 0} → JobFault → Outcome A → Type 0
Fails NotJson outcome = outcome ≡ Err NotJson
Fails (Missing field) outcome = outcome ≡ Err (Missing field)
Fails (Bad field) outcome = outcome ≡ Err (Bad field)
Fails (Limit field) outcome = outcome ≡ Err (Limit field)
Fails OutOfMemory outcome = Unit {0}

-- what a call returned, seen by view, is the outcome of the reading, unless memory ran out
abbrev pub Gives : {X A : Type 0} → (X → A) → Outcome X → Outcome A → Type 0
Gives view (Ok x) outcome = outcome ≡ Ok (view x)
Gives view (Err fault) outcome = Fails fault outcome

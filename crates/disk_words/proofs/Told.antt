-- What follows from a text, or from want of memory for it, of a cabinet that stays as it is.
use Rattle.std.proofs.Common.{ℕ, ◌≡◌, List, Result, Ok, Err, IfOk, subst}
use Rattle.std.specs.Prelude.{OnErr}
use Rattle.cabinet.specs.State.{State}
use Rattle.catalog.specs.declared.catalogue.Catalogue.{Catalogue}
use Rattle.base.specs.Readings.{Readings}
use Rattle.opened_cache.specs.Change.{DiskChange}
use Rattle.opened_cache.specs.Opened.{HasOpened}

module _ {E : Type 0} {P : List ℕ → Type 0} where
  pub ok_told : {Q : List ℕ → Type 0} (r : Result (List ℕ) E) → ((text : List ℕ) → P text → Q text) → IfOk r P → IfOk r Q
  ok_told (Ok text) f h = f text h
  ok_told (Err fault) f h = tt

  pub by_text : {V X : Type 0} (r : Result (List ℕ) E) → ((text : List ℕ) → P text → X) → (V → X) → IfOk r P → OnErr r V → X
  by_text (Ok text) f v h n = f text h
  by_text (Err fault) f v h n = v n

-- a cabinet that stays as it is was opened and left
pub opened_so : (c : Catalogue) (clock : Readings) (d : DiskChange) (s u : State) → u ≡ s → HasOpened c clock d s u → HasOpened c clock d s s
opened_so c clock d s u same h = subst (λ (v : State). HasOpened c clock d s v) same h

-- The one line in which the turns of all passes stand.
use Rattle.std.specs.Prelude.{◌≡◌, ◌⊎◌, List}
use Rattle.std.specs.List.{Contains}
use Rattle.truncation_list.specs.Books.{AnswersForFronted}
use Rattle.turnstile.specs.declared.view.Made.{Made}
use Rattle.turnstile.specs.Passes.{Holding}

module _ {N : Type 0} where
  -- the second turn found all that the first one left
  abbrev pub IsBefore : Made N → Made N → Type 0
  IsBefore m n = AnswersForFronted n.found m.left

  -- of two turns one came before the other, or they are the same one
  abbrev pub InLine : Made N → Made N → Type 0
  InLine m n = IsBefore m n ⊎ (IsBefore n m ⊎ (m ≡ n))

  -- any two of these turns stand in one line
  abbrev pub IsLine : List (Made N) → Type 0
  IsLine turns = (m n : Made N) → Contains turns m → Contains turns n → InLine m n

  -- the ones are among the others
  abbrev pub AreAmong : List (Made N) → List (Made N) → Type 0
  AreAmong turns others = (m : Made N) → Contains turns m → Contains others m

  -- all turns of all these passes stand in one line
  abbrev pub AreInLine : {H : Type 0} → List (Holding H N) → Type 0
  AreInLine {H} passes = (p q : Holding H N) → Contains passes p → Contains passes q → (m n : Made N) → Contains p.made m → Contains q.made n → InLine m n

-- What the turns of two workers have to do with one another.
use Rattle.std.specs.Prelude.{ℕ, ◌≡◌, ◌<◌, ◌⊎◌, IsTrue, List}
use Rattle.std.specs.List.{Contains}
use Rattle.cabinet.specs.Hits.{covers_in}
use Rattle.cabinet.specs.declared.replies.Asked.{Asked}
use Rattle.cabinet.specs.declared.replies.Asked.TheVariants as asked
use Rattle.cabinet.specs.declared.replies.CutReply.TheVariants.{Done}
use Rattle.cabinet_chest.specs.declared.command.Command.TheVariants as command
use Rattle.cabinet_chest.specs.declared.command.Reply.TheVariants as reply
use Rattle.cabinet_chest.specs.declared.shown.Note.{Note}
use Rattle.cache_access.specs.Turned.{IsOf}
use Rattle.cache_hall.specs.Turned.{HallPass}
use Rattle.catalog.specs.declared.catalogue.Catalogue.{Catalogue}
use Rattle.catalog.specs.LookUp.{IsTile}
use Rattle.matrix_geometry.specs.declared.address.Address.{Address}
use Rattle.truncation_list.specs.declared.book.Cut.{Cut}
use Rattle.turnstile.specs.Line.{IsBefore}
use Rattle.turnstile.specs.declared.view.Made.{Made}

-- the render that an ask is answered with: the kept one, or the one that begins
abbrev pub GivesRender : Asked → ℕ → Type 0
GivesRender (asked.Hit k bytes) number = k ≡ number
GivesRender (asked.Ticket t) number = t.number ≡ number
GivesRender (asked.Busy k) number = ⊥
GivesRender asked.Spent number = ⊥

-- a turn that asked for the tile and was given the render of this number
pub record IsAskFor (a : Address) (number : ℕ) (turn : Made Note) : Type 0 where
  pub answer : Asked
  pub of : IsOf (command.Ask a) (reply.Asked answer) turn
  pub gives : GivesRender answer number

-- a turn that made the truncation
abbrev pub IsCutOf : Cut → Made Note → Type 0
IsCutOf cut turn = IsOf (command.Cut cut.cover) (reply.Cut (Done cut.number)) turn

-- Of any two turns of these passes, where the one asked for a tile and the other made a truncation that covers it: the render that was
-- given is newer than the truncation, or the ask came before it.
abbrev pub AreNewer : Catalogue → List HallPass → Type 0
AreNewer c passes =
    (p q : HallPass) → Contains passes p → Contains passes q → (ask cut : Made Note) → Contains p.made ask → Contains q.made cut
    → (a : Address) (number : ℕ) (t : Cut) → IsTile c a → IsAskFor a number ask → IsCutOf t cut → IsTrue (covers_in c t.cover a) → (t.number < number) ⊎ IsBefore ask cut

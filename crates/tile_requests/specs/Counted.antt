-- The counts that turns told for a text of what is kept, one for each line.
use Rattle.std.specs.Prelude.{ℕ, ◌+◌, ◌≡◌, List, [], ◌∷◌, ◌++◌, length}
use Rattle.std.specs.List.{AllByRecursion}
use Rattle.cabinet_chest.specs.declared.command.Command.TheVariants as command
use Rattle.cabinet_chest.specs.declared.command.Counts.{Counts}
use Rattle.cabinet_chest.specs.declared.command.Reply.TheVariants as reply
use Rattle.cabinet_chest.specs.declared.shown.Note.{Note}
use Rattle.catalog.specs.declared.catalogue.Catalogue.{Catalogue}
use Rattle.turnstile.specs.declared.view.Made.{Made}
use Rattle.cache_access.specs.Turned.{IsOf}
use Rattle.tile_requests.specs.Texts.{counted_text}

-- a count of the layer with this number, or of all layers where the number is how many there are
abbrev pub IsCount : ℕ → Counts → Made Note → Type 0
IsCount layer n m = IsOf (command.Usage layer) (reply.Usage n) m

-- counts of the layers from this number on, one turn each
abbrev pub AreCounts : ℕ → List Counts → List (Made Note) → Type 0
AreCounts layer [] [] = Unit {0}
AreCounts layer [] (m ∷ ms) = ⊥
AreCounts layer (n ∷ ns) [] = ⊥
AreCounts layer (n ∷ ns) (m ∷ ms) = IsCount layer n m × AreCounts (layer + 1) ns ms

-- the turns of a text of what is kept: one for each line
pub record IsCounted (c : Catalogue) (gained : List (Made Note)) (text : List ℕ) : Type 0 where
  pub counts : List Counts
  pub turns : List (Made Note)
  pub layers : AreCounts 0 counts turns
  pub each : length counts ≡ length c.layers
  pub all : Counts
  pub all_turn : Made Note
  pub of_all : IsCount (length c.layers) all all_turn
  pub cuts : Counts
  pub cuts_turn : Made Note
  pub of_cuts : IsCount (length c.layers) cuts cuts_turn
  pub made : gained ≡ turns ++ all_turn ∷ cuts_turn ∷ []
  pub is_text : text ≡ counted_text c counts all cuts

-- counts alone, where memory ran out for the text
abbrev pub AreAllCounts : List (Made Note) → Type 0
AreAllCounts gained = AllByRecursion (λ m. (layer : ℕ) × (n : Counts) × IsCount layer n m) gained

-- What the turns of a usage text come to.
-- A tie between the code and its definitions: the promise can be read without it.
use Rattle.std.specs.Prelude.{ℕ, ◌≡◌, List, length, take}
use Rattle.cabinet_chest.specs.declared.command.Counts.{Counts}
use Rattle.cabinet_chest.specs.declared.shown.Note.{Note}
use Rattle.catalog.specs.declared.catalogue.Catalogue.{Catalogue}
use Rattle.turnstile.specs.declared.view.Made.{Made}
use Rattle.tile_requests.specs.Counted.{AreAllCounts, AreCounts, IsCounted}
use Rattle.tile_requests.specs.Texts.{layer_lines}

module _ {C : Type 0} (leads : C → C → List (Made Note) → Type 0) where
  -- so many layers were counted, and these are their lines
  pub record HasCounted (c : Catalogue) (before after : C) (many : ℕ) (text : List ℕ) : Type 0 where
    pub counts : List Counts
    pub turns : List (Made Note)
    pub gains : leads before after turns
    pub layers : AreCounts 0 counts turns
    pub each : length counts ≡ many
    pub lines : text ≡ layer_lines (take many c.layers) counts

  -- counts, and no text of them
  pub record HasCountedVainly (before after : C) : Type 0 where
    pub turns : List (Made Note)
    pub gains : leads before after turns
    pub counts : AreAllCounts turns

  pub record HasToldUsage (c : Catalogue) (before after : C) (text : List ℕ) : Type 0 where
    pub turns : List (Made Note)
    pub gains : leads before after turns
    pub counted : IsCounted c turns text

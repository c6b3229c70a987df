-- Blobs that are cut out of what a source gave still are, where it gave more.
use Rattle.std.proofs.Common.{List, [], ◌∷◌}
use Rattle.cabinet_chest.specs.declared.command.Command.{Command}
use Rattle.cabinet_chest.specs.declared.command.Command.TheVariants as command
use Rattle.cabinet_chest.specs.declared.shown.Note.{Note}
use Rattle.cache_access.specs.Sourced.{AreFromSource, IsFromSource}
use Rattle.cache_core.proofs.Cutting.{cut_later}
use Rattle.catalog.specs.declared.catalogue.Catalogue.{Catalogue}
use Rattle.source_render.specs.Renders.{GivenImage, StaysGiven}
use Rattle.turnstile.specs.declared.view.Made.{Made}

module _ (c : Catalogue) (before after : List GivenImage) (stays : StaysGiven before after) where
  one_later : (d : Command) → IsFromSource c before d → IsFromSource c after d
  one_later (command.Ask a) h = tt
  one_later (command.Force m) h = tt
  one_later (command.Finish t blob) h = cut_later c before after t blob stays h
  one_later (command.Abandon t) h = tt
  one_later (command.Cut cover) h = tt
  one_later command.Expire h = tt
  one_later command.SaveUses h = tt
  one_later (command.Usage layer) h = tt

  -- the turns of what was done before
  pub sourced_later : (ms : List (Made Note)) → AreFromSource c before ms → AreFromSource c after ms
  sourced_later [] h = tt
  sourced_later (m ∷ ms) h = (one_later m.note.command h.0, sourced_later ms h.1)

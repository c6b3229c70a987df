-- The catalogue that was read is that of the text which the input had.
use Rattle.std.specs.Prelude.{ℕ, ◌≡◌, ◌++◌, List, Option, Some, None, Ok}
use Rattle.std.specs.Io.KnownBytes.{Consumes, IsAtEnd}
use Rattle.std.proofs.Common.{ap, sym, subst, ◌∙◌, append-nil}
use Rattle.catalog.specs.declared.catalogue.Catalogue.{Catalogue}
use Rattle.command_setup.specs.Setup.{IsRead}
use Rattle.config_text.specs.Text.{catalogue_of}
use Rattle.command_setup.specs.Held.{MayBe}
use Rattle.sessions.specs.Outside.{InputChange}

of_text : (c : Catalogue) (from to : Option (List ℕ)) (text : List ℕ) → Consumes from to text → IsAtEnd to → catalogue_of text ≡ Ok c → MayBe from c
of_text c None to text read ended comes = tt
of_text c (Some all) None text read ended comes = absurd read
of_text c (Some all) (Some rest) text read ended comes =
    subst (λ t. catalogue_of t ≡ Ok c) (sym (read ∙ ap (λ r. text ++ r) ended ∙ append-nil text)) comes

pub may_be : (i : InputChange) (c : Catalogue) → IsRead i (Ok c) → MayBe i.from c
may_be i c read = of_text c i.from i.to read.text read.read read.at_end read.comes

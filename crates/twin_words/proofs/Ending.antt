-- How the words of a twin never end.
use Rattle.std.proofs.Common.{◌≡◌, inl, inr, subst}
use Rattle.catalog.specs.declared.catalogue.Catalogue.{Catalogue}
use Rattle.base.specs.Readings.{Readings}
use Rattle.command_status.specs.declared.status.Status.TheVariants as status
use Rattle.command_status.specs.declared.status.Status.{Status}
use Rattle.command_status.specs.Statuses.{status_of_opening}
use Rattle.gate_journal.specs.declared.fault.OpenFault.{OpenFault}
use Rattle.gate_journal.specs.declared.fault.OpenFault.TheVariants as fault
use Rattle.twin_words.specs.declared.words.TwinWord.{TwinWord}
use Rattle.twin_words.specs.declared.words.TwinWord.TheVariants as twin
use Rattle.twin_words.specs.Ends.{Stays, TwinChange, WordEnds}

no_refusal : (cause : OpenFault) → status.Usage ≡ status_of_opening cause → ⊥
no_refusal fault.NotACache is = cc
no_refusal (fault.CatalogueDiffers found asked) is = cc
no_refusal (fault.BadRecord slot) is = cc
no_refusal fault.Spent is = cc
no_refusal fault.DiskFault is = cc
no_refusal fault.OutOfMemory is = cc

-- no end of the words is that other words are none
pub never_usage : (h : TwinChange) (stays : Stays) (clock : Readings) (w : TwinWord) (c : Catalogue) (s : Status) → WordEnds h stays clock w c s → s ≡ status.Usage → ⊥
never_usage h stays clock w c s ends is = of_word w (subst (WordEnds h stays clock w c) is ends)
  where
    of_word : (w : TwinWord) → WordEnds h stays clock w c status.Usage → ⊥
    of_word twin.Make ends = ends.0
    of_word twin.Run (inl refused) = no_refusal refused.0 refused.1
    of_word twin.Run (inr run) = run

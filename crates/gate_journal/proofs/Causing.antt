-- Why opening fails.
use Rattle.std.proofs.Common.{◌≡◌, ℕ, ◌≤◌, Result, Err, sym, ◌∙◌, ap, subst, arith}
use Rattle.base.specs.Causes.{Rose}
use Rattle.gate_journal.specs.declared.fault.OpenFault.{OpenFault}
use Rattle.gate_journal.specs.declared.fault.OpenFault.TheVariants.{NotACache, CatalogueDiffers, BadRecord, Spent, DiskFault, OutOfMemory}
use Rattle.gate_journal.specs.Reading.{IsOpenCause, HasOpenCause}
use Rattle.gate_journal.specs.Visiting.{IsVisitFault}

-- the count didn't fall before
pub cause_later : (before mid now : ℕ) (fault : OpenFault) → before ≤ mid → IsOpenCause mid now fault → IsOpenCause before now fault
cause_later before mid now NotACache le cause = cause
cause_later before mid now (CatalogueDiffers found asked) le cause = cause
cause_later before mid now (BadRecord slot) le cause = cause
cause_later before mid now Spent le cause = cause
cause_later before mid now DiskFault le cause = omega arith
cause_later before mid now OutOfMemory le cause = cause

-- a fault of a visit is none of the disk
pub visit_cause : (before now : ℕ) (fault : OpenFault) → IsVisitFault fault → IsOpenCause before now fault
visit_cause before now NotACache is = tt
visit_cause before now (CatalogueDiffers found asked) is = absurd is
visit_cause before now (BadRecord slot) is = absurd is
visit_cause before now Spent is = absurd is
visit_cause before now DiskFault is = absurd is
visit_cause before now OutOfMemory is = tt

-- reading the disk failed
pub disk_cause : {T : Type 0} (before mid now : ℕ) (result : Result T OpenFault) (fault : OpenFault) → result ≡ Err fault → fault ≡ DiskFault → before ≤ mid → mid ≤ now → Rose mid now → HasOpenCause before now result
disk_cause before mid now result fault is this le later rose =
    subst (λ r. HasOpenCause before now r) (sym (is ∙ ap Err this)) (record { later = omega arith; failed = let from : Rose before now = omega arith in from })

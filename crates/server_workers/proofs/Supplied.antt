-- Supplies are of one first pass.
use Rattle.std.proofs.Common.{◌≡◌, ◌∙◌, ◌<◌, ℕ, List, [], length, ap, sym}
use Rattle.std.specs.Prelude.{Option, Some}
use Rattle.atomic_table.specs.Seated.{TableId}
use Rattle.cache_hall.specs.Turned.{HallPass}
use Rattle.job_board.specs.Calls.{BoardHolding}
use Rattle.server_workers.specs.Crew.{AreSupplies}
use Rattle.server_workers.specs.Staged.{IsSupplied}
use Rattle.server_workers.specs.Stints.{Service}

same_first : {L S : Type 0} (s t : Service L S) (tells : S → Option ℕ) (passes : List HallPass) (boards : List BoardHolding) (sources : List S) → 0 < length passes → AreSupplies s tells passes boards sources → AreSupplies t tells passes boards sources → s.first ≡ t.first
same_first s t tells passes boards sources some these those = sym (these.passes_are 0 s.first some) ∙ those.passes_are 0 s.first some

-- a pass of which supplies are is the one of which they were said to be: it has the catalogue's charter, and has made nothing
pub is_that : {L S : Type 0} (table : TableId) (service : HallPass → Service L S) (tells : S → Option ℕ) (passes : List HallPass) (boards : List BoardHolding) (sources : List S) (first : HallPass) → ((p : HallPass) → (service p).first ≡ p) → 0 < length passes
    → (had : IsSupplied table service tells passes boards sources) → AreSupplies (service first) tells passes boards sources → (first.charter ≡ Some (service had.first).catalogue) × (first.made ≡ [])
is_that table service tells passes boards sources first is_of some had supplies =
    let same : first ≡ had.first = sym (is_of first) ∙ same_first (service first) (service had.first) tells passes boards sources some supplies had.supplies ∙ is_of had.first in
    (ap (λ (p : HallPass). p.charter) same ∙ had.charter, ap (λ (p : HallPass). p.made) same ∙ had.unused)

-- The refresh of a metatile is the visit of its place.
use Rattle.std.specs.Prelude.{IfErr, slice_get}
use Rattle.std.proofs.Common.{ℕ, ◌≡◌, ◌≤◌, Bool, List, Some, Result, Ok, Err, refl, subst}
use Rattle.cabinet_chest.specs.declared.shown.Note.{Note}
use Rattle.cache_access.specs.declared.fault.GetFault.{GetFault}
use Rattle.cache_access.specs.declared.fault.GetFault.TheVariants.{SourceFault}
use Rattle.cache_access.specs.declared.refreshed.Refreshed.{Refreshed}
use Rattle.cache_access.specs.Refreshes.{CameTo, Refreshes}
use Rattle.catalog.specs.declared.catalogue.Catalogue.{Catalogue}
use Rattle.base.specs.Causes.{Rose}
use Rattle.job_forms.specs.declared.job.Job.{Job}
use Rattle.job_forms.specs.Places.{Metatile, places}
use Rattle.metatile_plan.specs.declared.metatile.MetaKey.{MetaKey}
use Rattle.source_render.specs.Renders.{Renders, StaysGiven}
use Rattle.truncation_list.specs.declared.book.FrontedBook.{FrontedBook}
use Rattle.turnstile.specs.declared.view.Made.{Made}
use Rattle.job_places.specs.Ends.{end_of_refresh}
use Rattle.job_places.specs.Visits.{Visits, forces}

fault_same : {e f : GetFault} → ◌≡◌ {A = Result Refreshed GetFault} (Err e) (Err f) → e ≡ f
fault_same is = cc

no_fault : {x : Refreshed} {f : GetFault} → ◌≡◌ {A = Result Refreshed GetFault} (Ok x) (Err f) → ⊥
no_fault is = cc

caused : (r : Result Refreshed GetFault) (Cause : Type 0) → IfErr r (λ e. e ≡ SourceFault → Cause) → r ≡ Err SourceFault → Cause
caused (Ok x) Cause h is = absurd (no_fault is)
caused (Err e) Cause h is = h (fault_same is)

pub refreshed_so : {C : Type 0} (leads : C → C → List (Made Note) → Type 0) (p q : C) (c : Catalogue) (Sound : Type 0) (job : Job) (place : ℕ) (seen sees : FrontedBook) (before after : Renders) (m : MetaKey) (force : Bool) (answer : Result Refreshed GetFault)
    → slice_get (places c job) place ≡ Some (Metatile m) → force ≡ forces job.kind → Refreshes leads c after.gave Sound m force seen p q answer → before.failures ≤ after.failures → StaysGiven before.gave after.gave → IfErr answer (λ e. e ≡ SourceFault → Rose before.failures after.failures)
    → Visits leads c Sound job place seen sees before after p q (end_of_refresh answer)
refreshed_so leads p q c Sound job place seen sees before after m force answer at same did later grows cause = record {
  gained = did.gained;
  gains = did.gains;
  visit = record {
    at = Metatile m;
    is_place = at;
    work = record {
      answer = answer;
      came_to = subst (λ (b : Bool). CameTo c Sound m b seen did.gained answer) same did.came_to;
      ended = refl;
      goes_on = record { later = later; grows = grows };
      cause = caused answer (Rose before.failures after.failures) cause;
      from_source = did.from_source;
    };
  };
}

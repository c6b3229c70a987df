-- A visit: what is done at a place of a job, whoever commands the cache. Its metatile is refreshed, or its one cut is made.
use Rattle.std.specs.Prelude.{ℕ, ◌≡◌, Bool, true, false, List, [], ◌∷◌, Result, Ok, Err, Some, slice_get}
use Rattle.std.specs.declared.alloc.AllocError.{AllocError}
use Rattle.cabinet.specs.declared.replies.CutReply.{CutReply}
use Rattle.cabinet_chest.specs.declared.command.Command.TheVariants as command
use Rattle.cabinet_chest.specs.declared.command.Reply.TheVariants as reply
use Rattle.cabinet_chest.specs.declared.shown.Note.{Note}
use Rattle.cache_access.specs.declared.fault.GetFault.{GetFault}
use Rattle.cache_access.specs.declared.fault.GetFault.TheVariants.{SourceFault}
use Rattle.cache_access.specs.declared.refreshed.Refreshed.{Refreshed}
use Rattle.cache_access.specs.Refreshes.{CameTo}
use Rattle.cache_access.specs.Sourced.{AreFromSource}
use Rattle.cache_access.specs.Turned.{IsOf}
use Rattle.catalog.specs.declared.catalogue.Catalogue.{Catalogue}
use Rattle.base.specs.Causes.{Rose}
use Rattle.job_forms.specs.declared.job.Job.{Job}
use Rattle.job_forms.specs.declared.job.JobKind.{JobKind}
use Rattle.job_forms.specs.declared.job.JobKind.TheVariants.{Reseed, Seed, Truncate}
use Rattle.job_forms.specs.Places.{Cut, Metatile, Place, places}
use Rattle.metatile_plan.specs.declared.metatile.MetaKey.{MetaKey}
use Rattle.source_render.specs.Renders.{GoesOn, Renders}
use Rattle.truncation_list.specs.declared.book.FrontedBook.{FrontedBook}
use Rattle.truncation_list.specs.declared.cover.Cover.{Cover}
use Rattle.turnstile.specs.declared.view.Made.{Made}
use Rattle.job_places.specs.declared.place.PlaceEnd.{PlaceEnd}
use Rattle.job_places.specs.Ends.{end_of_cut, end_of_refresh}

-- a visit: the number of its place, the turns that were made there, how that ended the place, the book that had been seen before and after,
-- and what the source had done before and after
pub record Visit : Type 0 where
  pub place : ℕ
  pub gained : List (Made Note)
  pub end : PlaceEnd
  pub seen : FrontedBook
  pub sees : FrontedBook
  pub renders_before : Renders
  pub renders_after : Renders

-- AT A METATILE

-- a reseed renders each metatile, kept or not; a seed those alone that aren't kept
abbrev pub forces : JobKind → Bool
forces Seed = false
forces Reseed = true
forces Truncate = false

-- the turns are those of one refresh of the metatile, and the place ended as that was answered; `Sound` is what makes a blob that is handed
-- in that of the metatile; each one is cut out of what the source has given
pub record IsRefresh (c : Catalogue) (Sound : Type 0) (m : MetaKey) (force : Bool) (v : Visit) : Type 0 where
  pub answer : Result Refreshed GetFault
  pub came_to : CameTo c Sound m force v.seen v.gained answer
  pub ended : v.end ≡ end_of_refresh answer
  pub goes_on : GoesOn v.renders_before v.renders_after
  pub cause : answer ≡ Err SourceFault → Rose v.renders_before.failures v.renders_after.failures
  pub from_source : AreFromSource c v.renders_after.gave v.gained

-- AT THE CUT

-- the one turn of a truncation that was answered so, or none if memory ran out for it
abbrev pub Truncates : Cover → List (Made Note) → Result CutReply AllocError → Type 0
Truncates cover gained (Ok r) = (turn : Made Note) × (gained ≡ turn ∷ []) × IsOf (command.Cut cover) (reply.Cut r) turn
Truncates cover gained (Err failed) = gained ≡ []

-- the place ended as its truncation was answered
abbrev pub IsTruncation : Cover → List (Made Note) → PlaceEnd → Type 0
IsTruncation cover gained end = (answer : Result CutReply AllocError) × Truncates cover gained answer × (end ≡ end_of_cut answer)

-- AT ANY PLACE

-- nothing is rendered for a cut
abbrev pub IsWorkAt : Catalogue → Type 0 → JobKind → Place → Visit → Type 0
IsWorkAt c Sound kind (Metatile m) v = IsRefresh c Sound m (forces kind) v
IsWorkAt c Sound kind (Cut cover) v = IsTruncation cover v.gained v.end × (v.renders_after ≡ v.renders_before)

-- the place is one of the job's, and the work was done there
pub record IsVisit (c : Catalogue) (Sound : Type 0) (job : Job) (v : Visit) : Type 0 where
  pub at : Place
  pub is_place : slice_get (places c job) v.place ≡ Some at
  pub work : IsWorkAt c Sound job.kind at v

-- THE WHOLE: the turns that were made at a place, and what that came to
abbrev pub visit_of : ℕ → FrontedBook → FrontedBook → Renders → Renders → List (Made Note) → PlaceEnd → Visit
visit_of place seen sees renders_before renders_after gained end =
    record { place = place; gained = gained; end = end; seen = seen; sees = sees; renders_before = renders_before; renders_after = renders_after }

module _ {C : Type 0} (leads : C → C → List (Made Note) → Type 0) where
  pub record Visits (c : Catalogue) (Sound : Type 0) (job : Job) (place : ℕ) (seen sees : FrontedBook) (renders_before renders_after : Renders) (before after : C) (end : PlaceEnd) : Type 0 where
    pub gained : List (Made Note)
    pub gains : leads before after gained
    pub visit : IsVisit c Sound job (visit_of place seen sees renders_before renders_after gained end)

  -- A TIE between the code and these definitions: the promise can be read without it.

  -- the turns of a truncation
  pub record HasCut (cover : Cover) (before after : C) (end : PlaceEnd) : Type 0 where
    pub gained : List (Made Note)
    pub gains : leads before after gained
    pub cut : IsTruncation cover gained end

-- The one cut of a truncation, and what its place is.
use Rattle.std.specs.Prelude.{IfOk, OnErr, slice_get}
use Rattle.std.specs.declared.alloc.AllocError.{AllocError}
use Rattle.std.proofs.Common.{ℕ, zero, suc, ◌≡◌, ◌<◌, arith, length, List, [], ◌∷◌, Some, Result, Ok, Err, refl, ap, subst, ◌∙◌}
use Rattle.cabinet.specs.declared.replies.CutReply.{CutReply}
use Rattle.cabinet_chest.specs.declared.command.Command.TheVariants as command
use Rattle.cabinet_chest.specs.declared.command.Reply.TheVariants as reply
use Rattle.cabinet_chest.specs.declared.shown.Note.{Note}
use Rattle.cache_access.specs.Turned.{GainsOne}
use Rattle.catalog.specs.declared.catalogue.Catalogue.{Catalogue}
use Rattle.job_forms.specs.declared.job.Job.{Job}
use Rattle.job_forms.specs.declared.job.JobKind.{JobKind}
use Rattle.job_forms.specs.declared.job.JobKind.TheVariants as kind
use Rattle.job_forms.specs.Places.{Cut, Place, places, places_of}
use Rattle.source_render.specs.Renders.{Renders}
use Rattle.truncation_list.specs.declared.book.FrontedBook.{FrontedBook}
use Rattle.truncation_list.specs.declared.cover.Cover.{Cover}
use Rattle.turnstile.specs.declared.view.Made.{Made}
use Rattle.job_places.specs.declared.place.PlaceEnd.{PlaceEnd}
use Rattle.job_places.specs.Ends.{end_of_cut}
use Rattle.job_places.specs.Visits.{HasCut, Visits}

module _ {C : Type 0} (leads : C → C → List (Made Note) → Type 0) (p q : C) where
  -- a truncation that was answered so
  pub cut_so : (cover : Cover) (answer : Result CutReply AllocError) → IfOk answer (λ r. GainsOne leads p q (command.Cut cover) (reply.Cut r)) → OnErr answer (leads p q []) → HasCut leads cover p q (end_of_cut answer)
  cut_so cover (Ok r) one none = record { gained = one.turn ∷ []; gains = one.gains; cut = (Ok r, (one.turn, refl, one.of), refl) }
  cut_so cover (Err failed) one none = record { gained = []; gains = none; cut = (Err failed, refl, refl) }

  -- the one place of a truncation is its cut
  first_is_cut : (cover : Cover) (place : ℕ) → place < 1 → slice_get (Cut cover ∷ []) place ≡ Some (Cut cover)
  first_is_cut cover zero within = refl
  first_is_cut cover (suc place) within = absurd (omega (arith, within))

  -- and a truncation is the visit of it
  pub visits_cut : (c : Catalogue) (Sound : Type 0) (job : Job) (place : ℕ) (seen sees : FrontedBook) (so_far : Renders) (end : PlaceEnd) → job.kind ≡ kind.Truncate → place < length (places c job) → HasCut leads job.cover p q end
      → Visits leads c Sound job place seen sees so_far so_far p q end
  visits_cut c Sound job place seen sees so_far end is within h =
      let there : places c job ≡ Cut job.cover ∷ [] = ap (λ (k : JobKind). places_of c k job.cover) is in
      let first : place < 1 = subst (λ (ps : List Place). place < length ps) there within in
      record {
        gained = h.gained;
        gains = h.gains;
        visit = record {
          at = Cut job.cover;
          is_place = ap (λ (ps : List Place). slice_get ps place) there ∙ first_is_cut job.cover place first;
          work = (h.cut, refl);
        };
      }

-- Visits by a pass: what is done at the places of a job over a hall, one after the other.
use Rattle.std.specs.Prelude.{ℕ, ◌≡◌, Bool, true, not, List, [], ◌∷◌, map, filter, flat_map}
use Rattle.cabinet_chest.specs.declared.shown.Note.{Note}
use Rattle.cache_access.specs.Turned.{AreTurns}
use Rattle.catalog.specs.declared.catalogue.Catalogue.{Catalogue}
use Rattle.job_places.specs.Ends.{is_done, is_unkept}
use Rattle.job_places.specs.Visits.{IsVisit, Visit}
use Rattle.job_forms.specs.declared.job.Job.{Job}
use Rattle.source_render.specs.Renders.{Renders}
use Rattle.truncation_list.specs.declared.book.FrontedBook.{FrontedBook}
use Rattle.turnstile.specs.declared.view.Made.{Made}

-- a visit, as any other is, of a pass that tells that the cabinet is sound or not; its turns are at one cabinet
pub record IsPassVisit (c : Catalogue) (told : Bool) (job : Job) (v : Visit) : Type 0 where
  pub visit : IsVisit c (told ≡ true) job v
  pub turns : AreTurns c told v.seen v.gained v.sees

-- one after the other: the pass had seen one book at first and sees the other one at last, and what the source had done went from one to
-- the other, each visit beginning where the one before had ended
abbrev pub AreVisits : Catalogue → Bool → Job → FrontedBook → Renders → List Visit → FrontedBook → Renders → Type 0
AreVisits c told job seen so_far [] sees after = (sees ≡ seen) × (after ≡ so_far)
AreVisits c told job seen so_far (v ∷ vs) sees after = (v.seen ≡ seen) × (v.renders_before ≡ so_far) × IsPassVisit c told job v × AreVisits c told job v.sees v.renders_after vs sees after

-- WHAT THEY COME TO

-- all turns that were made
abbrev pub turns_of : List Visit → List (Made Note)
turns_of vs = flat_map (λ v. v.gained) vs

-- the places, those that are done, those that failed, and those of the done that could not be kept
abbrev pub visited : List Visit → List ℕ
visited vs = map (λ v. v.place) vs

abbrev pub done_of : List Visit → List ℕ
done_of vs = visited (filter (λ v. is_done v.end) vs)

abbrev pub failed_of : List Visit → List ℕ
failed_of vs = visited (filter (λ v. not (is_done v.end)) vs)

abbrev pub unkept_of : List Visit → List ℕ
unkept_of vs = visited (filter (λ v. is_unkept v.end) vs)

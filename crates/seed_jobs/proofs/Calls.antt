-- A visit over any access, by a pass of a hall.
use Rattle.std.proofs.Common.{ℕ, ◌≡◌, Bool, true, List, Result, Ok, Err}
use Rattle.cabinet.specs.declared.replies.Finished.{Finished}
use Rattle.cabinet_chest.specs.declared.shown.Note.{Note}
use Rattle.cache_access.specs.declared.fault.GetFault.{GetFault}
use Rattle.cache_access.specs.declared.fault.GetFault.TheVariants as got
use Rattle.cache_access.specs.declared.refreshed.Refreshed.{Refreshed}
use Rattle.cache_access.specs.declared.refreshed.Refreshed.TheVariants.{AlreadyKept, Made as Remade, Unkept}
use Rattle.cache_access.specs.Refreshes.{BecameOf, CameTo, IsRendered}
use Rattle.cache_hall.specs.Turned.{GainsTurns, HallPass}
use Rattle.catalog.specs.declared.catalogue.Catalogue.{Catalogue}
use Rattle.job_places.specs.declared.place.PlaceEnd.{PlaceEnd}
use Rattle.job_places.specs.Visits.{IsVisit, IsWorkAt, Visit, Visits}
use Rattle.job_forms.specs.declared.job.Job.{Job}
use Rattle.job_forms.specs.declared.job.JobKind.{JobKind}
use Rattle.job_forms.specs.Places.{Cut, Metatile, Place}
use Rattle.metatile_plan.specs.declared.metatile.MetaKey.{MetaKey}
use Rattle.source_render.specs.Renders.{Renders}
use Rattle.truncation_list.specs.declared.book.FrontedBook.{FrontedBook}
use Rattle.turnstile.specs.declared.view.Made.{Made}
use Rattle.seed_jobs.specs.Visited.{HasVisited}

-- what makes a blob true may be known by less
module _ (c : Catalogue) (P Q : Type 0) (less : Q → P) where
  rendered_if : (m : MetaKey) (force : Bool) (ask : Made Note) (ends : List (Made Note)) (k : ℕ) (r : Finished) → IsRendered c P m force ask ends k r → IsRendered c Q m force ask ends k r
  rendered_if m force ask ends k r h = record {
    ticket = h.ticket;
    number = h.number;
    meta = h.meta;
    answer = h.answer;
    blob = h.blob;
    long = h.long;
    truth = λ q. h.truth (less q);
    end = h.end;
    handed = h.handed;
    one = h.one;
  }

  became_if : (m : MetaKey) (force : Bool) (ask : Made Note) (ends : List (Made Note)) (x : Refreshed) → BecameOf c P m force ask ends x → BecameOf c Q m force ask ends x
  became_if m force ask ends (AlreadyKept k) h = h
  became_if m force ask ends (Remade k) h = rendered_if m force ask ends k _ h
  became_if m force ask ends (Unkept k) h = (h.0, h.1, rendered_if m force ask ends k h.0 h.2)

  came_if : (m : MetaKey) (force : Bool) (seen : FrontedBook) (gained : List (Made Note)) (r : Result Refreshed GetFault) → CameTo c P m force seen gained r → CameTo c Q m force seen gained r
  came_if m force seen gained (Ok x) h = record {
    busy = h.busy;
    ask = h.ask;
    ends = h.ends;
    all = h.all;
    waited = h.waited;
    became = became_if m force h.ask h.ends x h.became;
    newer_than_seen = h.newer_than_seen;
    newer_than_found = h.newer_than_found;
  }
  came_if m force seen gained (Err got.SourceFault) h = h
  came_if m force seen gained (Err got.Spent) h = h
  came_if m force seen gained (Err got.OutOfMemory) h = h

  work_if : (kind : JobKind) (at : Place) (v : Visit) → IsWorkAt c P kind at v → IsWorkAt c Q kind at v
  work_if kind (Metatile m) v h = record { answer = h.answer; came_to = came_if m _ v.seen v.gained h.answer h.came_to; ended = h.ended; goes_on = h.goes_on; cause = h.cause; from_source = h.from_source }
  work_if kind (Cut cover) v h = h

  visit_if : (job : Job) (v : Visit) → IsVisit c P job v → IsVisit c Q job v
  visit_if job v h = record { at = h.at; is_place = h.is_place; work = work_if job.kind h.at v h.work }

-- if the pass tells a sound cabinet, the source is the catalogue's
pub visited_so : (c : Catalogue) (Told : Type 0) (job : Job) (place : ℕ) (before after : Renders) (p q : HallPass) (end : PlaceEnd) → (p.told ≡ true → Told)
    → Visits (GainsTurns c) c ((p.told ≡ true) × Told) job place p.book q.book before after p q end → HasVisited c job place before after p q end
visited_so c Told job place before after p q end owes h = record {
  gained = h.gained;
  is = h.gains.is;
  visit = record { visit = visit_if c ((p.told ≡ true) × Told) (p.told ≡ true) (λ tells. (tells, owes tells)) job _ h.visit; turns = h.gains.turns };
}

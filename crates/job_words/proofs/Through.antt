-- The run of a job, place by place.
use Rattle.std.proofs.Common.{◌≡◌, ◌≤◌, ◌<◌, ◌+◌, ℕ, suc, Bool, List, [], ◌∷◌, ◌++◌, length, map, take, slice_get, Option, Some, refl, sym, ap, ◌∙◌, subst, arith}
use Rattle.std.proofs.Math.Seq.{take-length, take-suc}
use Rattle.std.proofs.lemmas.List.{map-append}
use Rattle.std.proofs.lemmas.List.Sums.{sum_by-append}
use Rattle.std.proofs.lemmas.Option.{get_or_from_slice_get, slice_get_within}
use Rattle.cabinet.specs.State.{State, IsSound}
use Rattle.catalog.specs.declared.catalogue.Catalogue.{Catalogue}
use Rattle.base.specs.Causes.{RoseBy}
use Rattle.job_places.specs.declared.place.PlaceEnd.{PlaceEnd}
use Rattle.job_places.specs.declared.tally.Tally.{Tally}
use Rattle.job_places.specs.Tallies.{one_more, tally_of}
use Rattle.job_places.specs.Visits.{forces}
use Rattle.job_places.proofs.Counting.{adds_up, one_counted, tally_more, unkept_within}
use Rattle.job_forms.specs.declared.job.Job.{Job}
use Rattle.job_forms.specs.Places.{Place, places}
use Rattle.job_words.specs.Coming.{ComesTo}
use Rattle.job_words.specs.Run.{GoesThroughPlaces, IsJobRun, disk_faults, source_faults}
use Rattle.job_words.specs.Visit.{IsVisited, LoneVisit}
use Rattle.sessions.specs.Outside.{FaultCounts, counts}

-- one visit more
goes_on : (force : Bool) (s t u : State) (vs : List LoneVisit) (v : LoneVisit) → GoesThroughPlaces force s vs t → IsVisited force t v u → GoesThroughPlaces force s (vs ++ v ∷ []) u
goes_on force s t u [] v same visited = (u, subst (λ x. IsVisited force x v u) same visited, refl)
goes_on force s t u (w ∷ vs) v goes visited = (goes.0, goes.1, goes_on force goes.0 t u vs v goes.2 visited)

-- COUNTS

rose_more : (n m before mid after : ℕ) → RoseBy n before mid → RoseBy m mid after → RoseBy (n + (0 + m)) before after
rose_more n m before mid after first next = omega (arith, first, next)

abbrev ends_of : List LoneVisit → List PlaceEnd
ends_of visits = map (λ (v : LoneVisit). v.end) visits

-- each place that isn't done failed
pub all_counted : (tally : Tally) (visits : List LoneVisit) → tally ≡ tally_of (ends_of visits) → tally.done + tally.failed ≡ tally.places
all_counted tally visits is = subst (λ (t : Tally). t.done + t.failed ≡ t.places) (sym is) (adds_up (ends_of visits))

-- A PART OF A RUN

-- the visits of the first n places, and their tally
pub record IsPart (told : Option ℕ) (renders disk : FaultCounts) (job : Job) (n : ℕ) (tally : Tally) (s here : State) : Type 0 where
  pub visits : List LoneVisit
  pub each : map (λ v. v.place) visits ≡ take n (places s.catalogue job)
  pub goes : GoesThroughPlaces (forces job.kind) s visits here
  pub counted : tally ≡ tally_of (ends_of visits)
  pub many : tally.places ≡ n
  pub failed : RoseBy (source_faults visits) renders.before renders.after
  pub faults : RoseBy (disk_faults visits) disk.before disk.after
  pub disk_later : disk.before ≤ disk.after
  pub sound : told ≡ Some s.catalogue.source → IsSound s → IsSound here
  pub catalogue : here.catalogue ≡ s.catalogue

none_rose : (n : ℕ) → RoseBy 0 n n
none_rose n = omega arith

pub part_none : (told : Option ℕ) (renders disk : ℕ) (job : Job) (s : State) → IsPart told (counts renders renders) (counts disk disk) job 0 (record { places = 0; done = 0; failed = 0; unkept = 0 }) s s
part_none told renders disk job s = record {
  visits = [];
  each = refl;
  goes = refl;
  counted = refl;
  many = refl;
  failed = none_rose renders;
  faults = none_rose disk;
  disk_later = omega arith;
  sound = λ tells is. is;
  catalogue = refl;
}

module _ (told via : Option ℕ) (before mid after disk_before disk_mid disk_after : ℕ) (job : Job) (n : ℕ) (tally : Tally) (s t u : State) (p : Place) (e : PlaceEnd)
    (part : IsPart told (counts before mid) (counts disk_before disk_mid) job n tally s t) (at : slice_get (places t.catalogue job) n ≡ Some p) (same : via ≡ told)
    (comes : ComesTo via (counts mid after) (counts disk_mid disk_after) (forces job.kind) t p e u) where
  abbrev visit : LoneVisit
  visit = record { place = p; chances = comes.chances; end = e }

  at_first : slice_get (places s.catalogue job) n ≡ Some p
  at_first = subst (λ c. slice_get (places c job) n ≡ Some p) part.catalogue at

  each_more : map (λ v. v.place) (part.visits ++ visit ∷ []) ≡ take (suc n) (places s.catalogue job)
  each_more =
      let all = places s.catalogue job in
      map-append (λ (v : LoneVisit). v.place) part.visits (visit ∷ []) ∙ ap (λ ps. ps ++ p ∷ []) part.each
      ∙ ap (λ x. take n all ++ x ∷ []) (sym (get_or_from_slice_get all n p p at_first)) ∙ sym (take-suc all n p (slice_get_within all n p at_first))

  pub part_more : IsPart told (counts before after) (counts disk_before disk_after) job (n + 1) (one_more e tally) s u
  part_more =
      let one : suc n ≡ n + 1 = omega arith in
      let l = part.disk_later in
      let m = comes.disk_later in
      record {
        visits = part.visits ++ visit ∷ [];
        each = subst (λ k. map (λ (v : LoneVisit). v.place) (part.visits ++ visit ∷ []) ≡ take k (places s.catalogue job)) one each_more;
        goes = goes_on (forces job.kind) s t u part.visits visit part.goes comes.made;
        counted = ap (one_more e) part.counted ∙ tally_more (ends_of part.visits) e ∙ ap tally_of (sym (map-append (λ (v : LoneVisit). v.end) part.visits (visit ∷ [])));
        many = one_counted e tally ∙ ap (λ k. k + 1) part.many;
        failed = subst (λ k. RoseBy k before after) (sym (sum_by-append _ part.visits (visit ∷ []))) (rose_more _ _ before mid after part.failed comes.failed);
        faults = subst (λ k. RoseBy k disk_before disk_after) (sym (sum_by-append _ part.visits (visit ∷ []))) (rose_more _ _ disk_before disk_mid disk_after part.faults comes.faults);
        disk_later = omega arith;
        sound = λ tells is. comes.sound (same ∙ tells ∙ ap Some (sym (ap (λ c. c.source) part.catalogue))) (part.sound tells is);
        catalogue = comes.catalogue ∙ part.catalogue;
      }

-- there is room for one more place in the tally
pub countable : (told : Option ℕ) (renders disk : FaultCounts) (job : Job) (n most : ℕ) (tally : Tally) (s t : State) → IsPart told renders disk job n tally s t → n < most → most ≤ 10000000 → (tally.places < 10000000) × (tally.done + tally.failed ≤ tally.places) × (tally.unkept ≤ tally.done)
countable told renders disk job n most tally s t part below few =
    let m = part.many in
    let all = all_counted tally part.visits part.counted in
    let unkept = unkept_within (ends_of part.visits) in
    let done_is = ap (λ (t : Tally). t.done) part.counted in
    let unkept_is = ap (λ (t : Tally). t.unkept) part.counted in (omega (arith, m, below, few), omega (arith, all), omega (arith, unkept, done_is, unkept_is))

-- THE WHOLE RUN

module _ (told : Option ℕ) (renders disk : FaultCounts) (job : Job) (n : ℕ) (tally : Tally) (s u : State) (all : n ≡ length (places s.catalogue job)) (part : IsPart told renders disk job n tally s u) where
  each_all : map (λ v. v.place) part.visits ≡ places s.catalogue job
  each_all = part.each ∙ subst (λ k. take k (places s.catalogue job) ≡ places s.catalogue job) (sym all) (take-length (places s.catalogue job))

  pub runs_all : (visits : List LoneVisit) × (tally ≡ tally_of (map (λ v. v.end) visits)) × IsJobRun told renders disk job visits s u
  runs_all = (part.visits, part.counted, record { each = each_all; goes = part.goes; failed = part.failed; faults = part.faults; sound = part.sound })

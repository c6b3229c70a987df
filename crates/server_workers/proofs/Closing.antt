-- All passes that worked over a hall, as they come back at its end.
use Rattle.std.proofs.Common.{◌≡◌, ⊎_elim, Bool, false, IsTrue, List, [], ◌∷◌, ◌++◌, length, subst}
use Rattle.std.proofs.lemmas.Bool.{MatchBool-at_true, MatchBool-at_false}
use Rattle.std.proofs.lemmas.List.Elements.{Contains-append_cases, Contains-push_cases}
use Rattle.std.specs.List.{All, AllByRecursion, Contains}
use Rattle.cache_hall.specs.Turned.{HallPass}
use Rattle.catalog.specs.Valid.{IsValid}
use Rattle.base.specs.Causes.{Rose}
use Rattle.seed_jobs.specs.Idles.{Idle, Standby}
use Rattle.seed_jobs.specs.Idles as idles
use Rattle.turnstile.specs.Line.{AreInLine}
use Rattle.server_workers.specs.Between.{AreNewer}
use Rattle.server_workers.specs.Crew.{AreKept}
use Rattle.server_workers.specs.Runners.{HasRunOn}
use Rattle.server_workers.specs.Served.{HasServedOver, Listened}
use Rattle.server_workers.specs.Staged.{HasServedBy}
use Rattle.server_workers.specs.Stints.{IsStint, Service, Stint, passes_of}
use Rattle.server_workers.specs.Upkept.{HasKeptUp}
use Rattle.server_workers.proofs.Between.{HasTurnsAt, are_newer, of_stints}
use Rattle.server_workers.proofs.JobTurns.{of_idle}
use Rattle.server_workers.proofs.Knowing.{all_cancelled}
use Rattle.server_workers.proofs.Upkept.{of_upkeep}

-- those that served, those that ran jobs, and the one that kept the cache up
abbrev pub all_of : {L : Type 0} → List (Stint L) → Standby → HallPass → List HallPass
all_of stints after upkeep = passes_of stints ++ idles.passes_of after.idle ++ upkeep ∷ []

-- what is true of each of them
of_each : {L : Type 0} (P : HallPass → Type 0) (stints : List (Stint L)) (after : Standby) (upkeep : HallPass) → ((p : HallPass) → Contains (passes_of stints) p → P p) → ((p : HallPass) → Contains (idles.passes_of after.idle) p → P p) → P upkeep → (p : HallPass) → Contains (all_of stints after upkeep) p → P p
of_each P stints after upkeep serve run keeps p at =
    ⊎_elim (λ (worked : Contains (passes_of stints ++ idles.passes_of after.idle) p). ⊎_elim (serve p) (run p) (Contains-append_cases (passes_of stints) (idles.passes_of after.idle) p worked))
    (λ (same : upkeep ≡ p). subst P same keeps) (Contains-push_cases (passes_of stints ++ idles.passes_of after.idle) upkeep p at)

module _ {L S : Type 0} (s : Service L S) where
  -- their turns stand in the line of all passes
  pub served_in_line : (after : Standby) (upkeep : HallPass) (stints : List (Stint L)) (all : List HallPass) → AreKept stints all → ((p : HallPass) → Contains (idles.passes_of after.idle) p → Contains all p) → Contains all upkeep → AreInLine all → AreInLine (all_of stints after upkeep)
  served_in_line after upkeep stints all kept among keeps line p q cp cq m n cm cn = line p q (there p cp) (there q cq) m n cm cn
    where
      there : (r : HallPass) → Contains (all_of stints after upkeep) r → Contains all r
      there r c = of_each (Contains all) stints after upkeep kept among keeps r c

  -- so a tile that is asked for after a truncation is newer
  pub served_newer : (before : Standby) (on : HasRunOn s.catalogue before) (upkeep : HallPass) (stints : List (Stint L)) → IsValid s.catalogue → s.first.made ≡ [] → AllByRecursion (IsStint s) stints → on.heard.idle ≡ on.between.idle → All (λ (i : Idle). i.pass ≡ s.first) before.idle
      → HasKeptUp s.catalogue s.first upkeep → AreInLine (all_of stints on.after upkeep) → AreNewer s.catalogue (all_of stints on.after upkeep)
  served_newer before on upkeep stints valid none held same nothing kept line = are_newer s.catalogue (all_of stints on.after upkeep) valid at line
    where
      at : (p : HallPass) → Contains (all_of stints on.after upkeep) p → HasTurnsAt s.catalogue p
      at p c = of_each (HasTurnsAt s.catalogue) stints on.after upkeep (of_stints s stints none held) (of_idle s.catalogue s.first before on same nothing none) (of_upkeep s.catalogue s.first upkeep none kept) p c

  -- what was served under a pass that had made nothing
  abbrev served_over : (h : Listened L) (passes : List HallPass) (all : Bool) → IsValid s.catalogue → s.first.made ≡ [] → HasServedBy s h passes all → AreInLine passes → HasServedOver s h
  served_over h passes all valid none by line =
      let served = by.links.served.served in
      let keeps = by.upkeep in
      let stands = served_in_line by.on.after keeps.after served.stints passes by.links.served.kept by.among keeps.among line in
      record {
        links = by.links.links;
        given = by.links.given;
        served = served;
        jobs = record { before = by.before; new = by.new; on = by.on; sources = by.sources; heard = by.links.served.heard };
        cancelled = record {
          before = by.canceller;
          new = by.place;
          on = by.cancels;
          knows = by.links.knows;
          each = all_cancelled s served.stints by.cancels.heard by.cancels.after served.held by.links.knows by.cancels.stops_again;
        };
        upkeep = keeps.after;
        kept_up = keeps.kept_up;
        line = stands;
        newer = served_newer by.before by.on keeps.after served.stints valid none served.held by.links.served.heard.idle by.new.nothing keeps.kept_up stands;
      }

  -- where no accept failed, and where one did
  pub all_over : (h : Listened L) (passes : List HallPass) (all : Bool) → IsValid s.catalogue → s.first.made ≡ [] → HasServedBy s h passes all → AreInLine passes → IsTrue all → (o : HasServedOver s h) × (length o.links ≡ h.connections)
  all_over h passes all valid none by line told = (served_over h passes all valid none by line, MatchBool-at_true _ _ told by.links.each)

  pub some_over : (h : Listened L) (passes : List HallPass) (all : Bool) → IsValid s.catalogue → s.first.made ≡ [] → HasServedBy s h passes all → AreInLine passes → all ≡ false → HasServedOver s h × Rose h.accepts.before h.accepts.after
  some_over h passes all valid none by line told = (served_over h passes all valid none by line, MatchBool-at_false _ _ told by.links.each)

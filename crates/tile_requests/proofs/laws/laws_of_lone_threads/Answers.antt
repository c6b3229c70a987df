use Rattle.cabinet.specs.State.{IsSound}
use Rattle.std.proofs.Common.{◌≡◌, Some}
use Rattle.cache_access.proofs.LoneUpkeep.{steps_later}
use Rattle.tile_requests.proofs.LoneAtOnce.{at_once, counts_stay, usage_is}
use Rattle.tile_requests.proofs.LoneRefreshes.{refresh_runs}
use Rattle.tile_requests.proofs.LoneRuns.{get_opens}
use Rattle.tile_requests.proofs.laws.laws_of_lone_threads.Goals as goal

pub returns-clause-gets : goal.returns-clause-gets
returns-clause-gets c = λ told x y a before after gained result. get_opens told x y a before after gained result

pub returns-clause-refreshes : goal.returns-clause-refreshes
returns-clause-refreshes c = λ told x y m force before after gained result valid of rest steps came later cause.
    refresh_runs x y m valid of rest force before after later (IsSound x.state × (told ≡ Some x.state.catalogue.source)) gained steps result came cause

pub returns-clause-at_once : goal.returns-clause-at_once
returns-clause-at_once c = λ x y gained r o. at_once x y gained r o

pub returns-clause-later : goal.returns-clause-later
returns-clause-later c = λ x y gained steps. steps_later x.state.catalogue gained x y steps

pub returns-clause-usage : goal.returns-clause-usage
returns-clause-usage c = λ x y gained text steps counted. usage_is x y gained text steps counted

pub returns-clause-counts : goal.returns-clause-counts
returns-clause-counts c = λ x y gained steps counts. counts_stay x.state.catalogue gained x y steps counts

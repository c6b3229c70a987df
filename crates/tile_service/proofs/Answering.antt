-- A request that a lone thread answers.
use Rattle.std.proofs.Common.{◌≡◌, ◌≤◌, ℕ, List, Option, Some, None, Result, Ok, Err, refl, sym, ap, subst}
use Rattle.std.specs.Prelude.{IfErr, MatchOption}
use Rattle.cabinet.specs.State.{IsSound, fronted, now}
use Rattle.cabinet_chest.specs.declared.shown.Note.{Note}
use Rattle.cabinet_chest.specs.declared.shown.Shown.{Shown}
use Rattle.cache_access.specs.Alone.{AreSteps}
use Rattle.cache_access.specs.Gets.{IsGot as IsGotBy}
use Rattle.cache_access.specs.declared.fault.GetFault.{GetFault}
use Rattle.cache_access.specs.declared.fault.GetFault.TheVariants as fault
use Rattle.cache_core.specs.declared.outcome.Tile.{Tile}
use Rattle.catalog.specs.LookUp.{IsTile}
use Rattle.base.specs.Causes.{Rose}
use Rattle.matrix_geometry.specs.declared.address.Address.{Address}
use Rattle.turnstile.specs.declared.view.Made.{Made}
use Rattle.tile_requests.specs.declared.outcome.Outcome.{Outcome}
use Rattle.tile_requests.specs.declared.outcome.Outcome.TheVariants as outcome
use Rattle.tile_requests.specs.declared.request.Mode.TheVariants.{Gets}
use Rattle.tile_requests.specs.declared.request.Request.{Request}
use Rattle.tile_requests.specs.declared.request.Request.TheVariants as request
use Rattle.tile_requests.specs.Events.{BeginsByLine, ended_by, ended_so}
use Rattle.tile_requests.specs.Immediate.{IsImmediate}
use Rattle.tile_requests.specs.Requests.{IsOf, tile_of}
use Rattle.tile_requests.specs.Served.{IsServedAtOnce, IsTileServed, outcome_of_get}
use Rattle.sessions.specs.Outside.{counts}
use Rattle.tile_service.specs.Performing.{IsGot}

some_same : (a b : Address) → Some a ≡ Some b → a ≡ b
some_same a b e = cc

pub is_tile : (r : Request) (a : Address) → tile_of r ≡ Some a → request.Tile a ≡ r
is_tile (request.Tile b) a e = ap request.Tile (sym (some_same b a e))
is_tile other a e = absurd (cc)

-- a get failed by its source only if the outcome says so
failed_so : (before after : ℕ) (o : Outcome) (result : Result Tile GetFault) → o ≡ outcome_of_get result → (o ≡ outcome.SourceFailed → Rose before after) → IfErr result (λ e. e ≡ fault.SourceFault → Rose before after)
failed_so before after o (Ok tile) is cause = tt
failed_so before after o (Err fault.SourceFault) is cause = λ e. cause is
failed_so before after o (Err fault.Spent) is cause = λ e. absurd (cc)
failed_so before after o (Err fault.OutOfMemory) is cause = λ e. absurd (cc)

module _ (told : Option ℕ) (x y : Shown) (before after : ℕ) (r : Request) (o : Outcome) (gained : List (Made Note)) (steps : AreSteps x.state.catalogue x gained y) where
  abbrev Sound : Type 0
  Sound = IsSound x.state × (told ≡ Some x.state.catalogue.source)

  abbrev seen : Option Address → Type 0
  seen t = MatchOption t (IsServedAtOnce x.state.catalogue r gained o) (λ a. IsTileServed x.state.catalogue Sound a (fronted (now x.state)) gained o)

  abbrev comes : Option Address → Type 0
  comes t = MatchOption t (IsImmediate x.faults y.faults x.state r o y.state × (after ≡ before) × (x.faults ≤ y.faults)) (λ a. IsGot told before after (counts x.faults y.faults) x.state a o y.state)

  pub answers_so : IsOf x.state.catalogue r → seen (tile_of r) → (o ≡ outcome.SourceFailed → Rose before after) → (tile_of r ≡ None → after ≡ before) → x.faults ≤ y.faults
      → (IsServedAtOnce x.state.catalogue r gained o → IsImmediate x.faults y.faults x.state r o y.state)
      → ((a : Address) (result : Result Tile GetFault) → IsTile x.state.catalogue a → IsGotBy x.state.catalogue Sound a (fronted (now x.state)) gained result → IfErr result (λ e. e ≡ fault.SourceFault → Rose before after)
      → BeginsByLine told before after x.faults y.faults x.state a Gets (ended_so (ended_by result)) y.state)
      → comes (tile_of r)
  answers_so of served cause idle later at_once gets = by_case (tile_of r) refl
    where
      by_case : (t : Option Address) → tile_of r ≡ t → comes (tile_of r)
      by_case None is = subst comes (sym is) (at_once (subst seen is served), idle is, later)
      by_case (Some a) is =
          let k = subst seen is served in
          let tile : IsTile x.state.catalogue a = subst (IsOf x.state.catalogue) (sym (is_tile r a is)) of in
          subst comes (sym is) (ended_so (ended_by k.0), ended_by k.0, gets a k.0 tile k.1 (failed_so before after o k.0 k.2 cause), refl, k.2)

-- The cabinets that a run passes through, one after each line of a schedule or each message of a session.
use Rattle.std.specs.Prelude.{ℕ, ◌≡◌, List, take}
use Rattle.cabinet.specs.State.{State}
use Rattle.cache_core.specs.Lasting.{Lasting}
use Rattle.http_wire.specs.declared.message.Message.{Message}
use Rattle.tile_requests.specs.Requests.{Chance}
use Rattle.tile_service.specs.Run.{RunState, run}
use Rattle.tile_service.specs.Session.{lone, session}

-- Between the first keeper and the last there was one whose cabinet was s. From the first to it a crash leaves what answers for each
-- truncation of the first, and from it to the last what answers for each of s: so for each that was done by then.
pub record LeadsThrough (K : Type 0) (state : K → State) (Outlasts : K → K → Type 0) (first last : K) (s : State) : Type 0 where
  pub mid : K
  pub same : state mid ≡ s
  pub before : Lasting (Outlasts first mid) (state first) (state mid)
  pub after : Lasting (Outlasts mid last) (state mid) (state last)

-- P holds of the cabinet after each number of these lines, from none to all
abbrev pub AfterLines : (State → Type 0) → RunState → List (List ℕ) → List Chance → Type 0
AfterLines P w lines chances = (n : ℕ) → P (run w 1 (take n lines) chances).world.cabinet

-- P holds of the cabinet after each number of these messages, from none to all
abbrev pub AfterMessages : (State → Type 0) → List ℕ → State → List Message → List Chance → Type 0
AfterMessages P document s messages chances = (n : ℕ) → P (session (lone s document) 1 (take n messages) chances).0.cabinet

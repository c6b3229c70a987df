use Rattle.std.proofs.Common.{subst, ℕ, List}
use Rattle.httparse.specs.Grammar.{HasNoRequest}
use Rattle.http_wire.specs.Messages.{front}
use Rattle.http_wire.proofs.HeadAtFront.{no_head_none}
use Rattle.http_wire.proofs.filling.read_head.Goals as goal

-- bytes that hold a head are settled by the first look
pub returns-in-None-clause-untouched : goal.returns-in-None-clause-untouched
returns-in-None-clause-untouched g c =
    λ holds. absurd (no_head_none _ holds.0 holds.1 holds.2 (subst (λ (l : List ℕ). HasNoRequest (front l)) c.as_slice.ensures.value c.in-None.ensures.unfinished.none))

-- Where two answers are right.
use Rattle.std.specs.Prelude.{◌≡◌, ℕ, ◌⊎◌, List}
use Rattle.httparse.specs.Grammar.{EndsInTarget}
use Rattle.httparse.specs.Spans.{RequestExceeds}
use Rattle.http_wire.specs.Messages.{front, IsHopeless}
use Rattle.http_wire.specs.Streams.{Stand}
use Rattle.http_wire.specs.declared.message.Message.{Message}
use Rattle.http_wire.specs.declared.message.Stop.{Stop}
use Rattle.http_wire.specs.declared.message.Stop.TheVariants.{Truncated, Bad}

-- The other answer may come in place of the proper one. First, bytes with more than 64 header lines that are hopeless, or
-- that end before their head is whole, may be 431. Second, a target that is still open may hide that bytes are hopeless.
abbrev pub MayReplace : List ℕ → Stop → Stop → Type 0
MayReplace bytes proper other =
    (RequestExceeds 64 (front bytes) × (other ≡ Bad 431) × ((proper ≡ Bad 400) ⊎ (proper ≡ Truncated)))
    ⊎ (IsHopeless bytes × EndsInTarget (front bytes) × (proper ≡ Bad 400) × ((other ≡ Truncated) ⊎ (other ≡ Bad 431)))

-- two stops of the same bytes are one, or one of them may replace the other
abbrev pub Agree : List ℕ → Stop → Stop → Type 0
Agree bytes s t = (s ≡ t) ⊎ (MayReplace bytes s t ⊎ MayReplace bytes t s)

-- the same of a stream, after its messages
abbrev pub AgreeAfter : List ℕ → List Message → Stop → Stop → Type 0
AgreeAfter bytes messages s t = (rest : List ℕ) × Stand bytes messages rest × Agree rest s t

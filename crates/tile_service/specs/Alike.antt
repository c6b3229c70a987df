-- Chances that differ only in which bytes renderings gave.
use Rattle.std.specs.Prelude.{ℕ, Option, Some, None}
use Rattle.tile_requests.specs.Requests.{Chance}

-- that a rendering gave bytes, without which
abbrev pub any_bytes : Option (ℕ → ℕ) → Option (ℕ → ℕ)
any_bytes None = None
any_bytes (Some bytes) = Some (λ i. 0)

abbrev pub without_bytes : Chance → Chance
without_bytes c = record { read = c.read; ask = c.ask; moment = c.moment; unread = c.unread; work = c.work; bytes = any_bytes c.bytes; unwritten = c.unwritten; left = c.left }

-- What contracts see of a clock.
use Rattle.std.specs.Prelude.{ℕ}
use Rattle.base.specs.Causes.{risen}

-- how often it was asked, and the moment that it gave last, in seconds
pub record Readings : Type 0 where
  pub count : ℕ
  pub moment : ℕ

-- a clock that was not asked yet
abbrev pub unread : Readings
unread = record { count = 0; moment = 0 }

-- after one more reading, which gave this moment; the count stays at its greatest value
abbrev pub read : ℕ → Readings → Readings
read n r = record { count = risen r.count 1; moment = n }

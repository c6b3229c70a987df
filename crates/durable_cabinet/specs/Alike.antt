-- Cabinets of which the same records can be written.
use Rattle.std.specs.Prelude.{◌≡◌, ◌++◌}
use Rattle.cabinet.specs.Fresh.{cuts_of}
use Rattle.cabinet.specs.History.{History}
use Rattle.cabinet.specs.State.{State, now}

-- the second keeps and lists what the first does, and its history goes on from that of the first without a cut
pub record IsAlikeTo (s t : State) : Type 0 where
  pub catalogue : t.catalogue ≡ s.catalogue
  pub opening : t.opening ≡ s.opening
  pub kept : (now t).kept ≡ (now s).kept
  pub book : (now t).book ≡ (now s).book
  pub cuts : cuts_of t.history ≡ cuts_of s.history
  pub later : (es : History) × (t.since ≡ s.since ++ es)

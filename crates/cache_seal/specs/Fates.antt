-- What becomes of the sum of a tile, and how many tiles come to what.
use Rattle.std.specs.Prelude.{ℕ, ◌≡◌, ◌≢◌, ◌⊎◌, ◌+◌, Bool, false, IsTrue}
use Rattle.cache_seal.specs.declared.counting.Fate.{Fate}
use Rattle.cache_seal.specs.declared.counting.Fate.TheVariants as fate
use Rattle.cache_seal.specs.declared.counting.SealTally.{SealTally}

-- A tile has this sum, and the entry for it was this one and is that one now; 0 stands where no entry was written.
abbrev pub Becomes : Bool → ℕ → ℕ → ℕ → Fate → Type 0
Becomes anew sum old new fate.Sealed = (new ≡ sum) × (old ≢ sum) × ((old ≡ 0) ⊎ IsTrue anew)
Becomes anew sum old new fate.Fitted = (old ≡ sum) × (new ≡ old)
Becomes anew sum old new fate.Unfit = (old ≢ sum) × (old ≢ 0) × (anew ≡ false) × (new ≡ old)
Becomes anew sum old new fate.Unread = new ≡ old

abbrev pub no_tally : SealTally
no_tally = record { tiles = 0; sealed = 0; fitted = 0; unfit = 0; unread = 0 }

-- one tile more
abbrev pub noted : SealTally → Fate → SealTally
noted t fate.Sealed = record { tiles = t.tiles + 1; sealed = t.sealed + 1; fitted = t.fitted; unfit = t.unfit; unread = t.unread }
noted t fate.Fitted = record { tiles = t.tiles + 1; sealed = t.sealed; fitted = t.fitted + 1; unfit = t.unfit; unread = t.unread }
noted t fate.Unfit = record { tiles = t.tiles + 1; sealed = t.sealed; fitted = t.fitted; unfit = t.unfit + 1; unread = t.unread }
noted t fate.Unread = record { tiles = t.tiles + 1; sealed = t.sealed; fitted = t.fitted; unfit = t.unfit; unread = t.unread + 1 }

-- each tile came to one of the four
abbrev pub AddsUp : SealTally → Type 0
AddsUp t = t.sealed + t.fitted + t.unfit + t.unread ≡ t.tiles

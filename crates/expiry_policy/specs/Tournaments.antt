-- A tree of nodes, each with the index of the entry that goes first of the node's own and those of the nodes beneath it. The
-- node 0 stands above all.
use Rattle.std.specs.Prelude.{ℕ, ◌≡◌, ◌≢◌, ◌-◌, ◌/◌, ◌<◌, ◌&&◌, ◌⊎◌, Bool, false, nat_lt, if◌then◌else◌}

-- the node right above
abbrev pub above : ℕ → ℕ
above k = (k - 1) / 2

-- the first node is the second, or stands above it
pub data IsAbove : ℕ → ℕ → Type 0 where
  itself : {k : ℕ} → IsAbove k k
  higher : {k c : ℕ} → 0 < c → IsAbove k (above c) → IsAbove k c

-- x is the winner of the node k: its own entry or the winner of a node right beneath it, and none of these goes before it
pub record Wins (goes : ℕ → ℕ → Bool) (count : ℕ) (winner : ℕ → ℕ) (k x : ℕ) : Type 0 where
  pub within : x < count
  pub own : goes k x ≡ false
  pub beneath : (c : ℕ) → 0 < c → c < count → above c ≡ k → goes (winner c) x ≡ false
  pub from : (x ≡ k) ⊎ ((c : ℕ) × (0 < c) × (c < count) × (above c ≡ k) × (x ≡ winner c))

-- each node has its winner
pub record IsRanked (goes : ℕ → ℕ → Bool) (count : ℕ) (winner : ℕ → ℕ) : Type 0 where
  pub right : (k : ℕ) → k < count → Wins goes count winner k (winner k)

-- each node has its winner, but perhaps this one and those above it
pub record IsRankedBut (goes : ℕ → ℕ → Bool) (count : ℕ) (winner : ℕ → ℕ) (at : ℕ) : Type 0 where
  pub right : (k : ℕ) → k < count → ((at < count) × IsAbove k at) ⊎ Wins goes count winner k (winner k)

-- each node has its winner, but perhaps this one and those above it; and where one of these has another winner than the changed
-- entry, so has the node right above, and that one is right
pub record IsRankedUpTo (goes : ℕ → ℕ → Bool) (count : ℕ) (winner : ℕ → ℕ) (changed at : ℕ) : Type 0 where
  pub but : IsRankedBut goes count winner at
  pub stays : (c : ℕ) → 0 < c → c < count → IsAbove c at → winner c ≢ changed → (winner (above c) ≢ changed) × Wins goes count winner (above c) (winner (above c))

-- of an entry and the winner of a node the one that goes first; the entry where there is no such node
abbrev pub pick : (ℕ → ℕ → Bool) → ℕ → (ℕ → ℕ) → ℕ → ℕ → ℕ
pick goes count winner x c = if nat_lt c count && goes (winner c) x then winner c else x

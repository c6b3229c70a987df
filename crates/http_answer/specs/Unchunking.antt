-- The data of chunks, moved together at the front of the bytes.
use Rattle.std.specs.Prelude.{ℕ, ◌≡◌, ◌≤◌, List, ◌++◌, length, take, drop}
use Rattle.http_answer.specs.Chunks.{AreChunks, IsLastChunk, IsOpen, IsBroken}
use Rattle.http_answer.specs.declared.unchunking.Cursor.{Cursor}
use Rattle.http_answer.specs.declared.unchunking.Unchunked.{Unchunked}
use Rattle.http_answer.specs.declared.unchunking.Unchunked.TheVariants.{Open, Whole, Broken}

-- the next chunk begins behind the data, within so many bytes
pub record IsWithin (count : ℕ) (c : Cursor) : Type 0 where
  pub ordered : c.to ≤ c.at
  pub within : c.at ≤ count

-- whole chunks were taken: their data stand behind those that stood at the front, and what follows the chunks stays
pub record Moves (old : List ℕ) (from : Cursor) (new : List ℕ) (to at : ℕ) : Type 0 where
  pub body : List ℕ
  pub chunks : AreChunks (drop from.at old) body (drop at old)
  pub front : take to new ≡ take from.to old ++ body
  pub behind : drop at new ≡ drop at old
  pub ordered : to ≤ at
  pub within : at ≤ length new
  pub count : length new ≡ length old

-- all whole chunks were taken
abbrev pub Unchunks : List ℕ → Cursor → List ℕ → Unchunked → Type 0
Unchunks old from new (Open c) = Moves old from new c.to c.at × IsOpen (drop c.at old)
Unchunks old from new (Whole to) = (at : ℕ) × (rest : List ℕ) × Moves old from new to at × IsLastChunk (drop at old) rest
Unchunks old from new Broken = (to : ℕ) × (at : ℕ) × Moves old from new to at × IsBroken (drop at old)

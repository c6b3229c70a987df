-- Chunked bodies (RFC 9112, section 7.1), of the lines of chunks and the trailers that `httparse` reads.
use Rattle.std.specs.Prelude.{ℕ, ◌≡◌, ◌+◌, ◌<◌, ◌≤◌, ◌⊎◌, List, [], ◌∷◌, ◌++◌, length, drop, slice_range}
use Rattle.httparse.specs.Grammar.{ChunkLine, ReadsChunkLine, HasNoChunkLine, NeverHasChunkLine, MayBecomeChunkLine, chunk_size, LineEnd, Field, ReadsSection, HasNoSection, MayBecomeSection}
use Rattle.httparse.specs.Spans.{SectionOverflows}
use Rattle.http_answer.specs.declared.chunks.ChunkAt.{ChunkAt}
use Rattle.http_answer.specs.declared.chunks.ChunkAt.TheVariants.{Data, Last, Open, Broken}

-- the text is the line of a chunk of so many bytes, and the rest
pub record BeginsWithLine (text : List ℕ) (size : ℕ) (rest : List ℕ) : Type 0 where
  pub line : ChunkLine
  pub reads : ReadsChunkLine text line rest
  pub size_is : chunk_size line ≡ size

-- the text is a chunk of these data, of which there are some, and the rest; the data end with CR LF (13 and 10)
pub record IsChunk (text body rest : List ℕ) : Type 0 where
  pub line : BeginsWithLine text (length body) (body ++ (13 ∷ (10 ∷ rest)))
  pub some : 0 < length body

-- the text is the last chunk, a trailer of at most 64 fields, and the rest
pub record IsLastChunk (text rest : List ℕ) : Type 0 where
  pub behind : List ℕ
  pub line : BeginsWithLine text 0 behind
  pub fields : List Field
  pub last : LineEnd
  pub trailer : ReadsSection behind fields last rest
  pub few : length fields ≤ 64

-- the text is whole chunks of these data, and the rest
pub data AreChunks : List ℕ → List ℕ → List ℕ → Type 0 where
  none : (text : List ℕ) → AreChunks text [] text
  more : (text body next bodies rest : List ℕ) → IsChunk text body next → AreChunks next bodies rest → AreChunks text (body ++ bodies) rest

-- the text is a chunked body of these data, and the rest
pub record IsChunked (text body rest : List ℕ) : Type 0 where
  pub end : List ℕ
  pub chunks : AreChunks text body end
  pub last : IsLastChunk end rest

-- a chunk has begun, or may begin, that isn't whole yet
abbrev pub IsOpen : List ℕ → Type 0
IsOpen text =
    (HasNoChunkLine text × MayBecomeChunkLine text)
    ⊎ ((size : ℕ) × (rest : List ℕ) × BeginsWithLine text size rest × (0 < size) × (length rest < size + 2))
    ⊎ ((rest : List ℕ) × BeginsWithLine text 0 rest × HasNoSection rest × MayBecomeSection rest)

-- no chunk stands there, whatever follows
abbrev pub IsBroken : List ℕ → Type 0
IsBroken text =
    NeverHasChunkLine text
    ⊎ ((size : ℕ) × (rest : List ℕ) × BeginsWithLine text size rest × (0 < size) × (size + 2 ≤ length rest) × ((body next : List ℕ) → length body ≡ size → ¬ (rest ≡ body ++ (13 ∷ (10 ∷ next)))))
    ⊎ ((rest : List ℕ) × BeginsWithLine text 0 rest × SectionOverflows 64 rest)

-- the line of a chunk of so many bytes stands at a place, and ends at another
pub record IsLineAt (bytes : List ℕ) (at end size : ℕ) : Type 0 where
  pub line : BeginsWithLine (drop at bytes) size (drop end bytes)
  pub ordered : at ≤ end
  pub within : end ≤ length bytes

-- a chunk stands at a place, with its data within these bounds
pub record IsDataAt (bytes : List ℕ) (at start end : ℕ) : Type 0 where
  pub chunk : IsChunk (drop at bytes) (slice_range bytes start end) (drop (end + 2) bytes)
  pub first : at ≤ start
  pub ordered : start ≤ end
  pub within : end + 2 ≤ length bytes

-- what stands at a place where a chunk begins
abbrev pub StandsAt : List ℕ → ℕ → ChunkAt → Type 0
StandsAt bytes at (Data start end) = IsDataAt bytes at start end
StandsAt bytes at (Last end) = IsLastChunk (drop at bytes) (drop end bytes)
StandsAt bytes at Open = IsOpen (drop at bytes)
StandsAt bytes at Broken = IsBroken (drop at bytes)

-- The sum of a part of a blob: a number of 64 bits that goes with these bytes, with the render that they are of, and with their place in its
-- blob.
use Rattle.std.specs.Prelude.{ℕ, zero, suc, ◌+◌, ◌*◌, ◌/◌, ◌%◌, ◌^◌, List, length, bit_xor}
use Rattle.byteorder.specs.Endian.{little_from}

-- an odd number of 64 bits with no pattern in them
abbrev pub multiplier : ℕ
multiplier = 0x9E3779B97F4A7C15

-- a lane that has taken a word: another lane comes of each other word, and of each other lane
unfoldable pub step : ℕ → ℕ → ℕ
step lane word = bit_xor (bit_xor lane word) (bit_xor lane word / 2 ^ 32) * multiplier % 2 ^ 64

-- the eight bytes from a place on, as a number, the lowest first; past the end they are 0
unfoldable pub word : List ℕ → ℕ → ℕ
word bytes at = little_from at 8 bytes

-- a lane that has taken n words of a text, every fourth from word k on
abbrev pub lane : List ℕ → ℕ → ℕ → ℕ → ℕ
lane bytes k first zero = first
lane bytes k first (suc n) = step (lane bytes k first n) (word bytes (32 * n + 8 * k))

-- the lane of every fourth word from word k on, to the end of the text, that begins with a number
abbrev pub ended : List ℕ → ℕ → ℕ → ℕ
ended bytes k number = lane bytes k (step multiplier number) (length bytes / 32 + 1)

-- Four lanes begin with the number of the render, the place in its blob, the length and 0, and in the end each takes the next.
abbrev pub part_sum : ℕ → ℕ → List ℕ → ℕ
part_sum number from bytes = step (step (step (ended bytes 0 number) (ended bytes 1 from)) (ended bytes 2 (length bytes))) (ended bytes 3 0)

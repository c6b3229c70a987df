-- What is written of an answer.
use Rattle.std.specs.Prelude.{ℕ, ◌≤◌, List, [], ◌∷◌, ◌++◌, codes, decimal, flat_map, length, ⊤}
use Rattle.compose_words.specs.declared.reply.CompositionReply.{CompositionReply}
use Rattle.compose_words.specs.declared.reply.CompositionReply.TheVariants as reply

-- a label and the number of a line
unfoldable pub one_number : List ℕ → ℕ → List ℕ
one_number label n = label ++ decimal n ++ codes "\n"

-- and another number behind it
unfoldable pub two_numbers : List ℕ → ℕ → ℕ → List ℕ
two_numbers label n k = label ++ decimal n ++ codes " " ++ decimal k ++ codes "\n"

-- numbers with commas between them
abbrev pub joined : List ℕ → List ℕ
joined [] = []
joined (n ∷ ns) = decimal n ++ flat_map (λ k. codes "," ++ decimal k) ns

-- the line in front of a tile: the number of its line, the numbers of its renders and how many bytes it has
unfoldable pub tile_head : ℕ → List ℕ → ℕ → List ℕ
tile_head n numbers count = codes "tile " ++ decimal n ++ codes " " ++ joined numbers ++ codes " " ++ decimal count ++ codes "\n"

-- a tile, with no line end behind it
abbrev pub tile_text : ℕ → List ℕ → List ℕ → List ℕ
tile_text n numbers bytes = tile_head n numbers (length bytes) ++ bytes

-- the answer to the line of this number
abbrev pub answer_text : ℕ → CompositionReply → List ℕ
answer_text n (reply.Tile tile) = tile_text n tile.numbers.items tile.bytes.items
answer_text n reply.Fault = one_number (codes "fault ") n
answer_text n reply.Spent = one_number (codes "spent ") n
answer_text n (reply.Cut k) = two_numbers (codes "cut ") n k
answer_text n reply.Full = one_number (codes "full ") n

-- a tile has no more parts than a recipe
abbrev pub HasFewParts : CompositionReply → Type 0
HasFewParts (reply.Tile tile) = length tile.numbers.items ≤ 8
HasFewParts reply.Fault = ⊤
HasFewParts reply.Spent = ⊤
HasFewParts (reply.Cut k) = ⊤
HasFewParts reply.Full = ⊤

-- What is written of an answer; `n` is the number of its line.
use Rattle.std.specs.Prelude.{ℕ, ◌+◌, List, [], ◌∷◌, ◌++◌, length, Some, None, codes, decimal}
use Rattle.change_feed.specs.declared.applied.Applied.{Applied}
use Rattle.change_feed.specs.declared.applied.Applied.TheVariants as applied
use Rattle.outbox.specs.declared.posted.Posted.{Posted}
use Rattle.outbox.specs.declared.posted.Posted.TheVariants as posts
use Rattle.twin_events.specs.declared.carried.CarriedPacket.{CarriedPacket}
use Rattle.twin_events.specs.declared.carried.CarriedPacket.TheVariants as arrival
use Rattle.twin_events.specs.declared.got.Got.{Got}
use Rattle.twin_events.specs.declared.got.Got.TheVariants as got
use Rattle.twin_lines.specs.Steps.{TwinAnswer, TwinStep, answered, carried, posted, sent, stopped}

-- a label and a number
unfoldable pub one_number : List ℕ → ℕ → List ℕ
one_number label n = label ++ decimal n

-- a label and two numbers
unfoldable pub two_numbers : List ℕ → ℕ → ℕ → List ℕ
two_numbers label n k = label ++ decimal n ++ codes " " ++ decimal k

-- a label, a number, and a dash for the one that isn't there
unfoldable pub no_number : List ℕ → ℕ → List ℕ
no_number label n = label ++ decimal n ++ codes " -"

-- a text as a line
unfoldable pub line_with : List ℕ → List ℕ
line_with text = text ++ codes "\n"

-- what became of the change of this number
abbrev pub applied_text : ℕ → Applied → List ℕ
applied_text number applied.Repeated = one_number (codes "repeated ") number
applied_text number (applied.Gap k) = two_numbers (codes "gap ") number k
applied_text number (applied.FeedFault None) = no_number (codes "feed fault ") number
applied_text number (applied.FeedFault (Some k)) = two_numbers (codes "feed fault ") number k
applied_text number applied.Spent = one_number (codes "spent ") number
applied_text number applied.Full = one_number (codes "full ") number
applied_text number (applied.DiskFault before after) = one_number (codes "disk fault ") number
applied_text number (applied.Done k) = two_numbers (codes "done ") number k

-- what became of a cover that was posted: the number of its change
abbrev pub posted_text : ℕ → Posted → List ℕ
posted_text n (posts.Done i) = line_with (two_numbers (codes "post ") n i)
posted_text n posts.Full = line_with (one_number (codes "full ") n)
posted_text n (posts.DiskFault before after) = line_with (one_number (codes "disk fault ") n)

-- what became of a change that was taken, and the place of the packet that tells what is seen then
unfoldable pub taken_text : ℕ → ℕ → Applied → ℕ → List ℕ
taken_text n number reply seen = one_number (codes "taken ") n ++ codes " " ++ applied_text number reply ++ codes " " ++ decimal seen ++ codes "\n"

-- what became of a packet that was carried: a change was taken, or it was heard that all changes up to one are seen, as news or not
abbrev pub carried_text : ℕ → CarriedPacket → List ℕ
carried_text n (arrival.Taken number reply seen) = taken_text n number reply seen
carried_text n (arrival.Heard i) = line_with (two_numbers (codes "heard ") n i)
carried_text n arrival.Ignored = line_with (one_number (codes "ignored ") n)

-- the number of a tile, and how many bytes it has, in a line, and the tile behind it
unfoldable pub tile_lines : ℕ → ℕ → List ℕ → List ℕ
tile_lines n k bytes = two_numbers (codes "tile ") n k ++ codes " " ++ decimal (length bytes) ++ codes "\n" ++ bytes

abbrev pub got_text : ℕ → Got → List ℕ
got_text n (got.Tile tile) = tile_lines n tile.number tile.bytes
got_text n got.SourceFault = line_with (one_number (codes "fault ") n)
got_text n got.Spent = line_with (one_number (codes "spent ") n)

abbrev pub answer_text : ℕ → TwinAnswer → List ℕ
answer_text n (posted cover reply) = posted_text n reply
answer_text n (sent (Some place)) = line_with (two_numbers (codes "sent ") n place)
answer_text n (sent None) = line_with (one_number (codes "nothing ") n)
answer_text n (carried place arrival) = carried_text n arrival
answer_text n (stopped side) = line_with (one_number (codes "stopped ") n)
answer_text n (answered address reply) = got_text n reply

-- those of steps, of which the first is of this line, and each of the line behind the one before
abbrev pub answers_from : ℕ → List TwinStep → List ℕ
answers_from n [] = []
answers_from n (step ∷ steps) = answer_text n step.answer ++ answers_from (n + 1) steps

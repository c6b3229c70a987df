-- What the words of a feed write.
use Rattle.std.specs.Prelude.{ℕ, List, ◌++◌, Some, None, codes, decimal}
use Rattle.change_feed.specs.declared.applied.Applied.{Applied}
use Rattle.change_feed.specs.declared.applied.Applied.TheVariants as applied

-- a file of marks was made
abbrev pub made_text : List ℕ
made_text = codes "made\n"

-- a label and the number of a change
unfoldable pub one_number : List ℕ → ℕ → List ℕ
one_number label n = label ++ decimal n ++ codes "\n"

-- and another number behind it
unfoldable pub two_numbers : List ℕ → ℕ → ℕ → List ℕ
two_numbers label n k = label ++ decimal n ++ codes " " ++ decimal k ++ codes "\n"

-- and no other number, which is told by a dash
unfoldable pub no_number : List ℕ → ℕ → List ℕ
no_number label n = label ++ decimal n ++ codes " -\n"

-- what became of the change of this number
abbrev pub answer_text : ℕ → Applied → List ℕ
answer_text n applied.Repeated = one_number (codes "repeated ") n
answer_text n (applied.Gap k) = two_numbers (codes "gap ") n k
answer_text n (applied.FeedFault None) = no_number (codes "feed fault ") n
answer_text n (applied.FeedFault (Some k)) = two_numbers (codes "feed fault ") n k
answer_text n applied.Spent = one_number (codes "spent ") n
answer_text n applied.Full = one_number (codes "full ") n
answer_text n (applied.DiskFault before after) = one_number (codes "disk fault ") n
answer_text n (applied.Done k) = two_numbers (codes "done ") n k

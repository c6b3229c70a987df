-- What a seat of a sheet's table knows, and the three words of the table.
use Rattle.std.specs.Prelude.{◌≡◌, ℕ, ◌+◌, ◌*◌, ◌^◌, ◌<◌, ◌≤◌, ◌⊎◌, Bool, true, false, List, [], ◌∷◌, Some, None}
use Rattle.job_board.specs.declared.standing.SheetStanding.{SheetStanding}
use Rattle.job_board.specs.declared.view.SheetSize.{SheetSize}
use Rattle.job_board.specs.declared.view.SeatView.{SeatView}
use Rattle.job_board.specs.Standings.{claimed_count, done_count, failed_count, unkept_count, vain_count}
use Rattle.job_board.specs.Hands.{fresh_standing}

-- THE WORDS

-- the mark of a cancelled job in the claim word, above every count
abbrev pub mark_of : Bool → ℕ
mark_of true = 2 ^ 63
mark_of false = 0

-- the claim word counts each claim, those that met None too
abbrev pub claim_word : SheetStanding → ℕ
claim_word s = claimed_count s + vain_count s + mark_of s.cancelled

-- one word counts the places done, and above them those of these that are not kept
abbrev pub done_word : SheetStanding → ℕ
done_word s = done_count s + 2 ^ 32 * unkept_count s

abbrev pub words_of : SheetStanding → List ℕ
words_of s = claim_word s ∷ done_word s ∷ failed_count s ∷ []

-- THE VIEWS

-- the numbers that a view answers for: a hand for its own, and the first seat for those that it hasn't dealt out
abbrev pub Owns : SeatView → ℕ → Type 0
Owns v number = (v.number ≡ Some number) ⊎ ((v.dealt ≤ number) × (number < v.hands))

-- the first seat of a new table, with so many hands dealt out
abbrev pub dealer : SheetSize → ℕ → SeatView
dealer size dealt = record { live = true; places = size.places; hands = size.hands; number = None; dealt = dealt; seen = fresh_standing size.hands; heard = fresh_standing size.hands }

-- the first seat after it dealt out one more hand, and that hand
abbrev pub one_less : SeatView → SeatView
one_less v = record v { dealt = v.dealt + 1 }

abbrev pub dealt_to : SeatView → SeatView
dealt_to v = record v { number = Some v.dealt; dealt = v.hands }

-- a copy of what a view knows, for another one to hear
abbrev pub note_of : SeatView → SeatView
note_of v = record v { number = None; dealt = v.hands }

-- v hears what w knows
abbrev pub hearing : SeatView → SeatView → SeatView
hearing v w = record v { heard = w.seen }

-- a seat that was joined into another one
abbrev pub spent : SeatView
spent = record { live = false; places = 0; hands = 0; number = None; dealt = 0; seen = fresh_standing 0; heard = fresh_standing 0 }

-- the view after a step that left this standing
abbrev pub seeing_now : SeatView → SheetStanding → SeatView
seeing_now v s = record v { seen = s; heard = s }

-- Stops of a board's jobs, one turn each, and what they find.
use Rattle.std.proofs.Common.{arith, ℕ, zero, suc, ◌≡◌, ◌≢◌, ◌<◌, ◌≤◌, ◌+◌, ◌-◌, ◌∙◌, Bool, true, false, if◌then◌else◌, List, [], ◌∷◌, ◌++◌, length, length-append, Some, None, refl, sym, ap, subst}
use Rattle.std.proofs.lemmas.List.Elements.{Contains-append_left, Contains-append_right, Contains-push}
use Rattle.std.specs.List.{Contains}
use Rattle.std.specs.Prelude.{slice_get}
use Rattle.job_board.specs.declared.shown.BoardCommand.{BoardCommand}
use Rattle.job_board.specs.declared.shown.BoardCommand.TheVariants as command
use Rattle.job_board.specs.declared.shown.BoardNote.{BoardNote}
use Rattle.job_board.specs.declared.shown.BoardReply.TheVariants as reply
use Rattle.job_board.specs.declared.shown.BoardShown.{BoardShown}
use Rattle.job_board.specs.Boards.{BoardMayReply, Stops, book_of}
use Rattle.job_board.specs.Calls.{BoardHolding, IsBoardTurn, MakesOne}
use Rattle.job_board.proofs.Watches.{not_zero}
use Rattle.seed_jobs.specs.Turns.{AreBoardTurns}
use Rattle.seed_jobs.proofs.History.{made_none, made_one, made_too, turn_knows}
use Rattle.job_board.specs.Hands.{SheetHolding}
use Rattle.truncation_list.specs.declared.book.FrontedBook.{FrontedBook}
use Rattle.turnstile.specs.declared.view.Made.{Made}
use Rattle.server_workers.specs.Cancelled.{HasStoppedTo, IsCancel, StopFrom}

-- ONE MORE

pub stopped_none : (p : BoardHolding) → HasStoppedTo 0 p p
stopped_none p = record { turns = []; makes = made_none p; each = tt; count = refl }

stop_too : (k : ℕ) (ms : List (Made BoardNote)) (m : Made BoardNote) → StopFrom k ms → m.note.command ≡ command.Stop (k + length ms) → StopFrom k (ms ++ m ∷ [])
stop_too k [] m are does =
    let same : k + 0 ≡ k = omega arith in
    (does ∙ ap command.Stop same, tt)
stop_too k (x ∷ xs) m are does =
    let same : k + length (x ∷ xs) ≡ (k + 1) + length xs = omega arith in
    (are.0, stop_too (k + 1) xs m are.1 (does ∙ ap command.Stop same))

pub stopped_too : (n number : ℕ) (before mid after : BoardHolding) (is : Bool) → number ≡ n + 1 → HasStoppedTo n before mid → MakesOne mid after (command.Stop number) (reply.Stop is) → HasStoppedTo (n + 1) before after
stopped_too n number before mid after is next had one =
    let count = had.count in
    let same : number ≡ 1 + length had.turns = omega (arith, next, count) in
    record {
      turns = had.turns ++ one.turn ∷ [];
      makes = made_too before mid after had.turns (one.turn ∷ []) had.makes (made_one mid after one.turn one.is one.may);
      each = stop_too 1 had.turns one.turn had.each (one.command_is ∙ ap command.Stop same);
      count = omega (arith, count, length-append had.turns (one.turn ∷ []));
    }

-- WHAT THEY FIND

none_some : {X : Type 0} {x : X} → None ≡ Some x → ⊥
none_some e = cc

watch_there : (ws : List SheetHolding) (i : ℕ) → i < length ws → (w : SheetHolding) × (slice_get ws i ≡ Some w)
watch_there [] i within = absurd (omega (arith, within))
watch_there (w ∷ ws) zero within = (w, refl)
watch_there (w ∷ ws) (suc i) within = watch_there ws i (omega (arith, within))

is_there : (b a : BoardShown) (n : ℕ) (is : Bool) → Stops b n is a → 1 ≤ n → n ≤ length b.watches → is ≡ true
is_there b a n true row least most = refl
is_there b a n false row least most =
    let above : n ≢ 0 = λ e. absurd (omega (arith, e, least)) in
    let some = watch_there b.watches (n - 1) (omega (arith, least, most)) in
    absurd (none_some (sym row.0 ∙ ap (λ (t : Bool). if t then None else slice_get b.watches (n - 1)) (not_zero n above) ∙ some.1))

-- a stop finds a job of a number that was known to be one
stop_finds : (seen : FrontedBook) (m : Made BoardNote) (n : ℕ) → IsBoardTurn seen m → m.note.command ≡ command.Stop n → 1 ≤ n → n ≤ seen.front → m.note.reply ≡ reply.Stop true
stop_finds seen m n turn does least known =
    let b = m.note.before in
    let a = m.note.after in
    let may : BoardMayReply b (command.Stop n) m.note.reply a = subst (λ (d : BoardCommand). BoardMayReply b d m.note.reply a) does turn.reply in
    let found : m.found.front ≡ length b.watches = ap (λ (f : FrontedBook). f.front) turn.found in
    let front = turn.answers.front in
    may.1 ∙ ap reply.Stop (is_there b a n may.0 may.2 least (omega (arith, known, found, front)))

further : (n : ℕ) (x : Made BoardNote) (xs : List (Made BoardNote)) → ((m : Made BoardNote) × Contains xs m × IsCancel n m) → (m : Made BoardNote) × Contains (x ∷ xs) m × IsCancel n m
further n x xs h = (h.0, Contains-append_right (x ∷ []) xs h.0 h.1, h.2)

-- of turns that stop the jobs from one number on, one cancels the job of a number that was known before them
pub stop_of : (n k d : ℕ) (ms : List (Made BoardNote)) (seen left : FrontedBook) → n ≡ k + d → StopFrom k ms → AreBoardTurns seen ms left → d < length ms → 1 ≤ n → n ≤ seen.front → (m : Made BoardNote) × Contains ms m × IsCancel n m
stop_of n k d [] seen left e are turns within least known = absurd (omega (arith, within))
stop_of n k zero (x ∷ xs) seen left e are turns within least known =
    let same : k ≡ n = omega (arith, e) in
    let does : x.note.command ≡ command.Stop n = are.0 ∙ ap command.Stop same in
    (x, Contains-append_left (x ∷ []) xs x (Contains-push [] x), record { does = does; finds = stop_finds seen x n turns.0 does least known })
stop_of n k (suc d) (x ∷ xs) seen left e are turns within least known =
    let front = (turn_knows seen x turns.0).front in
    further n x xs (stop_of n (k + 1) d xs (book_of x.note.after) left (omega (arith, e)) are.1 turns.1 (omega (arith, within)) least (omega (arith, known, front)))

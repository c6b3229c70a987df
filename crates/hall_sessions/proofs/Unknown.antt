-- A job that a turn at the board found is found by each later one.
use Rattle.std.proofs.Common.{ℕ, ◌≡◌, ◌≤◌, ◌-◌, ◌==◌, Bool, true, false, if◌then◌else◌, List, length, length-set, Option, Some, None, ap, subst, ◌∙◌, arith}
use Rattle.std.proofs.lemmas.Option.{slice_get-get_or, slice_get_within}
use Rattle.std.specs.Prelude.{slice_get}
use Rattle.job_board.specs.Boards.{BoardMayReply, IsStopped, Looks, Stops, watch_of}
use Rattle.job_board.specs.Calls.{BoardHolding, MakesOne}
use Rattle.job_board.specs.declared.shown.BoardCommand.{BoardCommand}
use Rattle.job_board.specs.declared.shown.BoardCommand.TheVariants as command
use Rattle.job_board.specs.declared.shown.BoardReply.{BoardReply}
use Rattle.job_board.specs.declared.shown.BoardReply.TheVariants as reply
use Rattle.job_board.specs.declared.shown.BoardShown.{BoardShown}
use Rattle.job_board.specs.declared.status.JobStatus.{JobStatus}
use Rattle.job_board.specs.Hands.{SheetHolding}
use Rattle.truncation_list.specs.declared.book.FrontedBook.{FrontedBook}

same_stop : (x y : Bool) → reply.Stop x ≡ reply.Stop y → y ≡ x
same_stop x y e = cc

same_look : (x y : Option JobStatus) → reply.Look x ≡ reply.Look y → y ≡ x
same_look x y e = cc

-- WHAT THE REPLIES SAY

stopped_by : (b a : BoardShown) (n : ℕ) (does : BoardCommand) (r : BoardReply) → does ≡ command.Stop n → r ≡ reply.Stop true → BoardMayReply b does r a → IsStopped b n a
stopped_by b a n does r is so may =
    let h : BoardMayReply b (command.Stop n) (reply.Stop true) a = subst (λ (z : BoardReply). BoardMayReply b (command.Stop n) z a) so (subst (λ (d : BoardCommand). BoardMayReply b d r a) is may) in
    subst (λ (x : Bool). Stops b n x a) (same_stop true h.0 h.1) h.2

unseen_by : (b a : BoardShown) (n : ℕ) (does : BoardCommand) (r : BoardReply) → does ≡ command.Look n → r ≡ reply.Look None → BoardMayReply b does r a → watch_of b n ≡ None
unseen_by b a n does r is so may =
    let h : BoardMayReply b (command.Look n) (reply.Look None) a = subst (λ (z : BoardReply). BoardMayReply b (command.Look n) z a) so (subst (λ (d : BoardCommand). BoardMayReply b d r a) is may) in
    let row : Looks b n None a = subst (λ (x : Option JobStatus). Looks b n x a) (same_look None h.0 h.1) h.2 in
    row.0

-- HOW MANY JOBS THERE ARE

-- where there are no fewer jobs, a number that had one has one
has_one : (ws vs : List SheetHolding) (at : ℕ) (w : SheetHolding) (is_zero : Bool) → length ws ≤ length vs → (if is_zero then None else slice_get ws at) ≡ Some w → (if is_zero then None else slice_get vs at) ≡ None → ⊥
has_one ws vs at w true more some none = absurd (cc)
has_one ws vs at w false more some none =
    let within = slice_get_within ws at w some in
    let there = slice_get-get_or vs at w (omega (arith, within, more)) in
    absurd (cc)

-- a look that follows a stop which found the job finds it
pub found_again : (before between after : BoardHolding) (n : ℕ) → MakesOne before between (command.Stop n) (reply.Stop true) → MakesOne between after (command.Look n) (reply.Look None) → ⊥
found_again before between after n stop look =
    let s = stopped_by stop.turn.note.before stop.turn.note.after n stop.turn.note.command stop.turn.note.reply stop.command_is stop.reply_is stop.may.reply in
    let none = unseen_by look.turn.note.before look.turn.note.after n look.turn.note.command look.turn.note.reply look.command_is look.reply_is look.may.reply in
    let as_many : length stop.turn.note.after.watches ≡ length stop.turn.note.before.watches = ap (λ (b : BoardShown). length b.watches) s.is ∙ length-set stop.turn.note.before.watches (n - 1) s.left in
    let seen : between.book.front ≡ length stop.turn.note.after.watches = ap (λ (p : BoardHolding). p.book.front) stop.is in
    let found : look.turn.found.front ≡ length look.turn.note.before.watches = ap (λ (f : FrontedBook). f.front) look.may.found in
    let no_fewer = look.may.answers.front in
    has_one stop.turn.note.before.watches look.turn.note.before.watches (n - 1) s.watch (n == 0) (omega (arith, as_many, seen, found, no_fewer)) s.of_job none

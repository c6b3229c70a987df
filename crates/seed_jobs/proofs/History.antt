-- One more look at the board, and what it brought about.
use Rattle.std.proofs.Common.{arith, ℕ, ◌≡◌, ◌≢◌, ◌≤◌, ◌-◌, ◌∙◌, inl, inr, Bool, true, false, if◌then◌else◌, List, [], ◌∷◌, ◌++◌, length, length-append, length-set, Option, Some, None, refl, sym, ap, subst}
use Rattle.std.specs.Prelude.{slice_get}
use Rattle.std.proofs.lemmas.List.{append-nil, append_assoc}
use Rattle.std.proofs.lemmas.Option.{none-some, slice_get-get_or}
use Rattle.catalog.specs.declared.catalogue.Catalogue.{Catalogue}
use Rattle.job_board.specs.declared.status.JobStatus.{JobStatus}
use Rattle.job_board.specs.SheetCalls.{HasEnded}
use Rattle.job_board.specs.Hands.{Sheet, SheetHolding}
use Rattle.seed_jobs.specs.Crews.{SeesEnd, total_of}
use Rattle.truncation_list.specs.declared.book.FrontedBook.{FrontedBook}
use Rattle.truncation_list.specs.Books.{AnswersForFronted}
use Rattle.truncation_list.proofs.Answering.{fronted_itself, fronted_through}
use Rattle.turnstile.specs.declared.view.Made.{Made}
use Rattle.turnstile.specs.Passes.{seen_by}
use Rattle.job_board.specs.declared.posted.Posted.{Posted}
use Rattle.job_board.specs.declared.posted.WatchedJob.{WatchedJob}
use Rattle.job_board.specs.declared.shown.BoardCommand.{BoardCommand}
use Rattle.job_board.specs.declared.shown.BoardCommand.TheVariants as command
use Rattle.job_board.specs.declared.shown.BoardNote.{BoardNote}
use Rattle.job_board.specs.declared.shown.BoardReply.{BoardReply}
use Rattle.job_board.specs.declared.shown.BoardReply.TheVariants as reply
use Rattle.job_board.specs.declared.shown.BoardShown.{BoardShown}
use Rattle.job_board.specs.Boards.{BoardMayReply, Finishes, HasNumber, Looks, Stops, Submits, TakesNext, book_of}
use Rattle.job_board.specs.Calls.{BoardHolding, IsBoardTurn, MakesOne}
use Rattle.job_board.proofs.Watches.{not_zero}
use Rattle.seed_jobs.specs.Idles.{Idle, Standby}
use Rattle.seed_jobs.specs.Runs.{AreRun, DoesAfter, HasRunJobs, HasRunOut, IsJobRunByCrew, IsRunnable, Round, RunsAll, RunsNext, turns_of}
use Rattle.seed_jobs.specs.Turns.{AreBoardTurns, MakesTurns}

-- TURNS, one after the other

chained : (ts us : List (Made BoardNote)) (seen mid left : FrontedBook) → AreBoardTurns seen ts mid → AreBoardTurns mid us left → AreBoardTurns seen (ts ++ us) left
chained [] us seen mid left h more = subst (λ (b : FrontedBook). AreBoardTurns b us left) h more
chained (t ∷ ts) us seen mid left h more = (h.0, chained ts us (book_of t.note.after) mid left h.1 more)

abbrev as_pass : BoardHolding → FrontedBook → List (Made BoardNote) → BoardHolding
as_pass p book made = record { table = p.table; charter = p.charter; told = p.told; book = book; made = made }

pub made_too : (before mid after : BoardHolding) (ts us : List (Made BoardNote)) → MakesTurns before mid ts → MakesTurns mid after us → MakesTurns before after (ts ++ us)
made_too before mid after ts us had more = record {
  is = more.is ∙ ap (λ (p : BoardHolding). seen_by p after.book us) had.is ∙ ap (λ (made : List (Made BoardNote)). as_pass before after.book made) (append_assoc before.made ts us);
  are_turns = chained ts us before.book mid.book after.book had.are_turns more.are_turns;
}

pub made_none : (p : BoardHolding) → MakesTurns p p []
made_none p = record { is = ap (as_pass p p.book) (sym (append-nil p.made)); are_turns = refl }

pub made_one : (before after : BoardHolding) (m : Made BoardNote) → after ≡ seen_by before (book_of m.note.after) (m ∷ []) → IsBoardTurn before.book m → MakesTurns before after (m ∷ [])
made_one before after m is may =
    let there : after.book ≡ book_of m.note.after = ap (λ (p : BoardHolding). p.book) is in
    record { is = is ∙ ap (λ (b : FrontedBook). seen_by before b (m ∷ [])) (sym there); are_turns = (may, there) }

-- ROUNDS

turns_more : (rs : List Round) (r : Round) → turns_of (rs ++ r ∷ []) ≡ turns_of rs ++ (r.look ∷ r.ending)
turns_more [] r = append-nil (r.look ∷ r.ending)
turns_more (x ∷ rs) r = ap (λ ts. (x.look ∷ x.ending) ++ ts) (turns_more rs r) ∙ sym (append_assoc (x.look ∷ x.ending) (turns_of rs) (r.look ∷ r.ending))

run_too : (c : Catalogue) (rs : List Round) (r : Round) (before mid after : List Idle) → AreRun c rs before mid → DoesAfter c r.look.note.reply r.ending mid after → AreRun c (rs ++ r ∷ []) before after
run_too c [] r before mid after h does = (after, subst (λ (is : List Idle). DoesAfter c r.look.note.reply r.ending is after) h does, refl)
run_too c (x ∷ rs) r before mid after h does = (h.0, h.1, run_too c rs r h.0 mid after h.2 does)

-- nothing has happened yet
pub at_first : (c : Catalogue) (s : Standby) → HasRunJobs c s s
at_first c s = record { rounds = []; makes = made_none s.board; are_run = refl }

pub one_more : (c : Catalogue) (before mid after : Standby) (is_run : Bool) → HasRunJobs c before mid → RunsNext c mid after is_run → HasRunJobs c before after
one_more c before mid after is_run had next =
    record {
      rounds = had.rounds ++ next.round ∷ [];
      makes = subst (MakesTurns before.board after.board) (sym (turns_more had.rounds next.round)) (made_too before.board mid.board after.board (turns_of had.rounds) (next.round.look ∷ next.round.ending) had.makes next.makes);
      are_run = run_too c had.rounds next.round before.idle mid.idle after.idle had.are_run next.does;
    }

true_apart : {A : Type 0} → true ≡ false → A
true_apart e = cc

-- a turn that posted a job, and what became of it
pub some_next : (c : Catalogue) (before after : Standby) (between : BoardHolding) (p : Posted) (found : Option Posted) → found ≡ Some p → MakesOne before.board between command.Next (reply.Next found) → HasRunOut c p between after.board before.idle after.idle → RunsNext c before after true
some_next c before after between p found is one out =
    record {
      round = record { look = one.turn; ending = out.ending };
      makes = made_too before.board between after.board (one.turn ∷ []) out.ending (made_one before.board between one.turn one.is one.may) out.makes;
      does = subst (λ (r : BoardReply). DoesAfter c r out.ending before.idle after.idle) (sym (one.reply_is ∙ ap reply.Next is)) out.runs;
      none = true_apart;
    }

-- a turn that found none
pub none_next : (c : Catalogue) (before after : Standby) (found : Option Posted) → found ≡ None → MakesOne before.board after.board command.Next (reply.Next found) → after.idle ≡ before.idle → RunsNext c before after false
none_next c before after found is one same =
    record {
      round = record { look = one.turn; ending = [] };
      makes = made_one before.board after.board one.turn one.is one.may;
      does = subst (λ (r : BoardReply). DoesAfter c r [] before.idle after.idle) (sym (one.reply_is ∙ ap reply.Next is)) (refl, same);
      none = λ _. one.reply_is ∙ ap reply.Next is;
    }

-- WHAT THE RUNNER KNOWS OF THE BOARD

-- no turn takes a job from the list of all
no_fewer : (b a : BoardShown) (does : BoardCommand) (r : BoardReply) → BoardMayReply b does r a → length b.watches ≤ length a.watches
no_fewer b a (command.Submit job places) r may = submitted_more may.0 may.2
  where
    submitted_more : (n : Option ℕ) → Submits b job places n a → length b.watches ≤ length a.watches
    submitted_more None row = omega (arith, ap (λ (x : BoardShown). length x.watches) row.1)
    submitted_more (Some k) row = omega (arith, ap (λ (x : BoardShown). length x.watches) row.3.3, length-append b.watches (row.3.1 ∷ []))
no_fewer b a command.Next r may = taken may.0 may.2
  where
    taken : (p : Option Posted) → TakesNext b p a → length b.watches ≤ length a.watches
    taken None row = omega (arith, ap (λ (x : BoardShown). length x.watches) row.1)
    taken (Some p) row = omega (arith, ap (λ (x : BoardShown). length x.watches) row.1)
no_fewer b a (command.Look n) r may = looked may.0 may.2
  where
    looked : (p : Option JobStatus) → Looks b n p a → length b.watches ≤ length a.watches
    looked None row = omega (arith, ap (λ (x : BoardShown). length x.watches) row.1)
    looked (Some p) row = omega (arith, ap (λ (x : BoardShown). length x.watches) row.is, length-set b.watches (n - 1) row.left)
no_fewer b a (command.Stop n) r may = stopped may.0 may.2
  where
    stopped : (is : Bool) → Stops b n is a → length b.watches ≤ length a.watches
    stopped false row = omega (arith, ap (λ (x : BoardShown). length x.watches) row.1)
    stopped true row = omega (arith, ap (λ (x : BoardShown). length x.watches) row.is, length-set b.watches (n - 1) row.left)
no_fewer b a (command.Finish n job) r may = finished may.0 may.2
  where
    finished : (is : Bool) → Finishes b n job.watch is a → length b.watches ≤ length a.watches
    finished false row = omega (arith, ap (λ (x : BoardShown). length x.watches) row.1)
    finished true row = omega (arith, ap (λ (x : BoardShown). length x.watches) row.is, length-set b.watches (n - 1) row.left)

grown : (b a : BoardShown) → length b.watches ≤ length a.watches → AnswersForFronted (book_of a) (book_of b)
grown b a more = record { book = record { floor = more; cuts = λ k d within. absurd (omega (arith, within)) }; front = more }

-- after a turn it knows of all jobs of which it knew
pub turn_knows : (seen : FrontedBook) (m : Made BoardNote) → IsBoardTurn seen m → AnswersForFronted (book_of m.note.after) seen
turn_knows seen m is =
    fronted_through (book_of m.note.after) (book_of m.note.before) seen (grown m.note.before m.note.after (no_fewer m.note.before m.note.after m.note.command m.note.reply is.reply))
    (subst (λ (b : FrontedBook). AnswersForFronted b seen) is.found is.answers)

pub all_known : (seen : FrontedBook) (turns : List (Made BoardNote)) (left : FrontedBook) → AreBoardTurns seen turns left → AnswersForFronted left seen
all_known seen [] left same = subst (λ (b : FrontedBook). AnswersForFronted b seen) (sym same) (fronted_itself seen)
all_known seen (t ∷ ts) left are = fronted_through left (book_of t.note.after) seen (all_known (book_of t.note.after) ts left are.1) (turn_knows seen t are.0)

no_ending : (c : Catalogue) (r : BoardReply) (ending : List (Made BoardNote)) (before after : List Idle) → r ≡ reply.Next None → DoesAfter c r ending before after → ending ≡ []
no_ending c r ending before after is does =
    let h : (ending ≡ []) × (after ≡ before) = subst (λ (x : BoardReply). DoesAfter c x ending before after) is does in
    h.0

pub all_run : (c : Catalogue) (before mid after : Standby) (is_run : Bool) → is_run ≡ false → HasRunJobs c before mid → RunsNext c mid after is_run → RunsAll c before after
unfolding one_more
all_run c before mid after is_run isnt had next =
    let none = next.none isnt in
    let look = next.round.look in
    record {
      has_run = one_more c before mid after is_run had next;
      but_last = had.rounds;
      last_look = look;
      rounds_are = ap (λ (ts : List (Made BoardNote)). had.rounds ++ (record { look = look; ending = ts }) ∷ []) (no_ending c look.note.reply next.round.ending mid.idle after.idle none next.does);
      found_none = none;
      found = fronted_through look.found mid.board.book before.board.book next.makes.are_turns.0.answers (all_known before.board.book (turns_of had.rounds) mid.board.book had.makes.are_turns);
    }

-- THE END OF A JOB

-- who has taken a job knows that its number is one of so many
pub numbered : (before after : BoardHolding) (p : Posted) (found : Option Posted) → found ≡ Some p → MakesOne before after command.Next (reply.Next found) → HasNumber after.book.front p
numbered before after p found is one =
    let b = one.turn.note.before in
    let a = one.turn.note.after in
    let does = one.command_is in
    let so = one.reply_is ∙ ap reply.Next is in
    let h : BoardMayReply b command.Next (reply.Next (Some p)) a = subst (λ (z : BoardReply). BoardMayReply b command.Next z a) so (subst (λ (d : BoardCommand). BoardMayReply b d one.turn.note.reply a) does one.may.reply) in
    let row : TakesNext b (Some p) a = subst (λ (x : Option Posted). TakesNext b x a) (same_next (Some p) h.0 h.1) h.2 in
    let front : after.book.front ≡ length a.watches = ap (λ (q : BoardHolding). q.book.front) one.is in
    let same : length b.watches ≡ length a.watches = ap (λ (x : BoardShown). length x.watches) row.1 in
    let most = row.0.most in
    record { least = row.0.least; most = omega (arith, front, same, most) }
  where
    same_next : (x y : Option Posted) → reply.Next x ≡ reply.Next y → y ≡ x
    same_next x y e = cc

-- a finish finds a job of a number that was known to be one
finds_it : (before after : BoardHolding) (p : Posted) (job : WatchedJob) (is : Bool) → HasNumber before.book.front p → MakesOne before after (command.Finish p.number job) (reply.Finish is) → is ≡ true
finds_it before after p job true numbers one = refl
finds_it before after p job false numbers one =
    let b = one.turn.note.before in
    let a = one.turn.note.after in
    let h : BoardMayReply b (command.Finish p.number job) (reply.Finish false) a = subst (λ (z : BoardReply). BoardMayReply b (command.Finish p.number job) z a) one.reply_is (subst (λ (d : BoardCommand). BoardMayReply b d one.turn.note.reply a) one.command_is one.may.reply) in
    let row : Finishes b p.number job.watch false a = subst (λ (x : Bool). Finishes b p.number job.watch x a) (same_finish false h.0 h.1) h.2 in
    let found : one.turn.found.front ≡ length b.watches = ap (λ (f : FrontedBook). f.front) one.may.found in
    let least = numbers.least in
    let most = numbers.most in
    let known = one.may.answers.front in
    let some = slice_get-get_or b.watches (p.number - 1) job.watch (omega (arith, least, most, found, known)) in
    let above : p.number ≢ 0 = λ e. absurd (omega (arith, e, least)) in
    absurd (none-some _ (sym row.0 ∙ ap (λ (t : Bool). if t then None else slice_get b.watches (p.number - 1)) (not_zero p.number above) ∙ some))
  where
    same_finish : (x y : Bool) → reply.Finish x ≡ reply.Finish y → y ≡ x
    same_finish x y e = cc

-- the job that was run, and the turn that told the board of its end
pub run_out : (c : Catalogue) (p : Posted) (before after : BoardHolding) (idle_before idle_after : List Idle) (job : WatchedJob) (is : Bool) (sheet : Sheet) → sheet ≡ p.sheet.value
    → ((r : IsJobRunByCrew c p.job sheet p.hands.items idle_before idle_after) × SeesEnd sheet (total_of r.tallies).done (total_of r.tallies).failed (total_of r.tallies).unkept job.watch) → HasNumber before.book.front p → MakesOne before after (command.Finish p.number job) (reply.Finish is) → HasRunOut c p before after idle_before idle_after
run_out c p before after idle_before idle_after job is sheet same run numbers one =
    let there : (r : IsJobRunByCrew c p.job p.sheet.value p.hands.items idle_before idle_after) × SeesEnd p.sheet.value (total_of r.tallies).done (total_of r.tallies).failed (total_of r.tallies).unkept job.watch =
    subst (λ (s : Sheet). (r : IsJobRunByCrew c p.job s p.hands.items idle_before idle_after) × SeesEnd s (total_of r.tallies).done (total_of r.tallies).failed (total_of r.tallies).unkept job.watch) same run in
    let r = there.0 in
    let sees = there.1 in
    let total = total_of r.tallies in
    let found : one.turn.note.reply ≡ reply.Finish true = one.reply_is ∙ ap reply.Finish (finds_it before after p job is numbers one) in
    let of_sheet : job.watch.sheet ≡ p.sheet.value = ap (λ (h : SheetHolding). h.sheet) sees.is in
    let ended : HasEnded job.watch.sheet.hands job.watch.seen total.done total.failed total.unkept = subst (λ (s : Sheet). HasEnded s.hands job.watch.seen total.done total.failed total.unkept) (sym of_sheet) sees.ended in
    let over = one.may.over in
    record {
      ending = one.turn ∷ [];
      makes = made_one before after one.turn one.is one.may;
      runs = inl (r, one.turn, refl, record { job = job; does = one.command_is; sees = sees; found = found; over = over.ends p.number total.done total.failed total.unkept job one.command_is found ended });
    }

-- a job that was left
pub left_out : (c : Catalogue) (p : Posted) (b : BoardHolding) (idle : List Idle) → ¬ (IsRunnable c p) → HasRunOut c p b b idle idle
left_out c p b idle isnt = record { ending = []; makes = made_none b; runs = inr (isnt, refl, refl) }

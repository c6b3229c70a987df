-- A job that is over: what each turn makes of it.
use Rattle.std.proofs.Common.{arith, ℕ, zero, suc, ◌≡◌, ◌≢◌, ◌+◌, ◌-◌, ◌<◌, ◌==◌, Bool, true, false, if◌then◌else◌, List, [], ◌∷◌, ◌++◌, length, Option, Some, None, slice_set, sym, refl, ap, subst, ◌∙◌}
use Rattle.std.specs.Prelude.{slice_get}
use Rattle.std.proofs.lemmas.Option.{same_Some, slice_get_within}
use mathlib.Core.Logic.{dite}
use native.Mathlib.Decide.{ℕ_discrete}
use Rattle.job_board.specs.declared.status.JobStatus.{JobStatus}
use Rattle.job_board.specs.SheetCalls.{HasEnded, StaysEnded}
use Rattle.job_board.specs.Hands.{Sheet, SheetHolding}
use Rattle.job_board.specs.declared.posted.Posted.{Posted}
use Rattle.job_board.specs.declared.posted.WatchedJob.{WatchedJob}
use Rattle.job_board.specs.declared.shown.BoardCommand.{BoardCommand}
use Rattle.job_board.specs.declared.shown.BoardCommand.TheVariants as command
use Rattle.job_board.specs.declared.shown.BoardReply.{BoardReply}
use Rattle.job_board.specs.declared.shown.BoardReply.TheVariants as reply
use Rattle.job_board.specs.declared.shown.BoardShown.{BoardShown}
use Rattle.job_board.specs.Boards.{BoardMayReply, Finishes, IsFinished, IsOver, KeepsOver, Looks, Stops, Submits, TakesNext, TellsNumbers, TellsOfEnd, watch_of, with_watch}
use Rattle.job_board.proofs.Watches.{is_zero, not_zero}

-- WATCHES

none_some : {X : Type 0} {x : X} → None ≡ Some x → ⊥
none_some e = cc

watch_at : (b : BoardShown) (n : ℕ) (w : SheetHolding) → watch_of b n ≡ Some w → (n ≢ 0) × (slice_get b.watches (n - 1) ≡ Some w)
watch_at b n w e = dite (ℕ_discrete n 0)
    (λ is. absurd (none_some (sym (ap (λ (t : Bool). if t then None else slice_get b.watches (n - 1)) (is_zero n is)) ∙ e)))
    (λ above. (above, sym (ap (λ (t : Bool). if t then None else slice_get b.watches (n - 1)) (not_zero n above)) ∙ e))

watch_there : (b : BoardShown) (n : ℕ) (w : SheetHolding) → n ≢ 0 → slice_get b.watches (n - 1) ≡ Some w → watch_of b n ≡ Some w
watch_there b n w above e = ap (λ (t : Bool). if t then None else slice_get b.watches (n - 1)) (not_zero n above) ∙ e

get_set : (ws : List SheetHolding) (i : ℕ) (w : SheetHolding) → i < length ws → slice_get (slice_set ws i w) i ≡ Some w
get_set [] i w below = absurd (omega arith)
get_set (x ∷ ws) zero w below = refl
get_set (x ∷ ws) (suc i) w below = get_set ws i w (omega arith)

get_else : (ws : List SheetHolding) (i j : ℕ) (w : SheetHolding) → i ≢ j → slice_get (slice_set ws i w) j ≡ slice_get ws j
get_else [] i j w ne = refl
get_else (x ∷ ws) zero zero w ne = absurd (ne refl)
get_else (x ∷ ws) zero (suc j) w ne = refl
get_else (x ∷ ws) (suc i) zero w ne = refl
get_else (x ∷ ws) (suc i) (suc j) w ne = get_else ws i j w (λ e. ne (ap suc e))

get_more : (ws : List SheetHolding) (i : ℕ) (v w : SheetHolding) → slice_get ws i ≡ Some w → slice_get (ws ++ v ∷ []) i ≡ Some w
get_more [] i v w e = absurd (none_some e)
get_more (x ∷ ws) zero v w e = e
get_more (x ∷ ws) (suc i) v w e = get_more ws i v w e

-- the watch that was put there, and each other one
set_here : (b : BoardShown) (n : ℕ) (watch left : SheetHolding) → watch_of b n ≡ Some watch → watch_of (with_watch n left b) n ≡ Some left
set_here b n watch left e =
    let at = watch_at b n watch e in
    watch_there (with_watch n left b) n left at.0 (get_set b.watches (n - 1) left (slice_get_within b.watches (n - 1) watch at.1))

set_else : (b : BoardShown) (m n : ℕ) (watch left w : SheetHolding) → m ≢ n → watch_of b m ≡ Some watch → watch_of b n ≡ Some w → watch_of (with_watch m left b) n ≡ Some w
set_else b m n watch left w ne e e' =
    let at = watch_at b n w e' in
    let there = watch_at b m watch e in
    let positive = at.0 in
    let positive' = there.0 in
    watch_there (with_watch m left b) n w at.0 (get_else b.watches (m - 1) (n - 1) left (λ same. ne (omega arith)) ∙ at.1)

-- WHAT IS OVER STAYS SO

over_same : (b a : BoardShown) (n done failed unkept : ℕ) → a.watches ≡ b.watches → IsOver b n done failed unkept → IsOver a n done failed unkept
over_same b a n done failed unkept same o = record { watch = o.watch; of_job = ap (λ (ws : List SheetHolding). if n == 0 then None else slice_get ws (n - 1)) same ∙ o.of_job; ended = o.ended }

over_more : (b a : BoardShown) (n done failed unkept : ℕ) (w : SheetHolding) → a.watches ≡ b.watches ++ w ∷ [] → IsOver b n done failed unkept → IsOver a n done failed unkept
over_more b a n done failed unkept w more o =
    let at = watch_at b n o.watch o.of_job in
    record { watch = o.watch; of_job = watch_there a n o.watch at.0 (ap (λ (ws : List SheetHolding). slice_get ws (n - 1)) more ∙ get_more b.watches (n - 1) w o.watch at.1); ended = o.ended }

-- the board with a watch that has seen as much
over_seen : (b a : BoardShown) (m n done failed unkept : ℕ) (watch left : SheetHolding) → a ≡ with_watch m left b → watch_of b m ≡ Some watch → left.sheet ≡ watch.sheet → StaysEnded watch.sheet.hands watch.seen left.seen → IsOver b n done failed unkept → IsOver a n done failed unkept
over_seen b a m n done failed unkept watch left is of_job sheet stays o =
    subst (λ (x : BoardShown). IsOver x n done failed unkept) (sym is) (dite (ℕ_discrete m n)
    (λ same.
    let here = subst (λ (k : ℕ). watch_of b k ≡ Some watch) same of_job in
    let mine : o.watch ≡ watch = same_Some o.watch watch (sym o.of_job ∙ here) in
    let was : HasEnded watch.sheet.hands watch.seen done failed unkept = subst (λ (w : SheetHolding). HasEnded w.sheet.hands w.seen done failed unkept) mine o.ended in
    record {
      watch = left;
      of_job = subst (λ (k : ℕ). watch_of (with_watch m left b) k ≡ Some left) same (set_here b m watch left of_job);
      ended = subst (λ (s : Sheet). HasEnded s.hands left.seen done failed unkept) (sym sheet) (stays done failed unkept was);
    })
    (λ ne. record { watch = o.watch; of_job = set_else b m n watch left o.watch ne of_job o.of_job; ended = o.ended }))

over_other : (b a : BoardShown) (m n done failed unkept : ℕ) (watch left : SheetHolding) → m ≢ n → a ≡ with_watch m left b → watch_of b m ≡ Some watch → IsOver b n done failed unkept → IsOver a n done failed unkept
over_other b a m n done failed unkept watch left ne is of_job o =
    subst (λ (x : BoardShown). IsOver x n done failed unkept) (sym is) (record { watch = o.watch; of_job = set_else b m n watch left o.watch ne of_job o.of_job; ended = o.ended })

module _ (b a : BoardShown) (n done failed unkept : ℕ) (o : IsOver b n done failed unkept) where
  submit_keeps : (job : _) (places : ℕ) (number : Option ℕ) → Submits b job places number a → IsOver a n done failed unkept
  submit_keeps job places None row = over_same b a n done failed unkept (ap (λ (x : BoardShown). x.watches) row.1) o
  submit_keeps job places (Some k) row = over_more b a n done failed unkept row.3.1 (ap (λ (x : BoardShown). x.watches) row.3.3) o

  next_keeps : (p : Option Posted) → TakesNext b p a → IsOver a n done failed unkept
  next_keeps None row = over_same b a n done failed unkept (ap (λ (x : BoardShown). x.watches) row.1) o
  next_keeps (Some p) row = over_same b a n done failed unkept (sym (ap (λ (x : BoardShown). x.watches) row.1)) o

  look_keeps : (m : ℕ) (p : Option JobStatus) → Looks b m p a → IsOver a n done failed unkept
  look_keeps m None row = over_same b a n done failed unkept (ap (λ (x : BoardShown). x.watches) row.1) o
  look_keeps m (Some p) row = over_seen b a m n done failed unkept row.watch row.left row.is row.of_job (ap (λ (h : SheetHolding). h.sheet) row.tells.is) row.stays o

  stop_keeps : (m : ℕ) (is : Bool) → Stops b m is a → IsOver a n done failed unkept
  stop_keeps m false row = over_same b a n done failed unkept (ap (λ (x : BoardShown). x.watches) row.1) o
  stop_keeps m true row = over_seen b a m n done failed unkept row.watch row.left row.is row.of_job (ap (λ (h : SheetHolding). h.sheet) row.cancels.is) row.stays o

  finish_keeps : (m : ℕ) (ended : SheetHolding) (is : Bool) → m ≢ n → Finishes b m ended is a → IsOver a n done failed unkept
  finish_keeps m ended false ne row = over_same b a n done failed unkept (ap (λ (x : BoardShown). x.watches) row.1) o
  finish_keeps m ended true ne row = over_same (with_watch m row.left b) a n done failed unkept (ap (λ (x : BoardShown). x.watches) row.is) (over_other b (with_watch m row.left b) m n done failed unkept row.watch row.left ne refl row.of_job o)

  stays_over : (does : BoardCommand) (r : BoardReply) → BoardMayReply b does r a → ¬ (TellsOfEnd n does) → IsOver a n done failed unkept
  stays_over (command.Submit job places) r may no_end = submit_keeps job places may.0 may.2
  stays_over command.Next r may no_end = next_keeps may.0 may.2
  stays_over (command.Look m) r may no_end = look_keeps m may.0 may.2
  stays_over (command.Stop m) r may no_end = stop_keeps m may.0 may.2
  stays_over (command.Finish m job) r may no_end = finish_keeps m job.watch may.0 no_end may.2

same_look : (x y : Option JobStatus) → reply.Look x ≡ reply.Look y → y ≡ x
same_look x y e = cc

same_finish : (x y : Bool) → reply.Finish x ≡ reply.Finish y → y ≡ x
same_finish x y e = cc

tells_over : (b a : BoardShown) (n done failed unkept : ℕ) (p : JobStatus) (does : BoardCommand) (r : BoardReply) → BoardMayReply b does r a → IsOver b n done failed unkept → does ≡ command.Look n → r ≡ reply.Look (Some p) → TellsNumbers p done failed unkept
tells_over b a n done failed unkept p does r may o is so =
    let h : BoardMayReply b (command.Look n) (reply.Look (Some p)) a = subst (λ (z : BoardReply). BoardMayReply b (command.Look n) z a) so (subst (λ (d : BoardCommand). BoardMayReply b d r a) is may) in
    let row : Looks b n (Some p) a = subst (λ (x : Option JobStatus). Looks b n x a) (same_look (Some p) h.0 h.1) h.2 in
    let mine : o.watch ≡ row.watch = same_Some o.watch row.watch (sym o.of_job ∙ row.of_job) in
    row.settled done failed unkept (subst (λ (w : SheetHolding). HasEnded w.sheet.hands w.seen done failed unkept) mine o.ended)

ends_over : (b a : BoardShown) (n done failed unkept : ℕ) (job : WatchedJob) (does : BoardCommand) (r : BoardReply) → BoardMayReply b does r a → does ≡ command.Finish n job → r ≡ reply.Finish true → HasEnded job.watch.sheet.hands job.watch.seen done failed unkept → IsOver a n done failed unkept
ends_over b a n done failed unkept job does r may is so ended =
    let h : BoardMayReply b (command.Finish n job) (reply.Finish true) a = subst (λ (z : BoardReply). BoardMayReply b (command.Finish n job) z a) so (subst (λ (d : BoardCommand). BoardMayReply b d r a) is may) in
    let row : IsFinished b n job.watch a = subst (λ (x : Bool). Finishes b n job.watch x a) (same_finish true h.0 h.1) h.2 in
    subst (λ (x : BoardShown). IsOver x n done failed unkept) (sym row.is) (record {
      watch = row.left;
      of_job = set_here b n row.watch row.left row.of_job;
      ended = subst (λ (s : Sheet). HasEnded s.hands row.left.seen done failed unkept) (sym row.takes.same_sheet) (row.takes.ends done failed unkept ended);
    })

pub keeps_over : (b a : BoardShown) (does : BoardCommand) (r : BoardReply) → BoardMayReply b does r a → KeepsOver b does r a
keeps_over b a does r may = record {
  stays = λ n done failed unkept o no_end. stays_over b a n done failed unkept o does r may no_end;
  tells = λ n done failed unkept p o is so. tells_over b a n done failed unkept p does r may o is so;
  ends = λ n done failed unkept job is so ended. ends_over b a n done failed unkept job does r may is so ended;
}

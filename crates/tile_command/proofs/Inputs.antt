-- What is refused of the lines of a schedule, or of the bytes of a connection, is told.
use Rattle.std.specs.Prelude.{ℕ, ◌≡◌, ◌≤◌, ◌+◌, zero, suc, IsSomeAnd, IsTrue, List, [], ◌∷◌, slice_get, Option, Some, None}
use Rattle.std.proofs.Common.{ap, arith, inl, inr, refl, subst, sym, ◌∙◌}
use Rattle.cabinet.specs.State.{State, fresh_state}
use Rattle.catalog.specs.declared.catalogue.Catalogue.{Catalogue}
use Rattle.base.specs.Readings.{Readings}
use Rattle.command_status.specs.declared.status.Status.TheVariants as status
use Rattle.command_status.specs.declared.status.Status.{Status}
use Rattle.command_words.specs.declared.words.KeptWord.TheVariants as kept
use Rattle.command_words.specs.declared.words.MemoryWord.TheVariants as memory
use Rattle.command_words.specs.declared.words.Word.{Word}
use Rattle.command_words.specs.declared.words.Word.TheVariants as word
use Rattle.gate_journal.specs.declared.fault.OpenFault.{OpenFault}
use Rattle.job_forms.specs.declared.fault.JobFault.{JobFault}
use Rattle.opened_cache.specs.Change.{DiskChange}
use Rattle.opened_cache.specs.Opened.{IsRefused}
use Rattle.opened_cache.proofs.Refusing.{not_opened}
use Rattle.tile_command.specs.Causes.{AreCutsFull, BreaksOff, BreaksStream, ComesToEnd, HoldsOnceOpened, IsCacheRefused, IsCaused, IsInputOver, IsMalformed, IsOver, IsThrough, NothingFails, OfDocument, RefusesLine, RunRefuses, UnderBoth, UnderCatalogue}
use Rattle.tile_command.specs.Change.{CommandChange, without_disk}
use Rattle.tile_command.specs.Exact.{AreModelled, EachRunRefuses, HasIllLine, IsBreakTold, IsIllAt, IsTold, IsToldBy, OfLines, OpensModelled, RefusesInAll, UnderSchedule}
use Rattle.tile_command.proofs.Breaks.{broken_or_ended, one_break}
use Rattle.tile_command.proofs.Caused.{no_disk, no_read}
use Rattle.tile_command.proofs.Disks.{opened_once}
use Rattle.tile_command.proofs.Exact as files
use Rattle.tile_requests.specs.Requests.{Chance}
use Rattle.sessions.specs.declared.session.SessionEnd.{SessionEnd}
use Rattle.tile_service.specs.Lines.{action_in, lines_of}
use Rattle.sessions.specs.Outside.{Outside}
use Rattle.tile_service.specs.Run.{Answer, Run, RunState, first_of, free_seats, goes_on, line_done, rest_of, run, run_state_of}

-- A LINE THAT IS NONE

-- a run refuses a line, which is no later than this one
abbrev StopsBy : ℕ → Option ℕ → Type 0
StopsBy n refused = (m : ℕ) × (refused ≡ Some m) × (m ≤ n)

stops_here : (w : RunState) (k n : ℕ) (done : Option (RunState × List Answer)) (on : RunState → Run) → k ≤ n → done ≡ None → StopsBy n (goes_on w k done on).refused
stops_here w k n None on le is = (k, refl, le)
stops_here w k n (Some done) on le is = absurd (cc)

stops_later : (w : RunState) (k n : ℕ) (done : Option (RunState × List Answer)) (on : RunState → Run) → k ≤ n → ((t : RunState) → StopsBy n (on t).refused) → StopsBy n (goes_on w k done on).refused
stops_later w k n None on le later = (k, refl, le)
stops_later w k n (Some done) on le later = later done.0

-- lines of which this one is none: their run refuses that one or one before it
stops_by : (w : RunState) (k i : ℕ) (lines : List (List ℕ)) (chances : List Chance) → IsSomeAnd (slice_get lines i) (λ line. action_in line ≡ None) → StopsBy (k + i) (run w k lines chances).refused
stops_by w k i [] chances ill = absurd ill
stops_by w k zero (line ∷ lines) chances ill =
    stops_here w k (k + zero) (line_done w k (first_of chances) (action_in line)) (λ t. run t (k + 1) lines (rest_of chances)) (omega arith) (ap (λ a. line_done w k (first_of chances) a) ill)
stops_by w k (suc i) (line ∷ lines) chances ill =
    stops_later w k (k + suc i) (line_done w k (first_of chances) (action_in line)) (λ t. run t (k + 1) lines (rest_of chances)) (omega arith) (λ t. further t (stops_by t (k + 1) i lines (rest_of chances) ill))
  where
    further : (t : RunState) → StopsBy (k + 1 + i) (run t (k + 1) lines (rest_of chances)).refused → StopsBy (k + suc i) (run t (k + 1) lines (rest_of chances)).refused
    further t x = (x.0, x.1, let le = x.2 in omega (arith, le))

module _ (h : CommandChange) (d : DiskChange) (clock : Readings) (m : AreModelled h) (quiet : NothingFails h d) where
  -- AT THE ONE CATALOGUE and the one document

  abbrev Before : Type 0
  Before = files.Past h d clock m quiet

  same_document : (P Q : Catalogue → List ℕ → Type 0) (x : UnderBoth h P) (y : UnderBoth h Q) → y.2.0 ≡ x.2.0
  same_document P Q x y = let t = files.one_text h.capabilities.from m.capabilities x.2.1 y.2.1 in sym t.2.1 ∙ t.1.1

  at_one : (P Q : Catalogue → List ℕ → Type 0) (x : UnderBoth h P) (y : UnderBoth h Q) → Q x.0 x.2.0
  at_one P Q x y =
      let there : Q x.0 y.2.0 = subst (λ (c : Catalogue). Q c y.2.0) (files.same_catalogue h d clock m quiet (y.0, y.1, tt) (x.0, x.1, tt)) y.2.2 in
      subst (λ (document : List ℕ). Q x.0 document) (same_document P Q x y) there

  at_opened : (told : IsTrue d.told) (c : Catalogue) (P Q : State → Type 0) (x : HoldsOnceOpened d clock c P) (y : HoldsOnceOpened d clock c Q) → Q x.0
  at_opened told c P Q x y = subst Q (opened_once h d clock m quiet told c y.0 x.0 y.1 x.1) y.2

  opened_there : (told : IsTrue d.told) (P : Catalogue → List ℕ → State → Type 0) (x : UnderBoth h (λ c document. HoldsOnceOpened d clock c (P c document))) (cause : OpenFault)
      → UnderBoth h (λ c document. IsRefused c d cause) → ⊥
  opened_there told P x cause y = not_opened x.0 d told clock x.2.2.0 cause (at_one (λ c document. HoldsOnceOpened d clock c (P c document)) (λ c document. IsRefused c d cause) x y) x.2.2.1

  -- A WORD THAT WORKS ON ITS INPUT, where all before that was passed: what its work comes to is told, or memory ran out

  by_work : (w : Word) (T : Status → Type 0) → Before
      → (OfDocument w (UnderCatalogue h (λ c. IsOver 4194304 h.capabilities)) → ⊥) → ((cause : OpenFault) → IsCacheRefused h d clock w cause → ⊥) → (IsInputOver h d clock w → ⊥)
      → (AreCutsFull h d clock w → ⊥) → ((fault : JobFault) → IsMalformed h w fault → ⊥)
      → T status.OutOfMemory → (IsThrough h d clock w → T status.Done) → ((n : ℕ) → RefusesLine h d clock w n → T (status.Line n)) → ((end : SessionEnd) → BreaksStream h d clock w end → T (status.Stream end))
      → (s : Status) → IsCaused h d clock w s → T s
  by_work w T past document cache long cuts form out through line stream status.OutOfMemory x = out
  by_work w T past document cache long cuts form out through line stream status.Done x = through x
  by_work w T past document cache long cuts form out through line stream (status.Line n) x = line n x
  by_work w T past document cache long cuts form out through line stream (status.Stream end) x = stream end x
  by_work w T past document cache long cuts form out through line stream status.Usage x = absurd x
  by_work w T past document cache long cuts form out through line stream status.ListenFault x = absurd x
  by_work w T past document cache long cuts form out through line stream status.ThreadFault x = absurd x
  by_work w T past document cache long cuts form out through line stream (status.Catalogue fault) x = absurd (files.faulty_not_past h d clock m quiet fault x past)
  by_work w T past document cache long cuts form out through line stream status.ReadFault x = absurd (no_read h d w quiet x)
  by_work w T past document cache long cuts form out through line stream status.WriteFault x = absurd (quiet.output x)
  by_work w T past document cache long cuts form out through line stream status.DiskFault x = absurd (no_disk h d w quiet w x)
  by_work w T past document cache long cuts form out through line stream (status.Cache cause) x = absurd (cache cause x)
  by_work w T past document cache long cuts form out through line stream status.CutsFull x = absurd (cuts x)
  by_work w T past document cache long cuts form out through line stream (status.Form fault) x = absurd (form fault x)
  by_work w T past document cache long cuts form out through line stream status.TooLong (inl x) = absurd (files.long_not_past h d clock m quiet x past)
  by_work w T past document cache long cuts form out through line stream status.TooLong (inr (inl x)) = absurd (document x)
  by_work w T past document cache long cuts form out through line stream status.TooLong (inr (inr x)) = absurd (long x)

  -- LINES

  -- the status of a run of the lines is told, from what the schedule of the word begins with
  by_lines : (w : Word) (T : Status → Type 0) (P : Outside → List ℕ → State → List (List ℕ) → Type 0) → OpensModelled d w → UnderSchedule h d clock w (λ o document s. OfLines h (P o document s))
      → T status.OutOfMemory
      → ((o : Outside) (document : List ℕ) (s : State) → OfLines h (P o document s) → RunRefuses h o document s None → T status.Done)
      → ((o : Outside) (document : List ℕ) (s : State) (n : ℕ) → OfLines h (P o document s) → RunRefuses h o document s (Some n) → T (status.Line n))
      → (s : Status) → IsCaused h d clock w s → T s
  by_lines (word.InMemory memory.Schedule) T P modelled x out through line s =
      by_work (word.InMemory memory.Schedule) T (x.0, x.1, tt) (λ y. files.both_past h d clock m quiet _ y.2 x) (λ cause y. y) (λ y. files.input_short h d clock m quiet 16777216 _ y.2.2 x.2.2) (λ y. y) (λ fault y. y)
      out
      (λ y. through (without_disk h).outside x.2.0 (fresh_state x.0 clock) x.2.2 (at_one _ (λ c document. RunRefuses h (without_disk h).outside document (fresh_state c clock) None) x y))
      (λ n y. line (without_disk h).outside x.2.0 (fresh_state x.0 clock) n x.2.2 (at_one _ (λ c document. RunRefuses h (without_disk h).outside document (fresh_state c clock) (Some n)) x y))
      (λ end y. absurd y) s
  by_lines (word.InMemory memory.Replay) T P modelled x out through line s = absurd x
  by_lines (word.InMemory (memory.Drill number)) T P modelled x out through line s = absurd x
  by_lines (word.Kept kept.Schedule) T P told x out through line s =
      by_work (word.Kept kept.Schedule) T (x.0, x.1, tt) (λ y. files.both_past h d clock m quiet _ y.2 x) (λ cause y. opened_there told _ x cause y) (λ y. files.input_short h d clock m quiet 16777216 _ y.2.2.2 x.2.2.2) (λ y. y) (λ fault y. y)
      out
      (λ y. through h.outside x.2.0 x.2.2.0 x.2.2.2 (there None y))
      (λ n y. line h.outside x.2.0 x.2.2.0 n x.2.2.2 (there (Some n) y))
      (λ end y. absurd y) s
    where
      there : (refused : Option ℕ) → UnderBoth h (λ c document. HoldsOnceOpened d clock c (λ t. RunRefuses h h.outside document t refused)) → RunRefuses h h.outside x.2.0 x.2.2.0 refused
      there refused y =
          at_opened told x.0 _ (λ t. RunRefuses h h.outside x.2.0 t refused) x.2.2 (at_one _ (λ c document. HoldsOnceOpened d clock c (λ t. RunRefuses h h.outside document t refused)) x y)
  by_lines (word.Kept kept.Replay) T P modelled x out through line s = absurd x
  by_lines (word.Upkeep w) T P modelled x out through line s = absurd x
  by_lines word.Job T P modelled x out through line s = absurd x

  -- a run that this one may have been, and all of them
  of_all : (o : Outside) (document : List ℕ) (s : State) (n : ℕ) (refused : Option ℕ) → OfLines h (EachRunRefuses o (run_state_of s document free_seats) n) → RunRefuses h o document s refused → refused ≡ Some n
  of_all o document s n refused each ran = let t = files.one_text h.input.from m.input each ran.2 in sym t.2.1.0 ∙ t.1.1 ran.0 ran.1 t.2.1.1

  pub lines_told : (w : Word) (s : Status) → IsCaused h d clock w s → OpensModelled d w → (n : ℕ) → RefusesInAll h d clock w n → IsTold (status.Line n) s
  lines_told w s x modelled n all =
      by_lines w (IsTold (status.Line n)) (λ o document t. EachRunRefuses o (run_state_of t document free_seats) n) modelled all (inr refl)
      (λ o document t each ran. absurd (none_refused (of_all o document t n None each ran)))
      (λ o document t k each ran. inl (same k (of_all o document t n (Some k) each ran))) s x
    where
      none_refused : None ≡ Some n → ⊥
      none_refused e = cc

      same : (k : ℕ) → Some k ≡ Some n → status.Line k ≡ status.Line n
      same k e = let j : k ≡ n = cc in ap (λ i. status.Line i) j

  -- a run of lines of which this one is none
  of_ill : (o : Outside) (document : List ℕ) (s : State) (n : ℕ) (refused : Option ℕ) → OfLines h (IsIllAt n) → RunRefuses h o document s refused → StopsBy n refused
  of_ill o document s n refused ill ran =
      let t = files.one_text h.input.from m.input ill ran.2 in
      let is = t.1.1.1 in
      let stops = stops_by (run_state_of s document free_seats) 1 t.1.1.0 (lines_of t.0) ran.0 t.1.1.2 in
      (stops.0, sym t.2.1.0 ∙ stops.1, let le = stops.2 in omega (arith, le, is))

  pub ill_told : (w : Word) (s : Status) → IsCaused h d clock w s → OpensModelled d w → (n : ℕ) → HasIllLine h d clock w n → IsToldBy n s
  ill_told w s x modelled n ill =
      by_lines w (IsToldBy n) (λ o document t. IsIllAt n) modelled ill (inl refl)
      (λ o document t there ran. absurd (none_refused (of_ill o document t n None there ran)))
      (λ o document t k there ran. inr (k, no_later k (of_ill o document t n (Some k) there ran), refl)) s x
    where
      none_refused : StopsBy n None → ⊥
      none_refused y = let e = y.1 in cc

      same : (k l : ℕ) → Some k ≡ Some l → k ≡ l
      same k l e = cc

      no_later : (k : ℕ) → StopsBy n (Some k) → k ≤ n
      no_later k y = let j = same k y.0 y.1 in let le = y.2 in omega (arith, j, le)

  -- MESSAGES

  -- the connection of a word breaks off
  breaks_off : (w : Word) (end : SessionEnd) → BreaksStream h d clock w end → BreaksOff h.input.from end
  breaks_off (word.InMemory memory.Schedule) end x = absurd x
  breaks_off (word.InMemory memory.Replay) end x = x.2.2
  breaks_off (word.InMemory (memory.Drill number)) end x = absurd x
  breaks_off (word.Kept kept.Schedule) end x = absurd x
  breaks_off (word.Kept kept.Replay) end x = x.2.2.2
  breaks_off (word.Upkeep w) end x = absurd x
  breaks_off word.Job end x = absurd x

  not_ended : (w : Word) (end : SessionEnd) → BreaksStream h d clock w end → ComesToEnd h.input.from → ⊥
  not_ended w end x ended = broken_or_ended h.input.from m.input end (breaks_off w end x) ended

  as_told : (w : Word) (end other : SessionEnd) → BreaksStream h d clock w end → BreaksStream h d clock w other → IsBreakTold h d clock w end (status.Stream other)
  as_told w end other x y = inr (other, refl, y, one_break h.input.from m.input end other (breaks_off w end x) (breaks_off w other y))

  pub stream_told : (w : Word) (s : Status) → IsCaused h d clock w s → OpensModelled d w → (end : SessionEnd) → BreaksStream h d clock w end → IsBreakTold h d clock w end s
  stream_told (word.InMemory memory.Schedule) s cause modelled end x = absurd x
  stream_told (word.InMemory memory.Replay) s cause modelled end x =
      by_work (word.InMemory memory.Replay) (IsBreakTold h d clock (word.InMemory memory.Replay) end) (x.0, x.1, tt) (λ y. files.both_past h d clock m quiet _ y.2 x) (λ cause y. y) (λ y. y) (λ y. y) (λ fault y. y)
      (inl refl) (λ y. absurd (not_ended (word.InMemory memory.Replay) end x y.2.2)) (λ n y. absurd y) (λ other y. as_told (word.InMemory memory.Replay) end other x y) s cause
  stream_told (word.InMemory (memory.Drill number)) s cause modelled end x = absurd x
  stream_told (word.Kept kept.Schedule) s cause modelled end x = absurd x
  stream_told (word.Kept kept.Replay) s cause told end x =
      by_work (word.Kept kept.Replay) (IsBreakTold h d clock (word.Kept kept.Replay) end) (x.0, x.1, tt) (λ y. files.both_past h d clock m quiet _ y.2 x) (λ cause y. opened_there told _ x cause y) (λ y. y) (λ y. y) (λ fault y. y)
      (inl refl) (λ y. absurd (not_ended (word.Kept kept.Replay) end x y.2.2.2)) (λ n y. absurd y) (λ other y. as_told (word.Kept kept.Replay) end other x y) s cause
  stream_told (word.Upkeep w) s cause modelled end x = absurd x
  stream_told word.Job s cause modelled end x = absurd x

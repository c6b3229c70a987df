-- What is refused of a modelled disk is told: why it isn't opened, or that no cut has room or a number.
use Rattle.std.specs.Prelude.{ℕ, ◌≡◌, ◌⊎◌, IsSome, IsTrue, List, Option, Some, None}
use Rattle.std.proofs.Common.{Ok, ap, arith, inl, inr, refl, subst, sym, ◌∙◌}
use Rattle.catalog.specs.declared.catalogue.Catalogue.{Catalogue}
use Rattle.base.specs.Readings.{Readings}
use Rattle.command_status.specs.declared.status.Status.TheVariants as status
use Rattle.command_status.specs.declared.status.Status.{Status}
use Rattle.command_words.specs.declared.words.KeptWord.TheVariants as kept
use Rattle.command_words.specs.declared.words.UpkeepWord.TheVariants as upkeep
use Rattle.command_words.specs.declared.words.Word.{Word}
use Rattle.command_words.specs.declared.words.Word.TheVariants as word
use Rattle.gate_journal.specs.declared.fault.OpenFault.{OpenFault}
use Rattle.job_forms.specs.Cover.{cover_of}
use Rattle.job_forms.specs.declared.fault.JobFault.{JobFault}
use Rattle.job_forms.specs.Reading.{job_of}
use Rattle.opened_cache.specs.Change.{DiskChange}
use Rattle.tile_command.specs.Causes.{AreCutsFull, BreaksStream, IsCacheRefused, IsCaused, IsInputOver, IsMalformed, IsOver, IsThrough, NothingFails, OfDocument, RefusesLine, UnderCatalogue, UnderInput, CutReplies, HoldsOnceOpened}
use Rattle.tile_command.specs.Change.{CommandChange}
use Rattle.tile_command.specs.Exact.{AreModelled, IsTold, OpensModelled}
use Rattle.tile_command.proofs.Caused.{no_disk, no_read}
use Rattle.sessions.specs.declared.session.SessionEnd.{SessionEnd}
use Rattle.cabinet.specs.Commands.{Cuts}
use Rattle.durable_cabinet.specs.Filed.{opened_as}
use Rattle.durable_cabinet.proofs.Once.{opens_once}
use Rattle.truncation_list.specs.declared.cover.Cover.{Cover}
use Rattle.cabinet.specs.State.{State}
use Rattle.gate_journal.specs.declared.fault.OpenFault.TheVariants as open_fault
use Rattle.opened_cache.proofs.Refusing.{not_opened, one_refusal}
use Rattle.opened_cache.specs.Opened.{IsOpened, IsRefused}
use Rattle.cabinet.specs.declared.replies.CutReply.{CutReply}
use Rattle.cabinet.specs.declared.replies.CutReply.TheVariants as cut
use Rattle.tile_command.proofs.Exact as files

-- TWO REPLIES of one cut

full_or_done : (s : State) (cover : Cover) (u v : State) (t : ℕ) → Cuts s cover cut.Full u → Cuts s cover (cut.Done t) v → ⊥
full_or_done s cover u v t full done = let a = full.1 in let b = done.1 in absurd (omega arith)

spent_or_done : (s : State) (cover : Cover) (u v : State) (t : ℕ) → Cuts s cover cut.Spent u → Cuts s cover (cut.Done t) v → ⊥
spent_or_done s cover u v t spent done = let a = spent.0 in let b = done.0 in cc

none_there : (number : Option ℕ) → number ≡ None → IsSome number → ⊥
none_there None none there = cc
none_there (Some number) none there = cc

spent_or_full : (s : State) (cover : Cover) (u v : State) → Cuts s cover cut.Spent u → Cuts s cover cut.Full v → ⊥
spent_or_full s cover u v spent full = none_there _ spent.0 full.0

module _ (h : CommandChange) (d : DiskChange) (clock : Readings) (m : AreModelled h) (quiet : NothingFails h d) (told : IsTrue d.told) where
  pub opened_once : (c : Catalogue) (s t : State) → IsOpened c clock d s → IsOpened c clock d t → s ≡ t
  opened_once c s t a b = a.begins ∙ ap (λ r. opened_as d.told d.from.seen c clock r) (opens_once c d.from.seen a.replayed b.replayed (a.opens told) (b.opens told)) ∙ sym b.begins

  one_cover : (P Q : Catalogue → Cover → Type 0) (x : UnderInput h cover_of P) (y : UnderInput h cover_of Q) → x.2.0 ≡ y.2.0
  one_cover P Q x y = let t = files.one_text h.input.from m.input x.2.1 y.2.1 in same t.0 t.1.1 t.2.1
    where
      same : (text : List ℕ) → cover_of x.0 text ≡ Ok x.2.0 → cover_of y.0 text ≡ Ok y.2.0 → x.2.0 ≡ y.2.0
      same text e k = let j : cover_of x.0 text ≡ Ok y.2.0 = ap (λ c. cover_of c text) (files.same_catalogue h d clock m quiet (x.0, x.1, tt) (y.0, y.1, tt)) ∙ k in cc

  abbrev Replies : CutReply → Type 0
  Replies reply = UnderInput h cover_of (λ c cover. CutReplies d clock c cover reply)

  -- the one cut hasn't two replies that exclude each other
  one_reply : (reply other : CutReply) → ((s : State) (cover : Cover) (u v : State) → Cuts s cover reply u → Cuts s cover other v → ⊥) → Replies reply → Replies other → ⊥
  one_reply reply other two x y =
      let c = files.same_catalogue h d clock m quiet (x.0, x.1, tt) (y.0, y.1, tt) in
      let s = x.2.2 in
      let t = y.2.2 in
      let opened : IsOpened y.0 clock d s.0 = subst (λ c. IsOpened c clock d s.0) c s.1 in
      let replied : Cuts s.0 y.2.0 reply s.2.0 = subst (λ (v : Cover). Cuts s.0 v reply s.2.0) (one_cover _ _ x y) s.2.1 in
      two t.0 y.2.0 s.2.0 t.2.0 (subst (λ (v : State). Cuts v y.2.0 reply s.2.0) (opened_once y.0 s.0 t.0 opened t.1) replied) t.2.1

  done_of : (x : IsThrough h d clock (word.Upkeep upkeep.Truncate)) → Replies (cut.Done x.2.2.0)
  done_of x = (x.0, x.1, (x.2.0, x.2.1, x.2.2.1))

module _ (h : CommandChange) (d : DiskChange) (clock : Readings) (m : AreModelled h) (quiet : NothingFails h d) (told : IsTrue d.told) (cause : OpenFault) where
  abbrev Before : Type 0
  Before = files.Past h d clock m quiet

  -- at the one catalogue of the text
  apart : (x y : Before) → IsRefused x.0 d cause → (P : State → Type 0) → HoldsOnceOpened d clock y.0 P → ⊥
  apart x y refused P opens = not_opened y.0 d told clock opens.0 cause (subst (λ c. IsRefused c d cause) (files.same_catalogue h d clock m quiet x y) refused) opens.1

  alike : (x y : Before) (other : OpenFault) → IsRefused x.0 d cause → IsRefused y.0 d other → other ≡ cause
  alike x y other refused also = one_refusal y.0 d told cause other (subst (λ c. IsRefused c d cause) (files.same_catalogue h d clock m quiet x y) refused) also

  cache_told : (w : Word) (s : Status) → Before
      → (IsThrough h d clock w → ⊥) → ((n : ℕ) → RefusesLine h d clock w n → ⊥) → ((end : SessionEnd) → BreaksStream h d clock w end → ⊥) → (AreCutsFull h d clock w → ⊥)
      → (IsInputOver h d clock w → ⊥) → (OfDocument w (UnderCatalogue h (λ c. IsOver 4194304 h.capabilities)) → ⊥) → ((fault : JobFault) → IsMalformed h w fault → ⊥)
      → ((other : OpenFault) → IsCacheRefused h d clock w other → other ≡ cause) → IsCaused h d clock w s → IsTold (status.Cache cause) s
  cache_told w (status.Cache other) past through line stream cuts long document form same x = inl (ap (λ o. status.Cache o) (same other x))
  cache_told w status.OutOfMemory past through line stream cuts long document form same x = inr refl
  cache_told w status.Done past through line stream cuts long document form same x = absurd (through x)
  cache_told w status.Usage past through line stream cuts long document form same x = absurd x
  cache_told w status.ListenFault past through line stream cuts long document form same x = absurd x
  cache_told w status.ThreadFault past through line stream cuts long document form same x = absurd x
  cache_told w (status.Catalogue f) past through line stream cuts long document form same x = absurd (files.faulty_not_past h d clock m quiet f x past)
  cache_told w status.ReadFault past through line stream cuts long document form same x = absurd (no_read h d w quiet x)
  cache_told w status.WriteFault past through line stream cuts long document form same x = absurd (quiet.output x)
  cache_told w status.DiskFault past through line stream cuts long document form same x = absurd (no_disk h d w quiet w x)
  cache_told w (status.Line n) past through line stream cuts long document form same x = absurd (line n x)
  cache_told w status.CutsFull past through line stream cuts long document form same x = absurd (cuts x)
  cache_told w (status.Stream end) past through line stream cuts long document form same x = absurd (stream end x)
  cache_told w (status.Form fault) past through line stream cuts long document form same x = absurd (form fault x)
  cache_told w status.TooLong past through line stream cuts long document form same (inl x) = absurd (files.long_not_past h d clock m quiet x past)
  cache_told w status.TooLong past through line stream cuts long document form same (inr (inl x)) = absurd (document x)
  cache_told w status.TooLong past through line stream cuts long document form same (inr (inr x)) = absurd (long x)

  -- a cover whose cache isn't opened, or has no number for the cut
  cut_apart : (bad : IsCacheRefused h d clock (word.Upkeep upkeep.Truncate) cause) (reply : CutReply) → ((s : State) (cover : Cover) (u v : State) → Cuts s cover cut.Spent u → Cuts s cover reply v → ⊥)
      → Replies h d clock m quiet told reply → ⊥
  cut_apart bad reply two y = chosen bad.2.2
    where
      chosen : IsRefused bad.0 d cause ⊎ ((cause ≡ open_fault.Spent) × CutReplies d clock bad.0 bad.2.0 cut.Spent) → ⊥
      chosen (inl r) = apart (bad.0, bad.1, tt) (y.0, y.1, tt) r _ y.2.2
      chosen (inr r) = one_reply h d clock m quiet told cut.Spent reply two (bad.0, bad.1, (bad.2.0, bad.2.1, r.1)) y

  cut_alike : (bad : IsCacheRefused h d clock (word.Upkeep upkeep.Truncate) cause) (other : OpenFault) → IsCacheRefused h d clock (word.Upkeep upkeep.Truncate) other → other ≡ cause
  cut_alike bad other y = chosen bad.2.2 y.2.2
    where
      back : Before
      back = (bad.0, bad.1, tt)

      past : Before
      past = (y.0, y.1, tt)

      chosen : IsRefused bad.0 d cause ⊎ ((cause ≡ open_fault.Spent) × CutReplies d clock bad.0 bad.2.0 cut.Spent)
          → IsRefused y.0 d other ⊎ ((other ≡ open_fault.Spent) × CutReplies d clock y.0 y.2.0 cut.Spent) → other ≡ cause
      chosen (inl r) (inl q) = alike back past other r q
      chosen (inl r) (inr q) = absurd (apart back past r _ q.1)
      chosen (inr r) (inl q) =
          let o : IsOpened y.0 clock d r.1.0 = subst (λ c. IsOpened c clock d r.1.0) (files.same_catalogue h d clock m quiet back past) r.1.1 in
          absurd (not_opened y.0 d told clock r.1.0 other q o)
      chosen (inr r) (inr q) = q.0 ∙ sym r.0

  cut_refused : (s : Status) → IsCaused h d clock (word.Upkeep upkeep.Truncate) s → IsCacheRefused h d clock (word.Upkeep upkeep.Truncate) cause → IsTold (status.Cache cause) s
  cut_refused s x bad =
      cache_told (word.Upkeep upkeep.Truncate) s (bad.0, bad.1, tt) (λ y. cut_apart bad (cut.Done y.2.2.0) (λ s cover u v. spent_or_done s cover u v y.2.2.0) (done_of h d clock m quiet told y))
      (λ n y. y) (λ end y. y) (λ y. cut_apart bad cut.Full spent_or_full y)
      (λ y. files.input_short h d clock m quiet 65536 _ y.2 bad.2.1) (λ y. y) (λ fault y. files.well_and_ill h d clock m quiet cover_of fault _ y bad) (cut_alike bad) x

  pub refused_told : (w : Word) (s : Status) → IsCaused h d clock w s → IsCacheRefused h d clock w cause → IsTold (status.Cache cause) s
  refused_told (word.InMemory w) s x bad = absurd bad
  refused_told (word.Kept kept.Schedule) s x bad =
      let b : Before = (bad.0, bad.1, tt) in
      cache_told (word.Kept kept.Schedule) s b (λ y. apart b (y.0, y.1, tt) bad.2.2 _ y.2.2) (λ n y. apart b (y.0, y.1, tt) bad.2.2 _ y.2.2) (λ end y. y) (λ y. y)
      (λ y. apart b (y.0, y.1, tt) bad.2.2 _ y.2.2) (λ y. files.both_past h d clock m quiet _ y.2 bad) (λ fault y. y) (λ other y. alike b (y.0, y.1, tt) other bad.2.2 y.2.2) x
  refused_told (word.Kept kept.Replay) s x bad =
      let b : Before = (bad.0, bad.1, tt) in
      cache_told (word.Kept kept.Replay) s b (λ y. apart b (y.0, y.1, tt) bad.2.2 _ y.2.2) (λ n y. y) (λ end y. apart b (y.0, y.1, tt) bad.2.2 _ y.2.2) (λ y. y)
      (λ y. y) (λ y. files.both_past h d clock m quiet _ y.2 bad) (λ fault y. y) (λ other y. alike b (y.0, y.1, tt) other bad.2.2 y.2.2) x
  refused_told (word.Upkeep upkeep.Make) s x bad = absurd bad
  refused_told (word.Upkeep upkeep.Truncate) s x bad = cut_refused s x bad
  refused_told (word.Upkeep upkeep.Expire) s x bad =
      let b : Before = (bad.0, bad.1, tt) in
      cache_told (word.Upkeep upkeep.Expire) s b (λ y. apart b (y.0, y.1, tt) bad.2 _ y.2) (λ n y. y) (λ end y. y) (λ y. y) (λ y. y) (λ y. y) (λ fault y. y) (λ other y. alike b (y.0, y.1, tt) other bad.2 y.2) x
  refused_told (word.Upkeep upkeep.Usage) s x bad =
      let b : Before = (bad.0, bad.1, tt) in
      cache_told (word.Upkeep upkeep.Usage) s b (λ y. apart b (y.0, y.1, tt) bad.2 _ y.2) (λ n y. y) (λ end y. y) (λ y. y) (λ y. y) (λ y. y) (λ fault y. y) (λ other y. alike b (y.0, y.1, tt) other bad.2 y.2) x
  refused_told word.Job s x bad =
      let b : Before = (bad.0, bad.1, tt) in
      cache_told word.Job s b (λ y. apart b (y.0, y.1, tt) bad.2.2 _ y.2.2) (λ n y. y) (λ end y. y) (λ y. y)
      (λ y. files.input_short h d clock m quiet 65536 _ y.2 bad.2.1) (λ y. y) (λ fault y. files.well_and_ill h d clock m quiet job_of fault _ y bad) (λ other y. alike b (y.0, y.1, tt) other bad.2.2 y.2.2) x

-- FULL CUTS

module _ (h : CommandChange) (d : DiskChange) (clock : Readings) (m : AreModelled h) (quiet : NothingFails h d) (told : IsTrue d.told) where
  not_refused : AreCutsFull h d clock (word.Upkeep upkeep.Truncate) → (cause : OpenFault) → IsCacheRefused h d clock (word.Upkeep upkeep.Truncate) cause → ⊥
  not_refused full cause bad = cut_apart h d clock m quiet told cause bad cut.Full spent_or_full full

  cut_told : (s : Status) → AreCutsFull h d clock (word.Upkeep upkeep.Truncate) → IsCaused h d clock (word.Upkeep upkeep.Truncate) s → IsTold status.CutsFull s
  cut_told status.CutsFull full x = inl refl
  cut_told status.OutOfMemory full x = inr refl
  cut_told status.Done full x = absurd (one_reply h d clock m quiet told cut.Full (cut.Done x.2.2.0) (λ s cover u v. full_or_done s cover u v x.2.2.0) full (done_of h d clock m quiet told x))
  cut_told status.Usage full x = absurd x
  cut_told status.ListenFault full x = absurd x
  cut_told status.ThreadFault full x = absurd x
  cut_told (status.Catalogue f) full x = absurd (files.faulty_not_past h d clock m quiet f x (full.0, full.1, tt))
  cut_told status.ReadFault full x = absurd (no_read h d (word.Upkeep upkeep.Truncate) quiet x)
  cut_told status.WriteFault full x = absurd (quiet.output x)
  cut_told status.DiskFault full x = absurd (quiet.disk x)
  cut_told (status.Line n) full x = absurd x
  cut_told (status.Cache cause) full x = absurd (not_refused full cause x)
  cut_told (status.Stream end) full x = absurd x
  cut_told (status.Form fault) full x = absurd (files.well_and_ill h d clock m quiet cover_of fault _ x full)
  cut_told status.TooLong full (inl x) = absurd (files.long_not_past h d clock m quiet x (full.0, full.1, tt))
  cut_told status.TooLong full (inr (inl x)) = absurd x
  cut_told status.TooLong full (inr (inr x)) = absurd (files.input_short h d clock m quiet 65536 _ x.2 full.2.1)

  pub cuts_told : (w : Word) (s : Status) → IsCaused h d clock w s → AreCutsFull h d clock w → IsTold status.CutsFull s
  cuts_told (word.InMemory w) s x full = absurd full
  cuts_told (word.Kept w) s x full = absurd full
  cuts_told (word.Upkeep upkeep.Make) s x full = absurd full
  cuts_told (word.Upkeep upkeep.Truncate) s x full = cut_told s full x
  cuts_told (word.Upkeep upkeep.Expire) s x full = absurd full
  cuts_told (word.Upkeep upkeep.Usage) s x full = absurd full
  cuts_told word.Job s x full = absurd full

-- A LONG INPUT

-- where it is looked at the cache was opened
pub not_kept_out : (h : CommandChange) (d : DiskChange) (clock : Readings) (m : AreModelled h) (quiet : NothingFails h d) (w : Word) → OpensModelled d w → IsInputOver h d clock w
    → (cause : OpenFault) → IsCacheRefused h d clock w cause → ⊥
not_kept_out h d clock m quiet (word.InMemory w) modelled long cause bad = bad
not_kept_out h d clock m quiet (word.Kept kept.Schedule) told long cause bad =
    let same = files.same_catalogue h d clock m quiet (bad.0, bad.1, tt) (long.0, long.1, tt) in
    not_opened long.0 d told clock long.2.2.0 cause (subst (λ c. IsRefused c d cause) same bad.2.2) long.2.2.1
not_kept_out h d clock m quiet (word.Kept kept.Replay) told long cause bad = long
not_kept_out h d clock m quiet (word.Upkeep upkeep.Make) modelled long cause bad = bad
not_kept_out h d clock m quiet (word.Upkeep upkeep.Truncate) modelled long cause bad = files.input_short h d clock m quiet 65536 _ long.2 bad.2.1
not_kept_out h d clock m quiet (word.Upkeep upkeep.Expire) modelled long cause bad = long
not_kept_out h d clock m quiet (word.Upkeep upkeep.Usage) modelled long cause bad = long
not_kept_out h d clock m quiet word.Job modelled long cause bad = files.input_short h d clock m quiet 65536 _ long.2 bad.2.1

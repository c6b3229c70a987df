-- What is refused of modelled files is told, and nothing else is, where nothing fails.
use Rattle.std.specs.Prelude.{ℕ, ◌≡◌, ◌<◌, ◌≤◌, ◌⊎◌, List, length, Option, Some, None, IfSome, IsSome, Ok, Err, ⊤}
use Rattle.std.proofs.Common.{ap, ◌∙◌, inl, inr, refl, arith}
use Rattle.catalog.specs.declared.catalogue.Catalogue.{Catalogue}
use Rattle.catalog.specs.declared.fault.CatalogueFault.{CatalogueFault}
use Rattle.base.specs.Readings.{Readings}
use Rattle.command_status.specs.declared.status.Status.TheVariants as status
use Rattle.command_status.specs.declared.status.Status.{Status}
use Rattle.command_words.specs.declared.words.KeptWord.TheVariants as kept
use Rattle.command_words.specs.declared.words.MemoryWord.{MemoryWord}
use Rattle.command_words.specs.declared.words.MemoryWord.TheVariants as memory
use Rattle.command_words.specs.declared.words.KeptWord.{KeptWord}
use Rattle.command_words.specs.declared.words.UpkeepWord.TheVariants as upkeep
use Rattle.command_words.specs.declared.words.Word.{Word}
use Rattle.command_words.specs.declared.words.Word.TheVariants as word
use Rattle.config_text.specs.Text.{catalogue_of}
use Rattle.gate_journal.specs.declared.fault.OpenFault.{OpenFault}
use Rattle.job_forms.specs.Cover.{cover_of}
use Rattle.job_forms.specs.declared.fault.JobFault.{JobFault}
use Rattle.job_forms.specs.Outcome.{Outcome}
use Rattle.job_forms.specs.Reading.{job_of}
use Rattle.opened_cache.specs.Change.{DiskChange}
use Rattle.tile_command.specs.Causes.{AreCutsFull, BreaksStream, IsCacheRefused, IsCaused, IsFaulty, IsInputOver, IsMalformed, IsMalformedAs, IsOver, IsThrough, NothingFails, OfDocument, RefusesLine, UnderBoth, UnderCatalogue, UnderInput}
use Rattle.tile_command.specs.Change.{CommandChange}
use Rattle.tile_command.specs.Exact.{AreModelled, IsTold}
use Rattle.tile_command.proofs.Caused.{no_disk, no_read}
use Rattle.sessions.specs.declared.session.SessionEnd.{SessionEnd}

-- ONE TEXT of a file

-- a modelled file has one text
pub one_text : {P Q : List ℕ → Type 0} (from : Option (List ℕ)) → IsSome from → IfSome from P → IfSome from Q → (text : List ℕ) × P text × Q text
one_text None some p q = absurd (cc)
one_text (Some text) some p q = (text, p, q)

pub not_both : {P Q : List ℕ → Type 0} (from : Option (List ℕ)) → IsSome from → ((text : List ℕ) → P text → Q text → ⊥) → IfSome from P → IfSome from Q → ⊥
not_both None some apart p q = absurd (cc)
not_both (Some text) some apart p q = apart text p q

long_and_short : (limit : ℕ) (R : List ℕ → Type 0) (text : List ℕ) → limit < length text → (length text ≤ limit) × R text → ⊥
long_and_short limit R text long short = let le = short.0 in absurd (omega arith)

module _ (h : CommandChange) (d : DiskChange) (clock : Readings) (m : AreModelled h) (quiet : NothingFails h d) where
  -- THE CATALOGUE comes first

  abbrev pub Past : Type 0
  Past = UnderCatalogue h (λ c. ⊤)

  through_past : (w : Word) → IsThrough h d clock w → Past
  through_past (word.InMemory memory.Schedule) x = (x.0, x.1, tt)
  through_past (word.InMemory memory.Replay) x = (x.0, x.1, tt)
  through_past (word.InMemory (memory.Drill number)) x = (x.0, x.1, tt)
  through_past (word.Kept kept.Schedule) x = (x.0, x.1, tt)
  through_past (word.Kept kept.Replay) x = (x.0, x.1, tt)
  through_past (word.Upkeep upkeep.Make) x = (x.0, x.1, tt)
  through_past (word.Upkeep upkeep.Truncate) x = (x.0, x.1, tt)
  through_past (word.Upkeep upkeep.Expire) x = (x.0, x.1, tt)
  through_past (word.Upkeep upkeep.Usage) x = (x.0, x.1, tt)
  through_past word.Job x = (x.0, x.1, tt)

  line_past : (w : Word) (n : ℕ) → RefusesLine h d clock w n → Past
  line_past (word.InMemory memory.Schedule) n x = (x.0, x.1, tt)
  line_past (word.InMemory memory.Replay) n x = absurd x
  line_past (word.InMemory (memory.Drill number)) n x = absurd x
  line_past (word.Kept kept.Schedule) n x = (x.0, x.1, tt)
  line_past (word.Kept kept.Replay) n x = absurd x
  line_past (word.Upkeep w) n x = absurd x
  line_past word.Job n x = absurd x

  stream_past : (w : Word) (end : SessionEnd) → BreaksStream h d clock w end → Past
  stream_past (word.InMemory memory.Schedule) end x = absurd x
  stream_past (word.InMemory memory.Replay) end x = (x.0, x.1, tt)
  stream_past (word.InMemory (memory.Drill number)) end x = absurd x
  stream_past (word.Kept kept.Schedule) end x = absurd x
  stream_past (word.Kept kept.Replay) end x = (x.0, x.1, tt)
  stream_past (word.Upkeep w) end x = absurd x
  stream_past word.Job end x = absurd x

  cache_past : (w : Word) (cause : OpenFault) → IsCacheRefused h d clock w cause → Past
  cache_past (word.InMemory w) cause x = absurd x
  cache_past (word.Kept w) cause x = (x.0, x.1, tt)
  cache_past (word.Upkeep upkeep.Make) cause x = absurd x
  cache_past (word.Upkeep upkeep.Truncate) cause x = (x.0, x.1, tt)
  cache_past (word.Upkeep upkeep.Expire) cause x = (x.0, x.1, tt)
  cache_past (word.Upkeep upkeep.Usage) cause x = (x.0, x.1, tt)
  cache_past word.Job cause x = (x.0, x.1, tt)

  cuts_past : (w : Word) → AreCutsFull h d clock w → Past
  cuts_past (word.InMemory w) x = absurd x
  cuts_past (word.Kept w) x = absurd x
  cuts_past (word.Upkeep upkeep.Make) x = absurd x
  cuts_past (word.Upkeep upkeep.Truncate) x = (x.0, x.1, tt)
  cuts_past (word.Upkeep upkeep.Expire) x = absurd x
  cuts_past (word.Upkeep upkeep.Usage) x = absurd x
  cuts_past word.Job x = absurd x

  form_past : (w : Word) (fault : JobFault) → IsMalformed h w fault → Past
  form_past (word.InMemory w) fault x = absurd x
  form_past (word.Kept w) fault x = absurd x
  form_past (word.Upkeep upkeep.Make) fault x = absurd x
  form_past (word.Upkeep upkeep.Truncate) fault x = (x.0, x.1, tt)
  form_past (word.Upkeep upkeep.Expire) fault x = absurd x
  form_past (word.Upkeep upkeep.Usage) fault x = absurd x
  form_past word.Job fault x = (x.0, x.1, tt)

  input_past : (w : Word) → IsInputOver h d clock w → Past
  input_past (word.InMemory memory.Schedule) x = (x.0, x.1, tt)
  input_past (word.InMemory memory.Replay) x = absurd x
  input_past (word.InMemory (memory.Drill number)) x = absurd x
  input_past (word.Kept kept.Schedule) x = (x.0, x.1, tt)
  input_past (word.Kept kept.Replay) x = absurd x
  input_past (word.Upkeep upkeep.Make) x = absurd x
  input_past (word.Upkeep upkeep.Truncate) x = (x.0, x.1, tt)
  input_past (word.Upkeep upkeep.Expire) x = absurd x
  input_past (word.Upkeep upkeep.Usage) x = absurd x
  input_past word.Job x = (x.0, x.1, tt)

  document_past : (w : Word) → OfDocument w (UnderCatalogue h (λ c. IsOver 4194304 h.capabilities)) → Past
  document_past (word.InMemory w) x = (x.0, x.1, tt)
  document_past (word.Kept w) x = (x.0, x.1, tt)
  document_past (word.Upkeep w) x = absurd x
  document_past word.Job x = absurd x

  -- what a status says of the catalogue
  abbrev OfCatalogue : Status → Type 0
  OfCatalogue s = (s ≡ status.OutOfMemory) ⊎ ((fault : CatalogueFault) × (s ≡ status.Catalogue fault) × IsFaulty h fault) ⊎ ((s ≡ status.TooLong) × IsOver 1048576 h.catalogue) ⊎ Past

  pub of_catalogue : (w : Word) (s : Status) → IsCaused h d clock w s → OfCatalogue s
  of_catalogue w status.Done x = inr (inr (inr (through_past w x)))
  of_catalogue w status.OutOfMemory x = inl refl
  of_catalogue w status.Usage x = absurd x
  of_catalogue w status.ListenFault x = absurd x
  of_catalogue w status.ThreadFault x = absurd x
  of_catalogue w (status.Catalogue fault) x = inr (inl (fault, refl, x))
  of_catalogue w status.ReadFault x = absurd (no_read h d w quiet x)
  of_catalogue w status.WriteFault x = absurd (quiet.output x)
  of_catalogue w status.DiskFault x = absurd (no_disk h d w quiet w x)
  of_catalogue w (status.Line n) x = inr (inr (inr (line_past w n x)))
  of_catalogue w (status.Cache cause) x = inr (inr (inr (cache_past w cause x)))
  of_catalogue w status.CutsFull x = inr (inr (inr (cuts_past w x)))
  of_catalogue w (status.Stream end) x = inr (inr (inr (stream_past w end x)))
  of_catalogue w status.TooLong (inl x) = inr (inr (inl (refl, x)))
  of_catalogue w status.TooLong (inr (inl x)) = inr (inr (inr (document_past w x)))
  of_catalogue w status.TooLong (inr (inr x)) = inr (inr (inr (input_past w x)))
  of_catalogue w (status.Form fault) x = inr (inr (inr (form_past w fault x)))

  long_not_faulty : (fault : CatalogueFault) → IsOver 1048576 h.catalogue → IsFaulty h fault → ⊥
  long_not_faulty fault = not_both h.catalogue.from m.catalogue (λ text long short. long_and_short 1048576 (λ t. catalogue_of t ≡ Err fault) text long short)

  pub long_not_past : IsOver 1048576 h.catalogue → Past → ⊥
  long_not_past long past = not_both h.catalogue.from m.catalogue (λ text l short. long_and_short 1048576 (λ t. catalogue_of t ≡ Ok past.0) text l short) long past.1

  pub faulty_not_past : (fault : CatalogueFault) → IsFaulty h fault → Past → ⊥
  faulty_not_past fault faulty past = not_both h.catalogue.from m.catalogue (λ text bad good. no_two text bad.1 good.1) faulty past.1
    where
      no_two : (text : List ℕ) → catalogue_of text ≡ Err fault → catalogue_of text ≡ Ok past.0 → ⊥
      no_two text e f = cc

  pub long_told : (s : Status) → IsOver 1048576 h.catalogue → OfCatalogue s → IsTold status.TooLong s
  long_told s long (inl is) = inr is
  long_told s long (inr (inl x)) = absurd (long_not_faulty x.0 long x.2)
  long_told s long (inr (inr (inl x))) = inl x.0
  long_told s long (inr (inr (inr past))) = absurd (long_not_past long past)

  one_fault : (f g : CatalogueFault) → IsFaulty h f → IsFaulty h g → f ≡ g
  one_fault f g x y = let t = one_text h.catalogue.from m.catalogue x y in same t.0 t.1.1 t.2.1
    where
      same : (text : List ℕ) → catalogue_of text ≡ Err f → catalogue_of text ≡ Err g → f ≡ g
      same text e k = cc

  pub faulty_told : (s : Status) (fault : CatalogueFault) → IsFaulty h fault → OfCatalogue s → IsTold (status.Catalogue fault) s
  faulty_told s fault faulty (inl is) = inr is
  faulty_told s fault faulty (inr (inl x)) = inl (x.1 ∙ ap (λ f. status.Catalogue f) (one_fault x.0 fault x.2 faulty))
  faulty_told s fault faulty (inr (inr (inl x))) = absurd (long_not_faulty fault x.1 faulty)
  faulty_told s fault faulty (inr (inr (inr past))) = absurd (faulty_not_past fault faulty past)

  pub same_catalogue : (x y : Past) → x.0 ≡ y.0
  same_catalogue x y = let t = one_text h.catalogue.from m.catalogue x.1 y.1 in same t.0 t.1.1 t.2.1
    where
      same : (text : List ℕ) → catalogue_of text ≡ Ok x.0 → catalogue_of text ≡ Ok y.0 → x.0 ≡ y.0
      same text e k = cc

  -- THE DOCUMENT

  pub both_past : (P : Catalogue → List ℕ → Type 0) → IsOver 4194304 h.capabilities → UnderBoth h P → ⊥
  both_past P long x = not_both h.capabilities.from m.capabilities (λ text l short. long_and_short 4194304 (λ t. t ≡ x.2.0) text l short) long x.2.1

  memory_told : (w : MemoryWord) (s : Status) → Past → IsOver 4194304 h.capabilities → IsCaused h d clock (word.InMemory w) s → IsTold status.TooLong s
  memory_told w status.TooLong past long x = inl refl
  memory_told w status.OutOfMemory past long x = inr refl
  memory_told w status.Usage past long x = absurd x
  memory_told w status.ListenFault past long x = absurd x
  memory_told w status.ThreadFault past long x = absurd x
  memory_told w (status.Catalogue fault) past long x = absurd (faulty_not_past fault x past)
  memory_told w status.ReadFault past long x = absurd (no_read h d (word.InMemory w) quiet x)
  memory_told w status.WriteFault past long x = absurd (quiet.output x)
  memory_told w status.DiskFault past long x = absurd x
  memory_told memory.Schedule status.Done past long x = absurd (both_past _ long x)
  memory_told memory.Replay status.Done past long x = absurd (both_past _ long x)
  memory_told (memory.Drill number) status.Done past long x = absurd (both_past _ long x)
  memory_told memory.Schedule (status.Line n) past long x = absurd (both_past _ long x)
  memory_told memory.Replay (status.Line n) past long x = absurd x
  memory_told (memory.Drill number) (status.Line n) past long x = absurd x
  memory_told memory.Schedule (status.Stream end) past long x = absurd x
  memory_told memory.Replay (status.Stream end) past long x = absurd (both_past _ long x)
  memory_told (memory.Drill number) (status.Stream end) past long x = absurd x
  memory_told w (status.Cache cause) past long x = absurd x
  memory_told w status.CutsFull past long x = absurd x
  memory_told w (status.Form fault) past long x = absurd x

  kept_told : (w : KeptWord) (s : Status) → Past → IsOver 4194304 h.capabilities → IsCaused h d clock (word.Kept w) s → IsTold status.TooLong s
  kept_told w status.TooLong past long x = inl refl
  kept_told w status.OutOfMemory past long x = inr refl
  kept_told w status.Usage past long x = absurd x
  kept_told w status.ListenFault past long x = absurd x
  kept_told w status.ThreadFault past long x = absurd x
  kept_told w (status.Catalogue fault) past long x = absurd (faulty_not_past fault x past)
  kept_told w status.ReadFault past long x = absurd (no_read h d (word.Kept w) quiet x)
  kept_told w status.WriteFault past long x = absurd (quiet.output x)
  kept_told w status.DiskFault past long x = absurd (quiet.disk x)
  kept_told kept.Schedule status.Done past long x = absurd (both_past _ long x)
  kept_told kept.Replay status.Done past long x = absurd (both_past _ long x)
  kept_told kept.Schedule (status.Line n) past long x = absurd (both_past _ long x)
  kept_told kept.Replay (status.Line n) past long x = absurd x
  kept_told kept.Schedule (status.Stream end) past long x = absurd x
  kept_told kept.Replay (status.Stream end) past long x = absurd (both_past _ long x)
  kept_told w (status.Cache cause) past long x = absurd (both_past _ long x)
  kept_told w status.CutsFull past long x = absurd x
  kept_told w (status.Form fault) past long x = absurd x

  pub document_told : (w : Word) (s : Status) → IsCaused h d clock w s → OfDocument w (UnderCatalogue h (λ c. IsOver 4194304 h.capabilities)) → IsTold status.TooLong s
  document_told (word.InMemory w) s x long = memory_told w s (long.0, long.1, tt) long.2 x
  document_told (word.Kept w) s x long = kept_told w s (long.0, long.1, tt) long.2 x
  document_told (word.Upkeep w) s x long = absurd long
  document_told word.Job s x long = absurd long

  -- THE INPUT

  abbrev NotRefused : Word → Type 0
  NotRefused w = (cause : OpenFault) → IsCacheRefused h d clock w cause → ⊥

  pub input_short : (limit : ℕ) (R : List ℕ → Type 0) → IsOver limit h.input → IfSome h.input.from (λ text. (length text ≤ limit) × R text) → ⊥
  input_short limit R long short = not_both h.input.from m.input (λ text l e. long_and_short limit R text l e) long short

  -- of a word of which each other status says that the input isn't longer
  long_input : (w : Word) (s : Status) → Past → NotRefused w → (IsThrough h d clock w → ⊥) → ((n : ℕ) → RefusesLine h d clock w n → ⊥)
      → ((end : SessionEnd) → BreaksStream h d clock w end → ⊥) → (AreCutsFull h d clock w → ⊥) → ((fault : JobFault) → IsMalformed h w fault → ⊥)
      → IsCaused h d clock w s → IsTold status.TooLong s
  long_input w status.TooLong past refused through line stream cuts form x = inl refl
  long_input w status.OutOfMemory past refused through line stream cuts form x = inr refl
  long_input w status.Done past refused through line stream cuts form x = absurd (through x)
  long_input w status.Usage past refused through line stream cuts form x = absurd x
  long_input w status.ListenFault past refused through line stream cuts form x = absurd x
  long_input w status.ThreadFault past refused through line stream cuts form x = absurd x
  long_input w (status.Catalogue fault) past refused through line stream cuts form x = absurd (faulty_not_past fault x past)
  long_input w status.ReadFault past refused through line stream cuts form x = absurd (no_read h d w quiet x)
  long_input w status.WriteFault past refused through line stream cuts form x = absurd (quiet.output x)
  long_input w status.DiskFault past refused through line stream cuts form x = absurd (no_disk h d w quiet w x)
  long_input w (status.Line n) past refused through line stream cuts form x = absurd (line n x)
  long_input w (status.Cache cause) past refused through line stream cuts form x = absurd (refused cause x)
  long_input w status.CutsFull past refused through line stream cuts form x = absurd (cuts x)
  long_input w (status.Stream end) past refused through line stream cuts form x = absurd (stream end x)
  long_input w (status.Form fault) past refused through line stream cuts form x = absurd (form fault x)

  pub input_told : (w : Word) (s : Status) → IsCaused h d clock w s → IsInputOver h d clock w → NotRefused w → IsTold status.TooLong s
  input_told (word.InMemory memory.Schedule) s x long refused =
      long_input (word.InMemory memory.Schedule) s (long.0, long.1, tt) refused (λ y. input_short 16777216 _ long.2.2 y.2.2.2) (λ n y. input_short 16777216 _ long.2.2 y.2.2.2) (λ end y. y) (λ y. y) (λ fault y. y) x
  input_told (word.InMemory memory.Replay) s x long refused = absurd long
  input_told (word.InMemory (memory.Drill number)) s x long refused = absurd long
  input_told (word.Kept kept.Schedule) s x long refused =
      long_input (word.Kept kept.Schedule) s (long.0, long.1, tt) refused (λ y. input_short 16777216 _ long.2.2.2 y.2.2.2.2) (λ n y. input_short 16777216 _ long.2.2.2 y.2.2.2.2) (λ end y. y) (λ y. y) (λ fault y. y) x
  input_told (word.Kept kept.Replay) s x long refused = absurd long
  input_told (word.Upkeep upkeep.Make) s x long refused = absurd long
  input_told (word.Upkeep upkeep.Truncate) s x long refused =
      long_input (word.Upkeep upkeep.Truncate) s (long.0, long.1, tt) refused (λ y. input_short 65536 _ long.2 y.2.1) (λ n y. y) (λ end y. y) (λ y. input_short 65536 _ long.2 y.2.1) (λ fault y. input_short 65536 _ long.2 y.2) x
  input_told (word.Upkeep upkeep.Expire) s x long refused = absurd long
  input_told (word.Upkeep upkeep.Usage) s x long refused = absurd long
  input_told word.Job s x long refused =
      long_input word.Job s (long.0, long.1, tt) refused (λ y. input_short 65536 _ long.2 y.2.1) (λ n y. y) (λ end y. y) (λ y. y) (λ fault y. input_short 65536 _ long.2 y.2) x

  -- A COVER OR A JOB

  pub well_and_ill : {A : Type 0} (reading : Catalogue → List ℕ → Outcome A) (fault : JobFault) (P : Catalogue → A → Type 0) → IsMalformedAs h reading fault → UnderInput h reading P → ⊥
  well_and_ill reading fault P bad good = not_both h.input.from m.input (λ text ill well. apart text ill.1 well.1) bad.2 good.2.1
    where
      apart : (text : List ℕ) → reading bad.0 text ≡ Err fault → reading good.0 text ≡ Ok good.2.0 → ⊥
      apart text e k = let j : reading bad.0 text ≡ Ok good.2.0 = ap (λ c. reading c text) (same_catalogue (bad.0, bad.1, tt) (good.0, good.1, tt)) ∙ k in cc

  one_form : {A : Type 0} (reading : Catalogue → List ℕ → Outcome A) (f g : JobFault) → IsMalformedAs h reading f → IsMalformedAs h reading g → f ≡ g
  one_form reading f g x y = let t = one_text h.input.from m.input x.2 y.2 in same t.0 t.1.1 t.2.1
    where
      same : (text : List ℕ) → reading x.0 text ≡ Err f → reading y.0 text ≡ Err g → f ≡ g
      same text e k = let j : reading x.0 text ≡ Err g = ap (λ c. reading c text) (same_catalogue (x.0, x.1, tt) (y.0, y.1, tt)) ∙ k in cc

  -- of a word whose input is read so
  ill_told : {A : Type 0} (reading : Catalogue → List ℕ → Outcome A) (fault : JobFault) → IsMalformedAs h reading fault → (w : Word) (s : Status)
      → (IsThrough h d clock w → ⊥) → ((n : ℕ) → RefusesLine h d clock w n → ⊥) → ((end : SessionEnd) → BreaksStream h d clock w end → ⊥) → ((cause : OpenFault) → IsCacheRefused h d clock w cause → ⊥)
      → (AreCutsFull h d clock w → ⊥) → (IsInputOver h d clock w → ⊥) → (OfDocument w (UnderCatalogue h (λ c. IsOver 4194304 h.capabilities)) → ⊥)
      → ((f : JobFault) → IsMalformed h w f → f ≡ fault) → IsCaused h d clock w s → IsTold (status.Form fault) s
  ill_told reading fault bad w (status.Form f) through line stream cache cuts long document same x = inl (ap (λ f. status.Form f) (same f x))
  ill_told reading fault bad w status.OutOfMemory through line stream cache cuts long document same x = inr refl
  ill_told reading fault bad w status.Done through line stream cache cuts long document same x = absurd (through x)
  ill_told reading fault bad w status.Usage through line stream cache cuts long document same x = absurd x
  ill_told reading fault bad w status.ListenFault through line stream cache cuts long document same x = absurd x
  ill_told reading fault bad w status.ThreadFault through line stream cache cuts long document same x = absurd x
  ill_told reading fault bad w (status.Catalogue f) through line stream cache cuts long document same x = absurd (faulty_not_past f x (bad.0, bad.1, tt))
  ill_told reading fault bad w status.ReadFault through line stream cache cuts long document same x = absurd (no_read h d w quiet x)
  ill_told reading fault bad w status.WriteFault through line stream cache cuts long document same x = absurd (quiet.output x)
  ill_told reading fault bad w status.DiskFault through line stream cache cuts long document same x = absurd (no_disk h d w quiet w x)
  ill_told reading fault bad w (status.Line n) through line stream cache cuts long document same x = absurd (line n x)
  ill_told reading fault bad w (status.Cache cause) through line stream cache cuts long document same x = absurd (cache cause x)
  ill_told reading fault bad w status.CutsFull through line stream cache cuts long document same x = absurd (cuts x)
  ill_told reading fault bad w (status.Stream end) through line stream cache cuts long document same x = absurd (stream end x)
  ill_told reading fault bad w status.TooLong through line stream cache cuts long document same (inl x) = absurd (long_not_past x (bad.0, bad.1, tt))
  ill_told reading fault bad w status.TooLong through line stream cache cuts long document same (inr (inl x)) = absurd (document x)
  ill_told reading fault bad w status.TooLong through line stream cache cuts long document same (inr (inr x)) = absurd (long x)

  pub form_told : (w : Word) (s : Status) (fault : JobFault) → IsCaused h d clock w s → IsMalformed h w fault → IsTold (status.Form fault) s
  form_told (word.InMemory w) s fault x bad = absurd bad
  form_told (word.Kept w) s fault x bad = absurd bad
  form_told (word.Upkeep upkeep.Make) s fault x bad = absurd bad
  form_told (word.Upkeep upkeep.Truncate) s fault x bad =
      ill_told cover_of fault bad (word.Upkeep upkeep.Truncate) s (λ y. well_and_ill cover_of fault _ bad y) (λ n y. y) (λ end y. y) (λ cause y. well_and_ill cover_of fault _ bad y)
      (λ y. well_and_ill cover_of fault _ bad y) (λ y. input_short 65536 _ y.2 bad.2) (λ y. y) (λ f y. one_form cover_of f fault y bad) x
  form_told (word.Upkeep upkeep.Expire) s fault x bad = absurd bad
  form_told (word.Upkeep upkeep.Usage) s fault x bad = absurd bad
  form_told word.Job s fault x bad =
      ill_told job_of fault bad word.Job s (λ y. well_and_ill job_of fault _ bad y) (λ n y. y) (λ end y. y) (λ cause y. well_and_ill job_of fault _ bad y)
      (λ y. y) (λ y. input_short 65536 _ y.2 bad.2) (λ y. y) (λ f y. one_form job_of f fault y bad) x

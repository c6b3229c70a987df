-- Where all is in order and nothing fails, each end but Done and want of memory is ruled out by its cause.
use Rattle.std.specs.Prelude.{ℕ, ◌≡◌, ◌⊎◌, ◌≤◌, ◌+◌, ◌++◌, IsSome, IsTrue, zero, suc, List, [], ◌∷◌, length, Option, Some, None, Ok, Err, ⊤}
use Rattle.std.specs.Io.KnownBytes.{Consumes, IsAtEnd}
use Rattle.std.specs.List.{AllByRecursion}
use Rattle.std.proofs.Common.{ap, append-nil, arith, inl, inr, length-append, refl, subst, sym, ◌∙◌}
use Rattle.cabinet.specs.State.{State}
use Rattle.catalog.specs.declared.catalogue.Catalogue.{Catalogue}
use Rattle.catalog.specs.declared.fault.CatalogueFault.{CatalogueFault}
use Rattle.change_feed.specs.declared.mark.Mark.{Mark}
use Rattle.change_feed.specs.Files.{EndsIn}
use Rattle.change_feed.specs.Marks.{EndsAt, IsBadAt, IsBadIn, LeadsTo}
use Rattle.base.specs.Readings.{Readings}
use Rattle.command_setup.specs.declared.configuration.Unconfigured.{Unconfigured}
use Rattle.command_setup.specs.declared.configuration.Unconfigured.TheVariants as unconfigured
use Rattle.command_setup.specs.Setup.{Configures, HasRisen, IsRead}
use Rattle.command_status.specs.declared.status.Status.TheVariants as status
use Rattle.command_status.specs.declared.status.Status.{Status}
use Rattle.config_text.specs.Text.{catalogue_of}
use Rattle.gate_journal.specs.declared.fault.OpenFault.{OpenFault}
use Rattle.gate_journal.specs.declared.fault.OpenFault.TheVariants as fault
use Rattle.gate_journal.specs.Opened.{Opening, differs, no_cache, records}
use Rattle.opened_cache.proofs.Refusing.{not_opened}
use Rattle.opened_cache.specs.Change.{DiskChange}
use Rattle.tile_service.specs.Lines.{lines_of}
use Rattle.sessions.specs.Outside.{InputChange}
use Rattle.feed_words.specs.declared.lines.FeedLinesEnd.TheVariants as lines_end
use Rattle.feed_words.specs.declared.words.FeedWord.{FeedWord}
use Rattle.feed_words.specs.declared.words.FeedWord.TheVariants as feed
use Rattle.feed_words.specs.Complete.{DoOpen, HasCatalogue, HasChanges, IsComplete, IsInOrder, NothingFails}
use Rattle.feed_words.specs.Ends.{AreRefused, FeedChange, FeedTells, Feeds, FeedsOn, HasFedLines, HasOpenedAndFed, IsText, MakesMarks, Stays, WordEnds}
use Rattle.feed_words.specs.Orders.{change_in}
use Rattle.command_setup.specs.Refusals.{status_of_refusal}

abbrev IsDone : Status → Type 0
IsDone s = (s ≡ status.Done) ⊎ (s ≡ status.OutOfMemory)

-- TEXTS

-- what was read to the end is the text
same_text : (from to : Option (List ℕ)) (read whole : List ℕ) → from ≡ Some whole → Consumes from to read → IsAtEnd to → read ≡ whole
same_text None to read whole is consumes ended = absurd (cc)
same_text (Some all) None read whole is consumes ended = absurd consumes
same_text (Some all) (Some rest) read whole is consumes ended = let first : all ≡ read = consumes ∙ ap (λ r. read ++ r) ended ∙ append-nil read in cc

-- no more than a text has was taken of it
not_over : (limit : ℕ) (from to : Option (List ℕ)) (taken whole : List ℕ) → from ≡ Some whole → Consumes from to taken → length taken ≡ limit + 1 → length whole ≤ limit → ⊥
not_over limit None to taken whole is consumes long short = cc
not_over limit (Some all) None taken whole is consumes long short = consumes
not_over limit (Some all) (Some rest) taken whole is consumes long short =
    let same : whole ≡ taken ++ rest = let first : Some whole ≡ Some all = sym is in cc in
    let count : length whole ≡ length taken + length rest = ap length same ∙ length-append taken rest in
    absurd (omega arith)

-- THE CATALOGUE

two_catalogues : (text : List ℕ) (c d : Catalogue) → catalogue_of text ≡ Ok c → catalogue_of text ≡ Ok d → d ≡ c
two_catalogues text c d e k = cc

no_fault : (text : List ℕ) (c : Catalogue) (fault : CatalogueFault) → catalogue_of text ≡ Ok c → catalogue_of text ≡ Err fault → ⊥
no_fault text c fault e k = cc

same_catalogue : (i : InputChange) (c d : Catalogue) → HasCatalogue i c → IsRead i (Ok d) → d ≡ c
same_catalogue i c d has read = two_catalogues has.text c d has.holds (subst (λ (t : List ℕ). catalogue_of t ≡ Ok d) (same_text i.from _ read.text has.text has.from read.read read.at_end) read.comes)

not_refused : (i : InputChange) (c : Catalogue) → HasCatalogue i c → (HasRisen i → ⊥) → (e : Unconfigured) → Configures i (Err e) → IsDone (status_of_refusal e)
not_refused i c has quiet unconfigured.ReadFault refused = absurd (quiet refused)
not_refused i c has quiet unconfigured.TooLong refused = absurd (not_over 1048576 i.from _ refused.0 has.text has.from refused.1 refused.2 has.short)
not_refused i c has quiet (unconfigured.Fault fault) refused =
    absurd (no_fault has.text c fault has.holds (subst (λ (t : List ℕ). catalogue_of t ≡ Err fault) (same_text i.from _ refused.text has.text has.from refused.read refused.at_end) refused.comes))
not_refused i c has quiet unconfigured.OutOfMemory refused = inr refl

-- THE MARKS

bad_or_led : (first mark : Option Mark) (bodies : List (List ℕ)) (slot : ℕ) → LeadsTo first bodies mark → IsBadAt first bodies slot → ⊥
bad_or_led first mark [] slot leads bad = bad
bad_or_led first mark (b ∷ bodies) zero leads bad = bad leads.0 leads.1
bad_or_led first mark (b ∷ bodies) (suc slot) leads bad =
    bad_or_led (Some bad.0) mark bodies slot (subst (λ (m : Mark). LeadsTo (Some m) bodies mark) (some_once leads.0 bad.0 (sym leads.1.0 ∙ bad.1.0)) leads.2) bad.2
  where
    some_once : (m n : Mark) → Some m ≡ Some n → m ≡ n
    some_once m n is = cc

no_cache_or_marks : (mark : Option Mark) (o : Opening) → EndsAt mark o → o ≡ no_cache → ⊥
no_cache_or_marks mark o ends is = subst (EndsAt mark) is ends

other_or_marks : (mark : Option Mark) (o : Opening) (found : List ℕ) → EndsAt mark o → o ≡ differs found → ⊥
other_or_marks mark o found ends is = subst (EndsAt mark) is ends

bad_or_marks : (mark : Option Mark) (slot : ℕ) (o : Opening) → EndsAt mark o → IsBadIn slot o → ⊥
bad_or_marks mark slot no_cache ends bad = bad
bad_or_marks mark slot (differs found) ends bad = bad
bad_or_marks mark slot (records version bodies) ends bad = bad_or_led None mark bodies slot ends bad

marks_open : (c : Catalogue) (m : DiskChange) (told : IsTrue m.told) (mark : Option Mark) → EndsIn c.digest mark m.from.seen → (cause : OpenFault) → AreRefused c m cause → ⊥
marks_open c m told mark ends fault.NotACache refused = no_cache_or_marks mark _ ends.opens (refused told)
marks_open c m told mark ends (fault.CatalogueDiffers found asked) refused = other_or_marks mark _ found ends.opens (refused.1 told)
marks_open c m told mark ends (fault.BadRecord slot) refused = bad_or_marks mark slot _ ends.opens (refused told)
marks_open c m told mark ends fault.Spent refused = refused
marks_open c m told mark ends fault.DiskFault refused = refused
marks_open c m told mark ends fault.OutOfMemory refused = refused

-- THE LINES

-- a line among those that order changes orders one
ordered_at : (c : Catalogue) (before : List (List ℕ)) (line : List ℕ) (rest : List (List ℕ)) → AllByRecursion (λ l. IsSome (change_in c l)) (before ++ line ∷ rest) → IsSome (change_in c line)
ordered_at c [] line rest all = all.0
ordered_at c (l ∷ before) line rest all = ordered_at c before line rest all.1

none_is_no_some : {A : Type 0} (x : Option A) → x ≡ None → IsSome x → ⊥
none_is_no_some None is some = cc
none_is_no_some (Some a) is some = cc

-- THE WORDS

made : (h : FeedChange) → NothingFails h → (c : Catalogue) (OutputStays : Type 0) (e : Status) → MakesMarks c h.marks h.output OutputStays e → IsDone e
made h quiet c S status.Done ends = inl refl
made h quiet c S status.WriteFault ends = absurd (quiet.output ends.1.1)
made h quiet c S status.DiskFault ends = absurd (quiet.marks ends.0)
made h quiet c S status.ReadFault ends = absurd ends
made h quiet c S status.TooLong ends = absurd ends
made h quiet c S (status.Form cause) ends = absurd ends
made h quiet c S (status.Cache cause) ends = absurd ends
made h quiet c S status.CutsFull ends = absurd ends
made h quiet c S (status.Line n) ends = absurd ends
made h quiet c S (status.Stream session) ends = absurd ends
made h quiet c S status.OutOfMemory ends = absurd ends
made h quiet c S status.Usage ends = absurd ends
made h quiet c S (status.Catalogue fault) ends = absurd ends
made h quiet c S status.ListenFault ends = absurd ends
made h quiet c S status.ThreadFault ends = absurd ends

module _ (h : FeedChange) (quiet : NothingFails h) (clock : Readings) (c : Catalogue) (open_both : DoOpen c clock h.cache h.marks) (has : HasChanges c h.input) where
  -- the text that was read orders a change in each line
  changes_read : (text : List ℕ) → IsText h.input text → AllByRecursion (λ line. IsSome (change_in c line)) (lines_of text)
  changes_read text t = subst (λ (x : List ℕ). AllByRecursion (λ line. IsSome (change_in c line)) (lines_of x)) (sym (same_text h.input.from _ text has.text has.from t.read t.at_end)) has.holds

  no_line : (s u : State) (n : ℕ) → HasFedLines c h.cache.faults h.input h.output h.marks s u (lines_end.Line n) → ⊥
  no_line s u n f =
      let text = f.2.0 in
      let e = f.2.2 in
      let all : AllByRecursion (λ line. IsSome (change_in c line)) (e.0 ++ e.1 ∷ e.2.0) = subst (λ (ls : List (List ℕ)). AllByRecursion (λ line. IsSome (change_in c line)) ls) e.2.1 (changes_read text f.2.1) in
      none_is_no_some (change_in c e.1) e.5 (ordered_at c e.0 e.1 e.2.0 all)

  fed_on : (InputStays OutputStays : Type 0) (s u : State) (e : Status) → FeedsOn c h.cache.faults h.input h.output h.marks InputStays OutputStays s u e → IsDone e
  fed_on I O s u status.Done f = inl refl
  fed_on I O s u (status.Line n) f = absurd (no_line s u n f)
  fed_on I O s u status.WriteFault f = absurd (quiet.output f.2.2.4.failed)
  fed_on I O s u status.ReadFault f = absurd (quiet.input f.1)
  fed_on I O s u status.TooLong f = absurd (not_over 16777216 h.input.from _ f.1.0 has.text has.from f.1.1 f.1.2 has.short)
  fed_on I O s u (status.Cache cause) f = absurd (marks_open c h.marks open_both.marks_told open_both.marks.0 open_both.marks.1 cause f.0)
  fed_on I O s u status.DiskFault f = absurd (quiet.marks f.0)
  fed_on I O s u status.OutOfMemory f = inr refl
  fed_on I O s u (status.Form cause) f = absurd f
  fed_on I O s u status.CutsFull f = absurd f
  fed_on I O s u (status.Stream session) f = absurd f
  fed_on I O s u status.Usage f = absurd f
  fed_on I O s u (status.Catalogue fault) f = absurd f
  fed_on I O s u status.ListenFault f = absurd f
  fed_on I O s u status.ThreadFault f = absurd f

  opened_and_fed : (InputStays OutputStays : Type 0) (e : Status) → HasOpenedAndFed c clock h.input h.output h.cache h.marks InputStays OutputStays e → IsDone e
  opened_and_fed I O e f = fed_on I O f.0 f.1 e f.3

  fed : (InputStays OutputStays MarksStay : Type 0) (e : Status) → Feeds c clock h.input h.output h.cache h.marks InputStays OutputStays MarksStay e → IsDone e
  fed I O M status.Done f = inl refl
  fed I O M (status.Line n) f = opened_and_fed I O (status.Line n) f
  fed I O M status.WriteFault f = opened_and_fed I O status.WriteFault f
  fed I O M status.ReadFault f = opened_and_fed I O status.ReadFault f
  fed I O M status.TooLong f = opened_and_fed I O status.TooLong f
  fed I O M (status.Cache cause) (inl f) = absurd (not_opened c h.cache open_both.told clock open_both.cabinet.0 cause f.0 open_both.cabinet.1)
  fed I O M (status.Cache cause) (inr f) = opened_and_fed I O (status.Cache cause) f
  fed I O M status.DiskFault (inl f) = absurd (quiet.cache f.0)
  fed I O M status.DiskFault (inr f) = opened_and_fed I O status.DiskFault f
  fed I O M status.OutOfMemory f = inr refl
  fed I O M (status.Form cause) f = absurd f
  fed I O M status.CutsFull f = absurd f
  fed I O M (status.Stream session) f = absurd f
  fed I O M status.Usage f = absurd f
  fed I O M (status.Catalogue fault) f = absurd f
  fed I O M status.ListenFault f = absurd f
  fed I O M status.ThreadFault f = absurd f

-- EACH WORD

-- the catalogue of a word that is in order
abbrev catalogue_in : (h : FeedChange) (clock : Readings) (w : FeedWord) → IsInOrder h clock w → (c : Catalogue) × HasCatalogue h.catalogue c
catalogue_in h clock feed.Make order = (order.0, order.1)
catalogue_in h clock feed.Run order = (order.0, order.1)

-- a word under it
under : (h : FeedChange) (stays : Stays) (clock : Readings) (w : FeedWord) (order : IsInOrder h clock w) → NothingFails h → (e : Status) → WordEnds h.input h.output h.cache h.marks stays clock w (catalogue_in h clock w order).0 e → IsDone e
under h stays clock feed.Make order quiet e ends = made h quiet order.0 stays.output e ends.0
under h stays clock feed.Run order quiet e ends = fed h quiet clock order.0 order.2 order.3 stays.input stays.output stays.marks e ends

of_word : (h : FeedChange) (CatalogueStays : Type 0) (stays : Stays) (clock : Readings) (w : FeedWord) (s : Status) → FeedTells h CatalogueStays stays clock (Some w) s → IsInOrder h clock w → NothingFails h → IsDone s
of_word h C stays clock w s (inl refusal) order quiet =
    let has = catalogue_in h clock w order in
    subst IsDone (sym refusal.1) (not_refused h.catalogue has.0 has.1 quiet.catalogue refusal.0 refusal.2)
of_word h C stays clock w s (inr read) order quiet =
    let has = catalogue_in h clock w order in
    let same : read.0 ≡ has.0 = same_catalogue h.catalogue has.0 read.0 has.1 read.1 in
    under h stays clock w order quiet s (subst (λ (x : Catalogue). WordEnds h.input h.output h.cache h.marks stays clock w x s) same read.2)

-- of what words ask for, where they ask for something
pub completed : (h : FeedChange) (stays : Stays) (clock : Readings) (asked : Option FeedWord) (w : FeedWord) (s : Status) → asked ≡ Some w → FeedTells h ⊤ stays clock (Some w) s → IsComplete h clock asked s
completed h stays clock asked w s is tells = subst (λ (x : Option FeedWord). IsComplete h clock x s) (sym is) (of_word h ⊤ stays clock w s tells)

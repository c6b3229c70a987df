-- Whether a refresh keeps its metatile, by the last entry of the history behind it.
use Rattle.std.proofs.Common.{ℕ, ◌≡◌, ◌∙◌, Bool, true, false, List, [], ◌∷◌, ◌++◌, Result, Ok, Err, length, ap, subst}
use Rattle.std.specs.Prelude.{⊤}
use Rattle.std.proofs.lemmas.List.Sums.{fold-append}
use Rattle.cabinet.specs.Commands.{Finishes, kept_at}
use Rattle.cabinet.specs.declared.entry.HistoryEntry.{HistoryEntry}
use Rattle.cabinet.specs.declared.entry.HistoryEntry.TheVariants as entry
use Rattle.cabinet.specs.declared.replies.Asked.{Asked}
use Rattle.cabinet.specs.declared.replies.Asked.TheVariants as asked
use Rattle.cabinet.specs.declared.replies.Finished.{Finished}
use Rattle.cabinet.specs.declared.replies.Finished.TheVariants as finished
use Rattle.cabinet.specs.declared.replies.Forced.{Forced}
use Rattle.cabinet.specs.declared.replies.Forced.TheVariants as forced
use Rattle.cabinet.specs.History.{stored_entry}
use Rattle.cabinet.specs.State.{State, asked_at, with_entry}
use Rattle.cabinet_chest.specs.declared.command.Command.{Command}
use Rattle.cabinet_chest.specs.declared.command.Command.TheVariants as command
use Rattle.cabinet_chest.specs.declared.command.Reply.{Reply}
use Rattle.cabinet_chest.specs.declared.command.Reply.TheVariants as reply
use Rattle.cabinet_chest.specs.declared.shown.Note.{Note}
use Rattle.cabinet_chest.specs.declared.shown.Shown.{Shown}
use Rattle.cabinet_chest.specs.Replies.{IsAnswered, IsForcedAnswered, IsReplyTo, MayReply}
use Rattle.cache_access.specs.declared.fault.GetFault.{GetFault}
use Rattle.cache_access.specs.declared.refreshed.Refreshed.{Refreshed}
use Rattle.cache_access.specs.declared.refreshed.Refreshed.TheVariants as refreshed
use Rattle.cache_access.specs.Alone.{AreSteps, IsStep}
use Rattle.cache_access.specs.Refreshes.{BecameOf, CameTo, GivesTicket, IsUnkept}
use Rattle.cache_access.specs.Stepping.{unsure}
use Rattle.catalog.specs.declared.catalogue.Catalogue.{Catalogue}
use Rattle.matrix_geometry.specs.declared.address.Address.{Address}
use Rattle.metatile_locks.specs.Tickets.{Ticketed}
use Rattle.metatile_plan.specs.declared.metatile.MetaKey.{MetaKey}
use Rattle.raster_field.specs.Blocks.{block_of, first_tile}
use Rattle.truncation_list.specs.declared.book.FrontedBook.{FrontedBook}
use Rattle.turnstile.specs.declared.view.Made.{Made}
use Rattle.job_words.specs.Visit.{ends_keeping, is_keeping}

-- THE LAST ENTRY

last_entry : (history : List HistoryEntry) (e : HistoryEntry) → ends_keeping (history ++ e ∷ []) ≡ is_keeping e
last_entry history e = fold-append (λ (before : Bool) (x : HistoryEntry). is_keeping x) false history (e ∷ [])

abbrev keeping : State → Bool
keeping s = ends_keeping s.history

-- the cabinet grew by an entry
by_entry : (s u : State) (e : HistoryEntry) → u ≡ with_entry s e → keeping u ≡ is_keeping e
by_entry s u e is = ap keeping is ∙ last_entry s.history e

-- THE REPLIES OF TURNS

asked_same : (x y : Asked) → reply.Asked x ≡ reply.Asked y → y ≡ x
asked_same x y e = cc

forced_same : (x y : Forced) → reply.Forced x ≡ reply.Forced y → y ≡ x
forced_same x y e = cc

finished_same : (x y : Finished) → reply.Finished x ≡ reply.Finished y → y ≡ x
finished_same x y e = cc

module _ (c : Catalogue) (b a : Shown) (does : Command) (r : Reply) (may : MayReply c false b a does r) where
  asked_by : (t : Address) (x : Asked) → does ≡ command.Ask t → r ≡ reply.Asked x → IsAnswered c false b a t x
  asked_by t x is_ask is_answer =
      let h = subst (λ (z : Reply). IsReplyTo c false b a (command.Ask t) z) is_answer (subst (λ (d : Command). IsReplyTo c false b a d r) is_ask may.answer) in
      subst (λ (y : Asked). IsAnswered c false b a t y) (asked_same x h.0 h.1) h.2

  forced_by : (m : MetaKey) (x : Forced) → does ≡ command.Force m → r ≡ reply.Forced x → IsForcedAnswered c b a m x
  forced_by m x is_force is_answer =
      let h = subst (λ (z : Reply). IsReplyTo c false b a (command.Force m) z) is_answer (subst (λ (d : Command). IsReplyTo c false b a d r) is_force may.answer) in
      subst (λ (y : Forced). IsForcedAnswered c b a m y) (forced_same x h.0 h.1) h.2

  finished_by : (t : Ticketed) (blob : List ℕ) (x : Finished) → does ≡ command.Finish t blob → r ≡ reply.Finished x → Finishes b.state t blob x a.state
  finished_by t blob x is_finish is_answer =
      let h = subst (λ (z : Reply). IsReplyTo c false b a (command.Finish t blob) z) is_answer (subst (λ (d : Command). IsReplyTo c false b a d r) is_finish may.answer) in
      subst (λ (y : Finished). Finishes b.state t blob y a.state) (finished_same x h.0 h.1) h.2

-- WHAT THEY KEEP

keeps_finished : (s : State) (t : Ticketed) (blob : List ℕ) (u : State) → Finishes s t blob finished.Kept u → keeping u ≡ true
keeps_finished s t blob u row = ap keeping row.3.2 ∙ last_entry s.history (stored_entry (kept_at t row.0 row.3.0 (length blob)))

keeps_not : (s : State) (t : Ticketed) (blob : List ℕ) (r : Finished) (u : State) → keeping s ≡ false → IsUnkept r → Finishes s t blob r u → keeping u ≡ false
keeps_not s t blob finished.Stranger u before is row = ap keeping row.1 ∙ before
keeps_not s t blob (finished.Overtaken cut) u before is row = ap keeping row.2 ∙ last_entry s.history _
keeps_not s t blob finished.Full u before is row = ap keeping row.3 ∙ last_entry s.history _
keeps_not s t blob finished.NoRoom u before is row = ap keeping row.4 ∙ last_entry s.history _
keeps_not s t blob (finished.DiskFault b a) u before is row = ap keeping row.5 ∙ last_entry s.history _
keeps_not s t blob finished.Kept u before is row = absurd is

-- a refresh that came to this left a metatile that is kept, or none
abbrev pub KeepsSo : State → Result Refreshed GetFault → Type 0
KeepsSo u (Ok (refreshed.AlreadyKept n)) = ends_keeping u.history ≡ true
KeepsSo u (Ok (refreshed.Made n)) = ends_keeping u.history ≡ true
KeepsSo u (Ok (refreshed.Unkept n)) = ends_keeping u.history ≡ false
KeepsSo u (Err fault) = ⊤

-- A REFRESH

module _ (c : Catalogue) (y : Shown) where
  after_busy : (x : Shown) (busy rest : List (Made Note)) → AreSteps c x (busy ++ rest) y → (z : Shown) × AreSteps c z rest y
  after_busy x [] rest h = (x, h)
  after_busy x (b ∷ bs) rest h = after_busy b.note.after bs rest h.1

  -- the ticket was given last
  begun_keeps : (z : Shown) (m : MetaKey) (force : Bool) (t : Ticketed) (ask : Made Note) → IsStep c z ask → GivesTicket c m force t ask → keeping ask.note.after.state ≡ false
  begun_keeps z m false t ask step of =
      let row = (asked_by c ask.note.before ask.note.after ask.note.command ask.note.reply (unsure c z ask step) (first_tile c m) (asked.Ticket t) of.command of.reply).row in
      let s = asked_at ask.note.after.state.clock.moment ask.note.before.state in
      by_entry s ask.note.after.state (entry.Started t.number (block_of s.catalogue (first_tile c m))) row.1.state
  begun_keeps z m true t ask step of =
      let row = (forced_by c ask.note.before ask.note.after ask.note.command ask.note.reply (unsure c z ask step) m (forced.Ticket t) of.command of.reply).row in
      by_entry (asked_at ask.note.after.state.clock.moment ask.note.before.state) ask.note.after.state (entry.Started t.number m) row.state

  became_keeps : (Sound : Type 0) (m : MetaKey) (force : Bool) (z : Shown) (ask : Made Note) (ends : List (Made Note)) (res : Refreshed) → AreSteps c z (ask ∷ ends) y → BecameOf c Sound m force ask ends res → KeepsSo y.state (Ok res)
  became_keeps Sound m force z ask ends (refreshed.AlreadyKept k) steps left =
      let all = subst (λ (es : List (Made Note)). AreSteps c z (ask ∷ es) y) left.nothing steps in
      let row = (asked_by c ask.note.before ask.note.after ask.note.command ask.note.reply (unsure c z ask all.0) (first_tile c m) (asked.Hit k left.bytes) left.answer.command left.answer.reply).row in
      let s = asked_at ask.note.after.state.clock.moment ask.note.before.state in
      ap keeping all.1.0 ∙ by_entry s ask.note.after.state (entry.Used (block_of s.catalogue (first_tile c m))) row.state
  became_keeps Sound m force z ask ends (refreshed.Made k) steps h =
      let all = subst (λ (es : List (Made Note)). AreSteps c z (ask ∷ es) y) h.one steps in
      let end = h.end in
      let row = finished_by c end.note.before end.note.after end.note.command end.note.reply (unsure c ask.note.after end all.1.0) h.ticket h.blob finished.Kept h.handed.command h.handed.reply in
      ap keeping all.1.1.0 ∙ keeps_finished end.note.before.state h.ticket h.blob end.note.after.state row
  became_keeps Sound m force z ask ends (refreshed.Unkept k) steps (r, unkept, h) =
      let all = subst (λ (es : List (Made Note)). AreSteps c z (ask ∷ es) y) h.one steps in
      let end = h.end in
      let row = finished_by c end.note.before end.note.after end.note.command end.note.reply (unsure c ask.note.after end all.1.0) h.ticket h.blob r h.handed.command h.handed.reply in
      let before = ap keeping all.1.0.state ∙ begun_keeps z m force h.ticket ask all.0 h.answer in
      ap keeping all.1.1.0 ∙ keeps_not end.note.before.state h.ticket h.blob r end.note.after.state before unkept row

  pub came_keeps : (Sound : Type 0) (m : MetaKey) (force : Bool) (seen : FrontedBook) (x : Shown) (gained : List (Made Note)) (r : Result Refreshed GetFault) → AreSteps c x gained y → CameTo c Sound m force seen gained r → KeepsSo y.state r
  came_keeps Sound m force seen x gained (Ok res) steps came =
      let at = after_busy x came.busy (came.ask ∷ came.ends) (subst (λ (ms : List (Made Note)). AreSteps c x ms y) came.all steps) in
      became_keeps Sound m force at.0 came.ask came.ends res at.1 came.became
  came_keeps Sound m force seen x gained (Err fault) steps came = tt

-- What a word tells of the work that it did.
use Rattle.std.specs.Prelude.{IfOk, List, OnErr, Result, Ok, Err}
use Rattle.std.specs.declared.alloc.AllocError.{AllocError}
use Rattle.std.proofs.Common.{ℕ, ◌≡◌, ◌≤◌, ◌^◌, ◌-◌, inr, refl, subst}
use Rattle.cabinet.specs.Commands.{Cuts, IsCountedCut}
use Rattle.cabinet.specs.declared.replies.CutReply.{CutReply}
use Rattle.cabinet.specs.declared.replies.CutReply.TheVariants as cut
use Rattle.cabinet.specs.State.{State}
use Rattle.catalog.specs.declared.catalogue.Catalogue.{Catalogue}
use Rattle.base.specs.Causes.{Rose}
use Rattle.base.specs.Readings.{Readings}
use Rattle.http_wire.proofs.TakesOn.{rose_before}
use Rattle.command_status.specs.declared.status.Status.{Status}
use Rattle.command_status.specs.declared.status.Status.TheVariants as status
use Rattle.opened_cache.specs.Change.{DiskChange}
use Rattle.sessions.specs.Outside.{InputChange, OutputChange}
use Rattle.opened_cache.specs.Opened.{HasOpened}
use Rattle.opened_cache.specs.Texts.{Sends}
use Rattle.disk_words.specs.Covers.{IsCoverIn}
use Rattle.disk_words.specs.Ends.{CutsOnce, TellsCut, TellsUsage, Truncates}
use Rattle.tile_requests.specs.Texts.{usage_text}
use Rattle.truncation_list.specs.declared.cover.Cover.{Cover}

-- the one cut, by its reply and how that was told
pub cut_tells : (c : Catalogue) (clock : Readings) (cover : Cover) (d : DiskChange) (o : OutputChange) (Stays : Type 0) (s u : State) (mid : ℕ)
    → HasOpened c clock d s u → d.faults.before ≤ mid → (reply : Result CutReply AllocError) → IfOk reply (λ r. Cuts s cover r u) → OnErr reply (u ≡ s) → IfOk reply (IsCountedCut mid d.faults.after)
    → (e : Status) → TellsCut o Stays reply e → CutsOnce c clock cover d o Stays e
cut_tells c clock cover d o Stays s u mid h le (Ok (cut.Done t)) cuts same counted status.Done tells = (s, u, t, h, cuts, tells)
cut_tells c clock cover d o Stays s u mid h le (Ok (cut.Done t)) cuts same counted status.WriteFault tells = (s, u, t, h, cuts, tells)
cut_tells c clock cover d o Stays s u mid h le (Ok (cut.Done t)) cuts same counted status.ReadFault tells = absurd tells
cut_tells c clock cover d o Stays s u mid h le (Ok (cut.Done t)) cuts same counted status.TooLong tells = absurd tells
cut_tells c clock cover d o Stays s u mid h le (Ok (cut.Done t)) cuts same counted (status.Form cause) tells = absurd tells
cut_tells c clock cover d o Stays s u mid h le (Ok (cut.Done t)) cuts same counted (status.Cache cause) tells = absurd tells
cut_tells c clock cover d o Stays s u mid h le (Ok (cut.Done t)) cuts same counted status.DiskFault tells = absurd tells
cut_tells c clock cover d o Stays s u mid h le (Ok (cut.Done t)) cuts same counted status.CutsFull tells = absurd tells
cut_tells c clock cover d o Stays s u mid h le (Ok (cut.Done t)) cuts same counted (status.Line n) tells = absurd tells
cut_tells c clock cover d o Stays s u mid h le (Ok (cut.Done t)) cuts same counted (status.Stream session) tells = absurd tells
cut_tells c clock cover d o Stays s u mid h le (Ok (cut.Done t)) cuts same counted status.OutOfMemory tells = absurd tells
cut_tells c clock cover d o Stays s u mid h le (Ok (cut.Done t)) cuts same counted status.Usage tells = absurd tells
cut_tells c clock cover d o Stays s u mid h le (Ok (cut.Done t)) cuts same counted (status.Catalogue fault) tells = absurd tells
cut_tells c clock cover d o Stays s u mid h le (Ok (cut.Done t)) cuts same counted status.ListenFault tells = absurd tells
cut_tells c clock cover d o Stays s u mid h le (Ok (cut.Done t)) cuts same counted status.ThreadFault tells = absurd tells
cut_tells c clock cover d o Stays s u mid h le (Ok cut.Full) cuts same counted e tells = rw tells.0 (s, u, h, cuts, tells.1)
cut_tells c clock cover d o Stays s u mid h le (Ok cut.Spent) cuts same counted e tells = rw tells.0 (inr (refl, (s, u, h, cuts)), tells.1)
cut_tells c clock cover d o Stays s u mid h le (Ok (cut.DiskFault b a)) cuts same counted e tells =
    let rose : Rose mid d.faults.after = subst (λ n. Rose n d.faults.after) counted.0 (subst (Rose b) counted.1 cuts.3) in
    rw tells.0 (rose_before (2 ^ 64 - 1) d.faults.before mid d.faults.after le rose, tells.1, inr (s, u, b, a, h, cuts))
cut_tells c clock cover d o Stays s u mid h le (Err failed) cuts same counted e tells = rw tells.0 (tells.1, inr (s, subst (λ (x : State). HasOpened c clock d s x) same h))

-- the cut of a cover that was read
pub cuts_read : (c : Catalogue) (clock : Readings) (i : InputChange) (d : DiskChange) (o : OutputChange) (DiskStays Stays : Type 0) (cover : Cover)
    → IsCoverIn c i cover → (e : Status) → CutsOnce c clock cover d o Stays e → Truncates c clock i d o DiskStays Stays e
cuts_read c clock i d o DiskStays Stays cover read status.Done cuts = (cover, read, cuts)
cuts_read c clock i d o DiskStays Stays cover read status.WriteFault cuts = (cover, read, cuts)
cuts_read c clock i d o DiskStays Stays cover read status.ReadFault cuts = absurd cuts
cuts_read c clock i d o DiskStays Stays cover read status.TooLong cuts = absurd cuts
cuts_read c clock i d o DiskStays Stays cover read (status.Form cause) cuts = absurd cuts
cuts_read c clock i d o DiskStays Stays cover read (status.Cache cause) cuts = (cover, read, cuts)
cuts_read c clock i d o DiskStays Stays cover read status.DiskFault cuts = (cover, read, cuts)
cuts_read c clock i d o DiskStays Stays cover read status.CutsFull cuts = (cover, read, cuts)
cuts_read c clock i d o DiskStays Stays cover read (status.Line n) cuts = absurd cuts
cuts_read c clock i d o DiskStays Stays cover read (status.Stream session) cuts = absurd cuts
cuts_read c clock i d o DiskStays Stays cover read status.Usage cuts = absurd cuts
cuts_read c clock i d o DiskStays Stays cover read (status.Catalogue fault) cuts = absurd cuts
cuts_read c clock i d o DiskStays Stays cover read status.ListenFault cuts = absurd cuts
cuts_read c clock i d o DiskStays Stays cover read status.ThreadFault cuts = absurd cuts
cuts_read c clock i d o DiskStays Stays cover read status.OutOfMemory cuts = inr (cover, read, cuts)

-- the usage of a cabinet that was opened, by how its writing ended
usage_told : (c : Catalogue) (clock : Readings) (d : DiskChange) (o : OutputChange) (Stays : Type 0) (s : State)
    → HasOpened c clock d s s → (e : Status) → Sends o (usage_text s) e → TellsUsage c clock d o Stays e
usage_told c clock d o Stays s h status.Done sends = (s, h, sends)
usage_told c clock d o Stays s h status.WriteFault sends = (s, h, sends)
usage_told c clock d o Stays s h status.ReadFault sends = absurd sends
usage_told c clock d o Stays s h status.TooLong sends = absurd sends
usage_told c clock d o Stays s h (status.Form cause) sends = absurd sends
usage_told c clock d o Stays s h (status.Cache cause) sends = absurd sends
usage_told c clock d o Stays s h status.DiskFault sends = absurd sends
usage_told c clock d o Stays s h status.CutsFull sends = absurd sends
usage_told c clock d o Stays s h (status.Line n) sends = absurd sends
usage_told c clock d o Stays s h (status.Stream session) sends = absurd sends
usage_told c clock d o Stays s h status.OutOfMemory sends = absurd sends
usage_told c clock d o Stays s h status.Usage sends = absurd sends
usage_told c clock d o Stays s h (status.Catalogue fault) sends = absurd sends
usage_told c clock d o Stays s h status.ListenFault sends = absurd sends
usage_told c clock d o Stays s h status.ThreadFault sends = absurd sends

-- the text that was written is that of the usage
pub usage_tells : (c : Catalogue) (clock : Readings) (d : DiskChange) (o : OutputChange) (Stays : Type 0) (s : State)
    → HasOpened c clock d s s → (text : List ℕ) → text ≡ usage_text s → (e : Status) → Sends o text e → TellsUsage c clock d o Stays e
usage_tells c clock d o Stays s h text same e sends = usage_told c clock d o Stays s h e (subst (λ x. Sends o x e) same sends)

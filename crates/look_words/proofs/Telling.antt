-- How a look ends where its disk is refused, and where its files are.
use Rattle.std.proofs.Common.{ℕ, ◌≡◌, ◌+◌, ◌<◌, ◌≤◌, ◌^◌, ◌++◌, List, length, Option, inl, inr, subst, sym}
use Rattle.std.specs.Option.{option_map_or}
use Rattle.cabinet.specs.declared.kept.Kept.{Kept}
use Rattle.cabinet_records.specs.Replay.{Replayed}
use Rattle.catalog.specs.declared.catalogue.Catalogue.{Catalogue}
use Rattle.command_setup.specs.Refusals.{status_of_refusal}
use Rattle.command_setup.specs.declared.configuration.Unconfigured.{Unconfigured}
use Rattle.command_setup.specs.declared.configuration.Unconfigured.TheVariants as unconfigured
use Rattle.command_status.specs.Statuses.{status_of_opening}
use Rattle.command_status.specs.declared.status.Status.{Status}
use Rattle.command_status.specs.declared.status.Status.TheVariants as status
use Rattle.durable_cabinet.specs.Filed.{IsRefusedAs}
use Rattle.gate_journal.specs.declared.fault.OpenFault.{OpenFault}
use Rattle.gate_journal.specs.declared.fault.OpenFault.TheVariants as fault
use Rattle.job_forms.specs.declared.job.Job.{Job}
use Rattle.job_forms.specs.Reading.{job_of}
use Rattle.job_sizes.specs.Sizes.{size_of}
use Rattle.opened_cache.specs.Change.{DiskChange, HasWritten, IsCutShort}
use Rattle.opened_cache.specs.Inputs.{HasFault, IsUnread}
use Rattle.opened_cache.specs.Texts.{Sends}
use Rattle.sessions.specs.Outside.{InputChange, OutputChange}
use Rattle.truncation_list.specs.declared.book.Book.{Book}
use Rattle.look_words.specs.Checks.{Checks, IsInOrder, TellsRestored}
use Rattle.look_words.specs.declared.dry_run.TheConstants.{JOB_LIMIT}
use Rattle.look_words.specs.declared.listing.ListingEnd.{ListingEnd}
use Rattle.look_words.specs.declared.listing.ListingEnd.TheVariants as listing
use Rattle.look_words.specs.DryRuns.{DryRuns, IsJobIn}
use Rattle.look_words.specs.Listings.{IsWrittenSo, status_of_listing}
use Rattle.look_words.specs.Lists.{HasBegun, IsKeptSo, Lists}
use Rattle.look_words.specs.Looks.{HoldsSo}
use Rattle.look_words.specs.Texts.{cache_text, check_text, files_text, kept_bytes, list_text, looked_text, size_text}

pub check_refused : (c : Catalogue) (document : List ℕ) (d : DiskChange) (o : OutputChange) (Stays : Type 0) → Stays → (f : OpenFault) → IsRefusedAs d.told c d.from.seen d.faults.before d.faults.after f → Checks c document d o Stays (status_of_opening f)
check_refused c document d o Stays stays fault.NotACache refused = (refused, stays)
check_refused c document d o Stays stays (fault.CatalogueDiffers found asked) refused = (refused, stays)
check_refused c document d o Stays stays (fault.BadRecord slot) refused = (refused, stays)
check_refused c document d o Stays stays fault.Spent refused = (refused, stays)
check_refused c document d o Stays stays fault.DiskFault refused = (refused, stays)
check_refused c document d o Stays stays fault.OutOfMemory refused = stays

pub list_refused : (c : Catalogue) (layer : Option ℕ) (d : DiskChange) (o : OutputChange) (Stays : Type 0) → Stays → (f : OpenFault) → IsRefusedAs d.told c d.from.seen d.faults.before d.faults.after f → Lists c layer d o Stays (status_of_opening f)
list_refused c layer d o Stays stays fault.NotACache refused = (refused, stays)
list_refused c layer d o Stays stays (fault.CatalogueDiffers found asked) refused = (refused, stays)
list_refused c layer d o Stays stays (fault.BadRecord slot) refused = (refused, stays)
list_refused c layer d o Stays stays fault.Spent refused = (refused, stays)
list_refused c layer d o Stays stays fault.DiskFault refused = (refused, stays)
list_refused c layer d o Stays stays fault.OutOfMemory refused = inl stays

-- a refusal of a file is told as no usage
pub never_usage : (e : Unconfigured) → status_of_refusal e ≡ status.Usage → ⊥
never_usage unconfigured.ReadFault is = cc
never_usage unconfigured.TooLong is = cc
never_usage (unconfigured.Fault f) is = cc
never_usage unconfigured.OutOfMemory is = cc

-- the text of a check, by how its writing ended
pub check_sent : (c : Catalogue) (document : List ℕ) (d : DiskChange) (o : OutputChange) (Stays : Type 0) (r : Replayed) (text : List ℕ) → IsInOrder c d r → text ≡ check_text c document r
    → (s : Status) → Sends o text s → Checks c document d o Stays s
check_sent c document d o Stays r text fine is status.Done sent = (r, fine, subst (HasWritten o) is sent)
check_sent c document d o Stays r text fine is status.WriteFault sent = (r, fine, subst (IsCutShort o) is sent)
check_sent c document d o Stays r text fine is status.ReadFault sent = absurd sent
check_sent c document d o Stays r text fine is status.TooLong sent = absurd sent
check_sent c document d o Stays r text fine is (status.Form cause) sent = absurd sent
check_sent c document d o Stays r text fine is (status.Cache cause) sent = absurd sent
check_sent c document d o Stays r text fine is status.DiskFault sent = absurd sent
check_sent c document d o Stays r text fine is status.OutOfMemory sent = absurd sent
check_sent c document d o Stays r text fine is status.CutsFull sent = absurd sent
check_sent c document d o Stays r text fine is (status.Line n) sent = absurd sent
check_sent c document d o Stays r text fine is (status.Stream session) sent = absurd sent
check_sent c document d o Stays r text fine is status.Usage sent = absurd sent
check_sent c document d o Stays r text fine is (status.Catalogue fault) sent = absurd sent
check_sent c document d o Stays r text fine is status.ListenFault sent = absurd sent
check_sent c document d o Stays r text fine is status.ThreadFault sent = absurd sent

-- the size of a job, by how its writing ended
pub size_sent : (c : Catalogue) (i : InputChange) (o : OutputChange) (Stays : Type 0) (job : Job) (text : List ℕ) → IsJobIn c i job → text ≡ size_text (size_of c job)
    → (s : Status) → Sends o text s → DryRuns c i o Stays s
size_sent c i o Stays job text read is status.Done sent = (job, read, subst (HasWritten o) is sent)
size_sent c i o Stays job text read is status.WriteFault sent = (job, read, subst (IsCutShort o) is sent)
size_sent c i o Stays job text read is status.ReadFault sent = absurd sent
size_sent c i o Stays job text read is status.TooLong sent = absurd sent
size_sent c i o Stays job text read is (status.Form cause) sent = absurd sent
size_sent c i o Stays job text read is (status.Cache cause) sent = absurd sent
size_sent c i o Stays job text read is status.DiskFault sent = absurd sent
size_sent c i o Stays job text read is status.OutOfMemory sent = absurd sent
size_sent c i o Stays job text read is status.CutsFull sent = absurd sent
size_sent c i o Stays job text read is (status.Line n) sent = absurd sent
size_sent c i o Stays job text read is (status.Stream session) sent = absurd sent
size_sent c i o Stays job text read is status.Usage sent = absurd sent
size_sent c i o Stays job text read is (status.Catalogue fault) sent = absurd sent
size_sent c i o Stays job text read is status.ListenFault sent = absurd sent
size_sent c i o Stays job text read is status.ThreadFault sent = absurd sent

-- the lines of a list, by how their writing ended
pub list_sent : (c : Catalogue) (layer : Option ℕ) (d : DiskChange) (o : OutputChange) (Stays : Type 0) (r : Replayed) (kept : List Kept) → IsKeptSo c d r → kept ≡ r.kept
    → (end : ListingEnd) → IsWrittenSo o (list_text c layer kept) end → Lists c layer d o Stays (status_of_listing end)
list_sent c layer d o Stays r kept opens is listing.Done sent = (r, opens, subst (λ ts. HasWritten o (list_text c layer ts)) is sent)
list_sent c layer d o Stays r kept opens is listing.WriteFault sent = (r, opens, subst (λ ts. IsCutShort o (list_text c layer ts)) is sent)
list_sent c layer d o Stays r kept opens is listing.OutOfMemory sent = inr (r, opens, subst (λ ts. HasBegun o (list_text c layer ts)) is sent)

-- the job of an input isn't read, and this tells why
pub job_unread : (c : Catalogue) (i : InputChange) (o : OutputChange) (Stays : Type 0) → Stays → (s : Status) → IsUnread (HasFault JOB_LIMIT (job_of c) i) JOB_LIMIT i s → DryRuns c i o Stays s
job_unread c i o Stays stays status.ReadFault why = (why, stays)
job_unread c i o Stays stays status.TooLong why = (why, stays)
job_unread c i o Stays stays (status.Form cause) why = (why, stays)
job_unread c i o Stays stays status.OutOfMemory why = stays
job_unread c i o Stays stays status.Done why = absurd why
job_unread c i o Stays stays status.WriteFault why = absurd why
job_unread c i o Stays stays (status.Cache cause) why = absurd why
job_unread c i o Stays stays status.DiskFault why = absurd why
job_unread c i o Stays stays status.CutsFull why = absurd why
job_unread c i o Stays stays (status.Line n) why = absurd why
job_unread c i o Stays stays (status.Stream session) why = absurd why
job_unread c i o Stays stays status.Usage why = absurd why
job_unread c i o Stays stays (status.Catalogue fault) why = absurd why
job_unread c i o Stays stays status.ListenFault why = absurd why
job_unread c i o Stays stays status.ThreadFault why = absurd why

-- the two texts are written, one behind the other
pub told_so : (c : Catalogue) (document : List ℕ) (opening : Option ℕ) (kept : List Kept) (book : Book) (o : OutputChange) (Stays : Type 0) (s : Status) (files cache : List ℕ)
    → option_map_or (λ e. e) opening 0 + 1 < 2 ^ 24 → files ≡ files_text (length c.layers) (length c.grids) (length document) → cache ≡ cache_text (length kept) (kept_bytes kept) (length book.cuts)
    → Sends o (files ++ cache) s → TellsRestored c document opening kept book o Stays s
told_so c document opening kept book o Stays s files cache left first second sent = inr (left, subst (λ (t : List ℕ). Sends o t s) (λ i. first i ++ second i) sent)

-- what was restored is told: as what the records of the disk come to
pub checked : (c : Catalogue) (document : List ℕ) (d : DiskChange) (o : OutputChange) (Stays : Type 0) (opening : Option ℕ) (kept : List Kept) (book : Book) → HoldsSo d.told c d.from.seen opening kept book
    → (s : Status) → TellsRestored c document opening kept book o Stays s → Checks c document d o Stays s
checked c document d o Stays opening kept book h s (inl spent) = subst (Checks c document d o Stays) (sym spent.1)
    ((λ told. (h.replayed, h.opens told, subst (λ (x : Option ℕ). 2 ^ 24 ≤ option_map_or (λ e. e) x 0 + 1) h.opening_is spent.0)), spent.2)
checked c document d o Stays opening kept book h s (inr left) =
    check_sent c document d o Stays h.replayed (looked_text c document kept book) (record { opens = h.opens; number = subst (λ (x : Option ℕ). option_map_or (λ e. e) x 0 + 1 < 2 ^ 24) h.opening_is left.0 })
    (λ i. looked_text c document (h.kept_is i) (h.book_is i)) s left.1

-- a check, or a dry run, of files that were read doesn't end as none
pub never_checked : (c : Catalogue) (document : List ℕ) (d : DiskChange) (o : OutputChange) (Stays : Type 0) (s : Status) → Checks c document d o Stays s → s ≡ status.Usage → ⊥
never_checked c document d o Stays s checks is = subst (Checks c document d o Stays) is checks

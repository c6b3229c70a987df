-- The commands of a cabinet, a row for each reply: where it comes, and the cabinet after it. A cabinet on a disk may meet a fault of
-- the disk, and tells one only where the disk's count of faults rose; one in memory meets none.
use Rattle.std.specs.Prelude.{ℕ, ◌≡◌, ◌≤◌, ◌<◌, ◌+◌, ◌⊎◌, Bool, true, nat_le, if◌then◌else◌, List, length, Option, Some, None, IsSome, IfSome, ⊤}
use Rattle.std.specs.Option.{option_and_then}
use Rattle.catalog.specs.declared.catalogue.Catalogue.{Catalogue}
use Rattle.catalog.specs.declared.catalogue.Scope.{Scope}
use Rattle.base.specs.Causes.{Rose}
use Rattle.matrix_geometry.specs.declared.address.Address.{Address}
use Rattle.metatile_locks.specs.Running.{running_for, render_of}
use Rattle.metatile_locks.specs.Tickets.{Ticketed}
use Rattle.metatile_plan.specs.declared.metatile.MetaKey.{MetaKey}
use Rattle.raster_field.specs.Blocks.{block_of, blob_size, tile_part}
use Rattle.raster_field.specs.TileText.{tile_text}
use Rattle.truncation_list.specs.declared.book.Book.{Book}
use Rattle.truncation_list.specs.declared.cover.Cover.{Cover}
use Rattle.truncation_list.specs.Purge.{purged}
use Rattle.cabinet.specs.declared.entry.HistoryEntry.TheVariants as entry
use Rattle.cabinet.specs.declared.kept.Kept.{Kept}
use Rattle.cabinet.specs.declared.replies.Asked.{Asked}
use Rattle.cabinet.specs.declared.replies.Asked.TheVariants as asked
use Rattle.cabinet.specs.declared.replies.Forced.{Forced}
use Rattle.cabinet.specs.declared.replies.Forced.TheVariants as forced
use Rattle.cabinet.specs.declared.replies.Finished.{Finished}
use Rattle.cabinet.specs.declared.replies.Finished.TheVariants as finished
use Rattle.cabinet.specs.declared.replies.CutReply.{CutReply}
use Rattle.cabinet.specs.declared.replies.CutReply.TheVariants as cut
use Rattle.cabinet.specs.declared.replies.Expired.{Expired}
use Rattle.cabinet.specs.declared.replies.Expired.TheVariants as expired
use Rattle.cabinet.specs.declared.replies.Saved.{Saved}
use Rattle.cabinet.specs.declared.replies.Saved.TheVariants as saved
use Rattle.cabinet.specs.Counted.{scope_exceeded, unsaved_in, uses, victim_in}
use Rattle.cabinet.specs.Fresh.{IsFresh, limit_for}
use Rattle.cabinet.specs.Gaps.{gap_for}
use Rattle.cabinet.specs.History.{kept_of, but, next, numbers, least_of}
use Rattle.cabinet.specs.State.{State, now, asked_at, with_entry, with_blob, with_counted, with_cut, with_dropped, kept_text}

-- ASK AND FORCE

-- Each ask and each force begins at a moment that the clock gave, with the entry At. The rows of its replies speak of the cabinet
-- after that entry, s.

-- no render of the metatile runs, and the next number is given for it
pub record IsTicketGiven (s : State) (m : MetaKey) (t : Ticketed) (new : State) : Type 0 where
  pub none_runs : running_for m (now s).out ≡ None
  pub number : next s.opening (now s) ≡ Some t.number
  pub meta : t.meta ≡ m
  pub state : new ≡ with_entry s (entry.Started t.number m)

-- a render of the metatile runs that is not overtaken, and has this number
abbrev pub IsBusy : State → MetaKey → ℕ → State → Type 0
IsBusy s m k new = (running_for m (now s).out ≡ Some k) × (new ≡ s)

-- none runs, and no number is left
abbrev pub IsSpent : State → MetaKey → State → Type 0
IsSpent s m new = (running_for m (now s).out ≡ None) × (next s.opening (now s) ≡ None) × (new ≡ s)

-- no more seconds than the age limit lie between the beginning of a render and a moment; where there is no limit, any may
abbrev pub is_within : Option ℕ → ℕ → ℕ → Bool
is_within None begun n = true
is_within (Some limit) begun n = nat_le n (begun + limit)

abbrev pub where_within : Option ℕ → ℕ → Kept → Option Kept
where_within limit n t = if is_within limit t.moment n then Some t else None

-- what is kept of the tile's metatile, where it is within its age limit at the moment of s
abbrev pub answering : State → Address → Option Kept
answering s a = option_and_then (where_within (limit_for s.catalogue a) (now s).moment) (kept_of (block_of s.catalogue a) (now s))

-- the metatile is kept and within its age limit, under this number, and these bytes are the tile's part of its blob, which is the one that is kept where blobs are
-- modelled, and has the metatile's length in any case
pub record IsHit (s : State) (a : Address) (k : ℕ) (bytes : List ℕ) (new : State) : Type 0 where
  pub kept : Kept
  pub is_kept : answering s a ≡ Some kept
  pub number : k ≡ kept.number
  pub blob : List ℕ
  pub long : length blob ≡ blob_size s.catalogue (block_of s.catalogue a)
  pub told : IfSome (kept_text s (block_of s.catalogue a)) (λ text. blob ≡ text)
  pub part : bytes ≡ tile_part s.catalogue a blob
  pub state : new ≡ with_entry s (entry.Used (block_of s.catalogue a))

-- nothing that is kept answers for the tile
abbrev pub IsUnkept : State → Address → Type 0
IsUnkept s a = answering s a ≡ None

-- nothing does, or what does was not read, while the disk's count of faults rose from one number to another
abbrev pub IsUnread : ℕ → ℕ → State → Address → Type 0
IsUnread before after s a = IsUnkept s a ⊎ Rose before after

abbrev pub IsAskedOf : ℕ → ℕ → State → Address → Asked → State → Type 0
IsAskedOf before after s a (asked.Hit k bytes) new = IsHit s a k bytes new
IsAskedOf before after s a (asked.Busy k) new = IsUnread before after s a × IsBusy s (block_of s.catalogue a) k new
IsAskedOf before after s a asked.Spent new = IsUnread before after s a × IsSpent s (block_of s.catalogue a) new
IsAskedOf before after s a (asked.Ticket t) new = IsUnread before after s a × IsTicketGiven s (block_of s.catalogue a) t new

abbrev pub IsForcedOf : State → MetaKey → Forced → State → Type 0
IsForcedOf s m (forced.Busy k) new = IsBusy s m k new
IsForcedOf s m forced.Spent new = IsSpent s m new
IsForcedOf s m (forced.Ticket t) new = IsTicketGiven s m t new

-- the clock was read once, and gave the moment that it shows afterwards
abbrev pub Asks : ℕ → ℕ → State → Address → Asked → State → Type 0
Asks before after s a r new = IsAskedOf before after (asked_at new.clock.moment s) a r new

abbrev pub Forces : State → MetaKey → Forced → State → Type 0
Forces s m r new = IsForcedOf (asked_at new.clock.moment s) m r new

-- FINISH AND ABANDON

-- the ticket's render runs, begun at this moment and with this mark
abbrev pub Runs : State → Ticketed → ℕ → Option ℕ → Type 0
Runs s t n mark = render_of t (now s).out ≡ Some (record { number = t.number; meta = t.meta; moment = n; mark = mark })

-- how many other metatiles are kept
abbrev pub others : State → MetaKey → ℕ
others s m = length (but m (now s).kept)

-- where the ticket's blob of so many bytes would lie; the region of the metatile's older blob still counts as taken
abbrev pub place_for : State → ℕ → Option ℕ
place_for s bytes = gap_for s.catalogue (now s).kept bytes

abbrev pub kept_at : Ticketed → ℕ → ℕ → ℕ → Kept
kept_at t n place bytes = record { number = t.number; meta = t.meta; place = place; length = bytes; moment = n; uses = 0 }

abbrev pub Finishes : State → Ticketed → List ℕ → Finished → State → Type 0
Finishes s t blob finished.Stranger new = (render_of t (now s).out ≡ None) × (new ≡ s)
Finishes s t blob (finished.Overtaken cut) new = (n : ℕ) × Runs s t n (Some cut) × (new ≡ with_entry s (entry.Ended t.number))
Finishes s t blob finished.Full new = (n : ℕ) × Runs s t n None × (s.catalogue.kept_limit ≤ others s t.meta) × (new ≡ with_entry s (entry.Ended t.number))
Finishes s t blob finished.NoRoom new =
    (n : ℕ) × Runs s t n None × (others s t.meta < s.catalogue.kept_limit) × (place_for s (length blob) ≡ None) × (new ≡ with_entry s (entry.Ended t.number))
Finishes s t blob (finished.DiskFault before after) new =
    (n : ℕ) × Runs s t n None × (others s t.meta < s.catalogue.kept_limit) × IsSome (place_for s (length blob)) × Rose before after × (new ≡ with_entry s (entry.Ended t.number))
Finishes s t blob finished.Kept new =
    (n : ℕ) × Runs s t n None × (others s t.meta < s.catalogue.kept_limit) × ((place : ℕ) × (place_for s (length blob) ≡ Some place) × (new ≡ with_blob s (kept_at t n place (length blob)) blob))

-- a stranger's ticket changes nothing
abbrev pub Abandons : State → Ticketed → State → Type 0
Abandons s t new =
    ((render_of t (now s).out ≡ None) × (new ≡ s)) ⊎ (IsSome (render_of t (now s).out) × (new ≡ with_entry s (entry.Ended t.number)))

-- CUT

-- the book that a purge for the cover would leave
abbrev pub book_before : State → Cover → Book
book_before s cover = purged (Some cover) (least_of (numbers (now s).out (now s).kept)) (now s).book

abbrev pub Cuts : State → Cover → CutReply → State → Type 0
Cuts s cover (cut.Done t) new =
    (next s.opening (now s) ≡ Some t) × (length (book_before s cover).cuts < s.catalogue.cut_limit) × (new ≡ with_cut s t cover)
Cuts s cover (cut.DiskFault before after) new =
    (t : ℕ) × (next s.opening (now s) ≡ Some t) × (length (book_before s cover).cuts < s.catalogue.cut_limit) × Rose before after × (new ≡ with_entry s (entry.Missed t))
Cuts s cover cut.Full new = IsSome (next s.opening (now s)) × (s.catalogue.cut_limit ≤ length (book_before s cover).cuts) × (new ≡ s)
Cuts s cover cut.Spent new = (next s.opening (now s) ≡ None) × (new ≡ s)

-- EXPIRE

abbrev pub Expires : State → Expired → State → Type 0
Expires s (expired.Dropped m) new = (scope : Scope) × (scope_exceeded s ≡ Some scope) × (victim_in s scope ≡ Some m) × (new ≡ with_dropped s m)
Expires s (expired.DiskFault before after) new = IsSome (scope_exceeded s) × Rose before after × (new ≡ s)
Expires s expired.Within new = (scope_exceeded s ≡ None) × (new ≡ s)

-- SAVE USES

-- the uses of the metatile are marked as saved, and kept with it
abbrev pub Saves : State → Saved → State → Type 0
Saves s (saved.Done m) new = unsaved_in s (Some m) × (new ≡ with_counted s m (uses s.history m))
Saves s (saved.DiskFault before after) new = ((m : MetaKey) × unsaved_in s (Some m)) × Rose before after × (new ≡ s)
Saves s saved.Within new = unsaved_in s None × (new ≡ s)

-- WHAT REPLIES PROMISE

-- a fault that is told shows the disk's count of faults from before the command and after it
abbrev pub IsCountedFinished : ℕ → ℕ → Finished → Type 0
IsCountedFinished before after finished.Stranger = ⊤
IsCountedFinished before after (finished.Overtaken cut) = ⊤
IsCountedFinished before after finished.Full = ⊤
IsCountedFinished before after finished.NoRoom = ⊤
IsCountedFinished before after (finished.DiskFault b a) = (b ≡ before) × (a ≡ after)
IsCountedFinished before after finished.Kept = ⊤

abbrev pub IsCountedCut : ℕ → ℕ → CutReply → Type 0
IsCountedCut before after (cut.Done t) = ⊤
IsCountedCut before after cut.Full = ⊤
IsCountedCut before after (cut.DiskFault b a) = (b ≡ before) × (a ≡ after)
IsCountedCut before after cut.Spent = ⊤

abbrev pub IsCountedExpired : ℕ → ℕ → Expired → Type 0
IsCountedExpired before after (expired.Dropped m) = ⊤
IsCountedExpired before after (expired.DiskFault b a) = (b ≡ before) × (a ≡ after)
IsCountedExpired before after expired.Within = ⊤

abbrev pub IsCountedSaved : ℕ → ℕ → Saved → Type 0
IsCountedSaved before after (saved.Done m) = ⊤
IsCountedSaved before after (saved.DiskFault b a) = (b ≡ before) × (a ≡ after)
IsCountedSaved before after saved.Within = ⊤

-- the bytes of a hit are the encoded tile
abbrev pub IsTrueHit : Catalogue → Address → Asked → Type 0
IsTrueHit c a (asked.Hit k bytes) = bytes ≡ tile_text c k a
IsTrueHit c a (asked.Ticket t) = ⊤
IsTrueHit c a (asked.Busy k) = ⊤
IsTrueHit c a asked.Spent = ⊤

-- what is handed out, or is to be rendered, is fresh at the ask, at which the history of s stood
abbrev pub IsFreshReply : State → Address → Asked → State → Type 0
IsFreshReply s a (asked.Hit k bytes) new = IsFresh s.catalogue new.history (length s.history) a k
IsFreshReply s a (asked.Ticket t) new = IsFresh s.catalogue new.history (length s.history) a t.number
IsFreshReply s a (asked.Busy k) new = ⊤
IsFreshReply s a asked.Spent new = ⊤

-- what is to be rendered for a force of the tile's metatile is fresh at the force
abbrev pub IsFreshForced : State → Address → Forced → State → Type 0
IsFreshForced s a (forced.Ticket t) new = IsFresh s.catalogue new.history (length s.history) a t.number
IsFreshForced s a (forced.Busy k) new = ⊤
IsFreshForced s a forced.Spent new = ⊤

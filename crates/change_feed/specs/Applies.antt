-- What becomes of a change, a row for each reply.
use Rattle.std.specs.Prelude.{◌≡◌, ◌⊎◌, ℕ, ◌+◌, ◌<◌, ◌≤◌, List, Option, Some, None}
use Rattle.cabinet.specs.declared.replies.CutReply.{CutReply}
use Rattle.cabinet.specs.declared.replies.CutReply.TheVariants as cut
use Rattle.cabinet.specs.Commands.{Cuts, IsCountedCut}
use Rattle.cabinet.specs.State.{State}
use Rattle.base.specs.Causes.{Rose}
use Rattle.disk_model.specs.Content.{Content}
use Rattle.change_feed.specs.declared.applied.Applied.{Applied}
use Rattle.change_feed.specs.declared.applied.Applied.TheVariants as applied
use Rattle.change_feed.specs.declared.applied.JudgedChange.{JudgedChange}
use Rattle.change_feed.specs.declared.applied.JudgedChange.TheVariants as judged
use Rattle.change_feed.specs.declared.change.Change.{Change}
use Rattle.change_feed.specs.declared.mark.Mark.{Mark}
use Rattle.change_feed.specs.Files.{EndsIn, MayEndIn, Stand}
use Rattle.change_feed.specs.Marks.{last_of}

abbrev pub IsJudged : Option Mark → ℕ → JudgedChange → Type 0
IsJudged last number judged.Repeated = number ≤ last_of last
IsJudged last number (judged.Gap k) = (last_of last + 1 < number) × (k ≡ last_of last)
IsJudged last number judged.Next = number ≡ last_of last + 1

-- a feed and a cabinet, and how often the disk of each has failed
pub record Pair : Type 0 where
  pub stand : Stand
  pub faults : ℕ
  pub cabinet : State
  pub cabinet_faults : ℕ

abbrev pub mark_for : Change → ℕ → Mark
mark_for change t = record { number = change.number; cut = t }

-- no mark is undecided
abbrev pub decided : Stand → Stand
decided s = record { mark = s.mark; undecided = None }

-- the change is the next one, its cut was asked for and answered so, and the feed then stands so
pub record IsCutAs (s : Pair) (change : Change) (reply : CutReply) (then_stand : Stand) (t : Pair) : Type 0 where
  pub next : change.number ≡ last_of s.stand.mark + 1
  pub cuts : Cuts s.cabinet change.cover reply t.cabinet
  pub counted : IsCountedCut s.cabinet_faults t.cabinet_faults reply
  pub stands : t.stand ≡ then_stand

-- where the cut was asked for
abbrev pub AppliesNext : Pair → Change → Applied → Pair → Type 0
AppliesNext s change applied.Repeated t = ⊥
AppliesNext s change (applied.Gap k) t = ⊥
AppliesNext s change (applied.FeedFault None) t = ⊥
AppliesNext s change applied.Spent t = IsCutAs s change cut.Spent (decided s.stand) t
AppliesNext s change applied.Full t = IsCutAs s change cut.Full (decided s.stand) t
AppliesNext s change (applied.DiskFault before after) t = IsCutAs s change (cut.DiskFault before after) (decided s.stand) t
AppliesNext s change (applied.FeedFault (Some k)) t =
    IsCutAs s change (cut.Done k) (record { mark = s.stand.mark; undecided = Some (mark_for change k) }) t × ((between : ℕ) × (s.faults ≤ between) × Rose between t.faults)
AppliesNext s change (applied.Done k) t = IsCutAs s change (cut.Done k) (record { mark = Some (mark_for change k); undecided = None }) t

-- THE ROWS
abbrev pub Applies : Pair → Change → Applied → Pair → Type 0
Applies s change applied.Repeated t = (change.number ≤ last_of s.stand.mark) × (t ≡ s)
Applies s change (applied.Gap k) t = (last_of s.stand.mark + 1 < change.number) × (k ≡ last_of s.stand.mark) × (t ≡ s)
Applies s change (applied.FeedFault None) t =
    (change.number ≡ last_of s.stand.mark + 1) × Rose s.faults t.faults × (t.stand ≡ s.stand) × (t.cabinet ≡ s.cabinet) × (t.cabinet_faults ≡ s.cabinet_faults)
Applies s change (applied.FeedFault (Some k)) t = AppliesNext s change (applied.FeedFault (Some k)) t
Applies s change applied.Spent t = AppliesNext s change applied.Spent t
Applies s change applied.Full t = AppliesNext s change applied.Full t
Applies s change (applied.DiskFault before after) t = AppliesNext s change (applied.DiskFault before after) t
Applies s change (applied.Done k) t = AppliesNext s change (applied.Done k) t

-- the cut whose mark a call may have left that is answered so
abbrev pub marked_cut : Applied → Option ℕ
marked_cut applied.Repeated = None
marked_cut (applied.Gap k) = None
marked_cut (applied.FeedFault cut) = cut
marked_cut applied.Spent = None
marked_cut applied.Full = None
marked_cut (applied.DiskFault before after) = None
marked_cut (applied.Done k) = Some k

-- at a moment of such a call an image ends in the mark from before, in the one that was undecided, or, where its cut was done, in that of the change
abbrev pub MayEndAfter : List ℕ → Stand → Change → Applied → Content → Type 0
MayEndAfter digest s change reply image = MayEndIn digest s image ⊎ ((k : ℕ) × (marked_cut reply ≡ Some k) × EndsIn digest (Some (mark_for change k)) image)

-- a change whose cut was done is marked, or the disk of the marks failed
abbrev pub IsMarkedAs : Stand → ℕ → Change → ℕ → Applied → Stand → ℕ → Type 0
IsMarkedAs s before change k applied.Repeated t after = ⊥
IsMarkedAs s before change k (applied.Gap last_number) t after = ⊥
IsMarkedAs s before change k (applied.FeedFault None) t after = ⊥
IsMarkedAs s before change k (applied.FeedFault (Some n)) t after = (n ≡ k) × Rose before after × (t ≡ record { mark = s.mark; undecided = Some (mark_for change k) })
IsMarkedAs s before change k applied.Spent t after = ⊥
IsMarkedAs s before change k applied.Full t after = ⊥
IsMarkedAs s before change k (applied.DiskFault b a) t after = ⊥
IsMarkedAs s before change k (applied.Done n) t after = (n ≡ k) × (t ≡ record { mark = Some (mark_for change k); undecided = None })

-- What the writing of a post's record comes to.
use Rattle.std.specs.Prelude.{◌⊎◌, ℕ, [], ◌∷◌, ◌++◌, Bool, IsTrue, Some, None, ⊤}
use Rattle.catalog.specs.declared.catalogue.Catalogue.{Catalogue}
use Rattle.base.specs.Causes.{Rose}
use Rattle.disk_model.specs.Images.{DiskState, Every, Leaves}
use Rattle.gate_journal.specs.declared.journal.Journal.{Journal}
use Rattle.gate_journal.specs.Sound.{IsSettled}
use Rattle.truncation_list.specs.declared.cover.Cover.{Cover}
use Rattle.outbox.specs.declared.written.Written.{Written}
use Rattle.outbox.specs.declared.written.Written.TheVariants as outcome
use Rattle.outbox.specs.Files.{IsPosted, MayOpenTo, OpensToPosts}
use Rattle.outbox.specs.Posts.{Outgoing}

-- what then is posted, and what is undecided
abbrev pub written : Outgoing → Cover → Written → Outgoing
written s cover outcome.Unready = s
written s cover outcome.Undecided = record { posts = s.posts; undecided = Some cover; heard = s.heard }
written s cover outcome.Added = record { posts = s.posts ++ cover ∷ []; undecided = None; heard = s.heard }

-- it failed only where the count of faults rose
abbrev pub IsFailedOnly : ℕ → ℕ → Written → Type 0
IsFailedOnly before after outcome.Unready = Rose before after
IsFailedOnly before after outcome.Undecided = Rose before after
IsFailedOnly before after outcome.Added = ⊤

-- the file is then settled where the record was added
abbrev pub IsSettledAs : Written → Journal → Type 0
IsSettledAs outcome.Unready j = ⊤
IsSettledAs outcome.Undecided j = ⊤
IsSettledAs outcome.Added j = IsSettled j

-- what holds after the record of a cover was written, or wasn't
pub record HasWritten (told : Bool) (c : Catalogue) (s : Outgoing) (cover : Cover) (outcome' : Written) (j' : Journal) (old new : DiskState) : Type 0 where
  pub posted : IsPosted told c (written s cover outcome') j' new
  pub settled : IsSettledAs outcome' j'
  pub images : IsTrue told → Leaves old new (λ image. MayOpenTo c s image ⊎ OpensToPosts c image (s.posts ++ cover ∷ []))
  pub alone : IsTrue told → IsSettled j' → Every new.may_leave (λ image. OpensToPosts c image (written s cover outcome').posts)

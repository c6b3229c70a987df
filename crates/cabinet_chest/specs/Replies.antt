-- Which reply a turn may have: the row of its command, over what the cabinet showed before and after.
use Rattle.std.specs.Prelude.{◌≡◌, ◌≤◌, Bool, true, Contains, ⊤}
use Rattle.cabinet.specs.Commands.{Abandons, Asks, Cuts, Expires, Finishes, Forces, IsCountedCut, IsCountedExpired, IsCountedFinished, IsCountedSaved, IsFreshForced, IsFreshReply, IsTrueHit, Saves}
use Rattle.cabinet.specs.declared.replies.Asked.{Asked}
use Rattle.cabinet.specs.declared.replies.Asked.TheVariants as asked
use Rattle.cabinet.specs.declared.replies.CutReply.{CutReply}
use Rattle.cabinet.specs.declared.replies.CutReply.TheVariants as cut
use Rattle.cabinet.specs.declared.replies.Expired.{Expired}
use Rattle.cabinet.specs.declared.replies.Finished.{Finished}
use Rattle.cabinet.specs.declared.replies.Forced.{Forced}
use Rattle.cabinet.specs.declared.replies.Forced.TheVariants as forced
use Rattle.cabinet.specs.declared.replies.Saved.{Saved}
use Rattle.cabinet.specs.State.{IsKnown, IsKnownAs, now}
use Rattle.catalog.specs.declared.catalogue.Catalogue.{Catalogue}
use Rattle.catalog.specs.LookUp.{IsTile}
use Rattle.matrix_geometry.specs.declared.address.Address.{Address}
use Rattle.metatile_plan.specs.declared.metatile.MetaKey.{MetaKey}
use Rattle.raster_field.specs.Blocks.{block_of}
use Rattle.truncation_list.specs.declared.book.Book.{Book}
use Rattle.truncation_list.specs.declared.cover.Cover.{Cover}
use Rattle.cabinet_chest.specs.declared.command.Command.{Command}
use Rattle.cabinet_chest.specs.declared.command.Command.TheVariants as command
use Rattle.cabinet_chest.specs.declared.command.Reply.{Reply}
use Rattle.cabinet_chest.specs.declared.command.Reply.TheVariants as reply
use Rattle.cabinet_chest.specs.declared.shown.Shown.{Shown}
use Rattle.cabinet_chest.specs.Above.{IsAboveAll, IsAboveCovering}
use Rattle.cabinet_chest.specs.Counts.{counts_of}

-- the book that the turn found
abbrev pub book_in : Shown → Book
book_in b = (now b.state).book

-- NUMBERS

-- a hit is newer than the truncations that cover its tile, and a render that begins is newer than all
abbrev pub IsAskedAbove : Catalogue → Book → Address → Asked → Type 0
IsAskedAbove c book a (asked.Hit k bytes) = IsAboveCovering c book a k
IsAskedAbove c book a (asked.Ticket t) = IsAboveAll book t.number
IsAskedAbove c book a (asked.Busy k) = ⊤
IsAskedAbove c book a asked.Spent = ⊤

abbrev pub IsForcedAbove : Book → Forced → Type 0
IsForcedAbove book (forced.Ticket t) = IsAboveAll book t.number
IsForcedAbove book (forced.Busy k) = ⊤
IsForcedAbove book forced.Spent = ⊤

-- a truncation is newer than all before it, and the book after it lists it
abbrev pub IsCutAbove : Book → Book → Cover → CutReply → Type 0
IsCutAbove book after cover (cut.Done t) = IsAboveAll book t × Contains after.cuts (record { number = t; cover = cover })
IsCutAbove book after cover cut.Full = ⊤
IsCutAbove book after cover (cut.DiskFault b a) = ⊤
IsCutAbove book after cover cut.Spent = ⊤

-- REPLIES

-- an ask has its row; what it gives is fresh at this ask and newer than the book; where the cabinet is known to be sound a hit is the
-- encoded tile
pub record IsAnswered (c : Catalogue) (told : Bool) (b a : Shown) (t : Address) (r : Asked) : Type 0 where
  pub row : Asks b.faults a.faults b.state t r a.state
  pub fresh : IsFreshReply b.state t r a.state
  pub above : IsAskedAbove c (book_in b) t r
  pub truth : told ≡ true → IsTrueHit c t r

pub record IsForcedAnswered (c : Catalogue) (b a : Shown) (m : MetaKey) (r : Forced) : Type 0 where
  pub row : Forces b.state m r a.state
  pub fresh : (t : Address) → IsTile c t → m ≡ block_of c t → IsFreshForced b.state t r a.state
  pub above : IsForcedAbove (book_in b) r

pub record IsCutAnswered (b a : Shown) (cover : Cover) (r : CutReply) : Type 0 where
  pub row : Cuts b.state cover r a.state
  pub counted : IsCountedCut b.faults a.faults r
  pub above : IsCutAbove (book_in b) (book_in a) cover r

-- the reply is of its command's kind, by the command's row
abbrev pub IsReplyTo : Catalogue → Bool → Shown → Shown → Command → Reply → Type 0
IsReplyTo c told b a (command.Ask t) r = (answer : Asked) × (r ≡ reply.Asked answer) × IsAnswered c told b a t answer
IsReplyTo c told b a (command.Force m) r = (answer : Forced) × (r ≡ reply.Forced answer) × IsForcedAnswered c b a m answer
IsReplyTo c told b a (command.Finish t blob) r = (answer : Finished) × (r ≡ reply.Finished answer) × Finishes b.state t blob answer a.state × IsCountedFinished b.faults a.faults answer
IsReplyTo c told b a (command.Abandon t) r = (r ≡ reply.Abandoned) × Abandons b.state t a.state × (a.faults ≡ b.faults)
IsReplyTo c told b a (command.Cut cover) r = (answer : CutReply) × (r ≡ reply.Cut answer) × IsCutAnswered b a cover answer
IsReplyTo c told b a command.Expire r = (answer : Expired) × (r ≡ reply.Expired answer) × Expires b.state answer a.state × IsCountedExpired b.faults a.faults answer
IsReplyTo c told b a command.SaveUses r = (answer : Saved) × (r ≡ reply.Saved answer) × Saves b.state answer a.state × IsCountedSaved b.faults a.faults answer
IsReplyTo c told b a (command.Usage layer) r = (r ≡ reply.Usage (counts_of b.state layer)) × (a ≡ b)

-- a turn at a cabinet of this catalogue, known to be sound or not, has this reply: the cabinet is one that commands can make, before and
-- after, its book answers for the one before, and its disk has failed no less often
pub record MayReply (c : Catalogue) (told : Bool) (b a : Shown) (does : Command) (r : Reply) : Type 0 where
  pub catalogue : b.state.catalogue ≡ c
  pub known : IsKnown b.state
  pub goes_on : IsKnownAs b.state a.state
  pub later : b.faults ≤ a.faults
  pub answer : IsReplyTo c told b a does r

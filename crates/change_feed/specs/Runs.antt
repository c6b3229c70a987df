-- A run of a feed on a cabinet: changes in any order, with repeats and faults, other commands of the cabinet, and openings of either file.
--
-- A stop within a call is a call in which both disks fail from some call of theirs on: it is answered by its row, and behind it either
-- file may be opened from an image that its disk then has.
use Rattle.std.specs.Prelude.{◌≡◌, ◌⊎◌, ℕ, List, [], ◌∷◌, Option, Some, None, IsSome}
use Rattle.cabinet.specs.State.{IsKnown, State, now}
use Rattle.served_covers.specs.OfCatalogue.{IsCoverOf}
use Rattle.truncation_list.specs.Books.{AnswersForBook}
use Rattle.truncation_list.specs.declared.cover.Cover.{Cover}
use Rattle.change_feed.specs.declared.applied.Applied.{Applied}
use Rattle.change_feed.specs.declared.change.Change.{Change}
use Rattle.change_feed.specs.declared.mark.Mark.{Mark}
use Rattle.change_feed.specs.Applies.{Applies, decided, marked_cut}
use Rattle.change_feed.specs.Files.{IsBehind, Stand}

-- a feed and a cabinet, as they stand
pub record FeedAndCabinet : Type 0 where
  pub stand : Stand
  pub cabinet : State

-- what happens: a change is answered, or memory runs out in its call; the marks are opened from an image; the cabinet is opened from an
-- image, or another of its commands is called
pub data FeedEvent : Type 0 where
  called : Change → Applied → FeedEvent
  ran_out : Change → FeedEvent
  marks_opened : FeedEvent
  cabinet_opened : FeedEvent
  commanded : FeedEvent

-- a change was answered by its row, where its cover is of the cabinet's catalogue
pub record IsCalled (s : FeedAndCabinet) (change : Change) (reply : Applied) (t : FeedAndCabinet) : Type 0 where
  pub cover : IsCoverOf s.cabinet.catalogue change.cover
  -- how often the disks had failed, and had then
  pub faults : ℕ
  pub then_faults : ℕ
  pub cabinet_faults : ℕ
  pub then_cabinet_faults : ℕ
  pub row : Applies (record { stand = s.stand; faults = faults; cabinet = s.cabinet; cabinet_faults = cabinet_faults }) change reply (record { stand = t.stand; faults = then_faults; cabinet = t.cabinet; cabinet_faults = then_cabinet_faults })

-- what an image of the marks may end in: the mark, or the one that is undecided
abbrev pub IsEither : Stand → Option Mark → Type 0
IsEither s found = (found ≡ s.mark) ⊎ (IsSome s.undecided × (found ≡ s.undecided))

-- a known cabinet of the same catalogue, which answers for each truncation that was in force
pub record CabinetGoesOn (s t : State) : Type 0 where
  pub known : IsKnown t
  pub same_catalogue : t.catalogue ≡ s.catalogue
  pub answers : AnswersForBook (now t).book (now s).book

abbrev pub IsEvent : FeedAndCabinet → FeedEvent → FeedAndCabinet → Type 0
IsEvent s (called change reply) t = IsCalled s change reply t
IsEvent s (ran_out change) t = (t.stand ≡ decided s.stand) × (t.cabinet ≡ s.cabinet)
IsEvent s marks_opened t = IsEither s.stand t.stand.mark × (t.stand.undecided ≡ None) × (t.cabinet ≡ s.cabinet)
IsEvent s cabinet_opened t = (t.stand ≡ s.stand) × CabinetGoesOn s.cabinet t.cabinet
IsEvent s commanded t = (t.stand ≡ s.stand) × CabinetGoesOn s.cabinet t.cabinet

-- these events lead from the one to the other
abbrev pub Runs : FeedAndCabinet → List FeedEvent → FeedAndCabinet → Type 0
Runs s [] t = t ≡ s
Runs s (event ∷ events) t = (next : FeedAndCabinet) × IsEvent s event next × Runs next events t

-- where a run may begin: what holds of each feed and of each cabinet
pub record MayBegin (s : FeedAndCabinet) : Type 0 where
  pub behind : IsBehind s.stand.mark s.stand.undecided
  pub known : IsKnown s.cabinet

-- the event cut for the change of this number
abbrev pub CutsNumber : ℕ → FeedEvent → Type 0
CutsNumber n (called change reply) = (change.number ≡ n) × IsSome (marked_cut reply)
CutsNumber n (ran_out change) = ⊥
CutsNumber n marks_opened = ⊥
CutsNumber n cabinet_opened = ⊥
CutsNumber n commanded = ⊥

-- one of these events did
abbrev pub IsCutIn : ℕ → List FeedEvent → Type 0
IsCutIn n [] = ⊥
IsCutIn n (event ∷ events) = CutsNumber n event ⊎ IsCutIn n events

-- the event made this mark, for a change of this cover
abbrev pub MakesMark : Mark → Cover → FeedEvent → Type 0
MakesMark m cover (called change reply) = (change.number ≡ m.number) × (change.cover ≡ cover) × (marked_cut reply ≡ Some m.cut)
MakesMark m cover (ran_out change) = ⊥
MakesMark m cover marks_opened = ⊥
MakesMark m cover cabinet_opened = ⊥
MakesMark m cover commanded = ⊥

-- one of these events did
abbrev pub IsMadeIn : Mark → Cover → List FeedEvent → Type 0
IsMadeIn m cover [] = ⊥
IsMadeIn m cover (event ∷ events) = MakesMark m cover event ⊎ IsMadeIn m cover events

-- A run of a feed: the changes of its lines, one after the other, what became of each, and what is written of them.
use Rattle.std.specs.Prelude.{ℕ, ◌≡◌, ◌⊎◌, ◌+◌, ◌≤◌, List, [], ◌∷◌, ◌++◌, length, map, flat_map, Some, None}
use Rattle.catalog.specs.declared.catalogue.Catalogue.{Catalogue}
use Rattle.base.specs.Causes.{Rose}
use Rattle.change_feed.specs.declared.applied.Applied.{Applied}
use Rattle.change_feed.specs.declared.change.Change.{Change}
use Rattle.change_feed.specs.Applies.{Applies, Pair, decided}
use Rattle.change_feed.specs.Files.{MayEndIn, Stand}
use Rattle.change_feed.specs.Runs.{FeedAndCabinet, FeedEvent, called}
use Rattle.disk_model.specs.Content.{Content}
use Rattle.opened_cache.specs.Change.{HasWritten}
use Rattle.sessions.specs.Outside.{OutputChange}
use Rattle.served_covers.specs.OfCatalogue.{IsCoverOf}
use Rattle.tile_requests.specs.Sent.{AppendsPart}
use Rattle.feed_words.specs.declared.lines.FeedLinesEnd.{FeedLinesEnd}
use Rattle.feed_words.specs.declared.lines.FeedLinesEnd.TheVariants as lines_end
use Rattle.feed_words.specs.Orders.{change_in}
use Rattle.feed_words.specs.Texts.{answer_text}

-- STEPS

-- a change, what became of it, and the feed and the cabinet after it
pub record FeedStep : Type 0 where
  pub change : Change
  pub reply : Applied
  pub after : Pair

-- each change has a cover of the cabinet's catalogue, and was answered by its row: from the pair before it to the pair after it
abbrev pub Follow : Pair → List FeedStep → Pair → Type 0
Follow s [] t = t ≡ s
Follow s (step ∷ steps) t = IsCoverOf s.cabinet.catalogue step.change.cover × Applies s step.change step.reply step.after × Follow step.after steps t

-- each line orders the change of its step, and there are no other steps
abbrev pub Order : Catalogue → List (List ℕ) → List FeedStep → Type 0
Order c lines steps = map (change_in c) lines ≡ map (λ step. Some step.change) steps

-- what is written of a step, and of several
abbrev pub answer_of : FeedStep → List ℕ
answer_of step = answer_text step.change.number step.reply

abbrev pub answers_of : List FeedStep → List ℕ
answers_of steps = flat_map answer_of steps

-- at a moment of the steps an image of the marks ends in a mark of the stand before them, or of one after a step
abbrev pub MayEndAlong : List ℕ → Stand → List FeedStep → Content → Type 0
MayEndAlong digest s [] image = MayEndIn digest s image
MayEndAlong digest s (step ∷ steps) image = MayEndIn digest s image ⊎ MayEndAlong digest step.after.stand steps image

-- the steps as events of a run of the feed on the cabinet
abbrev pub stores_of : Pair → FeedAndCabinet
stores_of s = record { stand = s.stand; cabinet = s.cabinet }

abbrev pub events_of : List FeedStep → List FeedEvent
events_of steps = map (λ step. called step.change step.reply) steps

-- HOW LINES END

-- all that the steps before the last write went out, and of what the last one writes a front, and not all of it; a write failed
pub record IsCutInLast (o : OutputChange) (steps : List FeedStep) : Type 0 where
  pub before : List FeedStep
  pub last : FeedStep
  pub whole : steps ≡ before ++ last ∷ []
  pub sent : AppendsPart o.from o.to (answers_of before) (answer_of last)
  pub failed : Rose o.writes.before o.writes.after

-- these lines stand before the line, and others after it
abbrev pub IsAmong : List (List ℕ) → List (List ℕ) → List ℕ → Type 0
IsAmong lines before line = (rest : List (List ℕ)) × (lines ≡ before ++ line ∷ rest)

-- Which lines have a step, by the end, and what was written: all of them; those before the first that is refused, or before one at
-- which memory ran out; or those up to one whose answer was cut short.
abbrev pub FeedEndsAs : Catalogue → List (List ℕ) → OutputChange → List FeedStep → FeedLinesEnd → Type 0
FeedEndsAs c lines o steps lines_end.Done = Order c lines steps × HasWritten o (answers_of steps)
FeedEndsAs c lines o steps (lines_end.Line n) =
    (before : List (List ℕ)) × (line : List ℕ) × IsAmong lines before line × Order c before steps × (n ≡ length before + 1) × (change_in c line ≡ None) × HasWritten o (answers_of steps)
FeedEndsAs c lines o steps lines_end.WriteFault = (before : List (List ℕ)) × (line : List ℕ) × IsAmong lines before line × Order c (before ++ line ∷ []) steps × IsCutInLast o steps
FeedEndsAs c lines o steps lines_end.OutOfMemory = (before : List (List ℕ)) × (line : List ℕ) × IsAmong lines before line × Order c before steps × HasWritten o (answers_of steps)

-- where the last step left the feed and the cabinet, or where a call behind it left them in which memory ran out
pub record IsLeftAs (last t : Pair) : Type 0 where
  pub cabinet : t.cabinet ≡ last.cabinet
  pub stand : (t.stand ≡ last.stand) ⊎ (t.stand ≡ decided last.stand)
  pub faults : last.faults ≤ t.faults
  pub cabinet_faults : last.cabinet_faults ≤ t.cabinet_faults

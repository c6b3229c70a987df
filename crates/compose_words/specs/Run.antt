-- A run of a composition: the orders of its lines, one after the other, what each was answered, and what is written of it.
use Rattle.std.specs.Prelude.{ℕ, ◌≡◌, ◌+◌, ◌<◌, IsTrue, List, [], ◌∷◌, ◌++◌, length, map, Option, Some, None, ⊤}
use Rattle.std.specs.List.{AllByRecursion}
use Rattle.cabinet.specs.Commands.{Cuts}
use Rattle.cabinet.specs.declared.replies.CutReply.{CutReply}
use Rattle.cabinet.specs.declared.replies.CutReply.TheVariants as cut
use Rattle.cabinet.specs.Hits.{covers_in}
use Rattle.catalog.specs.declared.catalogue.Catalogue.{Catalogue}
use Rattle.base.specs.Causes.{Rose}
use Rattle.composite_layers.specs.Composes.{HasComposed, HasStopped}
use Rattle.composite_layers.specs.Parts.{CompositionMoment}
use Rattle.layer_recipes.specs.Composite.{composite}
use Rattle.layer_recipes.specs.declared.composed.ComposeFault.TheVariants as fault
use Rattle.layer_recipes.specs.declared.place.TilePlace.{TilePlace}
use Rattle.layer_recipes.specs.declared.recipe.Part.{Part}
use Rattle.layer_recipes.specs.OfCatalogue.{tile_at}
use Rattle.served_covers.specs.OfCatalogue.{IsCoverOf}
use Rattle.tile_requests.specs.Sent.{AppendsPart}
use Rattle.truncation_list.specs.declared.book.Cut.{Cut}
use Rattle.truncation_list.specs.declared.cover.Cover.{Cover}
use Rattle.compose_words.specs.declared.lines.CompositionLinesEnd.{CompositionLinesEnd}
use Rattle.compose_words.specs.declared.lines.CompositionLinesEnd.TheVariants as lines_end
use Rattle.compose_words.specs.declared.orders.CompositionOrder.{CompositionOrder}
use Rattle.compose_words.specs.declared.orders.CompositionOrder.TheVariants as order
use Rattle.compose_words.specs.declared.reply.CompositionReply.{CompositionReply}
use Rattle.compose_words.specs.declared.reply.CompositionReply.TheVariants as reply
use Rattle.compose_words.specs.Orders.{order_of}
use Rattle.compose_words.specs.Texts.{answer_text}
use Rattle.compose_words.specs.Written.{HasWritten, OutputChange}

-- STEPS

-- from the moment m to the moment n a truncation was answered by its row, and nothing was rendered
pub record IsCut (m : CompositionMoment) (cover : Cover) (answer : CutReply) (n : CompositionMoment) : Type 0 where
  pub of : IsCoverOf m.cabinet.catalogue cover
  pub cuts : Cuts m.cabinet cover answer n.cabinet
  pub renders : n.renders ≡ m.renders

-- What each reply says of its order, from the moment m to the moment n, for these parts. A tile is the composite at its place: each part was asked
-- for, and its number is fresh at its own ask. `Fault` and `Spent` are those of the first part that couldn't be had; where it is the source that failed,
-- its count of faults rose between these moments.
abbrev pub Answers : Option ℕ → List Part → CompositionMoment → CompositionOrder → CompositionReply → CompositionMoment → Type 0
Answers told parts m (order.Get place) (reply.Tile tile) n = HasComposed told place m parts tile.numbers.items tile.bytes.items n
Answers told parts m (order.Get place) reply.Fault n = HasStopped told place m parts fault.SourceFault n × Rose m.renders n.renders
Answers told parts m (order.Get place) reply.Spent n = HasStopped told place m parts fault.Spent n
Answers told parts m (order.Get place) (reply.Cut k) n = ⊥
Answers told parts m (order.Get place) reply.Full n = ⊥
Answers told parts m (order.Truncate cover) (reply.Tile tile) n = ⊥
Answers told parts m (order.Truncate cover) reply.Fault n = ⊥
Answers told parts m (order.Truncate cover) reply.Spent n = IsCut m cover cut.Spent n
Answers told parts m (order.Truncate cover) (reply.Cut k) n = IsCut m cover (cut.Done k) n
Answers told parts m (order.Truncate cover) reply.Full n = IsCut m cover cut.Full n

-- an order, what it was answered, and the moment after it
pub record CompositionStep : Type 0 where
  pub order : CompositionOrder
  pub reply : CompositionReply
  pub after : CompositionMoment

-- each order was answered by its row, from the moment that the step before it left
abbrev pub Follow : Option ℕ → List Part → CompositionMoment → List CompositionStep → CompositionMoment → Type 0
Follow told parts m [] n = n ≡ m
Follow told parts m (step ∷ steps) n = Answers told parts m step.order step.reply step.after × Follow told parts step.after steps n

-- a tile is the composite of the pictures of its numbers
abbrev pub IsPicturedAs : Catalogue → List Part → CompositionOrder → CompositionReply → Type 0
IsPicturedAs c parts (order.Get place) (reply.Tile tile) = tile.bytes.items ≡ composite c place parts tile.numbers.items
IsPicturedAs c parts (order.Get place) reply.Fault = ⊤
IsPicturedAs c parts (order.Get place) reply.Spent = ⊤
IsPicturedAs c parts (order.Get place) (reply.Cut k) = ⊤
IsPicturedAs c parts (order.Get place) reply.Full = ⊤
IsPicturedAs c parts (order.Truncate cover) answer = ⊤

abbrev pub IsPictured : Catalogue → List Part → CompositionStep → Type 0
IsPictured c parts step = IsPicturedAs c parts step.order step.reply

-- TRUNCATIONS

-- the truncations so far, after one more answer
abbrev pub cuts_with : List Cut → CompositionOrder → CompositionReply → List Cut
cuts_with cuts (order.Get place) answer = cuts
cuts_with cuts (order.Truncate cover) (reply.Tile tile) = cuts
cuts_with cuts (order.Truncate cover) reply.Fault = cuts
cuts_with cuts (order.Truncate cover) reply.Spent = cuts
cuts_with cuts (order.Truncate cover) (reply.Cut k) = cuts ++ record { number = k; cover = cover } ∷ []
cuts_with cuts (order.Truncate cover) reply.Full = cuts

-- the number of each part is above that of a truncation that covers the part's tile
abbrev pub AreAbove : Catalogue → TilePlace → List Part → List ℕ → Cut → Type 0
AreAbove c place [] numbers k = ⊤
AreAbove c place (p ∷ ps) [] k = ⊤
AreAbove c place (p ∷ ps) (n ∷ ns) k = (IsTrue (covers_in c k.cover (tile_at place p)) → k.number < n) × AreAbove c place ps ns k

-- a tile is above each of these truncations
abbrev pub IsAboveAs : Catalogue → List Part → List Cut → CompositionOrder → CompositionReply → Type 0
IsAboveAs c parts cuts (order.Get place) (reply.Tile tile) = AllByRecursion (AreAbove c place parts tile.numbers.items) cuts
IsAboveAs c parts cuts (order.Get place) reply.Fault = ⊤
IsAboveAs c parts cuts (order.Get place) reply.Spent = ⊤
IsAboveAs c parts cuts (order.Get place) (reply.Cut k) = ⊤
IsAboveAs c parts cuts (order.Get place) reply.Full = ⊤
IsAboveAs c parts cuts (order.Truncate cover) answer = ⊤

-- each tile is above the truncations before it, so that a truncation of any part covers the whole
abbrev pub AreNewer : Catalogue → List Part → List Cut → List CompositionStep → Type 0
AreNewer c parts cuts [] = ⊤
AreNewer c parts cuts (step ∷ steps) = IsAboveAs c parts cuts step.order step.reply × AreNewer c parts (cuts_with cuts step.order step.reply) steps

-- LINES

-- each line gives the order of its step, and there are no other steps
abbrev pub AreOrders : Catalogue → ℕ → List (List ℕ) → List CompositionStep → Type 0
AreOrders c grid lines steps = map (order_of c grid) lines ≡ map (λ step. Some step.order) steps

-- what is written of steps, of which the first is that of the line of this number
abbrev pub answers_from : ℕ → List CompositionStep → List ℕ
answers_from n [] = []
answers_from n (step ∷ steps) = answer_text n step.reply ++ answers_from (n + 1) steps

-- the recipe is the first line
abbrev pub answers_of : List CompositionStep → List ℕ
answers_of steps = answers_from 2 steps

-- HOW LINES END

-- all that the steps before the last write went out, and of what the last one writes a front, and not all of it; a write failed
pub record IsCutInLast (o : OutputChange) (steps : List CompositionStep) : Type 0 where
  pub before : List CompositionStep
  pub last : CompositionStep
  pub whole : steps ≡ before ++ last ∷ []
  pub sent : AppendsPart o.from o.to (answers_of before) (answer_text (length before + 2) last.reply)
  pub failed : Rose o.writes.before o.writes.after

-- these lines stand before the line, and others after it
abbrev pub IsAmong : List (List ℕ) → List (List ℕ) → List ℕ → Type 0
IsAmong lines before line = (rest : List (List ℕ)) × (lines ≡ before ++ line ∷ rest)

-- Which of the lines behind the recipe have a step, by the end, and what was written: all of them; those before the first that is refused, or
-- before one at which memory ran out; or those up to one whose answer was cut short.
abbrev pub CompositionEndsAs : Catalogue → ℕ → List (List ℕ) → OutputChange → List CompositionStep → CompositionLinesEnd → Type 0
CompositionEndsAs c grid lines o steps lines_end.Done = AreOrders c grid lines steps × HasWritten o (answers_of steps)
CompositionEndsAs c grid lines o steps (lines_end.Line n) =
    (before : List (List ℕ)) × (line : List ℕ) × IsAmong lines before line × AreOrders c grid before steps × (n ≡ length before + 2) × (order_of c grid line ≡ None) × HasWritten o (answers_of steps)
CompositionEndsAs c grid lines o steps lines_end.WriteFault = (before : List (List ℕ)) × (line : List ℕ) × IsAmong lines before line × AreOrders c grid (before ++ line ∷ []) steps × IsCutInLast o steps
CompositionEndsAs c grid lines o steps lines_end.OutOfMemory = (before : List (List ℕ)) × (line : List ℕ) × IsAmong lines before line × AreOrders c grid before steps × HasWritten o (answers_of steps)

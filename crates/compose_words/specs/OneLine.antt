-- What one line behind a recipe comes to.
-- A tie between the code and its definitions: the promise can be read without it.
use Rattle.std.specs.Prelude.{ℕ, ◌≡◌, ◌≤◌, List, Option, Some, None}
use Rattle.cabinet.specs.State.{IsSound}
use Rattle.catalog.specs.declared.catalogue.Catalogue.{Catalogue}
use Rattle.composite_layers.specs.Parts.{CompositionMoment}
use Rattle.layer_recipes.specs.declared.recipe.Part.{Part}
use Rattle.tile_service.specs.Session.{IsAtRest}
use Rattle.compose_words.specs.declared.line.CompositionLineEnd.{CompositionLineEnd}
use Rattle.compose_words.specs.declared.line.CompositionLineEnd.TheVariants as line_end
use Rattle.compose_words.specs.declared.orders.CompositionOrder.{CompositionOrder}
use Rattle.compose_words.specs.declared.reply.CompositionReply.{CompositionReply}
use Rattle.compose_words.specs.Orders.{order_of}
use Rattle.compose_words.specs.Run.{Answers}
use Rattle.compose_words.specs.Texts.{answer_text}
use Rattle.compose_words.specs.Written.{HasWritten, IsCutShort, OutputChange}

-- From the moment m to the moment n: the source's count doesn't fall, and the cabinet has the catalogue of before, no render runs in it,
-- and it is sound where it was and the source tells what it renders.
pub record MomentGoesOn (told : Option ℕ) (m n : CompositionMoment) : Type 0 where
  pub later : m.renders ≤ n.renders
  pub same_catalogue : n.cabinet.catalogue ≡ m.cabinet.catalogue
  pub rests : IsAtRest n.cabinet
  pub sound : told ≡ Some m.cabinet.catalogue.source → IsSound m.cabinet → IsSound n.cabinet

-- a reply is told by its text
abbrev pub IsToldAs : OutputChange → ℕ → CompositionReply → CompositionLineEnd → Type 0
IsToldAs o number reply line_end.Told = HasWritten o (answer_text number reply)
IsToldAs o number reply line_end.WriteFault = IsCutShort o (answer_text number reply)
IsToldAs o number reply line_end.Refused = ⊥
IsToldAs o number reply line_end.OutOfMemory = ⊥

-- an order was answered by its row, and the answer was told; or memory ran out
abbrev pub RunsOrder : Option ℕ → List Part → OutputChange → Type 0 → ℕ → CompositionMoment → CompositionOrder → CompositionMoment → CompositionLineEnd → Type 0
RunsOrder told parts o Stays number m order n line_end.Told = (reply : CompositionReply) × Answers told parts m order reply n × HasWritten o (answer_text number reply)
RunsOrder told parts o Stays number m order n line_end.WriteFault = (reply : CompositionReply) × Answers told parts m order reply n × IsCutShort o (answer_text number reply)
RunsOrder told parts o Stays number m order n line_end.Refused = ⊥
RunsOrder told parts o Stays number m order n line_end.OutOfMemory = Stays

-- a line gives this order
abbrev pub IsRead : Catalogue → ℕ → List ℕ → CompositionOrder → Type 0
IsRead c grid line order = order_of c grid line ≡ Some order

abbrev pub RunsLine : Option ℕ → ℕ → List Part → OutputChange → Type 0 → ℕ → List ℕ → CompositionMoment → CompositionMoment → CompositionLineEnd → Type 0
RunsLine told grid parts o Stays number line m n line_end.Told = (order : CompositionOrder) × IsRead m.cabinet.catalogue grid line order × RunsOrder told parts o Stays number m order n line_end.Told
RunsLine told grid parts o Stays number line m n line_end.WriteFault = (order : CompositionOrder) × IsRead m.cabinet.catalogue grid line order × RunsOrder told parts o Stays number m order n line_end.WriteFault
RunsLine told grid parts o Stays number line m n line_end.Refused = (order_of m.cabinet.catalogue grid line ≡ None) × (n ≡ m) × Stays
RunsLine told grid parts o Stays number line m n line_end.OutOfMemory = Stays

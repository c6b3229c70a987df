-- What each end of a composition says.
use Rattle.std.specs.Prelude.{ℕ, ◌≡◌, ◌⊎◌, ◌+◌, ◌<◌, ◌≤◌, Bool, true, false, List, [], ◌∷◌, length, Option, Some, Ok, Err}
use Rattle.std.specs.Io.KnownBytes.{Consumes, IsAtEnd}
use Rattle.std.specs.List.{AllByRecursion}
use Rattle.cabinet.specs.State.{State, fresh_state}
use Rattle.catalog.specs.declared.catalogue.Catalogue.{Catalogue}
use Rattle.base.specs.Causes.{Rose}
use Rattle.base.specs.Readings.{Readings}
use Rattle.command_setup.specs.declared.configuration.Unconfigured.{Unconfigured}
use Rattle.command_setup.specs.declared.configuration.Unconfigured.TheVariants as unconfigured
use Rattle.command_setup.specs.Setup.{Configures, IsRead}
use Rattle.composite_layers.specs.Parts.{CompositionMoment, moment}
use Rattle.layer_recipes.specs.declared.fault.RecipeFault.{RecipeFault}
use Rattle.layer_recipes.specs.declared.fault.RecipeFault.TheVariants as fault
use Rattle.layer_recipes.specs.declared.recipe.Part.{Part}
use Rattle.layer_recipes.specs.Recipes.{recipe_of}
use Rattle.schedule_text.specs.declared.line.TheConstants.{LINE_LIMIT}
use Rattle.tile_service.specs.Lines.{lines_of}
use Rattle.sessions.specs.Outside.{FaultCounts, InputChange}
use Rattle.compose_words.specs.declared.end.ComposeEnd.{ComposeEnd}
use Rattle.compose_words.specs.declared.end.ComposeEnd.TheVariants as end
use Rattle.compose_words.specs.declared.lines.CompositionLinesEnd.{CompositionLinesEnd}
use Rattle.compose_words.specs.declared.lines.CompositionLinesEnd.TheVariants as lines_end
use Rattle.compose_words.specs.Run.{AreNewer, CompositionEndsAs, CompositionStep, Follow, IsPictured}
use Rattle.compose_words.specs.Written.{OutputChange}

-- what was seen of the source and of the output: the number of the source, where it is modelled, its faults, and the output
pub record Outer : Type 0 where
  pub told : Option ℕ
  pub renders : FaultCounts
  pub output : OutputChange

-- THE LINES

-- From the cabinet s the lines behind a recipe led through these steps, one after the other, and ended so. Each fault that a step tells of the
-- source was counted in it. Where the source is modelled as the catalogue's, each tile is the composite of the pictures of its numbers. Each number of
-- a tile is above every truncation of a line before it that covers its part. A cabinet in memory has no disk that could fail, so that what is kept
-- is always read, and what was rendered is kept where there is room.
pub record HasRunLines (x : Outer) (s : State) (grid : ℕ) (parts : List Part) (lines : List (List ℕ)) (e : CompositionLinesEnd) : Type 0 where
  pub steps : List CompositionStep
  pub last : CompositionMoment
  pub follow : Follow x.told parts (moment s x.renders.before 0) steps last
  pub counted : last.renders ≤ x.renders.after
  pub ends : CompositionEndsAs s.catalogue grid lines x.output steps e
  pub pictured : x.told ≡ Some s.catalogue.source → AllByRecursion (IsPictured s.catalogue parts) steps
  pub newer : AreNewer s.catalogue parts [] steps
  pub no_disk : AllByRecursion (λ step. step.after.disk ≡ 0) steps

-- THE RECIPE

-- the recipe's line is the first one; where there is none it has no bytes
abbrev pub first_of : List (List ℕ) → List ℕ
first_of [] = []
first_of (line ∷ lines) = line

abbrev pub rest_of : List (List ℕ) → List (List ℕ)
rest_of [] = []
rest_of (line ∷ lines) = lines

abbrev pub recipe_line : List ℕ → List ℕ
recipe_line text = first_of (lines_of text)

-- the first line of the text is a recipe, and the lines behind it were run on a cabinet in which nothing had happened
pub record HasRunText (x : Outer) (c : Catalogue) (clock : Readings) (text : List ℕ) (e : CompositionLinesEnd) : Type 0 where
  pub grid : ℕ
  pub parts : List Part
  pub short : length (recipe_line text) ≤ LINE_LIMIT
  pub reads : recipe_of c (recipe_line text) ≡ Ok (grid, parts)
  pub run : HasRunLines x (fresh_state c clock) grid parts (rest_of (lines_of text)) e

-- the first line has more bytes than a line may have
abbrev pub HasLongRecipe : List ℕ → Type 0
HasLongRecipe text = LINE_LIMIT < length (recipe_line text)

-- a line is refused as a recipe, with this fault; want of memory is an end of its own
abbrev pub IsRefusedRecipe : Catalogue → List ℕ → RecipeFault → Type 0
IsRefusedRecipe c line f = (length line ≤ LINE_LIMIT) × (recipe_of c line ≡ Err f)

abbrev pub IsNoRecipe : Catalogue → List ℕ → RecipeFault → Type 0
IsNoRecipe c line fault.NotJson = IsRefusedRecipe c line fault.NotJson
IsNoRecipe c line (fault.Missing field part) = IsRefusedRecipe c line (fault.Missing field part)
IsNoRecipe c line (fault.Bad field part) = IsRefusedRecipe c line (fault.Bad field part)
IsNoRecipe c line (fault.Limit field part) = IsRefusedRecipe c line (fault.Limit field part)
IsNoRecipe c line fault.OutOfMemory = ⊥

-- what each end says of a text that was read; `Quiet` is that the output and the source stay as they are
abbrev pub TextEnds : Outer → Type 0 → Catalogue → Readings → List ℕ → ComposeEnd → Type 0
TextEnds x Quiet c clock text end.Done = HasRunText x c clock text lines_end.Done
TextEnds x Quiet c clock text (end.Line n) = (HasLongRecipe text × (n ≡ 1) × Quiet) ⊎ HasRunText x c clock text (lines_end.Line n)
TextEnds x Quiet c clock text end.WriteFault = HasRunText x c clock text lines_end.WriteFault
TextEnds x Quiet c clock text (end.Recipe f) = IsNoRecipe c (recipe_line text) f × Quiet
TextEnds x Quiet c clock text end.OutOfMemory = Quiet ⊎ HasRunText x c clock text lines_end.OutOfMemory
TextEnds x Quiet c clock text end.Usage = ⊥
TextEnds x Quiet c clock text (end.Catalogue f) = ⊥
TextEnds x Quiet c clock text end.ReadFault = ⊥
TextEnds x Quiet c clock text end.TooLong = ⊥

-- THE INPUT

-- the input was read to its end, and this is its text
pub record IsText (i : InputChange) (text : List ℕ) : Type 0 where
  pub read : Consumes i.from i.to text
  pub at_end : IsAtEnd i.to
  pub short : length text ≤ 16777216

-- one byte more than an input may have was taken
abbrev pub IsTooLong : InputChange → Type 0
IsTooLong i = (text : List ℕ) × Consumes i.from i.to text × (length text ≡ 16777216 + 1)

-- the input was read, and what its text came to ended so
abbrev pub OfText : InputChange → Outer → Type 0 → Catalogue → Readings → ComposeEnd → Type 0
OfText i x Quiet c clock e = (text : List ℕ) × IsText i text × TextEnds x Quiet c clock text e

-- what each end says under a catalogue that was read
abbrev pub InputEnds : InputChange → Outer → Type 0 → Catalogue → Readings → ComposeEnd → Type 0
InputEnds i x Quiet c clock end.Done = OfText i x Quiet c clock end.Done
InputEnds i x Quiet c clock (end.Line n) = OfText i x Quiet c clock (end.Line n)
InputEnds i x Quiet c clock end.WriteFault = OfText i x Quiet c clock end.WriteFault
InputEnds i x Quiet c clock (end.Recipe f) = OfText i x Quiet c clock (end.Recipe f)
InputEnds i x Quiet c clock end.ReadFault = Rose i.reads.before i.reads.after × Quiet
InputEnds i x Quiet c clock end.TooLong = IsTooLong i × Quiet
InputEnds i x Quiet c clock end.OutOfMemory = Quiet ⊎ OfText i x Quiet c clock end.OutOfMemory
InputEnds i x Quiet c clock end.Usage = ⊥
InputEnds i x Quiet c clock (end.Catalogue f) = ⊥

-- THE WORDS

-- what a composition saw of what it was handed: its catalogue, its input, and what is outside
pub record ComposeChange : Type 0 where
  pub catalogue : InputChange
  pub input : InputChange
  pub outer : Outer

-- that each of these stays as it is, a fact of its own for each
pub record Stays : Type 1 where
  pub catalogue : Type 0
  pub input : Type 0
  pub output : Type 0
  pub source : Type 0

abbrev pub quiet : Stays → Type 0
quiet stays = stays.output × stays.source

-- the end of a composition whose catalogue was refused
abbrev pub end_of_refusal : Unconfigured → ComposeEnd
end_of_refusal unconfigured.ReadFault = end.ReadFault
end_of_refusal unconfigured.TooLong = end.TooLong
end_of_refusal (unconfigured.Fault f) = end.Catalogue f
end_of_refusal unconfigured.OutOfMemory = end.OutOfMemory

-- What each end says, where the words ask for a composition: the catalogue was refused and nothing else was touched, or it was read and the
-- input ended so. Other words touch nothing.
abbrev pub ComposeTells : ComposeChange → Stays → Readings → Bool → ComposeEnd → Type 0
ComposeTells h stays clock false e = stays.catalogue × stays.input × quiet stays
ComposeTells h stays clock true e =
    ((u : Unconfigured) × (e ≡ end_of_refusal u) × Configures h.catalogue (Err u) × stays.input × quiet stays)
    ⊎ ((c : Catalogue) × IsRead h.catalogue (Ok c) × InputEnds h.input h.outer (quiet stays) c clock e)

-- the end of a composition whose lines ended so
abbrev pub end_of_lines : CompositionLinesEnd → ComposeEnd
end_of_lines lines_end.Done = end.Done
end_of_lines (lines_end.Line n) = end.Line n
end_of_lines lines_end.WriteFault = end.WriteFault
end_of_lines lines_end.OutOfMemory = end.OutOfMemory

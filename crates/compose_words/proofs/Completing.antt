-- Where all is in order and nothing fails, each end but Done and want of memory is ruled out by its cause.
use Rattle.std.specs.Prelude.{ℕ, ◌≡◌, ◌⊎◌, ◌≤◌, ◌+◌, ◌++◌, Bool, true, IsSome, List, [], ◌∷◌, length, Option, Some, None, Result, Ok, Err}
use Rattle.std.specs.Io.KnownBytes.{Consumes, IsAtEnd}
use Rattle.std.specs.List.{AllByRecursion}
use Rattle.std.proofs.Common.{ap, append-nil, arith, inl, inr, length-append, refl, subst, sym, ◌∙◌}
use Rattle.catalog.specs.declared.catalogue.Catalogue.{Catalogue}
use Rattle.catalog.specs.declared.fault.CatalogueFault.{CatalogueFault}
use Rattle.base.specs.Readings.{Readings}
use Rattle.command_setup.specs.declared.configuration.Unconfigured.{Unconfigured}
use Rattle.command_setup.specs.declared.configuration.Unconfigured.TheVariants as unconfigured
use Rattle.command_setup.specs.Setup.{Configures, HasRisen, IsRead}
use Rattle.config_text.specs.Text.{catalogue_of}
use Rattle.layer_recipes.specs.declared.fault.RecipeFault.{RecipeFault}
use Rattle.layer_recipes.specs.declared.fault.RecipeFault.TheVariants as fault
use Rattle.layer_recipes.specs.declared.recipe.Part.{Part}
use Rattle.layer_recipes.specs.Recipes.{recipe_of}
use Rattle.tile_service.specs.Lines.{lines_of}
use Rattle.sessions.specs.Outside.{InputChange}
use Rattle.compose_words.specs.declared.end.ComposeEnd.{ComposeEnd}
use Rattle.compose_words.specs.declared.end.ComposeEnd.TheVariants as end
use Rattle.compose_words.specs.declared.lines.CompositionLinesEnd.TheVariants as lines_end
use Rattle.compose_words.specs.Complete.{HasText, IsComplete, IsComposition, IsInOrder, NothingFails}
use Rattle.compose_words.specs.Ends.{ComposeChange, ComposeTells, HasRunText, InputEnds, IsNoRecipe, IsText, Stays, TextEnds, end_of_refusal, quiet, recipe_line, rest_of}
use Rattle.compose_words.specs.Orders.{order_of}

abbrev IsDone : ComposeEnd → Type 0
IsDone e = (e ≡ end.Done) ⊎ (e ≡ end.OutOfMemory)

-- TEXTS

-- what was read to the end is the text
same_text : (from to : Option (List ℕ)) (read whole : List ℕ) → from ≡ Some whole → Consumes from to read → IsAtEnd to → read ≡ whole
same_text None to read whole is consumes ended = absurd (cc)
same_text (Some all) None read whole is consumes ended = absurd consumes
same_text (Some all) (Some rest) read whole is consumes ended = let first : all ≡ read = consumes ∙ ap (λ r. read ++ r) ended ∙ append-nil read in cc

-- no more than a text has was taken of it
not_over : (limit : ℕ) (from to : Option (List ℕ)) (taken whole : List ℕ) → from ≡ Some whole → Consumes from to taken → length taken ≡ limit + 1 → length whole ≤ limit → ⊥
not_over limit None to taken whole is consumes long short = cc
not_over limit (Some all) None taken whole is consumes long short = consumes
not_over limit (Some all) (Some rest) taken whole is consumes long short =
    let same : whole ≡ taken ++ rest = let first : Some whole ≡ Some all = sym is in cc in
    let count : length whole ≡ length taken + length rest = ap length same ∙ length-append taken rest in
    absurd (omega arith)

-- THE CATALOGUE

abbrev HasCatalogue : InputChange → Catalogue → Type 0
HasCatalogue i c = HasText 1048576 i (λ text. catalogue_of text ≡ Ok c)

two_catalogues : (text : List ℕ) (c d : Catalogue) → catalogue_of text ≡ Ok c → catalogue_of text ≡ Ok d → d ≡ c
two_catalogues text c d e k = cc

no_fault : (text : List ℕ) (c : Catalogue) (f : CatalogueFault) → catalogue_of text ≡ Ok c → catalogue_of text ≡ Err f → ⊥
no_fault text c f e k = cc

same_catalogue : (i : InputChange) (c d : Catalogue) → HasCatalogue i c → IsRead i (Ok d) → d ≡ c
same_catalogue i c d has read = two_catalogues has.text c d has.holds (subst (λ (t : List ℕ). catalogue_of t ≡ Ok d) (same_text i.from _ read.text has.text has.from read.read read.at_end) read.comes)

not_refused : (i : InputChange) (c : Catalogue) → HasCatalogue i c → (HasRisen i → ⊥) → (u : Unconfigured) → Configures i (Err u) → IsDone (end_of_refusal u)
not_refused i c has still unconfigured.ReadFault refused = absurd (still refused)
not_refused i c has still unconfigured.TooLong refused = absurd (not_over 1048576 i.from _ refused.0 has.text has.from refused.1 refused.2 has.short)
not_refused i c has still (unconfigured.Fault f) refused =
    absurd (no_fault has.text c f has.holds (subst (λ (t : List ℕ). catalogue_of t ≡ Err f) (same_text i.from _ refused.text has.text has.from refused.read refused.at_end) refused.comes))
not_refused i c has still unconfigured.OutOfMemory refused = inr refl

-- THE RECIPE

no_refusal : (c : Catalogue) (line : List ℕ) (grid : ℕ) (parts : List Part) (f : RecipeFault) → recipe_of c line ≡ Ok (grid, parts) → recipe_of c line ≡ Err f → ⊥
no_refusal c line grid parts f e k = cc

is_recipe : (c : Catalogue) (line : List ℕ) (grid : ℕ) (parts : List Part) (f : RecipeFault) → recipe_of c line ≡ Ok (grid, parts) → IsNoRecipe c line f → ⊥
is_recipe c line grid parts fault.NotJson e un = no_refusal c line grid parts fault.NotJson e un.1
is_recipe c line grid parts (fault.Missing field part) e un = no_refusal c line grid parts (fault.Missing field part) e un.1
is_recipe c line grid parts (fault.Bad field part) e un = no_refusal c line grid parts (fault.Bad field part) e un.1
is_recipe c line grid parts (fault.Limit field part) e un = no_refusal c line grid parts (fault.Limit field part) e un.1
is_recipe c line grid parts fault.OutOfMemory e un = un

abbrev grid_in : Result (ℕ × List Part) RecipeFault → ℕ
grid_in (Ok r) = r.0
grid_in (Err f) = 0

same_grid : (c : Catalogue) (line : List ℕ) (grid other : ℕ) (parts others : List Part) → recipe_of c line ≡ Ok (grid, parts) → recipe_of c line ≡ Ok (other, others) → other ≡ grid
same_grid c line grid other parts others e k = ap grid_in (sym k ∙ e)

-- THE LINES

-- a line among those that give orders gives one
ordered_at : (c : Catalogue) (grid : ℕ) (before : List (List ℕ)) (line : List ℕ) (rest : List (List ℕ)) → AllByRecursion (λ l. IsSome (order_of c grid l)) (before ++ line ∷ rest) → IsSome (order_of c grid line)
ordered_at c grid [] line rest all = all.0
ordered_at c grid (l ∷ before) line rest all = ordered_at c grid before line rest all.1

none_is_no_some : {A : Type 0} (x : Option A) → x ≡ None → IsSome x → ⊥
none_is_no_some None is some = cc
none_is_no_some (Some a) is some = cc

module _ (h : ComposeChange) (still : NothingFails h) (clock : Readings) (c : Catalogue) (Quiet : Type 0) where
  no_line : (text : List ℕ) (n : ℕ) → IsComposition c text → HasRunText h.outer c clock text (lines_end.Line n) → ⊥
  no_line text n composition ran =
      let e = ran.run.ends in
      let grid : ran.grid ≡ composition.grid = same_grid c (recipe_line text) composition.grid ran.grid composition.parts ran.parts composition.recipe ran.reads in
      let all : AllByRecursion (λ l. IsSome (order_of c ran.grid l)) (e.0 ++ e.1 ∷ e.2.0) =
      subst (λ (ls : List (List ℕ)). AllByRecursion (λ l. IsSome (order_of c ran.grid l)) ls) e.2.1
      (subst (λ (g : ℕ). AllByRecursion (λ l. IsSome (order_of c g l)) (rest_of (lines_of text))) (sym grid) composition.orders) in
      none_is_no_some (order_of c ran.grid e.1) e.5 (ordered_at c ran.grid e.0 e.1 e.2.0 all)

  of_text : (text : List ℕ) (e : ComposeEnd) → IsComposition c text → TextEnds h.outer Quiet c clock text e → IsDone e
  of_text text end.Done composition ends = inl refl
  of_text text (end.Line n) composition (inl long) = absurd (let a = composition.short in let b = long.0 in omega (arith, a, b))
  of_text text (end.Line n) composition (inr ran) = absurd (no_line text n composition ran)
  of_text text end.WriteFault composition ran = absurd (still.output ran.run.ends.4.failed)
  of_text text (end.Recipe f) composition ends = absurd (is_recipe c (recipe_line text) composition.grid composition.parts f composition.recipe ends.0)
  of_text text end.OutOfMemory composition ends = inr refl
  of_text text end.Usage composition ends = absurd ends
  of_text text (end.Catalogue f) composition ends = absurd ends
  of_text text end.ReadFault composition ends = absurd ends
  of_text text end.TooLong composition ends = absurd ends

  of_read : (e : ComposeEnd) (text : List ℕ) → HasText 16777216 h.input (IsComposition c) → IsText h.input text → TextEnds h.outer Quiet c clock text e → IsDone e
  of_read e text has is ends = of_text text e (subst (IsComposition c) (sym (same_text h.input.from _ text has.text has.from is.read is.at_end)) has.holds) ends

  of_input : (e : ComposeEnd) → HasText 16777216 h.input (IsComposition c) → InputEnds h.input h.outer Quiet c clock e → IsDone e
  of_input end.Done has ends = inl refl
  of_input (end.Line n) has ends = of_read (end.Line n) ends.0 has ends.1 ends.2
  of_input end.WriteFault has ends = of_read end.WriteFault ends.0 has ends.1 ends.2
  of_input (end.Recipe f) has ends = of_read (end.Recipe f) ends.0 has ends.1 ends.2
  of_input end.ReadFault has ends = absurd (still.input ends.0)
  of_input end.TooLong has ends = absurd (not_over 16777216 h.input.from _ ends.0.0 has.text has.from ends.0.1 ends.0.2 has.short)
  of_input end.OutOfMemory has ends = inr refl
  of_input end.Usage has ends = absurd ends
  of_input (end.Catalogue f) has ends = absurd ends

-- THE WORD

of_word : (h : ComposeChange) (stays : Stays) (clock : Readings) (e : ComposeEnd) → ComposeTells h stays clock true e → IsInOrder h → NothingFails h → IsDone e
of_word h stays clock e (inl refusal) order still = subst IsDone (sym refusal.1) (not_refused h.catalogue order.0 order.1 still.catalogue refusal.0 refusal.2)
of_word h stays clock e (inr read) order still =
    let same : read.0 ≡ order.0 = same_catalogue h.catalogue order.0 read.0 order.1 read.1 in
    of_input h still clock order.0 (quiet stays) e order.2 (subst (λ (x : Catalogue). InputEnds h.input h.outer (quiet stays) x clock e) same read.2)

pub completed : (h : ComposeChange) (stays : Stays) (clock : Readings) (asked : Bool) (e : ComposeEnd) → asked ≡ true → ComposeTells h stays clock true e → IsComplete h asked e
completed h stays clock asked e is tells = subst (λ (x : Bool). IsComplete h x e) (sym is) (of_word h stays clock e tells)

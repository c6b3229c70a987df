-- Recipes under names, read one after the other.
use Rattle.std.proofs.Common.{◌≡◌, ℕ, List, [], ◌∷◌, ◌++◌, length, map, Ok, Err, refl, sym, ap, subst, ◌∙◌, String, Global}
use Rattle.std.proofs.lemmas.List.{length-map, map-append}
use Rattle.std.specs.String.{string_bytes}
use Rattle.serde_json.specs.declared.value.Value.{Value}
use Rattle.serde_json.specs.View.{members_view, view}
use Rattle.catalog.specs.declared.catalogue.Catalogue.{Catalogue}
use Rattle.layer_recipes.specs.declared.book.NamedRecipe.{NamedRecipe}
use Rattle.layer_recipes.specs.declared.book_fault.BookFault.{BookFault}
use Rattle.layer_recipes.specs.declared.book_fault.BookFault.TheVariants.{NotJson, Limit, Name, Recipe, OutOfMemory}
use Rattle.layer_recipes.specs.Books.{BookOutcome, Entry, FailsBook, and_then, entries_in, entry_in, entry_of}

-- a fault ends the reading
fails_then : (f : BookFault) (r : BookOutcome Entry) (rest : Entry → BookOutcome (List Entry)) → FailsBook f r → FailsBook f (and_then r rest)
fails_then NotJson r rest h = rw h
fails_then Limit r rest h = rw h
fails_then (Name at) r rest h = rw h
fails_then (Recipe at fault) r rest h = rw h
fails_then OutOfMemory r rest h = tt

module _ (c : Catalogue) (all : BookOutcome (List Entry)) (before : List NamedRecipe) (its : List (String Global × Value)) where
  -- what the members that are left give is what all of them give
  abbrev pub Gives : List NamedRecipe → List (String Global × Value) → Type 0
  Gives named left = entries_in c (map entry_of named) (members_view left) ≡ all

  as_many : (name : List ℕ) (value : Value) (P : BookOutcome Entry → Type 0) → P (entry_in c (length before) name (view value)) → P (entry_in c (length (map entry_of before)) name (view value))
  as_many name value P h = subst (λ (n : ℕ). P (entry_in c n name (view value))) (sym (length-map before entry_of)) h

  pub fault_ends : (rest : List (String Global × Value)) (name : String Global) (value : Value) (f : BookFault) → its ≡ (name, value) ∷ rest → FailsBook f (entry_in c (length before) (string_bytes name) (view value)) → Gives before its → FailsBook f all
  unfolding entries_in
  fault_ends rest name value f is h w =
      let here : FailsBook f (entries_in c (map entry_of before) (members_view ((name, value) ∷ rest))) =
      fails_then f (entry_in c (length (map entry_of before)) (string_bytes name) (view value)) (λ e. entries_in c (map entry_of before ++ e ∷ []) (members_view rest)) (as_many (string_bytes name) value (FailsBook f) h) in
      subst (λ (y : BookOutcome (List Entry)). FailsBook f y) (ap (λ (xs : List (String Global × Value)). entries_in c (map entry_of before) (members_view xs)) (sym is) ∙ w) here

  pub goes_on : (rest : List (String Global × Value)) (name : String Global) (value : Value) (n : NamedRecipe) → its ≡ (name, value) ∷ rest → entry_in c (length before) (string_bytes name) (view value) ≡ Ok (entry_of n) → Gives before its → Gives (before ++ n ∷ []) rest
  unfolding entries_in
  goes_on rest name value n is h w =
      let here : entries_in c (map entry_of before) (members_view ((name, value) ∷ rest)) ≡ entries_in c (map entry_of before ++ entry_of n ∷ []) (members_view rest) = rw (as_many (string_bytes name) value (λ r. r ≡ Ok (entry_of n)) h) refl in
      ap (λ (es : List Entry). entries_in c es (members_view rest)) (map-append entry_of before (n ∷ [])) ∙ sym here ∙ ap (λ (xs : List (String Global × Value)). entries_in c (map entry_of before) (members_view xs)) (sym is) ∙ w

  pub ends : its ≡ [] → Gives before its → all ≡ Ok (map entry_of before)
  unfolding entries_in
  ends is w = sym w ∙ ap (λ (xs : List (String Global × Value)). entries_in c (map entry_of before) (members_view xs)) is

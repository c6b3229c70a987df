-- The recipes of a server, read from their file.
use Rattle.std.specs.Prelude.{ℕ, ◌≡◌, ◌≤◌, List, length, map, Result, Ok, Err, ⊤}
use Rattle.std.specs.Io.KnownBytes.{Consumes, IsAtEnd}
use Rattle.catalog.specs.declared.catalogue.Catalogue.{Catalogue}
use Rattle.command_setup.specs.Setup.{HasRisen}
use Rattle.layer_recipes.specs.Books.{BookOutcome, Entry, book_of, entry_of}
use Rattle.layer_recipes.specs.declared.book.RecipeBook.{RecipeBook}
use Rattle.layer_recipes.specs.declared.book_fault.BookFault.{BookFault}
use Rattle.layer_recipes.specs.declared.book_fault.BookFault.TheVariants as fault
use Rattle.sessions.specs.Outside.{InputChange}
use Rattle.server_command.specs.declared.recipes.UnreadRecipes.{UnreadRecipes}
use Rattle.server_command.specs.declared.recipes.UnreadRecipes.TheVariants as unread

-- the names of a book, each with its grid and its parts
abbrev pub entries : RecipeBook → List Entry
entries b = map entry_of b.recipes.items

-- want of memory is no fault of a text
abbrev pub IsOfText : BookFault → Type 0
IsOfText f = f ≡ fault.OutOfMemory → ⊥

-- what a call returned is what the text comes to, unless memory ran out
abbrev pub Says : Result RecipeBook UnreadRecipes → BookOutcome (List Entry) → Type 0
Says (Ok b) r = r ≡ Ok (entries b)
Says (Err unread.ReadFault) r = ⊥
Says (Err unread.TooLong) r = ⊥
Says (Err (unread.Fault f)) r = (r ≡ Err f) × IsOfText f
Says (Err unread.OutOfMemory) r = ⊤

-- the input was read to its end, and on this catalogue its text comes to this; an input without bytes says no recipes
pub record IsRecited (i : InputChange) (c : Catalogue) (r : BookOutcome (List Entry)) : Type 0 where
  pub text : List ℕ
  pub read : Consumes i.from i.to text
  pub at_end : IsAtEnd i.to
  pub short : length text ≤ 1048576
  pub comes : book_of c text ≡ r

-- these recipes are exactly those that the input says
abbrev pub Recites : InputChange → Catalogue → RecipeBook → Type 0
Recites i c b = IsRecited i c (Ok (entries b))

-- the text of the input says no recipes, and this is its first fault
abbrev pub AreRefused : InputChange → Catalogue → BookFault → Type 0
AreRefused i c f = IsRecited i c (Err f) × IsOfText f

-- one byte more than recipes may have was taken
abbrev pub AreTooLong : InputChange → Type 0
AreTooLong i = (text : List ℕ) × Consumes i.from i.to text × (length text ≡ 1048577)

-- why no recipes were read
abbrev pub AreUnread : InputChange → Catalogue → UnreadRecipes → Type 0
AreUnread i c unread.ReadFault = HasRisen i
AreUnread i c unread.TooLong = AreTooLong i
AreUnread i c (unread.Fault f) = AreRefused i c f
AreUnread i c unread.OutOfMemory = ⊤

-- what a call returned that read the recipes
abbrev pub ReadsRecipes : InputChange → Catalogue → Result RecipeBook UnreadRecipes → Type 0
ReadsRecipes i c (Ok b) = Recites i c b
ReadsRecipes i c (Err u) = AreUnread i c u

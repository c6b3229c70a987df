-- What is long enough for a number is so for a lesser one, and a text has one catalogue.
use Rattle.std.proofs.Common.{◌≡◌, ℕ, ◌≤◌, List, [], ◌∷◌, length, drop, get_or, Result, Ok, Err, sym, ◌∙◌, subst, arith}
use Rattle.std.specs.List.{AllByRecursion}
use Rattle.catalog.specs.declared.catalogue.Catalogue.{Catalogue}
use Rattle.catalog.specs.declared.fault.CatalogueFault.{CatalogueFault}
use Rattle.catalog.specs.declared.grid.Grid.{Grid}
use Rattle.matrix_geometry.specs.declared.matrix.Matrix.{Matrix}
use Rattle.tile_grain.specs.Grain.{AreLongIn, AreLongOn}

weaker_on : (a b : ℕ) (matrices : List Matrix) → a ≤ b → AreLongOn b matrices → AreLongOn a matrices
weaker_on a b [] le long = tt
weaker_on a b (m ∷ matrices) le long = (let least = long.0 in omega arith, weaker_on a b matrices le long.1)

pub weaker_in : (a b : ℕ) (grids : List Grid) → a ≤ b → AreLongIn b grids → AreLongIn a grids
weaker_in a b [] le long = tt
weaker_in a b (g ∷ grids) le long = (weaker_on a b g.matrices le long.0, weaker_in a b grids le long.1)

read : Result Catalogue CatalogueFault → Catalogue → Catalogue
read (Ok c) other = c
read (Err e) other = other

-- two readings of a text are one
pub one_reading : (least : ℕ) (it c : Catalogue) (reading : Result Catalogue CatalogueFault) → reading ≡ Ok it → reading ≡ Ok c → AreLongIn least it.grids → AreLongIn least c.grids
unfolding read
one_reading least it c reading is was long = subst (λ (d : Catalogue). AreLongIn least d.grids) (λ t. read ((sym is ∙ was) t) it) long

pub long_in : (least : ℕ) (g : Grid) (grids : List Grid) → 1 ≤ length grids → g ≡ get_or grids 0 g → AreLongOn least g.matrices → AreLongIn least (drop 1 grids) → AreLongIn least grids
long_in least g [] some is first rest = absurd (omega arith)
long_in least g (h ∷ grids) some is first rest = (subst (λ (d : Grid). AreLongOn least d.matrices) is first, rest)

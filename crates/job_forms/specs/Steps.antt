-- Words of the functions that find a place without going through the list: what each of them gives to the next.
use Rattle.std.specs.Prelude.{ℕ, ◌≡◌, ◌/◌, ◌%◌, ◌^◌, ◌<◌, ◌≤◌, List, length, Option, Some, slice_get}
use Rattle.catalog.specs.declared.catalogue.Catalogue.{Catalogue}
use Rattle.matrix_geometry.specs.declared.boxes.Range.{Range}
use Rattle.job_forms.specs.declared.wanted.Wanted.{Wanted}
use Rattle.job_forms.specs.Themes.{values_from, wanted_of}

-- the numbers that are wanted
unfoldable pub numbers : Wanted → List ℕ
numbers w = wanted_of w.below w.only

-- The number stands at a place of a list in which these go round, after so many rounds.
pub record IsPicked (xs : List ℕ) (at number rounds : ℕ) : Type 0 where
  pub some : 0 < length xs
  pub value : slice_get xs (at % length xs) ≡ Some number
  pub left : rounds ≡ at / length xs

-- The values stand at a place of a list in which the rows of values from this dimension on go round, after so many rounds.
pub record IsRowAt (c : Catalogue) (layer place : ℕ) (wanted : List (Option ℕ)) (at rounds : ℕ) (values : List ℕ) : Type 0 where
  pub some : 0 < length (values_from c layer place wanted)
  pub left : rounds ≡ at / length (values_from c layer place wanted)
  pub row : slice_get (values_from c layer place wanted) (at % length (values_from c layer place wanted)) ≡ Some values

-- rows and columns of metatiles: in order, and each below 2^31
pub record IsMetaRange (r : Range) : Type 0 where
  pub rows : r.row_min ≤ r.row_max
  pub rows_most : r.row_max < 2 ^ 31
  pub cols : r.col_min ≤ r.col_max
  pub cols_most : r.col_max < 2 ^ 31

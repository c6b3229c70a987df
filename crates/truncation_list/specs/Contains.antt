-- When one cover contains another, by their fields.
use Rattle.std.specs.Prelude.{ℕ, ◌==◌, ◌&&◌, Bool, true, false, nat_le, int_le, List, [], ◌∷◌, Option, Some, None}
use Rattle.matrix_geometry.specs.declared.boxes.Box9.{Box9}
use Rattle.matrix_geometry.specs.declared.theme.Filter.{Filter}
use Rattle.truncation_list.specs.declared.cover.Cover.{Cover}

-- the outer box holds the inner one from left to right, and from bottom to top, edges included
abbrev pub contains_x : Box9 → Box9 → Bool
contains_x outer inner = int_le outer.min_x inner.min_x && int_le inner.max_x outer.max_x

abbrev pub contains_y : Box9 → Box9 → Bool
contains_y outer inner = int_le outer.min_y inner.min_y && int_le inner.max_y outer.max_y

-- the outer one has no box, or both have one and the outer holds the inner
abbrev pub contains_box : Option Box9 → Option Box9 → Bool
contains_box None inner = true
contains_box (Some outer) None = false
contains_box (Some outer) (Some inner) = contains_x outer inner && contains_y outer inner

-- the outer number is any, or equals the inner one
abbrev pub contains_number : Option ℕ → Option ℕ → Bool
contains_number None inner = true
contains_number (Some outer) None = false
contains_number (Some outer) (Some inner) = outer == inner

-- each outer number is any, or equals the inner one at its place
abbrev pub contains_numbers : List (Option ℕ) → List (Option ℕ) → Bool
contains_numbers [] inners = true
contains_numbers (outer ∷ outers) [] = false
contains_numbers (outer ∷ outers) (inner ∷ inners) = contains_number outer inner && contains_numbers outers inners

abbrev pub contains_filter : Filter → Filter → Bool
contains_filter outer inner = contains_number outer.style inner.style && contains_numbers outer.dims inner.dims

-- the outer range of matrices holds the inner one
abbrev pub contains_zoom : Cover → Cover → Bool
contains_zoom outer inner = nat_le outer.z_start inner.z_start && nat_le inner.z_stop outer.z_stop

abbrev pub contains : Cover → Cover → Bool
contains outer inner =
    (outer.layer == inner.layer) && (outer.grid == inner.grid) && contains_zoom outer inner && contains_box outer.bounds inner.bounds && contains_filter outer.filter inner.filter

-- A matrix within the limits meets its test, and so do the matrices of a grid with their names.
use Rattle.std.proofs.Common.{◌≡◌, ℕ, ◌≤◌, ◌^◌, ◌<ℤ◌, ◌&&◌, ◌==◌, Bool, true, false, nat_le, int_lt, pos, List, [], ◌∷◌, ◌++◌, length, map, Ok, ℤ, refl, sym, subst, ◌∙◌, arith}
use Rattle.std.proofs.lemmas.Bool.{eq-eqb, le-leb}
use Rattle.std.proofs.lemmas.Int.{ints}
use Rattle.std.proofs.lemmas.List.{length-map, map-append}
use Rattle.matrix_geometry.specs.declared.matrix.Matrix.{Matrix}
use Rattle.matrix_geometry.specs.Limits.{IsWithinLimits}
use Rattle.catalog.specs.declared.fault.Field.{Field}
use Rattle.catalog.specs.declared.fault.Field.TheVariants as field
use Rattle.catalog.specs.declared.grid.Grid.{Grid}
use Rattle.catalog.specs.FirstFault.{grid_test, next, each, name_test, matrix_test, matrices_test, is_near, has_span, is_fine, has_tile, has_size, has_extent}
use Rattle.catalog.specs.Names.{within, is_taken}
use Rattle.catalog.proofs.Passing.{next_met}
use Rattle.config_text.specs.Matrices.{named_matrix_test}
use Rattle.config_text.specs.declared.spacing.NamedMatrix.{NamedMatrix}
use Rattle.config_text.proofs.Loop.{next_is}

both_is : (a b : Bool) → a ≡ true → b ≡ true → (a && b) ≡ true
both_is a b e h = rw e h

within_is : (low high n : ℕ) → low ≤ n → n ≤ high → within low high n ≡ true
within_is low high n l h = both_is (nat_le low n) (nat_le n high) (le-leb low n l) (le-leb n high h)

positive_is : (n : ℤ) → pos 0 <ℤ n → int_lt (pos 0) n ≡ true
positive_is n h = by (int_lt (pos 0) n) refl
  where
    by : (t : Bool) → int_lt (pos 0) n ≡ t → int_lt (pos 0) n ≡ true
    by true e = e
    by false e = absurd (omega (arith, ints))

pub matrix_met : (at : ℕ) (m : Matrix) → IsWithinLimits m → matrix_test at m ≡ Ok tt
unfolding matrix_test
matrix_met at m l =
    let near : is_near m ≡ true = both_is _ _ (le-leb _ _ l.left) (le-leb _ _ l.top) in
    let span : has_span m ≡ true = both_is _ _ (positive_is m.span.n l.span_positive) (positive_is m.span.d l.span_d_positive) in
    let fine : is_fine m ≡ true = both_is _ _ (le-leb _ _ l.span_n) (le-leb _ _ l.span_d) in
    let tile : has_tile m ≡ true = both_is _ _ (within_is 1 512 m.tile_w l.tile_w l.tile_w_most) (within_is 1 512 m.tile_h l.tile_h l.tile_h_most) in
    let size : has_size m ≡ true = both_is _ _ (within_is 1 (2 ^ 31) m.cols l.cols l.cols_most) (within_is 1 (2 ^ 31) m.rows l.rows l.rows_most) in
    let extent : has_extent m ≡ true = both_is _ _ (le-leb _ _ l.wide) (le-leb _ _ l.high) in
    rw (near, span, fine, tile, size, extent) refl

taken_same : (ms : List NamedMatrix) (text : List ℕ) → is_taken (λ m. m.id) ms text ≡ is_taken (λ t. t) (map (λ m. m.id) ms) text
taken_same [] text = refl
taken_same (m ∷ ms) text = rw (taken_same ms text) refl

name_same : (ms : List NamedMatrix) (f : Field) (at : ℕ) (text : List ℕ) → name_test (λ m. m.id) ms f at text ≡ name_test (λ t. t) (map (λ m. m.id) ms) f at text
unfolding name_test
name_same ms f at text = rw (taken_same ms text) refl

pub matrices_met : (before ms : List NamedMatrix) → each named_matrix_test before ms ≡ Ok tt → matrices_test (map (λ m. m.id) before) (map (λ m. m.id) ms) (map (λ m. m.matrix) ms) ≡ Ok tt
unfolding named_matrix_test
matrices_met before [] e = refl
matrices_met before (m ∷ ms) e =
    let here : (named_matrix_test before m ≡ Ok tt) × (each named_matrix_test (before ++ m ∷ []) ms ≡ Ok tt) = next_met _ _ e in
    let named : (name_test (λ x. x.id) before field.MatrixId (length before) m.id ≡ Ok tt) × (next (matrix_test (length before) m.matrix) (Ok tt) ≡ Ok tt) = next_met _ _ here.0 in
    let count : length (map (λ (x : NamedMatrix). x.id) before) ≡ length before = length-map before _ in
    let name : name_test (λ t. t) (map (λ x. x.id) before) field.MatrixId (length before) m.id ≡ Ok tt = sym (name_same before field.MatrixId (length before) m.id) ∙ named.0 in
    let rest : matrices_test (map (λ x. x.id) before ++ m.id ∷ []) (map (λ x. x.id) ms) (map (λ x. x.matrix) ms) ≡ Ok tt =
    subst (λ (names : List (List ℕ)). matrices_test names (map (λ x. x.id) ms) (map (λ x. x.matrix) ms) ≡ Ok tt) (map-append (λ x. x.id) before (m ∷ [])) (matrices_met (before ++ m ∷ []) ms here.1) in
    next_is _ _ (rw count name) (next_is _ _ (rw count (next_met _ _ named.1).0) (next_is _ _ rest refl))

-- as a grid has them
pub matrices_of_grid_met : (ms : List NamedMatrix) (names : List (List ℕ)) (matrices : List Matrix) → each named_matrix_test [] ms ≡ Ok tt → names ≡ map (λ m. m.id) ms → matrices ≡ map (λ m. m.matrix) ms → matrices_test [] names matrices ≡ Ok tt
matrices_of_grid_met ms names matrices e n m = rw (n, m) (matrices_met [] ms e)

-- a grid whose parts meet their tests
pub grid_met : (before : List Grid) (id : List ℕ) (ms : List NamedMatrix) (names : List (List ℕ)) (matrices : List Matrix) → name_test (λ g. g.id) before field.GridId (length before) id ≡ Ok tt → within 1 30 (length ms) ≡ true → each named_matrix_test [] ms ≡ Ok tt → names ≡ map (λ m. m.id) ms → matrices ≡ map (λ m. m.matrix) ms → grid_test before (record { id = id; names = names; matrices = matrices }) ≡ Ok tt
unfolding grid_test
grid_met before id ms names matrices name count met n m =
    let names_count : length names ≡ length ms = rw n (length-map ms _) in
    let matrices_count : length matrices ≡ length ms = rw m (length-map ms _) in
    let same : (length names == length matrices) ≡ true = rw (names_count, matrices_count) (eq-eqb (length ms) (length ms) refl) in
    let few : within 1 30 (length matrices) ≡ true = rw matrices_count count in
    next_is _ _ name (next_is _ _ (rw same refl) (next_is _ _ (rw few refl) (next_is _ _ (matrices_of_grid_met ms names matrices met n m) refl)))

-- the test of a matrix with its name, as it stands in a catalogue
use Rattle.std.specs.Prelude.{List, [], ◌∷◌, length}
use Rattle.catalog.specs.declared.fault.Field.TheVariants as field
use Rattle.catalog.specs.FirstFault.{Test, first, name_test, matrix_test}
use Rattle.config_text.specs.declared.spacing.NamedMatrix.{NamedMatrix}

unfoldable pub named_matrix_test : List NamedMatrix → NamedMatrix → Test
named_matrix_test before m =
    first (
    name_test (λ x. x.id) before field.MatrixId (length before) m.id ∷
    matrix_test (length before) m.matrix ∷
    [])

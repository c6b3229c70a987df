-- The built-in catalogue meets each test.
use Rattle.std.proofs.Common.{◌≡◌, Ok, refl}
use Rattle.catalog.specs.Demo.{demo}
use Rattle.catalog.specs.FirstFault.{first_fault, grid_test, layer_test, name_test, matrix_test, grid_number_test, style_test, ages_test, are_small}
use Rattle.catalog.specs.Names.{is_name}
use Rattle.catalog.specs.Valid.{IsValid}
use Rattle.catalog.proofs.Validity.{valid_met}

pub demo_met : first_fault demo ≡ Ok tt
unfolding first_fault grid_test layer_test name_test matrix_test grid_number_test style_test ages_test are_small is_name
demo_met = refl

pub demo_valid : IsValid demo
demo_valid = valid_met demo demo_met

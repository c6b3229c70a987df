-- what is modelled of the sources of a program
use Rattle.std.specs.Prelude.{ℕ, List, Option, Some, None}
use Rattle.source_render.specs.declared.any.AnySource.{AnySource}
use Rattle.source_render.specs.declared.any.AnySource.TheVariants.{Numbered, File}
use Rattle.source_render.specs.Renders.{GivenImage}

abbrev pub told_of : {R F : Type 0} → AnySource R F → Option ℕ
told_of (Numbered source) = Some source.id
told_of (File source) = None

abbrev pub faults_of : {R F : Type 0} → AnySource R F → ℕ
faults_of (Numbered source) = 0
faults_of (File source) = source.faults

abbrev pub given_by : {R F : Type 0} → AnySource R F → List GivenImage
given_by (Numbered source) = source.gave
given_by (File source) = source.gave

-- What is modelled of the program's sources.
use Rattle.std.specs.Prelude.{ℕ, List, Option, None}
use Rattle.source_render.specs.Renders.{GivenImage}
use Rattle.source_render.specs.Told.{faults_of, given_by, told_of}
use Rattle.program_files.specs.declared.program_source.ProgramSource.{ProgramSource}
use Rattle.program_files.specs.declared.program_source.ProgramSource.TheVariants.{Http, Local}

abbrev pub told_of_source : {R D S L : Type 0} → ProgramSource R D S L → Option ℕ
told_of_source (Local source) = told_of source
told_of_source (Http source) = None

abbrev pub faults_of_source : {R D S L : Type 0} → ProgramSource R D S L → ℕ
faults_of_source (Local source) = faults_of source
faults_of_source (Http source) = source.faults

abbrev pub given_by_source : {R D S L : Type 0} → ProgramSource R D S L → List GivenImage
given_by_source (Local source) = given_by source
given_by_source (Http source) = source.gave

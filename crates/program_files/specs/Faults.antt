-- How often an input of the program has failed, and its disk.
use Rattle.std.specs.Prelude.{ℕ}
use Rattle.program_files.specs.declared.cache_disk.CacheDisk.{CacheDisk}
use Rattle.program_files.specs.declared.cache_disk.CacheDisk.TheVariants.{Absent, File as FileOfCache, Shut}
use Rattle.program_files.specs.declared.input.Input.{Input}
use Rattle.program_files.specs.declared.input.Input.TheVariants.{File, Read, Stdin}

abbrev pub faults_of : Input → ℕ
faults_of (File file) = file.faults
faults_of (Read bytes) = bytes.faults
faults_of (Stdin stdin) = stdin.faults

abbrev pub faults_of_disk : CacheDisk → ℕ
faults_of_disk (FileOfCache file) = file.faults
faults_of_disk (Absent faults) = faults
faults_of_disk (Shut faults fault) = faults

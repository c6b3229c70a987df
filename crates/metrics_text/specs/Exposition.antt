-- Prometheus' text exposition format, version 0.0.4.
use Rattle.std.specs.Prelude.{ℕ, zero, suc, ◌+◌, ◌/◌, ◌%◌, ◌==◌, List, [], ◌∷◌, ◌++◌, codes, decimal, map, if◌then◌else◌}
use Rattle.std.specs.List.{flat_map}
use Rattle.metrics_text.specs.declared.family.Family.{Family}
use Rattle.metrics_text.specs.declared.family.Label.{Label}
use Rattle.metrics_text.specs.declared.family.MetricKind.{MetricKind}
use Rattle.metrics_text.specs.declared.family.MetricKind.TheVariants.{Counter, Gauge, Histogram}
use Rattle.metrics_text.specs.declared.family.Number.{Number}
use Rattle.metrics_text.specs.declared.family.Number.TheVariants.{Whole, Micros, Nanos}
use Rattle.metrics_text.specs.declared.family.Sample.{Sample}
use Rattle.metrics_text.specs.declared.family.SamplePart.{SamplePart}
use Rattle.metrics_text.specs.declared.family.SamplePart.TheVariants.{Itself, Bucket, Sum, Count}

-- ESCAPES

-- in a help text a backslash (92 in ASCII) and a line feed (10) are escaped
abbrev pub help_byte : ℕ → List ℕ
help_byte b = if b == 92 then codes "\\\\" else if b == 10 then codes "\\n" else b ∷ []

-- in a label's value a quotation mark (34) is, too
abbrev pub value_byte : ℕ → List ℕ
value_byte b = if b == 34 then codes "\\\"" else help_byte b

-- NUMBERS

-- the last so many decimal digits
unfoldable pub last_digits : ℕ → ℕ → List ℕ
last_digits zero n = []
last_digits (suc k) n = last_digits k (n / 10) ++ (48 + n % 10) ∷ []

-- whole numbers, and seconds of so many millionths or billionths
abbrev pub number_text : Number → List ℕ
number_text (Whole n) = decimal n
number_text (Micros n) = decimal (n / 1000000) ++ codes "." ++ last_digits 6 n
number_text (Nanos n) = decimal (n / 1000000000) ++ codes "." ++ last_digits 9 n

-- WORDS

abbrev pub kind_text : MetricKind → List ℕ
kind_text Counter = codes "counter"
kind_text Gauge = codes "gauge"
kind_text Histogram = codes "histogram"

-- what stands behind the family's name in that of a sample
abbrev pub part_text : SamplePart → List ℕ
part_text Itself = []
part_text Bucket = codes "_bucket"
part_text Sum = codes "_sum"
part_text Count = codes "_count"

-- LINES, without the line feeds that end them

abbrev pub label_text : Label → List ℕ
label_text l = l.name.text ++ codes "=\"" ++ flat_map value_byte l.value ++ codes "\""

-- a comma before each but the first
abbrev pub labels_text : List Label → List ℕ
labels_text [] = []
labels_text (l ∷ others) = codes "{" ++ label_text l ++ flat_map (λ k. codes "," ++ label_text k) others ++ codes "}"

unfoldable pub sample_line : List ℕ → Sample → List ℕ
sample_line name s = name ++ part_text s.part ++ labels_text s.labels.items ++ codes " " ++ number_text s.number

unfoldable pub help_line : Family → List ℕ
help_line f = codes "# HELP " ++ f.name.text ++ codes " " ++ flat_map help_byte f.help

unfoldable pub type_line : Family → List ℕ
type_line f = codes "# TYPE " ++ f.name.text ++ codes " " ++ kind_text f.kind

abbrev pub lines_of : Family → List (List ℕ)
lines_of f = help_line f ∷ type_line f ∷ map (sample_line f.name.text) f.samples.items

-- THE TEXT

abbrev pub ended : List ℕ → List ℕ
ended line = line ++ codes "\n"

-- the lines of each family in turn, each with a line feed at its end
abbrev pub metrics_of : List Family → List ℕ
metrics_of families = flat_map ended (flat_map lines_of families)

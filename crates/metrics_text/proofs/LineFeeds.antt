-- No line has a line feed in it.
use Rattle.std.proofs.Common.{◌≡◌, ◌≢◌, ℕ, zero, suc, ◌+◌, ◌/◌, ◌%◌, ◌==◌, Bool, true, false, not, List, [], ◌∷◌, ◌++◌, codes, decimal, map, flat_map, if◌then◌else◌, refl, sym, ◌∙◌, subst, arith}
use Rattle.std.proofs.lemmas.Bool.{and_parts, eqb-false, false≢true}
use Rattle.std.proofs.lemmas.List.Elements.{All-nil, All-cons, All-append, All-weaker}
use Rattle.std.proofs.lemmas.List.Sums.{AllPass-from_list_all}
use Rattle.std.specs.Fmt.{digit_glyph, digits, digits_onto}
use Rattle.std.specs.List.{All, list_all}
use Rattle.metrics_text.proofs.ReadBack.{choose}
use Rattle.metrics_text.specs.Exposition.{help_byte, help_line, kind_text, label_text, labels_text, last_digits, lines_of, number_text, part_text, sample_line, type_line, value_byte}
use Rattle.metrics_text.specs.Names.{begins_label, begins_metric, continues_label, continues_metric, is_label_name, is_metric_name}
use Rattle.metrics_text.specs.Reading.{HasNoLineFeed}
use Rattle.metrics_text.specs.declared.family.Family.{Family}
use Rattle.metrics_text.specs.declared.family.Label.{Label}
use Rattle.metrics_text.specs.declared.family.MetricKind.{MetricKind}
use Rattle.metrics_text.specs.declared.family.MetricKind.TheVariants.{Counter, Gauge, Histogram}
use Rattle.metrics_text.specs.declared.family.Number.{Number}
use Rattle.metrics_text.specs.declared.family.Number.TheVariants.{Whole, Micros, Nanos}
use Rattle.metrics_text.specs.declared.family.Sample.{Sample}
use Rattle.metrics_text.specs.declared.family.SamplePart.{SamplePart}
use Rattle.metrics_text.specs.declared.family.SamplePart.TheVariants.{Itself, Bucket, Sum, Count}

-- no line feed
abbrev Fine : ℕ → Type 0
Fine b = b ≢ 10

none : HasNoLineFeed []
none = All-nil Fine

one : (b : ℕ) → Fine b → HasNoLineFeed (b ∷ [])
one b fine = All-cons Fine b [] fine none

both : (xs ys : List ℕ) → HasNoLineFeed xs → HasNoLineFeed ys → HasNoLineFeed (xs ++ ys)
both xs ys = All-append Fine xs ys

each : {X : Type 0} (f : X → List ℕ) → ((x : X) → HasNoLineFeed (f x)) → (xs : List X) → HasNoLineFeed (flat_map f xs)
each f fine [] = none
each f fine (x ∷ xs) = both (f x) (flat_map f xs) (fine x) (each f fine xs)

-- what a test finds to be so
passes : (p : ℕ → Bool) → p 10 ≡ false → (b : ℕ) → p b ≡ true → Fine b
passes p at_end b pass e = false≢true (sym at_end ∙ subst (λ (c : ℕ). p c ≡ true) e pass)

tested : (p : ℕ → Bool) → p 10 ≡ false → (bs : List ℕ) → list_all p bs ≡ true → HasNoLineFeed bs
tested p at_end bs all = All-weaker (λ b. p b ≡ true) Fine (passes p at_end) bs (AllPass-from_list_all p bs all)

-- a text that is written out
plain : (bs : List ℕ) → list_all (λ b. not (b == 10)) bs ≡ true → HasNoLineFeed bs
plain bs all = tested (λ b. not (b == 10)) refl bs all

-- NAMES

in_metric_name : (name : List ℕ) → is_metric_name name ≡ true → HasNoLineFeed name
in_metric_name [] is = none
in_metric_name (b ∷ rest) is =
    let parts = and_parts (begins_metric b) (list_all continues_metric rest) is in
    All-cons Fine b rest (passes begins_metric refl b parts.0) (tested continues_metric refl rest parts.1)

in_label_name : (name : List ℕ) → is_label_name name ≡ true → HasNoLineFeed name
in_label_name [] is = none
in_label_name (b ∷ rest) is =
    let parts = and_parts (begins_label b) (list_all continues_label rest) is in
    All-cons Fine b rest (passes begins_label refl b parts.0) (tested continues_label refl rest parts.1)

-- ESCAPES

in_help_byte : (b : ℕ) → HasNoLineFeed (help_byte b)
in_help_byte b =
    choose HasNoLineFeed (b == 92) (92 ∷ 92 ∷ []) (if b == 10 then 92 ∷ 110 ∷ [] else b ∷ []) (λ is. plain (92 ∷ 92 ∷ []) refl) (λ no_slash.
    choose HasNoLineFeed (b == 10) (92 ∷ 110 ∷ []) (b ∷ []) (λ is. plain (92 ∷ 110 ∷ []) refl) (λ no_end. one b (λ e. eqb-false b 10 no_end e)))

in_value_byte : (b : ℕ) → HasNoLineFeed (value_byte b)
in_value_byte b = choose HasNoLineFeed (b == 34) (92 ∷ 34 ∷ []) (help_byte b) (λ is. plain (92 ∷ 34 ∷ []) refl) (λ no_mark. in_help_byte b)

-- NUMBERS

above : (n : ℕ) → Fine (48 + n)
above n e = absurd (omega (arith, e))

in_glyph : (d : ℕ) → Fine (digit_glyph false d)
in_glyph d e = absurd (grind (arith, e))

in_digits : (k n : ℕ) (acc : List ℕ) → HasNoLineFeed acc → HasNoLineFeed (digits_onto k 10 false n acc)
in_digits zero n acc fine = fine
in_digits (suc k) n acc fine =
    let more : HasNoLineFeed (digit_glyph false (n % 10) ∷ acc) = All-cons Fine (digit_glyph false (n % 10)) acc (in_glyph (n % 10)) fine in
    choose HasNoLineFeed (n / 10 == 0) (digit_glyph false (n % 10) ∷ acc) (digits_onto k 10 false (n / 10) (digit_glyph false (n % 10) ∷ acc)) (λ is. more) (λ is. in_digits k (n / 10) (digit_glyph false (n % 10) ∷ acc) more)

in_decimal : (n : ℕ) → HasNoLineFeed (decimal n)
unfolding digits
in_decimal n = in_digits 64 n [] none

in_last_digits : (k n : ℕ) → HasNoLineFeed (last_digits k n)
unfolding last_digits
in_last_digits zero n = none
in_last_digits (suc k) n = both (last_digits k (n / 10)) ((48 + n % 10) ∷ []) (in_last_digits k (n / 10)) (one (48 + n % 10) (above (n % 10)))

in_seconds : (seconds places parts : ℕ) → HasNoLineFeed (decimal seconds ++ codes "." ++ last_digits places parts)
in_seconds seconds places parts = both (decimal seconds ++ codes ".") (last_digits places parts) (both (decimal seconds) (codes ".") (in_decimal seconds) (plain (codes ".") refl)) (in_last_digits places parts)

in_number : (number : Number) → HasNoLineFeed (number_text number)
in_number (Whole n) = in_decimal n
in_number (Micros n) = in_seconds (n / 1000000) 6 n
in_number (Nanos n) = in_seconds (n / 1000000000) 9 n

-- LABELS

in_label : (l : Label) → HasNoLineFeed (label_text l)
in_label l =
    both (l.name.text ++ codes "=\"" ++ flat_map value_byte l.value) (codes "\"")
    (both (l.name.text ++ codes "=\"") (flat_map value_byte l.value) (both l.name.text (codes "=\"") (in_label_name l.name.text l.name.is_name) (plain (codes "=\"") refl)) (each value_byte in_value_byte l.value))
    (plain (codes "\"") refl)

in_other : (l : Label) → HasNoLineFeed (codes "," ++ label_text l)
in_other l = both (codes ",") (label_text l) (plain (codes ",") refl) (in_label l)

in_labels : (labels : List Label) → HasNoLineFeed (labels_text labels)
in_labels [] = none
in_labels (l ∷ others) =
    let further = flat_map (λ k. codes "," ++ label_text k) others in
    both (codes "{" ++ label_text l ++ further) (codes "}")
    (both (codes "{" ++ label_text l) further (both (codes "{") (label_text l) (plain (codes "{") refl) (in_label l)) (each (λ k. codes "," ++ label_text k) in_other others))
    (plain (codes "}") refl)

-- LINES

in_part : (part : SamplePart) → HasNoLineFeed (part_text part)
in_part Itself = none
in_part Bucket = plain (codes "_bucket") refl
in_part Sum = plain (codes "_sum") refl
in_part Count = plain (codes "_count") refl

in_kind : (kind : MetricKind) → HasNoLineFeed (kind_text kind)
in_kind Counter = plain (codes "counter") refl
in_kind Gauge = plain (codes "gauge") refl
in_kind Histogram = plain (codes "histogram") refl

in_sample_line : (name : List ℕ) → HasNoLineFeed name → (s : Sample) → HasNoLineFeed (sample_line name s)
unfolding sample_line
in_sample_line name fine s =
    both (name ++ part_text s.part ++ labels_text s.labels.items ++ codes " ") (number_text s.number)
    (both (name ++ part_text s.part ++ labels_text s.labels.items) (codes " ") (both (name ++ part_text s.part) (labels_text s.labels.items) (both name (part_text s.part) fine (in_part s.part)) (in_labels s.labels.items)) (plain (codes " ") refl))
    (in_number s.number)

-- a line of a comment: its front, the name, a blank and a text
in_comment : (front name behind : List ℕ) → HasNoLineFeed front → HasNoLineFeed name → HasNoLineFeed behind → HasNoLineFeed (front ++ name ++ codes " " ++ behind)
in_comment front name behind f n b = both (front ++ name ++ codes " ") behind (both (front ++ name) (codes " ") (both front name f n) (plain (codes " ") refl)) b

in_help_line : (f : Family) → HasNoLineFeed (help_line f)
unfolding help_line
in_help_line f = in_comment (codes "# HELP ") f.name.text (flat_map help_byte f.help) (plain (codes "# HELP ") refl) (in_metric_name f.name.text f.name.is_name) (each help_byte in_help_byte f.help)

in_type_line : (f : Family) → HasNoLineFeed (type_line f)
unfolding type_line
in_type_line f = in_comment (codes "# TYPE ") f.name.text (kind_text f.kind) (plain (codes "# TYPE ") refl) (in_metric_name f.name.text f.name.is_name) (in_kind f.kind)

in_sample_lines : (name : List ℕ) → HasNoLineFeed name → (samples : List Sample) → All HasNoLineFeed (map (sample_line name) samples)
in_sample_lines name fine [] = All-nil HasNoLineFeed
in_sample_lines name fine (s ∷ samples) = All-cons HasNoLineFeed (sample_line name s) (map (sample_line name) samples) (in_sample_line name fine s) (in_sample_lines name fine samples)

in_lines : (f : Family) → All HasNoLineFeed (lines_of f)
in_lines f =
    let samples = map (sample_line f.name.text) f.samples.items in
    All-cons HasNoLineFeed (help_line f) (type_line f ∷ samples) (in_help_line f) (All-cons HasNoLineFeed (type_line f) samples (in_type_line f) (in_sample_lines f.name.text (in_metric_name f.name.text f.name.is_name) f.samples.items))

pub in_all : (families : List Family) → All HasNoLineFeed (flat_map lines_of families)
in_all [] = All-nil HasNoLineFeed
in_all (f ∷ families) = All-append HasNoLineFeed (lines_of f) (flat_map lines_of families) (in_lines f) (in_all families)

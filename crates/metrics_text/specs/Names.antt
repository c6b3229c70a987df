-- The names of metrics and of labels.
use Rattle.std.specs.Prelude.{ℕ, ◌&&◌, ◌||◌, ◌==◌, nat_le, Bool, false, List, [], ◌∷◌}
use Rattle.std.specs.List.{list_all}

-- A to Z and a to z in ASCII
abbrev pub is_letter : ℕ → Bool
is_letter b = nat_le 65 b && nat_le b 90 || nat_le 97 b && nat_le b 122

-- 0 to 9 in ASCII
abbrev pub is_figure : ℕ → Bool
is_figure b = nat_le 48 b && nat_le b 57

-- a letter or _
abbrev pub begins_label : ℕ → Bool
begins_label b = is_letter b || b == 95

-- a letter, _ or :
abbrev pub begins_metric : ℕ → Bool
begins_metric b = begins_label b || b == 58

abbrev pub continues_label : ℕ → Bool
continues_label b = begins_label b || is_figure b

abbrev pub continues_metric : ℕ → Bool
continues_metric b = begins_metric b || is_figure b

-- [a-zA-Z_:][a-zA-Z0-9_:]*
abbrev pub is_metric_name : List ℕ → Bool
is_metric_name [] = false
is_metric_name (b ∷ rest) = begins_metric b && list_all continues_metric rest

-- [a-zA-Z_][a-zA-Z0-9_]*
abbrev pub is_label_name : List ℕ → Bool
is_label_name [] = false
is_label_name (b ∷ rest) = begins_label b && list_all continues_label rest

-- The purge of a book, and how cuts are added to it.
use Rattle.std.specs.Prelude.{ℕ, ◌<◌, max, Bool, true, false, not, ◌&&◌, ◌||◌, nat_lt, filter, if◌then◌else◌, List, [], ◌∷◌, ◌++◌, fold, Option, Some, None}
use Rattle.std.specs.List.{All, list_any}
use Rattle.truncation_list.specs.declared.book.Book.{Book}
use Rattle.truncation_list.specs.declared.book.Cut.{Cut}
use Rattle.truncation_list.specs.declared.cover.Cover.{Cover}
use Rattle.truncation_list.specs.Contains.{contains}
use Rattle.truncation_list.specs.Covers.{IsWithinReach}

abbrev pub empty_book : Book
empty_book = record { cuts = []; floor = 0 }

-- ORDER

-- the cuts stand by number, so those of greater numbers are the later ones
abbrev pub IsByNumber : List Cut → Type 0
IsByNumber [] = Unit {0}
IsByNumber (cut ∷ later) = All (λ other. cut.number < other.number) later × IsByNumber later

-- the number is above those of all the cuts
abbrev pub IsAbove : ℕ → List Cut → Type 0
IsAbove number cuts = All (λ cut. cut.number < number) cuts

-- behind a cut of a greater number than this one all are of greater numbers
abbrev pub RisesPast : ℕ → List Cut → Type 0
RisesPast number [] = Unit {0}
RisesPast number (cut ∷ later) = (number < cut.number → All (λ other. number < other.number) later) × RisesPast number later

-- what each list of cuts keeps to
pub record IsInOrder (cuts : List Cut) : Type 0 where
  pub by_number : IsByNumber cuts
  pub within_reach : All (λ cut. IsWithinReach cut.cover) cuts

-- THE PURGE. A cover may be coming; `least` is the least number kept or running.

-- the cover that comes contains this cut's
abbrev pub is_within : Option Cover → Cut → Bool
is_within None cut = false
is_within (Some cover) cut = contains cover cut.cover

-- the cover of a later cut does
abbrev pub is_outdone : List Cut → Cut → Bool
is_outdone later cut = list_any (λ other. contains other.cover cut.cover) later

-- the test on numbers: it is below the least one, or there is none
abbrev pub is_old : Option ℕ → Cut → Bool
is_old None cut = true
is_old (Some least) cut = nat_lt cut.number least

abbrev pub goes : Option Cover → Option ℕ → List Cut → Cut → Bool
goes cover least later cut = is_within cover cut || is_old least cut || is_outdone later cut

-- the cuts that stay
abbrev pub remaining : Option Cover → Option ℕ → List Cut → List Cut
remaining cover least [] = []
remaining cover least (cut ∷ later) =
    if goes cover least later cut then remaining cover least later else cut ∷ remaining cover least later

-- THE SAME IN THE WORDS OF THE RULE, for which the order is no matter

-- the cover of another listed cut of a greater number contains this cut's
abbrev pub is_outdone_among : List Cut → Cut → Bool
is_outdone_among cuts cut = list_any (λ other. nat_lt cut.number other.number && contains other.cover cut.cover) cuts

abbrev pub remaining_by_rule : Option Cover → Option ℕ → List Cut → List Cut
remaining_by_rule cover least cuts =
    filter (λ cut. not (is_within cover cut || is_old least cut || is_outdone_among cuts cut)) cuts

-- THE FLOOR

-- the floor rises to the greatest cut that meets the test on numbers, whatever else it meets
abbrev pub raised : Option ℕ → ℕ → Cut → ℕ
raised least floor cut = if is_old least cut then max floor cut.number else floor

abbrev pub purged : Option Cover → Option ℕ → Book → Book
purged cover least book = record { cuts = remaining cover least book.cuts; floor = fold (raised least) book.floor book.cuts }

-- ADDING

abbrev pub with_cut : ℕ → Cover → Book → Book
with_cut number cover book = record { cuts = book.cuts ++ record { number = number; cover = cover } ∷ []; floor = book.floor }

-- the book after a cut: purged, and then the cut is listed
abbrev pub added : ℕ → Cover → Option ℕ → Book → Book
added number cover least book = with_cut number cover (purged (Some cover) least book)

abbrev pub with_floor : ℕ → Book → Book
with_floor floor book = record { cuts = book.cuts; floor = max book.floor floor }

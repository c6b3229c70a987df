-- Where cuts lie: in slots, which an order names by the numbers of their cuts.
use Rattle.std.specs.Prelude.{ℕ, ◌-◌, ◌^◌, nat_le, ◌==◌, not, filter, List, [], map, None, Some, Option, unwrap_or, is_some, if◌then◌else◌, Bool, ◌||◌}
use Rattle.std.specs.List.{All}
use Rattle.slab.specs.Slab.{ContainsKey, Slab, get, slab_len}
use Rattle.truncation_list.specs.declared.book.Cut.{Cut}
use Rattle.truncation_list.specs.declared.cover.Cover.{Cover}
use Rattle.truncation_list.specs.Purge.{is_old, is_within}

-- stands for a cut where there is none
abbrev pub no_cut : Cut
no_cut = record { number = 0; cover = record { layer = 0; grid = 0; z_start = 0; z_stop = 0; bounds = None; filter = record { style = None; dims = [] } } }

-- the cut in a slot, and those in several
abbrev pub cut_in : Slab Cut → ℕ → Cut
cut_in slots slot = unwrap_or (get slots slot) no_cut

abbrev pub cuts_in : Slab Cut → List ℕ → List Cut
cuts_in slots order = map (cut_in slots) order

-- each of them has a cut
abbrev pub AreTaken : Slab Cut → List ℕ → Type 0
AreTaken slots order = All (λ slot. ContainsKey slots slot) order

-- for how many more cuts there is memory in slots whose numbers have 32 bits
abbrev pub free_slots : Slab Cut → ℕ
free_slots slots = if nat_le slots.capacity (2 ^ 32) then slots.capacity - slab_len slots else 0

-- those that have one
abbrev pub taken : Slab Cut → List ℕ → List ℕ
taken slots order = filter (λ slot. is_some (get slots slot)) order

-- all but one of them
abbrev pub without : ℕ → List ℕ → List ℕ
without slot order = filter (λ other. not (other == slot)) order

-- by itself a cut stays: it isn't within the cover that comes, and doesn't meet the test on numbers
abbrev pub stays : Option Cover → Option ℕ → Cut → Bool
stays cover least cut = not (is_within cover cut || is_old least cut)

-- what a slot has once those cuts went that don't stay
abbrev pub staying : Option Cover → Option ℕ → Option Cut → Option Cut
staying cover least None = None
staying cover least (Some cut) = if stays cover least cut then Some cut else None

-- The holes between the parts of a list, from one part to the next.
use Rattle.std.proofs.Common.{Option, None, Some, ◌≡◌, ℕ, zero, suc, ◌+◌, ◌<◌, ◌≤◌, List, [], ◌∷◌, ◌++◌, length, get_or, take, refl, ap, subst, sym, ◌∙◌, arith}
use Rattle.std.proofs.lemmas.List.{take_more, drop_more, take_all}
use Rattle.std.specs.Option.{IfSome}
use Rattle.extent_map.specs.declared.part.Extent.{Extent}
use Rattle.extent_map.specs.declared.part.Hole.{Hole}
use Rattle.extent_map.specs.Parts.{end_of}
use Rattle.extent_map.specs.Holes.{first_start, last_end, FitsBeforeNone, IsFirstHole, IsGap, IsPassed, IsSummed}
use Rattle.extent_map.proofs.Order.{last_end_push}

-- WHERE PARTS END

pub last_end_joined : (from : ℕ) (xs ys : List Extent) → last_end from (xs ++ ys) ≡ last_end (last_end from xs) ys
last_end_joined from [] ys = refl
last_end_joined from (x ∷ xs) ys = last_end_joined (end_of x) xs ys

-- where there is a part, they end where it does, whatever comes before
last_end_same : (from other : ℕ) (ps : List Extent) (index : ℕ) → 1 ≤ index → 1 ≤ length ps → last_end from (take index ps) ≡ last_end other (take index ps)
last_end_same from other [] index some parts = absurd (omega arith)
last_end_same from other (p ∷ ps) zero some parts = absurd (omega arith)
last_end_same from other (p ∷ ps) (suc index) some parts = refl

pub last_end_any : (from other : ℕ) (ps : List Extent) → 1 ≤ length ps → last_end from ps ≡ last_end other ps
last_end_any from other [] some = absurd (omega arith)
last_end_any from other (p ∷ ps) some = refl

last_end_own : (ps : List Extent) → last_end (first_start ps 0) ps ≡ last_end 0 ps
last_end_own [] = refl
last_end_own (p ∷ ps) = refl

-- SO MANY BYTES FIT BEFORE NONE

pub none_joined : (bytes from : ℕ) (xs ys : List Extent) → FitsBeforeNone bytes from xs → FitsBeforeNone bytes (last_end from xs) ys → FitsBeforeNone bytes from (xs ++ ys)
none_joined bytes from [] ys h k = k
none_joined bytes from (x ∷ xs) ys h k = (h.0, none_joined bytes (end_of x) xs ys h.1 k)

pub none_more_bytes : (bytes more from : ℕ) (xs : List Extent) → bytes ≤ more → FitsBeforeNone bytes from xs → FitsBeforeNone more from xs
none_more_bytes bytes more from [] l h = tt
none_more_bytes bytes more from (x ∷ xs) l h = (let m = h.0 in omega arith, none_more_bytes bytes more (end_of x) xs l h.1)

-- with a hole before the first part too
pub none_with_first : (bytes from place : ℕ) (ps : List Extent) → first_start ps 0 < place + bytes → FitsBeforeNone bytes from ps → FitsBeforeNone bytes place ps
none_with_first bytes from place [] l h = tt
none_with_first bytes from place (p ∷ ps) l h = (l, h.1)

pub none_with_first_of : (bytes from place : ℕ) (ps : List Extent) (index : ℕ) → first_start ps 0 < place + bytes → FitsBeforeNone bytes from (take index ps) → FitsBeforeNone bytes place (take index ps)
none_with_first_of bytes from place [] zero l h = tt
none_with_first_of bytes from place [] (suc index) l h = tt
none_with_first_of bytes from place (p ∷ ps) zero l h = tt
none_with_first_of bytes from place (p ∷ ps) (suc index) l h = (l, h.1)

-- THE SEARCH IN A LIST

pub passed_start : (ps : List Extent) (bytes : ℕ) → IsPassed ps bytes 0 (first_start ps 0)
passed_start ps bytes = record { within = omega arith; place_is = refl; none = tt }

pub passed_more : (ps : List Extent) (bytes index place : ℕ) (d : Extent) → index < length ps → IsPassed ps bytes index place → (get_or ps index d).place < place + bytes
    → IsPassed ps bytes (index + 1) (end_of (get_or ps index d))
passed_more ps bytes index place d l p tight =
    let q = get_or ps index d in
    let from = first_start ps 0 in
    let place_is = p.place_is in
    let next : FitsBeforeNone bytes (last_end from (take index ps)) (q ∷ []) = (omega arith, tt) in
    record {
      within = omega arith;
      place_is = sym (ap (last_end from) (take_more ps index d l) ∙ last_end_push from (take index ps) q);
      none = subst (FitsBeforeNone bytes from) (sym (take_more ps index d l)) (none_joined bytes from (take index ps) (q ∷ []) p.none next);
    }

pub passed_more_bytes : (ps : List Extent) (bytes more index place : ℕ) → bytes ≤ more → IsPassed ps bytes index place → IsPassed ps more index place
passed_more_bytes ps bytes more index place l p = record { within = p.within; place_is = p.place_is; none = none_more_bytes bytes more (first_start ps 0) (take index ps) l p.none }

-- no part has room before the first of a list, from its own start on
gap_behind_first : (ps : List Extent) (bytes index place : ℕ) (d : Extent) → index < length ps → 1 ≤ bytes → place ≡ last_end (first_start ps 0) (take index ps) → place + bytes ≤ (get_or ps index d).place → 1 ≤ index
gap_behind_first [] bytes index place d l some e h = absurd (omega arith)
gap_behind_first (p ∷ ps) bytes zero place d l some e h = absurd (let same : place ≡ p.place = e in omega arith)
gap_behind_first (p ∷ ps) bytes (suc index) place d l some e h = omega arith

pub passed_gap : (ps : List Extent) (bytes index place : ℕ) (d : Extent) → index < length ps → IsPassed ps bytes index place → 1 ≤ bytes → place + bytes ≤ (get_or ps index d).place → IsGap ps index place bytes
passed_gap ps bytes index place d l p some fits =
    let first = gap_behind_first ps bytes index place d l some p.place_is fits in
    record {
      within = l;
      place_is = λ from. p.place_is ∙ last_end_same (first_start ps 0) from ps index first (omega arith);
      fits = subst (λ (qs : List Extent). place + bytes ≤ first_start qs 0) (sym (drop_more ps index d l)) fits;
      none = p.none;
    }

pub passed_none : (ps : List Extent) (bytes index place : ℕ) → length ps ≤ index → IsPassed ps bytes index place → FitsBeforeNone bytes (first_start ps 0) ps
passed_none ps bytes index place l p = subst (FitsBeforeNone bytes (first_start ps 0)) (take_all index ps l) p.none

pub passed_summed : (ps : List Extent) (widest index end start : ℕ) → length ps ≤ index → start ≡ first_start ps 0 → IsPassed ps (widest + 1) index end → IsSummed ps start end widest
passed_summed ps widest index end start l s p = record {
  start_is = s;
  end_is = p.place_is ∙ ap (last_end (first_start ps 0)) (take_all index ps l) ∙ last_end_own ps;
  bounded = passed_none ps (widest + 1) index end l p;
}

-- a hole between two parts of a list is the first in which so many bytes fit, where none do before the list
pub gap_first : (ps : List Extent) (from bytes : ℕ) (found : Option Hole) → first_start ps 0 < from + bytes → IfSome found (λ hole. IsGap ps hole.index hole.place bytes) → IfSome found (λ hole. IsFirstHole ps from hole.index hole.place bytes)
gap_first ps from bytes None l h = tt
gap_first ps from bytes (Some hole) l h = record { within = h.within; place_is = h.place_is from; fits = h.fits; none = none_with_first_of bytes (first_start ps 0) from ps hole.index l h.none }

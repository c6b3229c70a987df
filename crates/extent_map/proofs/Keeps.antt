-- A space before and after a part is taken or given back.
use Rattle.std.proofs.Common.{◌≡◌, ℕ, suc, ◌+◌, ◌-◌, ◌*◌, ◌/◌, ◌<◌, ◌≤◌, List, ◌∷◌, ◌++◌, length, get_or, take, ap, subst, sym, ◌∙◌, arith, length-append}
use Rattle.extent_map.specs.declared.part.Extent.{Extent}
use Rattle.extent_map.specs.Parts.{LieInOrder, inserted}
use Rattle.extent_map.specs.Spaces.{IsFree}
use Rattle.extent_map.specs.Chunks.{all_parts, chunk_at, parts_before, parts_behind, FitsAt, IsUsed}
use Rattle.extent_map.specs.Kept.{IsKept}
use Rattle.extent_map.proofs.Order.{inserted_is}
use Rattle.extent_map.proofs.Search.{fits_free}
use Rattle.extent_map.proofs.Used.{fits_first}
use Rattle.extent_map.proofs.InChunks.{around, behind_more, entered_order, taken_order}

-- the chunks made ready, and then a part entered at a spot of them
pub record IsEntered (old ready new : List (List Extent)) (size chunk index : ℕ) (p : Extent) : Type 0 where
  pub same : all_parts ready ≡ all_parts old
  pub same_len : length ready ≡ length old
  pub fits : FitsAt ready size chunk index p
  pub some : 1 ≤ p.length
  pub parts : all_parts new ≡ parts_before ready chunk index ++ p ∷ parts_behind ready chunk index
  pub len : length new ≡ length ready

-- where the spot was found among the first chunks, which are all that may have parts
pub entered_first : (old ready first new : List (List Extent)) (size used chunk index : ℕ) (p : Extent) → all_parts ready ≡ all_parts old → length ready ≡ length old → first ≡ take used ready → IsUsed ready used
    → FitsAt first size chunk index p → 1 ≤ p.length → all_parts new ≡ parts_before ready chunk index ++ p ∷ parts_behind ready chunk index → length new ≡ length ready → IsEntered old ready new size chunk index p
entered_first old ready first new size used chunk index p same same_len is all fits some parts len = record {
  same = same;
  same_len = same_len;
  fits = fits_first ready first size used chunk index p is all.none fits;
  some = some;
  parts = parts;
  len = len;
}

module _ (old ready new : List (List Extent)) (size chunk index : ℕ) (p : Extent) (e : IsEntered old ready new size chunk index p) where
  parted : all_parts old ≡ parts_before ready chunk index ++ parts_behind ready chunk index
  parted = sym e.same ∙ around ready chunk index

  pub entered_free : IsFree (all_parts old) size p
  entered_free =
      subst (λ (ps : List Extent). IsFree ps size p) (sym parted) (fits_free (parts_before ready chunk index) (parts_behind ready chunk index) size p e.fits.before e.fits.behind)

  order : LieInOrder 0 (parts_before ready chunk index ++ p ∷ parts_behind ready chunk index) size
  order = entered_order ready size chunk index p e.fits.before e.fits.behind e.some

  pub entered_ordered : LieInOrder 0 (all_parts new) size
  entered_ordered = subst (λ (ps : List Extent). LieInOrder 0 ps size) (sym e.parts) order

  pub entered_is : all_parts new ≡ inserted p (all_parts old)
  entered_is = e.parts ∙ sym (inserted_is 0 (parts_before ready chunk index) (parts_behind ready chunk index) p size order) ∙ ap (inserted p) (sym parted)

  pub entered_kept : (taken room was used : ℕ) → IsKept old size taken room was → taken < room → IsUsed new used → IsKept new size (taken + 1) room used
  entered_kept taken room was used k spare first =
      let before = length-append (parts_before ready chunk index) (parts_behind ready chunk index) in
      let after = length-append (parts_before ready chunk index) (p ∷ parts_behind ready chunk index) in
      let old_long = ap (λ (ps : List Extent). length ps) parted in
      let new_long = ap (λ (ps : List Extent). length ps) e.parts in
      let counted = k.counted in
      record {
        ordered = entered_ordered;
        counted = omega arith;
        within = omega arith;
        enough = subst (λ n. room ≤ n / 2 * 1024) (sym (e.len ∙ e.same_len)) k.enough;
        first = first;
      }

-- a part that stands at a spot taken out
pub record IsLeft (old new : List (List Extent)) (size chunk index : ℕ) (p : Extent) : Type 0 where
  pub known : chunk < length old
  pub within : index < length (chunk_at old chunk)
  pub at : get_or (chunk_at old chunk) index p ≡ p
  pub parts : all_parts new ≡ parts_before old chunk index ++ parts_behind old chunk (suc index)
  pub len : length new ≡ length old

module _ (old new : List (List Extent)) (size chunk index : ℕ) (p : Extent) (e : IsLeft old new size chunk index p) where
  whole : all_parts old ≡ parts_before old chunk index ++ p ∷ parts_behind old chunk (suc index)
  whole =
      around old chunk index ∙ ap (λ (ps : List Extent). parts_before old chunk index ++ ps) (behind_more old chunk index p e.known e.within ∙ ap (λ (q : Extent). q ∷ parts_behind old chunk (suc index)) e.at)

  pub left_ordered : LieInOrder 0 (all_parts old) size → LieInOrder 0 (all_parts new) size
  left_ordered h = subst (λ (ps : List Extent). LieInOrder 0 ps size) (sym e.parts) (taken_order old size chunk index e.known e.within h)

  pub left_is : LieInOrder 0 (all_parts old) size → all_parts old ≡ inserted p (all_parts new)
  left_is h =
      whole ∙ sym (inserted_is 0 (parts_before old chunk index) (parts_behind old chunk (suc index)) p size (subst (λ (ps : List Extent). LieInOrder 0 ps size) whole h)) ∙ ap (inserted p) (sym e.parts)

  pub left_fewer : length (all_parts old) ≡ length (all_parts new) + 1
  left_fewer =
      let before = length-append (parts_before old chunk index) (p ∷ parts_behind old chunk (suc index)) in
      let after = length-append (parts_before old chunk index) (parts_behind old chunk (suc index)) in
      let old_long = ap (λ (ps : List Extent). length ps) whole in
      let new_long = ap (λ (ps : List Extent). length ps) e.parts in
      omega arith

  pub left_kept : (taken room used : ℕ) → IsKept old size taken room used → IsUsed new used → IsKept new size (taken - 1) room used
  left_kept taken room used k first =
      let counted = k.counted in let within = k.within in let fewer = left_fewer in
      record {
        ordered = left_ordered k.ordered;
        counted = omega arith;
        within = omega arith;
        enough = subst (λ n. room ≤ n / 2 * 1024) (sym e.len) k.enough;
        first = first;
      }

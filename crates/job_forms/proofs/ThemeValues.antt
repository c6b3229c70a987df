-- How many themes a cover is for, and which of them stands at a place.
use Rattle.std.proofs.Common.{◌≡◌, ℕ, ◌+◌, ◌*◌, ◌/◌, ◌%◌, ◌<◌, List, [], ◌∷◌, length, get_or, map, Option, Some, None, slice_get, refl, sym, ap, subst, ◌∙◌, arith}
use Rattle.std.proofs.Math.Arith.{mod-mul}
use Rattle.std.proofs.Math.Nat.{div-div-eq-div-mul, mul_comm, mul-one}
use Rattle.std.proofs.lemmas.Nat.{div-add-mod', div_below}
use Rattle.catalog.specs.declared.catalogue.Catalogue.{Catalogue}
use Rattle.catalog.specs.LookUp.{values_at}
use Rattle.truncation_list.specs.declared.cover.Cover.{Cover}
use Rattle.job_forms.specs.Themes.{styles_of, themes, themes_with, values_from, wanted_of}
use Rattle.job_forms.specs.Steps.{IsPicked, IsRowAt}
use Rattle.job_forms.proofs.Pieces.{get_map, get_piece, map_length, pieces_length}

-- the values wanted at one place
abbrev pub wanted_at : Catalogue → ℕ → ℕ → Option ℕ → List ℕ
wanted_at c layer place wanted = wanted_of (values_at c layer place) wanted

-- the rows of values that begin with this one
abbrev pub rows_with : List (List ℕ) → ℕ → List (List ℕ)
rows_with rows value = map (λ values. value ∷ values) rows

rows_length : (rows : List (List ℕ)) (value : ℕ) → length (rows_with rows value) ≡ length rows
rows_length rows value = map_length (λ (values : List ℕ). value ∷ values) rows

pub values_length : (c : Catalogue) (layer place : ℕ) (wanted : Option ℕ) (rest : List (Option ℕ))
    → length (values_from c layer place (wanted ∷ rest)) ≡ length (wanted_at c layer place wanted) * length (values_from c layer (place + 1) rest)
unfolding values_from
values_length c layer place wanted rest =
    let rows = values_from c layer (place + 1) rest in
    pieces_length (rows_with rows) (length rows) (rows_length rows) (wanted_at c layer place wanted)

-- the row whose first value is the i-th one, and whose others are the j-th row of the places after it
pub values_get : (c : Catalogue) (layer place : ℕ) (wanted : Option ℕ) (rest : List (Option ℕ)) (i j value : ℕ) (row : List ℕ)
    → slice_get (wanted_at c layer place wanted) i ≡ Some value → slice_get (values_from c layer (place + 1) rest) j ≡ Some row
    → slice_get (values_from c layer place (wanted ∷ rest)) (i * length (values_from c layer (place + 1) rest) + j) ≡ Some (value ∷ row)
unfolding values_from
values_get c layer place wanted rest i j value row e d =
    let rows = values_from c layer (place + 1) rest in
    get_piece (rows_with rows) (length rows) (rows_length rows) (wanted_at c layer place wanted) i j value (value ∷ row) e
    (get_map (λ (values : List ℕ). value ∷ values) rows j row d)

values_end : (c : Catalogue) (layer place : ℕ) → length (values_from c layer place []) ≡ 1
unfolding values_from
values_end c layer place = refl

-- FOUR PLACES

-- a list of four, place by place
pub four_of : {A : Type 0} (xs : List A) (d : A) → length xs ≡ 4 → xs ≡ get_or xs 0 d ∷ get_or xs 1 d ∷ get_or xs 2 d ∷ get_or xs 3 d ∷ []
four_of [] d e = absurd (omega (arith, e))
four_of (a ∷ []) d e = absurd (omega (arith, e))
four_of (a ∷ b ∷ []) d e = absurd (omega (arith, e))
four_of (a ∷ b ∷ x ∷ []) d e = absurd (omega (arith, e))
four_of (a ∷ b ∷ x ∷ y ∷ []) d e = refl
four_of (a ∷ b ∷ x ∷ y ∷ z ∷ rest) d e = absurd (omega (arith, e))

themes_with_length : (c : Catalogue) (cover : Cover) (style : ℕ) → length (themes_with c cover style) ≡ length (values_from c cover.layer 0 cover.filter.dims)
themes_with_length c cover style = map_length (λ values. record { layer = cover.layer; style = style; dims = values }) (values_from c cover.layer 0 cover.filter.dims)

pub themes_length : (c : Catalogue) (cover : Cover) → length (themes c cover) ≡ length (wanted_of (styles_of c cover.layer) cover.filter.style) * length (values_from c cover.layer 0 cover.filter.dims)
unfolding themes
themes_length c cover =
    pieces_length (themes_with c cover) (length (values_from c cover.layer 0 cover.filter.dims)) (themes_with_length c cover) (wanted_of (styles_of c cover.layer) cover.filter.style)

pub themes_get : (c : Catalogue) (cover : Cover) (i j style : ℕ) (row : List ℕ)
    → slice_get (wanted_of (styles_of c cover.layer) cover.filter.style) i ≡ Some style → slice_get (values_from c cover.layer 0 cover.filter.dims) j ≡ Some row
    → slice_get (themes c cover) (i * length (values_from c cover.layer 0 cover.filter.dims) + j) ≡ Some (record { layer = cover.layer; style = style; dims = row })
unfolding themes
themes_get c cover i j style row e d =
    get_piece (themes_with c cover) (length (values_from c cover.layer 0 cover.filter.dims)) (themes_with_length c cover) (wanted_of (styles_of c cover.layer) cover.filter.style) i j style
    (record { layer = cover.layer; style = style; dims = row }) e
    (get_map (λ values. record { layer = cover.layer; style = style; dims = values }) (values_from c cover.layer 0 cover.filter.dims) j row d)

-- BY THE PLACE IN THE LIST

products : (a b : ℕ) → 0 < a → 0 < b → 0 < a * b
products a b h k = grind arith

pub stands_none : (c : Catalogue) (layer place at : ℕ) → IsRowAt c layer place [] at at []
unfolding values_from
stands_none c layer place at =
    let e : at % 1 ≡ 0 = omega arith in
    record { some = omega arith; left = omega arith; row = rw e refl }

pub stands_more : (c : Catalogue) (layer place : ℕ) (wanted : Option ℕ) (rest : List (Option ℕ)) (at left later value : ℕ) (row : List ℕ)
    → IsRowAt c layer (place + 1) rest at left row → IsPicked (wanted_at c layer place wanted) left value later → IsRowAt c layer place (wanted ∷ rest) at later (value ∷ row)
stands_more c layer place wanted rest at left later value row s p =
    let w = length (wanted_at c layer place wanted) in
    let n = length (values_from c layer (place + 1) rest) in
    let all : length (values_from c layer place (wanted ∷ rest)) ≡ w * n = values_length c layer place wanted rest in
    let positive : 0 < w * n = products w n p.some s.some in
    let digits : at % (w * n) ≡ (at / n % w) * n + at % n = mod-mul at p.some s.some in
    let here : slice_get (wanted_at c layer place wanted) (at / n % w) ≡ Some value = subst (λ (k : ℕ). slice_get (wanted_at c layer place wanted) (k % w) ≡ Some value) s.left p.value in
    record {
      some = rw all positive;
      left = rw all (p.left ∙ ap (λ (k : ℕ). k / w) s.left ∙ div-div-eq-div-mul at n w ∙ ap (λ (k : ℕ). at / k) (mul_comm n w));
      row = rw (all, digits) (values_get c layer place wanted rest (at / n % w) (at % n) value row here s.row);
    }

-- the theme at a place, by its row of values and its style
pub theme_stands : (c : Catalogue) (cover : Cover) (at left style : ℕ) (row : List ℕ) → IsRowAt c cover.layer 0 cover.filter.dims at left row
    → slice_get (wanted_of (styles_of c cover.layer) cover.filter.style) left ≡ Some style → slice_get (themes c cover) at ≡ Some (record { layer = cover.layer; style = style; dims = row })
theme_stands c cover at left style row s e =
    let n = length (values_from c cover.layer 0 cover.filter.dims) in
    let here : slice_get (wanted_of (styles_of c cover.layer) cover.filter.style) (at / n) ≡ Some style = subst (λ (k : ℕ). slice_get (wanted_of (styles_of c cover.layer) cover.filter.style) k ≡ Some style) s.left e in
    let there = themes_get c cover (at / n) (at % n) style row here s.row in
    subst (λ (k : ℕ). slice_get (themes c cover) k ≡ Some (record { layer = cover.layer; style = style; dims = row })) (div-add-mod' at n) there

-- what is left of a place among the themes is the place of a style
pub style_within : (c : Catalogue) (cover : Cover) (at left : ℕ) (row : List ℕ) → IsRowAt c cover.layer 0 cover.filter.dims at left row → at < length (themes c cover)
    → left < length (wanted_of (styles_of c cover.layer) cover.filter.style)
style_within c cover at left row s l =
    let n = length (values_from c cover.layer 0 cover.filter.dims) in
    let all : length (themes c cover) ≡ length (wanted_of (styles_of c cover.layer) cover.filter.style) * n = themes_length c cover in
    let below : at < length (wanted_of (styles_of c cover.layer) cover.filter.style) * n = subst (λ (k : ℕ). at < k) all l in
    rw s.left (div_below at n (length (wanted_of (styles_of c cover.layer) cover.filter.style)) s.some below)

-- FOUR DIMENSIONS

-- the values of a cover's four dimensions that are wanted
pub record AreWanted (c : Catalogue) (cover : Cover) (one two three four : List ℕ) : Type 0 where
  pub dims : length cover.filter.dims ≡ 4
  pub first : one ≡ wanted_at c cover.layer 0 (get_or cover.filter.dims 0 None)
  pub second : two ≡ wanted_at c cover.layer 1 (get_or cover.filter.dims 1 None)
  pub third : three ≡ wanted_at c cover.layer 2 (get_or cover.filter.dims 2 None)
  pub fourth : four ≡ wanted_at c cover.layer 3 (get_or cover.filter.dims 3 None)

pub themes_product : (c : Catalogue) (cover : Cover) (styles one two three four : List ℕ) → AreWanted c cover one two three four → styles ≡ wanted_of (styles_of c cover.layer) cover.filter.style
    → length styles * (length one * (length two * (length three * length four))) ≡ length (themes c cover)
themes_product c cover styles one two three four w e =
    let x0 = get_or cover.filter.dims 0 None in
    let x1 = get_or cover.filter.dims 1 None in
    let x2 = get_or cover.filter.dims 2 None in
    let x3 = get_or cover.filter.dims 3 None in
    let all : length (values_from c cover.layer 0 cover.filter.dims) ≡ length (values_from c cover.layer 0 (x0 ∷ x1 ∷ x2 ∷ x3 ∷ [])) =
    ap (λ (ds : List (Option ℕ)). length (values_from c cover.layer 0 ds)) (four_of cover.filter.dims None w.dims) in
    let l3 = values_length c cover.layer 3 x3 [] in
    let l2 = values_length c cover.layer 2 x2 (x3 ∷ []) in
    let l1 = values_length c cover.layer 1 x1 (x2 ∷ x3 ∷ []) in
    let l0 = values_length c cover.layer 0 x0 (x1 ∷ x2 ∷ x3 ∷ []) in
    let end = values_end c cover.layer 4 in
    rw (themes_length c cover, all, l0, l1, l2, l3, end, mul-one, e, w.first, w.second, w.third, w.fourth) refl

pub wanted_stands : (c : Catalogue) (cover : Cover) (one two three four : List ℕ) (at third second first left v0 v1 v2 v3 : ℕ) → AreWanted c cover one two three four
    → IsPicked four at v3 third → IsPicked three third v2 second → IsPicked two second v1 first → IsPicked one first v0 left
    → IsRowAt c cover.layer 0 cover.filter.dims at left (v0 ∷ v1 ∷ v2 ∷ v3 ∷ [])
wanted_stands c cover one two three four at third second first left v0 v1 v2 v3 w p3 p2 p1 p0 =
    let x0 = get_or cover.filter.dims 0 None in
    let x1 = get_or cover.filter.dims 1 None in
    let x2 = get_or cover.filter.dims 2 None in
    let x3 = get_or cover.filter.dims 3 None in
    let layer = cover.layer in
    let k3 = subst (λ (xs : List ℕ). IsPicked xs at v3 third) w.fourth p3 in
    let k2 = subst (λ (xs : List ℕ). IsPicked xs third v2 second) w.third p2 in
    let k1 = subst (λ (xs : List ℕ). IsPicked xs second v1 first) w.second p1 in
    let k0 = subst (λ (xs : List ℕ). IsPicked xs first v0 left) w.first p0 in
    let s4 = stands_none c layer 4 at in
    let s3 = stands_more c layer 3 x3 [] at at third v3 [] s4 k3 in
    let s2 = stands_more c layer 2 x2 (x3 ∷ []) at third second v2 (v3 ∷ []) s3 k2 in
    let s1 = stands_more c layer 1 x1 (x2 ∷ x3 ∷ []) at second first v1 (v2 ∷ v3 ∷ []) s2 k1 in
    let s0 = stands_more c layer 0 x0 (x1 ∷ x2 ∷ x3 ∷ []) at first left v0 (v1 ∷ v2 ∷ v3 ∷ []) s1 k0 in
    subst (λ (ds : List (Option ℕ)). IsRowAt c layer 0 ds at left (v0 ∷ v1 ∷ v2 ∷ v3 ∷ [])) (sym (four_of cover.filter.dims None w.dims)) s0

-- Which themes a cover is for: those of its layer whose style and values its filter admits.
use Rattle.std.proofs.Common.{◌≡◌, ℕ, zero, suc, ◌+◌, ◌<◌, inl, inr, List, [], ◌∷◌, length, Option, Some, None, IsTrue, slice_get, refl, sym, ap, subst, arith}
use Rattle.std.specs.Prelude.{IfSome, IsSome, IsSomeAnd, option_and_then, option_map, unwrap_or}
use Rattle.std.specs.Option.{option_map_or}
use Rattle.catalog.specs.declared.catalogue.Catalogue.{Catalogue}
use Rattle.catalog.specs.declared.layer.Dimension.{Dimension}
use Rattle.catalog.specs.declared.layer.Layer.{Layer}
use Rattle.catalog.specs.LookUp.{HasValues, dimension_at, style_of, values_at}
use Rattle.catalog.proofs.Found.{some_within}
use Rattle.matrix_geometry.specs.Admits.{admits, admits_number, admits_values}
use Rattle.matrix_geometry.specs.declared.theme.Theme.{Theme}
use Rattle.served_covers.specs.OfCatalogue.{IsCoverOf}
use Rattle.truncation_list.specs.declared.cover.Cover.{Cover}
use Rattle.truncation_list.proofs.Decided.{both, eq_is, is_eq, join}
use Rattle.job_forms.specs.Themes.{styles_of, themes, themes_with, values_from, wanted_of}
use Rattle.job_forms.proofs.Members.{Has, flat_has, has_flat, has_map, has_range, map_has, range_has}
use Rattle.job_forms.proofs.ThemeValues.{rows_with, wanted_at}
use Rattle.job_forms.proofs.ZoomSteps.{within_some}

-- ONE NUMBER

wanted_admits : (count : ℕ) (only : Option ℕ) (n : ℕ) → Has (wanted_of count only) n → IsTrue (admits_number only n)
wanted_admits count None n h = refl
wanted_admits count (Some x) n (inl e) = is_eq x n e
wanted_admits count (Some x) n (inr h) = absurd h

wanted_below : (count : ℕ) (only : Option ℕ) (n : ℕ) → IfSome only (λ x. x < count) → Has (wanted_of count only) n → n < count
wanted_below count None n small h = let p = range_has 0 count n h in omega (arith, p.1)
wanted_below count (Some x) n small (inl e) = let P : ℕ → Type 0 = λ k. k < count in subst P e small
wanted_below count (Some x) n small (inr h) = absurd h

admits_wanted : (count : ℕ) (only : Option ℕ) (n : ℕ) → n < count → IsTrue (admits_number only n) → Has (wanted_of count only) n
admits_wanted count None n l h = has_range 0 count n (omega arith) (omega (arith, l))
admits_wanted count (Some x) n l h = inl (eq_is x n h)

-- VALUES

-- each value is one of those that are wanted at its place, and there are as many as places
abbrev pub AreAmong : Catalogue → ℕ → ℕ → List (Option ℕ) → List ℕ → Type 0
AreAmong c layer place [] [] = Unit {0}
AreAmong c layer place [] (v ∷ vs) = ⊥
AreAmong c layer place (w ∷ ws) [] = ⊥
AreAmong c layer place (w ∷ ws) (v ∷ vs) = Has (wanted_at c layer place w) v × AreAmong c layer (place + 1) ws vs

row_among : (c : Catalogue) (layer place : ℕ) (w : Option ℕ) (ws : List (Option ℕ)) (vs : List ℕ) → ((row : List ℕ) → Has (values_from c layer (place + 1) ws) row → AreAmong c layer (place + 1) ws row)
    → Has (values_from c layer place (w ∷ ws)) vs → AreAmong c layer place (w ∷ ws) vs
unfolding values_from
row_among c layer place w ws vs later h =
    let p = flat_has (rows_with (values_from c layer (place + 1) ws)) (wanted_at c layer place w) vs h in
    let q = map_has (λ (values : List ℕ). p.0 ∷ values) (values_from c layer (place + 1) ws) vs p.2 in
    subst (λ (row : List ℕ). AreAmong c layer place (w ∷ ws) row) q.2 (p.1, later q.0 q.1)

pub values_among : (c : Catalogue) (layer place : ℕ) (ws : List (Option ℕ)) (vs : List ℕ) → Has (values_from c layer place ws) vs → AreAmong c layer place ws vs
unfolding values_from
values_among c layer place [] [] h = tt
values_among c layer place [] (v ∷ vs) (inl e) = absurd (cc)
values_among c layer place [] (v ∷ vs) (inr h) = absurd h
values_among c layer place (w ∷ ws) vs h = row_among c layer place w ws vs (values_among c layer (place + 1) ws) h

pub among_values : (c : Catalogue) (layer place : ℕ) (ws : List (Option ℕ)) (vs : List ℕ) → AreAmong c layer place ws vs → Has (values_from c layer place ws) vs
unfolding values_from
among_values c layer place [] [] h = inl refl
among_values c layer place [] (v ∷ vs) h = absurd h
among_values c layer place (w ∷ ws) [] h = absurd h
among_values c layer place (w ∷ ws) (v ∷ vs) h =
    let rows = values_from c layer (place + 1) ws in
    has_flat (rows_with rows) (wanted_at c layer place w) v (v ∷ vs) h.0 (has_map (λ (values : List ℕ). v ∷ values) rows vs (among_values c layer (place + 1) ws vs h.1))

among_admits : (c : Catalogue) (layer place : ℕ) (ws : List (Option ℕ)) (vs : List ℕ) → AreAmong c layer place ws vs → IsTrue (admits_values ws vs)
among_admits c layer place [] [] h = refl
among_admits c layer place [] (v ∷ vs) h = absurd h
among_admits c layer place (w ∷ ws) [] h = absurd h
among_admits c layer place (w ∷ ws) (v ∷ vs) h =
    join (admits_number w v) (admits_values ws vs) (wanted_admits (values_at c layer place) w v h.0) (among_admits c layer (place + 1) ws vs h.1)

among_length : (c : Catalogue) (layer place : ℕ) (ws : List (Option ℕ)) (vs : List ℕ) → AreAmong c layer place ws vs → length vs ≡ length ws
among_length c layer place [] [] h = refl
among_length c layer place [] (v ∷ vs) h = absurd h
among_length c layer place (w ∷ ws) [] h = absurd h
among_length c layer place (w ∷ ws) (v ∷ vs) h = ap suc (among_length c layer (place + 1) ws vs h.1)

-- what is wanted at each place, from this one on, is one of the values there
abbrev pub AreThere : Catalogue → ℕ → ℕ → List (Option ℕ) → Type 0
AreThere c layer place [] = Unit {0}
AreThere c layer place (w ∷ ws) = IfSome w (λ value. value < values_at c layer place) × AreThere c layer (place + 1) ws

-- and so is each value
abbrev pub AreValues : Catalogue → ℕ → ℕ → List ℕ → Type 0
AreValues c layer place [] = Unit {0}
AreValues c layer place (v ∷ vs) = (v < values_at c layer place) × AreValues c layer (place + 1) vs

among_are_values : (c : Catalogue) (layer place : ℕ) (ws : List (Option ℕ)) (vs : List ℕ) → AreThere c layer place ws → AreAmong c layer place ws vs → AreValues c layer place vs
among_are_values c layer place [] [] t h = tt
among_are_values c layer place [] (v ∷ vs) t h = absurd h
among_are_values c layer place (w ∷ ws) [] t h = absurd h
among_are_values c layer place (w ∷ ws) (v ∷ vs) t h = (wanted_below (values_at c layer place) w v t.0 h.0, among_are_values c layer (place + 1) ws vs t.1 h.1)

admits_among : (c : Catalogue) (layer place : ℕ) (ws : List (Option ℕ)) (vs : List ℕ) → length vs ≡ length ws → AreValues c layer place vs → IsTrue (admits_values ws vs) → AreAmong c layer place ws vs
admits_among c layer place [] [] e v h = tt
admits_among c layer place [] (x ∷ vs) e v h = absurd (omega (arith, e))
admits_among c layer place (w ∷ ws) [] e v h = absurd (omega (arith, e))
admits_among c layer place (w ∷ ws) (x ∷ vs) e v h =
    let t = both (admits_number w x) (admits_values ws vs) h in
    let k : length vs ≡ length ws = omega (arith, e) in
    (admits_wanted (values_at c layer place) w x v.0 t.0, admits_among c layer (place + 1) ws vs k v.1 t.1)

-- BY PLACE

at_each : (c : Catalogue) (layer place : ℕ) (vs : List ℕ) → AreValues c layer place vs → (p n : ℕ) → slice_get vs p ≡ Some n → n < values_at c layer (place + p)
at_each c layer place [] v p n e = absurd (cc)
at_each c layer place (x ∷ vs) v zero n e =
    let d : x ≡ n = cc in let k : place + 0 ≡ place = omega arith in
    rw (sym d, k) v.0
at_each c layer place (x ∷ vs) v (suc p) n e =
    let k : place + suc p ≡ place + 1 + p = omega arith in
    rw k (at_each c layer (place + 1) vs v.1 p n e)

each_at : (c : Catalogue) (layer place : ℕ) (vs : List ℕ) → ((p n : ℕ) → slice_get vs p ≡ Some n → n < values_at c layer (place + p)) → AreValues c layer place vs
each_at c layer place [] all = tt
each_at c layer place (v ∷ vs) all =
    let k : place + 0 ≡ place = omega arith in
    let here : v < values_at c layer place = subst (λ (p : ℕ). v < values_at c layer p) k (all 0 v refl) in
    (here, each_at c layer (place + 1) vs (λ p n e. let d : place + suc p ≡ place + 1 + p = omega arith in subst (λ (q : ℕ). n < values_at c layer q) d (all (suc p) n e)))

among_some : (o : Option Dimension) (v : ℕ) → IsSomeAnd o (λ d. v < length d.values) → v < unwrap_or (option_map (λ d. length d.values) o) 1
among_some None v h = absurd h
among_some (Some d) v h = h

there_from : (c : Catalogue) (layer place : ℕ) (ws : List (Option ℕ)) → ((p v : ℕ) → slice_get ws p ≡ Some (Some v) → v < values_at c layer (place + p)) → AreThere c layer place ws
there_from c layer place [] all = tt
there_from c layer place (None ∷ ws) all =
    (tt, there_from c layer (place + 1) ws (λ p v e. let d : place + suc p ≡ place + 1 + p = omega arith in subst (λ (q : ℕ). v < values_at c layer q) d (all (suc p) v e)))
there_from c layer place (Some x ∷ ws) all =
    let k : place + 0 ≡ place = omega arith in
    (subst (λ (p : ℕ). x < values_at c layer p) k (all 0 x refl), there_from c layer (place + 1) ws (λ p v e. let d : place + suc p ≡ place + 1 + p = omega arith in subst (λ (q : ℕ). v < values_at c layer q) d (all (suc p) v e)))

cover_there : (c : Catalogue) (cover : Cover) → IsCoverOf c cover → AreThere c cover.layer 0 cover.filter.dims
cover_there c cover is =
    there_from c cover.layer 0 cover.filter.dims
    (λ p v e. let d : 0 + p ≡ p = omega arith in subst (λ (q : ℕ). v < values_at c cover.layer q) (sym d) (among_some (dimension_at c cover.layer p) v (is.values p v e)))

-- STYLES

style_some : (o : Option Layer) (only : Option ℕ) (s : ℕ) → IfSome only (λ style. IsSomeAnd o (λ l. style < length l.styles)) → Has (wanted_of (option_map_or (λ l. length l.styles) o 0) only) s
    → IsSome (option_and_then (λ l. slice_get l.styles s) o)
style_some None None s there h = absurd h
style_some None (Some x) s there h = absurd there
style_some (Some l) only s there h = some_within l.styles s (wanted_below (length l.styles) only s there h)

some_style : (o : Option Layer) (only : Option ℕ) (s : ℕ) → IsSome (option_and_then (λ l. slice_get l.styles s) o) → IsTrue (admits_number only s) → Has (wanted_of (option_map_or (λ l. length l.styles) o 0) only) s
some_style None only s is h = absurd (cc)
some_style (Some l) only s is h = admits_wanted (length l.styles) only s (within_some l.styles s is) h

-- THEMES

-- the theme is one of the cover's layer, with a style and values that are wanted
pub record IsChosen (c : Catalogue) (cover : Cover) (theme : Theme) : Type 0 where
  pub layer : cover.layer ≡ theme.layer
  pub style : Has (wanted_of (styles_of c cover.layer) cover.filter.style) theme.style
  pub values : AreAmong c cover.layer 0 cover.filter.dims theme.dims

pub themes_chosen : (c : Catalogue) (cover : Cover) (theme : Theme) → Has (themes c cover) theme → IsChosen c cover theme
unfolding themes
themes_chosen c cover theme h =
    let p = flat_has (themes_with c cover) (wanted_of (styles_of c cover.layer) cover.filter.style) theme h in
    let q = map_has (λ values. record { layer = cover.layer; style = p.0; dims = values }) (values_from c cover.layer 0 cover.filter.dims) theme p.2 in
    subst (λ (t : Theme). IsChosen c cover t) q.2 (record { layer = refl; style = p.1; values = values_among c cover.layer 0 cover.filter.dims q.0 q.1 })

pub chosen_themes : (c : Catalogue) (cover : Cover) (theme : Theme) → IsChosen c cover theme → Has (themes c cover) theme
unfolding themes
chosen_themes c cover theme is =
    let rows = values_from c cover.layer 0 cover.filter.dims in
    let there = has_flat (themes_with c cover) (wanted_of (styles_of c cover.layer) cover.filter.style) theme.style (record { layer = cover.layer; style = theme.style; dims = theme.dims }) is.style
    (has_map (λ values. record { layer = cover.layer; style = theme.style; dims = values }) rows theme.dims (among_values c cover.layer 0 cover.filter.dims theme.dims is.values)) in
    subst (λ (l : ℕ). Has (themes c cover) (record { layer = l; style = theme.style; dims = theme.dims })) is.layer there

pub chosen_length : (c : Catalogue) (cover : Cover) (theme : Theme) → IsChosen c cover theme → length theme.dims ≡ length cover.filter.dims
chosen_length c cover theme is = among_length c cover.layer 0 cover.filter.dims theme.dims is.values

pub chosen_admits : (c : Catalogue) (cover : Cover) (theme : Theme) → IsChosen c cover theme → IsTrue (admits cover.filter theme)
chosen_admits c cover theme is =
    join (admits_number cover.filter.style theme.style) (admits_values cover.filter.dims theme.dims) (wanted_admits (styles_of c cover.layer) cover.filter.style theme.style is.style)
    (among_admits c cover.layer 0 cover.filter.dims theme.dims is.values)

pub chosen_style : (c : Catalogue) (cover : Cover) (theme : Theme) → IsCoverOf c cover → IsChosen c cover theme → IsSome (style_of c theme)
chosen_style c cover theme of is =
    let there = style_some (slice_get c.layers cover.layer) cover.filter.style theme.style of.style is.style in
    subst (λ (l : ℕ). IsSome (option_and_then (λ x. slice_get x.styles theme.style) (slice_get c.layers l))) is.layer there

pub chosen_values : (c : Catalogue) (cover : Cover) (theme : Theme) → IsCoverOf c cover → IsChosen c cover theme → HasValues c theme
chosen_values c cover theme of is =
    let all = among_are_values c cover.layer 0 cover.filter.dims theme.dims (cover_there c cover of) is.values in
    record {
      each = λ p n e.
          let d : 0 + p ≡ p = omega arith in
          subst (λ (l : ℕ). n < values_at c l p) is.layer (subst (λ (q : ℕ). n < values_at c cover.layer q) d (at_each c cover.layer 0 theme.dims all p n e));
    }

-- a theme of the cover's layer that its filter admits
pub admits_chosen : (c : Catalogue) (cover : Cover) (theme : Theme) → cover.layer ≡ theme.layer → IsSome (style_of c theme) → HasValues c theme → length theme.dims ≡ length cover.filter.dims
    → IsTrue (admits cover.filter theme) → IsChosen c cover theme
admits_chosen c cover theme layer style values e h =
    let t = both (admits_number cover.filter.style theme.style) (admits_values cover.filter.dims theme.dims) h in
    let there : IsSome (option_and_then (λ x. slice_get x.styles theme.style) (slice_get c.layers cover.layer)) =
    subst (λ (l : ℕ). IsSome (option_and_then (λ x. slice_get x.styles theme.style) (slice_get c.layers l))) (sym layer) style in
    let all = each_at c cover.layer 0 theme.dims (λ p n d.
    let k : 0 + p ≡ p = omega arith in
    subst (λ (q : ℕ). n < values_at c cover.layer q) (sym k) (subst (λ (l : ℕ). n < values_at c l p) (sym layer) (values.each p n d))) in
    record {
      layer = layer;
      style = some_style (slice_get c.layers cover.layer) cover.filter.style theme.style there t.0;
      values = admits_among c cover.layer 0 cover.filter.dims theme.dims e all t.1;
    }

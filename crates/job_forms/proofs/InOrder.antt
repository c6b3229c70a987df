-- The metatiles of a cover stand in their order, by style, values, matrix, row and column.
use Rattle.std.proofs.Common.{◌≡◌, ℕ, ◌+◌, ◌-◌, ◌<◌, inl, inr, List, [], ◌∷◌, ◌++◌, Option, Some, None, refl, ap, subst, arith}
use Rattle.catalog.specs.declared.catalogue.Catalogue.{Catalogue}
use Rattle.matrix_geometry.specs.declared.boxes.Range.{Range}
use Rattle.matrix_geometry.specs.declared.theme.Theme.{Theme}
use Rattle.metatile_plan.specs.declared.metatile.MetaKey.{MetaKey}
use Rattle.truncation_list.specs.declared.cover.Cover.{Cover}
use Rattle.job_forms.specs.Order.{IsBefore, IsLess, numbers_of}
use Rattle.job_forms.specs.Places.{from_to, metas_at, metas_in, metas_in_row, metas_in_some, metas_of, metas_on, metatiles}
use Rattle.job_forms.specs.Themes.{styles_of, themes, themes_with, values_from, wanted_of}
use Rattle.job_forms.proofs.CoveredMetas.{metas_has, some_has}
use Rattle.job_forms.proofs.Members.{Has, IsApart, IsRising, flat_has, map_has, rising_apart, rising_flat, rising_map, rising_range}
use Rattle.job_forms.proofs.ThemeValues.{rows_with, wanted_at}

-- LISTS OF NUMBERS

less_not : (xs : List ℕ) → IsLess xs xs → ⊥
less_not [] l = l
less_not (x ∷ xs) (inl l) = absurd (omega (arith, l))
less_not (x ∷ xs) (inr l) = less_not xs l.1

less_front : (xs ys us vs : List ℕ) → IsLess xs ys → IsLess (xs ++ us) (ys ++ vs)
less_front [] ys us vs l = absurd l
less_front (x ∷ xs) [] us vs l = absurd l
less_front (x ∷ xs) (y ∷ ys) us vs (inl l) = inl l
less_front (x ∷ xs) (y ∷ ys) us vs (inr l) = inr (l.0, less_front xs ys us vs l.1)

less_back : (xs us vs : List ℕ) → IsLess us vs → IsLess (xs ++ us) (xs ++ vs)
less_back [] us vs l = l
less_back (x ∷ xs) us vs l = inr (refl, less_back xs us vs l)

-- THEMES

wanted_rising : (count : ℕ) (only : Option ℕ) → IsRising (λ x y. x < y) (wanted_of count only)
wanted_rising count None = rising_range 0 count
wanted_rising count (Some n) = (λ y h. absurd h, tt)

begins : (rows : List (List ℕ)) (x y : ℕ) (a b : List ℕ) → x < y → Has (rows_with rows x) a → Has (rows_with rows y) b → IsLess a b
begins rows x y a b l h k =
    let p = map_has (λ (values : List ℕ). x ∷ values) rows a h in
    let q = map_has (λ (values : List ℕ). y ∷ values) rows b k in
    subst (λ (v : List ℕ). IsLess v b) p.2 (subst (λ (w : List ℕ). IsLess (x ∷ p.0) w) q.2 (inl l))

values_rising : (c : Catalogue) (layer place : ℕ) (ws : List (Option ℕ)) → IsRising IsLess (values_from c layer place ws)
unfolding values_from
values_rising c layer place [] = (λ y h. absurd h, tt)
values_rising c layer place (w ∷ ws) =
    let rows = values_from c layer (place + 1) ws in
    rising_flat (λ x y. x < y) IsLess (rows_with rows) (begins rows) (λ v. rising_map IsLess IsLess (λ (values : List ℕ). v ∷ values) (λ x y l. inr (refl, l)) rows (values_rising c layer (place + 1) ws))
    (wanted_at c layer place w) (wanted_rising _ w)

-- by style, then by values
abbrev IsThemeBefore : Theme → Theme → Type 0
IsThemeBefore a b = IsLess (a.style ∷ a.dims) (b.style ∷ b.dims)

its_style : (c : Catalogue) (cover : Cover) (style : ℕ) (theme : Theme) → Has (themes_with c cover style) theme → style ≡ theme.style
its_style c cover style theme h =
    let p = map_has (λ values. record { layer = cover.layer; style = style; dims = values }) (values_from c cover.layer 0 cover.filter.dims) theme h in
    ap (λ (t : Theme). t.style) p.2

styles_before : (c : Catalogue) (cover : Cover) (x y : ℕ) (a b : Theme) → x < y → Has (themes_with c cover x) a → Has (themes_with c cover y) b → IsThemeBefore a b
styles_before c cover x y a b l h k = let p = its_style c cover x a h in let q = its_style c cover y b k in inl (omega (arith, l, p, q))

themes_rising : (c : Catalogue) (cover : Cover) → IsRising IsThemeBefore (themes c cover)
unfolding themes
themes_rising c cover =
    rising_flat (λ x y. x < y) IsThemeBefore (themes_with c cover) (styles_before c cover)
    (λ style. rising_map IsLess IsThemeBefore (λ values. record { layer = cover.layer; style = style; dims = values }) (λ x y l. inr (refl, l)) (values_from c cover.layer 0 cover.filter.dims) (values_rising c cover.layer 0 cover.filter.dims))
    (wanted_of (styles_of c cover.layer) cover.filter.style) (wanted_rising (styles_of c cover.layer) cover.filter.style)

-- ONE THEME

-- two metatiles of a theme come in the order of their matrices, rows and columns
same_theme : (theme : Theme) (grid z row col z2 row2 col2 : ℕ) → IsLess (z ∷ row ∷ col ∷ []) (z2 ∷ row2 ∷ col2 ∷ [])
    → IsBefore (record { theme = theme; grid = grid; z = z; row = row; col = col }) (record { theme = theme; grid = grid; z = z2; row = row2; col = col2 })
same_theme theme grid z row col z2 row2 col2 l = inr (refl, less_back theme.dims (z ∷ row ∷ col ∷ []) (z2 ∷ row2 ∷ col2 ∷ []) l)

rows_before : (theme : Theme) (grid z : ℕ) (r : Range) (x y : ℕ) (a b : MetaKey) → x < y → Has (metas_in_row theme grid z r x) a → Has (metas_in_row theme grid z r y) b → IsBefore a b
rows_before theme grid z r x y a b l h k =
    let p = map_has (λ col. record { theme = theme; grid = grid; z = z; row = x; col = col }) (from_to r.col_min r.col_max) a h in
    let q = map_has (λ col. record { theme = theme; grid = grid; z = z; row = y; col = col }) (from_to r.col_min r.col_max) b k in
    subst (λ (v : MetaKey). IsBefore v b) p.2 (subst (λ (w : MetaKey). IsBefore (record { theme = theme; grid = grid; z = z; row = x; col = p.0 }) w) q.2 (same_theme theme grid z x p.0 z y q.0 (inr (refl, inl l))))

metas_rising : (theme : Theme) (grid z : ℕ) (r : Range) → IsRising IsBefore (metas_in theme grid z r)
unfolding metas_in
metas_rising theme grid z r =
    rising_flat (λ x y. x < y) IsBefore (metas_in_row theme grid z r) (rows_before theme grid z r)
    (λ row. rising_map (λ x y. x < y) IsBefore (λ col. record { theme = theme; grid = grid; z = z; row = row; col = col }) (λ x y l. same_theme theme grid z row x z row y (inr (refl, inr (refl, inl l)))) (from_to r.col_min r.col_max) (rising_range r.col_min (r.col_max + 1 - r.col_min)))
    (from_to r.row_min r.row_max) (rising_range r.row_min (r.row_max + 1 - r.row_min))

some_rising : (theme : Theme) (grid z : ℕ) (o : Option Range) → IsRising IsBefore (metas_in_some theme grid z o)
some_rising theme grid z None = tt
some_rising theme grid z (Some r) = metas_rising theme grid z r

matrices_before : (c : Catalogue) (cover : Cover) (theme : Theme) (x y : ℕ) (a b : MetaKey) → x < y → Has (metas_on c cover theme x) a → Has (metas_on c cover theme y) b → IsBefore a b
matrices_before c cover theme x y a b l h k =
    let p = some_has theme cover.grid x (metas_at c cover x) a h in
    let q = some_has theme cover.grid y (metas_at c cover y) b k in
    let i = metas_has theme cover.grid x p.0 a p.2 in
    let j = metas_has theme cover.grid y q.0 b q.2 in
    subst (λ (v : MetaKey). IsBefore v b) i.same (subst (λ (w : MetaKey). IsBefore (record { theme = theme; grid = cover.grid; z = x; row = i.row; col = i.col }) w) j.same (same_theme theme cover.grid x i.row i.col y j.row j.col (inl l)))

theme_rising : (c : Catalogue) (cover : Cover) (theme : Theme) → IsRising IsBefore (metas_of c cover theme)
theme_rising c cover theme =
    rising_flat (λ x y. x < y) IsBefore (metas_on c cover theme) (matrices_before c cover theme) (λ z. some_rising theme cover.grid z (metas_at c cover z)) (from_to cover.z_start cover.z_stop)
    (rising_range cover.z_start (cover.z_stop + 1 - cover.z_start))

-- ALL

its_theme : (c : Catalogue) (cover : Cover) (theme : Theme) (k : MetaKey) → Has (metas_of c cover theme) k → theme ≡ k.theme
its_theme c cover theme k h =
    let p = flat_has (metas_on c cover theme) (from_to cover.z_start cover.z_stop) k h in
    let q = some_has theme cover.grid p.0 (metas_at c cover p.0) k p.2 in
    ap (λ (m : MetaKey). m.theme) (metas_has theme cover.grid p.0 q.0 k q.2).same

themes_before : (c : Catalogue) (cover : Cover) (x y : Theme) (a b : MetaKey) → IsThemeBefore x y → Has (metas_of c cover x) a → Has (metas_of c cover y) b → IsBefore a b
themes_before c cover x y a b l h k =
    let here : IsThemeBefore a.theme b.theme = subst (λ (t : Theme). IsThemeBefore t b.theme) (its_theme c cover x a h) (subst (λ (t : Theme). IsThemeBefore x t) (its_theme c cover y b k) l) in
    less_front (a.theme.style ∷ a.theme.dims) (b.theme.style ∷ b.theme.dims) (a.z ∷ a.row ∷ a.col ∷ []) (b.z ∷ b.row ∷ b.col ∷ []) here

pub metatiles_rising : (c : Catalogue) (cover : Cover) → IsRising IsBefore (metatiles c cover)
unfolding metatiles
metatiles_rising c cover = rising_flat IsThemeBefore IsBefore (metas_of c cover) (themes_before c cover) (theme_rising c cover) (themes c cover) (themes_rising c cover)

pub metatiles_apart : (c : Catalogue) (cover : Cover) → IsApart (metatiles c cover)
metatiles_apart c cover = rising_apart IsBefore (λ k l. less_not (numbers_of k) l) (metatiles c cover) (metatiles_rising c cover)

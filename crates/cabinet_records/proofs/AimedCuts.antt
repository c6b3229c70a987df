-- Why lists of aimed cuts tell which metatiles the cuts hit.
use Rattle.std.proofs.Common.{ℕ, ℤ, zero, suc, ◌≡◌, ◌+◌, ◌<◌, ◌≤◌, ◌==◌, ◌&&◌, ◌||◌, Bool, true, false, not, cond, List, [], ◌∷◌, ◌++◌, length, take, drop, Option, Some, None, refl, sym, ap, subst, ◌∙◌, arith}
use Rattle.std.specs.Prelude.{nat_le, slice_get}
use Rattle.std.specs.List.{AllByRecursion, list_any}
use Rattle.std.specs.Ordering.{int_eq}
use Rattle.std.proofs.lemmas.Bool.Decides.{Decides-eqb, Decides-int_eq, nat_tests}
use Rattle.std.proofs.lemmas.List.{drop_more}
use Rattle.std.proofs.lemmas.List.Elements.{recursion_from_All}
use Rattle.std.proofs.lemmas.List.Folds.{list_any-append}
use Rattle.std.proofs.lemmas.Option.{get_or_from_slice_get, slice_get_within}
use Rattle.std.specs.Option.{option_and_then}
use Rattle.catalog.specs.declared.catalogue.Catalogue.{Catalogue}
use Rattle.catalog.specs.declared.grid.Grid.{Grid}
use Rattle.catalog.specs.LookUp.{matrix_in}
use Rattle.catalog.specs.Valid.{IsGrid, IsValid}
use Rattle.exact_ratio.specs.Values.{Fraction}
use Rattle.matrix_geometry.specs.declared.matrix.Matrix.{Matrix}
use Rattle.matrix_geometry.specs.Admits.{admits}
use Rattle.matrix_geometry.specs.Ranges.{is_in_some_range}
use Rattle.metatile_locks.specs.Reach.{reach}
use Rattle.matrix_geometry.specs.Limits.{IsWithinLimits}
use Rattle.metatile_locks.specs.Running.{IsPlanOn, block}
use Rattle.metatile_locks.proofs.Lists.{all_joined}
use Rattle.metatile_locks.proofs.Reaching.{hits_reached}
use Rattle.metatile_plan.specs.declared.metatile.Factors.{Factors}
use Rattle.metatile_plan.specs.declared.metatile.MetaKey.{MetaKey}
use Rattle.truncation_list.specs.declared.block.Block.{Block}
use Rattle.metatile_plan.specs.Plan.{IsPlan}
use Rattle.raster_field.specs.Blocks.{IsMeta, factors_at}
use Rattle.raster_field.proofs.Metas.{factors_are, parts}
use Rattle.truncation_list.specs.declared.book.Cut.{Cut}
use Rattle.truncation_list.specs.declared.cover.Cover.{Cover}
use Rattle.truncation_list.specs.Covers.{hits, is_in_zoom}
use Rattle.truncation_list.specs.Listed.{is_hit_since}
use Rattle.truncation_list.specs.Purge.{IsByNumber}
use Rattle.truncation_list.proofs.Decided.{both}
use Rattle.cabinet_records.specs.declared.replay.aimed.AimedCut.{AimedCut}
use Rattle.cabinet_records.specs.declared.replay.aimed.Aims.{Aims}
use Rattle.cabinet_records.specs.declared.replay.aimed.Zoom.{Zoom}
use Rattle.cabinet.specs.Fresh.{IsNewer}
use Rattle.cabinet.proofs.Served.{plan_on}
use Rattle.cabinet_records.specs.Aiming.{AreAimed, IsOfZoom, IsZoomOn, NumbersFall, aimed_at, is_aimed_at, is_aimed_since, is_for, last_aimed}
use Rattle.cabinet_records.proofs.Allowing.{newer_is, newer_since, since_newer}

-- THE SAME ZOOM

number_is : (x y : ℕ) → (x == y) ≡ true → x ≡ y
number_is x y is = (Decides-eqb x y).0 is

signed_is : (x y : ℤ) → int_eq x y ≡ true → x ≡ y
signed_is x y is = (Decides-int_eq x y).0 is

same_factors : (a b : Factors) → ((a.x == b.x) && ((a.y == b.y) && (a.gutter == b.gutter))) ≡ true → a ≡ b
same_factors a b is =
    let first = both (a.x == b.x) ((a.y == b.y) && (a.gutter == b.gutter)) is in
    let rest = both (a.y == b.y) (a.gutter == b.gutter) first.1 in
    let x = number_is a.x b.x first.0 in
    let y = number_is a.y b.y rest.0 in
    let gutter = number_is a.gutter b.gutter rest.1 in
    λ i. record { x = x i; y = y i; gutter = gutter i }

same_span : (a b : Fraction) → (int_eq a.n b.n && int_eq a.d b.d) ≡ true → a ≡ b
same_span a b is =
    let s = both (int_eq a.n b.n) (int_eq a.d b.d) is in
    let n = signed_is a.n b.n s.0 in
    let d = signed_is a.d b.d s.1 in
    λ i. record { n = n i; d = d i }

abbrev same_sizes : Matrix → Matrix → Bool
same_sizes a b = (a.tile_w == b.tile_w) && ((a.tile_h == b.tile_h) && ((a.cols == b.cols) && (a.rows == b.rows)))

same_matrix : (a b : Matrix) → ((int_eq a.span.n b.span.n && int_eq a.span.d b.span.d) && (int_eq a.left b.left && (int_eq a.top b.top && same_sizes a b))) ≡ true → a ≡ b
same_matrix a b is =
    let one = both (int_eq a.span.n b.span.n && int_eq a.span.d b.span.d) (int_eq a.left b.left && (int_eq a.top b.top && same_sizes a b)) is in
    let two = both (int_eq a.left b.left) (int_eq a.top b.top && same_sizes a b) one.1 in
    let three = both (int_eq a.top b.top) (same_sizes a b) two.1 in
    let four = both (a.tile_w == b.tile_w) ((a.tile_h == b.tile_h) && ((a.cols == b.cols) && (a.rows == b.rows))) three.1 in
    let five = both (a.tile_h == b.tile_h) ((a.cols == b.cols) && (a.rows == b.rows)) four.1 in
    let six = both (a.cols == b.cols) (a.rows == b.rows) five.1 in
    let span = same_span a.span b.span one.0 in
    let left = signed_is a.left b.left two.0 in
    let top = signed_is a.top b.top three.0 in
    let tile_w = number_is a.tile_w b.tile_w four.0 in
    let tile_h = number_is a.tile_h b.tile_h five.0 in
    let cols = number_is a.cols b.cols six.0 in
    let rows = number_is a.rows b.rows six.1 in
    λ i. record { span = span i; left = left i; top = top i; tile_w = tile_w i; tile_h = tile_h i; cols = cols i; rows = rows i }

pub same_zoom : (a b : Zoom) → (factors matrix : Bool) → (factors ≡ true → a.factors ≡ b.factors) → (matrix ≡ true → a.matrix ≡ b.matrix) → ((a.layer == b.layer) && ((a.grid == b.grid) && ((a.z == b.z) && (factors && matrix)))) ≡ true → a ≡ b
same_zoom a b f m told shown is =
    let one = both (a.layer == b.layer) ((a.grid == b.grid) && ((a.z == b.z) && (f && m))) is in
    let two = both (a.grid == b.grid) ((a.z == b.z) && (f && m)) one.1 in
    let three = both (a.z == b.z) (f && m) two.1 in
    let four = both f m three.1 in
    let layer = number_is a.layer b.layer one.0 in
    let grid = number_is a.grid b.grid two.0 in
    let z = number_is a.z b.z three.0 in
    let factors = told four.0 in
    let matrix = shown four.1 in
    λ i. record { layer = layer i; grid = grid i; z = z i; factors = factors i; matrix = matrix i }

pub is_zoom : (a b : Zoom)
    → ((a.layer == b.layer) && ((a.grid == b.grid) && ((a.z == b.z) && (((a.factors.x == b.factors.x) && ((a.factors.y == b.factors.y) && (a.factors.gutter == b.factors.gutter)))
    && ((int_eq a.matrix.span.n b.matrix.span.n && int_eq a.matrix.span.d b.matrix.span.d) && (int_eq a.matrix.left b.matrix.left && (int_eq a.matrix.top b.matrix.top && same_sizes a.matrix b.matrix))))))) ≡ true → a ≡ b
is_zoom a b is =
    same_zoom a b ((a.factors.x == b.factors.x) && ((a.factors.y == b.factors.y) && (a.factors.gutter == b.factors.gutter)))
    ((int_eq a.matrix.span.n b.matrix.span.n && int_eq a.matrix.span.d b.matrix.span.d) && (int_eq a.matrix.left b.matrix.left && (int_eq a.matrix.top b.matrix.top && same_sizes a.matrix b.matrix)))
    (same_factors a.factors b.factors) (same_matrix a.matrix b.matrix) is

-- ONE MORE

-- with the last cut that wasn't looked at
pub one_more : (at : Zoom) (cuts : List Cut) (left : ℕ) (cut : Cut) → slice_get cuts left ≡ Some cut
    → last_aimed at (drop left cuts) ≡ cond (is_for at cut.cover) (last_aimed at (drop (left + 1) cuts) ++ aimed_at at cut ∷ []) (last_aimed at (drop (left + 1) cuts))
one_more at cuts left cut e =
    ap (last_aimed at) (drop_more cuts left cut (slice_get_within cuts left cut e) ∙ ap (λ (x : Cut). x ∷ drop (left + 1) cuts) (get_or_from_slice_get cuts left cut cut e))

-- NUMBERS

-- those up to the place of a cut are of no greater numbers
lesser_upto : (n : ℕ) (cuts : List Cut) (i : ℕ) (cut : Cut) → IsByNumber cuts → slice_get cuts i ≡ Some cut → cut.number < n → AllByRecursion (λ k. k.number < n) (take (suc i) cuts)
lesser_upto n [] i cut o e l = absurd (cc)
lesser_upto n (x ∷ xs) zero cut o e l = let same : x ≡ cut = cc in (subst (λ (k : Cut). k.number < n) (sym same) l, tt)
lesser_upto n (x ∷ xs) (suc i) cut o e l =
    let within : i < length xs = slice_get_within xs i cut e in
    let less : x.number < cut.number = subst (λ (k : Cut). x.number < k.number) (get_or_from_slice_get xs i cut cut e) (o.0 i cut within) in
    (omega (arith, less, l), lesser_upto n xs i cut o.1 e l)

pub lesser_before : (n : ℕ) (cuts : List Cut) (left i : ℕ) (cut : Cut) → left ≡ suc i → IsByNumber cuts → slice_get cuts i ≡ Some cut → cut.number < n → AllByRecursion (λ k. k.number < n) (take left cuts)
lesser_before n cuts left i cut e o at l = subst (λ j. AllByRecursion (λ (k : Cut). k.number < n) (take j cuts)) (sym e) (lesser_upto n cuts i cut o at l)

pub in_order_from : (cuts : List Cut) (i : ℕ) → IsByNumber cuts → IsByNumber (drop i cuts)
in_order_from cuts zero o = o
in_order_from [] (suc i) o = o
in_order_from (x ∷ xs) (suc i) o = in_order_from xs i o.1

all_aimed : (P : ℕ → Type 0) (at : Zoom) (cuts : List Cut) → AllByRecursion (λ k. P k.number) cuts → AllByRecursion (λ k. P k.number) (last_aimed at cuts)
all_aimed P at [] h = tt
all_aimed P at (cut ∷ later) h = chosen (is_for at cut.cover) (all_aimed P at later h.1)
  where
    chosen : (v : Bool) → AllByRecursion (λ k. P k.number) (last_aimed at later) → AllByRecursion (λ k. P k.number) (cond v (last_aimed at later ++ aimed_at at cut ∷ []) (last_aimed at later))
    chosen true rest = all_joined (λ (k : AimedCut). P k.number) (last_aimed at later) (aimed_at at cut ∷ []) rest (h.0, tt)
    chosen false rest = rest

falls_push : (xs : List AimedCut) (x : AimedCut) → NumbersFall xs → AllByRecursion (λ y. x.number < y.number) xs → NumbersFall (xs ++ x ∷ [])
falls_push [] x h a = (tt, tt)
falls_push (y ∷ ys) x h a = (all_joined (λ (z : AimedCut). z.number < y.number) ys (x ∷ []) h.0 (a.0, tt), falls_push ys x h.1 a.1)

-- the last one first, numbers fall
pub falls : (at : Zoom) (cuts : List Cut) → IsByNumber cuts → NumbersFall (last_aimed at cuts)
falls at [] o = tt
falls at (cut ∷ later) o = chosen (is_for at cut.cover) (falls at later o.1)
  where
    chosen : (v : Bool) → NumbersFall (last_aimed at later) → NumbersFall (cond v (last_aimed at later ++ aimed_at at cut ∷ []) (last_aimed at later))
    chosen true rest = falls_push (last_aimed at later) (aimed_at at cut) rest (all_aimed (λ n. cut.number < n) at later (recursion_from_All (λ (k : Cut). cut.number < k.number) later o.0))
    chosen false rest = rest

-- ALONG THE AIMED ONES

lesser_not : (n k : ℕ) → k < n → nat_le n k ≡ false
lesser_not n k l = grind (arith, nat_tests)

-- behind one of a lesser number none counts
pub none_behind : (n : ℕ) (m : MetaKey) (k : ℕ) (cuts : List AimedCut) → k ≤ n → AllByRecursion (λ x. x.number < k) cuts → is_aimed_since cuts n m ≡ false
none_behind n m k [] l h = refl
none_behind n m k (x ∷ xs) l h = let less = h.0 in rw (lesser_not n x.number (omega (arith, less, l))) (none_behind n m k xs l h.1)

pub none_from : (n : ℕ) (m : MetaKey) (x : AimedCut) (xs : List AimedCut) → x.number < n → NumbersFall (x ∷ xs) → is_aimed_since (x ∷ xs) n m ≡ false
none_from n m x xs l falls = rw (lesser_not n x.number l) (none_behind n m x.number xs (omega (arith, l)) falls.0)

-- HITS

module _ (x : Matrix) (b : Block) (n : ℕ) where
  -- where the first ones are of lesser numbers, the others tell
  pub hit_from : (cuts : List Cut) (left : ℕ) → AllByRecursion (λ k. k.number < n) (take left cuts) → is_hit_since cuts x b n ≡ is_hit_since (drop left cuts) x b n
  hit_from cuts zero h = refl
  hit_from [] (suc left) h = refl
  hit_from (cut ∷ cuts) (suc left) h = ap (λ (v : Bool). (v && hits cut.cover x b) || is_hit_since cuts x b n) (lesser_not n cut.number h.0) ∙ hit_from cuts left h.1

or_turned : (s t : Bool) → (s || t) ≡ (t || (s || false))
or_turned true true = refl
or_turned true false = refl
or_turned false true = refl
or_turned false false = refl

and_off : (v : Bool) → (v && false) ≡ false
and_off true = refl
and_off false = refl

one_counts : (own late in' admitted rest : Bool) → ((late && (own && in' && admitted)) || rest) ≡ cond own (rest || ((late && (in' && admitted)) || false)) rest
one_counts true late in' admitted rest = or_turned (late && (in' && admitted)) rest
one_counts false late in' admitted rest = ap (λ (v : Bool). v || rest) (and_off late)

any_chosen : (p : AimedCut → Bool) (v : Bool) (xs ys : List AimedCut) → list_any p (cond v xs ys) ≡ cond v (list_any p xs) (list_any p ys)
any_chosen p true xs ys = refl
any_chosen p false xs ys = refl

module _ (at : Zoom) (m : MetaKey) (n : ℕ) (of : IsOfZoom at m) where
  abbrev counts : AimedCut → Bool
  counts cut = nat_le n cut.number && is_aimed_at cut m

  -- of the cuts those hit that do where they are aimed
  pub hit_aimed : (cuts : List Cut) → is_hit_since cuts at.matrix (block at.factors at.matrix m) n ≡ is_aimed_since (last_aimed at cuts) n m
  hit_aimed [] = refl
  hit_aimed (cut ∷ later) =
      let own = is_for at cut.cover in
      let reached = reach at.factors at.matrix cut.cover in
      let in' = is_in_some_range reached m.row m.col in
      let admitted = admits cut.cover.filter m.theme in
      let rest = last_aimed at later in
      let hit : hits cut.cover at.matrix (block at.factors at.matrix m) ≡ (own && in' && admitted) =
      hits_reached at.factors at.matrix cut.cover m of.plan of.limits ∙ (λ i. (cut.cover.layer == of.layer i) && (cut.cover.grid == of.grid i) && is_in_zoom cut.cover (of.z i) && is_in_some_range reached m.row m.col && admits cut.cover.filter m.theme) in
      (λ i. (nat_le n cut.number && hit i) || hit_aimed later i) ∙ one_counts own (nat_le n cut.number) in' admitted (list_any counts rest)
      ∙ ap (λ (v : Bool). cond own v (list_any counts rest)) (sym (list_any-append counts rest (aimed_at at cut ∷ []))) ∙ sym (any_chosen counts own (rest ++ aimed_at at cut ∷ []) rest)

  -- what is left out is of lesser numbers
  pub aimed_is : (aims : Aims) (cuts : List Cut) → aims.zoom ≡ at → AreAimed cuts aims → AllByRecursion (λ k. k.number < n) (take aims.left cuts) → is_aimed_since aims.cuts.items n m ≡ is_hit_since cuts at.matrix (block at.factors at.matrix m) n
  aimed_is aims cuts same aimed less =
      ap (λ (xs : List AimedCut). is_aimed_since xs n m) (aimed.cuts_are ∙ ap (λ (z : Zoom). last_aimed z (drop aims.left cuts)) same) ∙ sym (hit_aimed (drop aims.left cuts)) ∙ sym (hit_from at.matrix (block at.factors at.matrix m) n cuts aims.left less)

-- THE ZOOM OF A METATILE

off : (v : Bool) → not v ≡ true → v ≡ false
off true e = sym e
off false e = refl

-- the number is above those of the cuts that hit the metatile where none of it or a greater one does
pub newer_where : (c : Catalogue) (cuts : List Cut) (n : ℕ) (m : MetaKey) (f : Factors) (x : Matrix) (at : Zoom) (hit : Bool) → f ≡ factors_at c m.theme → matrix_in c m.grid m.z ≡ Some x
    → at ≡ record { layer = m.theme.layer; grid = m.grid; z = m.z; factors = f; matrix = x } → hit ≡ is_hit_since cuts at.matrix (block at.factors at.matrix m) n → (not hit ≡ true → IsNewer c cuts n m) × (IsNewer c cuts n m → not hit ≡ true)
newer_where c cuts n m f x at hit ef ex ea e =
    let b = block (factors_at c m.theme) x m in
    let here : hit ≡ is_hit_since cuts x b n = e ∙ ap (λ (z : Zoom). is_hit_since cuts z.matrix (block z.factors z.matrix m) n) ea ∙ ap (λ (g : Factors). is_hit_since cuts x (block g x m) n) ef in
    let w = newer_is c cuts n m x ex in (λ is. w.0 (since_newer x b n cuts (sym here ∙ off hit is)), λ all. ap not (here ∙ newer_since x b n cuts (w.1 all)))

-- a zoom of the catalogue lies on its grid
pub zoom_on : (c : Catalogue) (m : MetaKey) (f : Factors) (x : Matrix) (g : Grid) (at : Zoom) → IsValid c → IsMeta c m → f ≡ factors_at c m.theme → matrix_in c m.grid m.z ≡ Some x → slice_get c.grids m.grid ≡ Some g → IsGrid g
    → at ≡ record { layer = m.theme.layer; grid = m.grid; z = m.z; factors = f; matrix = x } → IsZoomOn g at
zoom_on c m f x g at valid is ef ex eg lawful ea =
    let p = parts c m is in
    let cover : Cover = record { layer = m.theme.layer; grid = m.grid; z_start = m.z; z_stop = m.z; bounds = None; filter = record { style = None; dims = [] } } in
    let plan = plan_on c cover p.its_layer g valid p.layer eg p.served in
    subst (IsZoomOn g) (sym ea) (record {
      grid_is = lawful;
      plan = subst (λ (h : Factors). IsPlanOn h g) (sym (ef ∙ factors_are c m p)) plan;
      matrix = ap (λ (o : Option Grid). option_and_then (λ h. slice_get h.matrices m.z) o) (sym eg) ∙ ex;
    })

-- a metatile is one of its zoom
pub of_zoom : (m : MetaKey) (f : Factors) (x : Matrix) (at : Zoom) → IsWithinLimits x → IsPlan f x → at ≡ record { layer = m.theme.layer; grid = m.grid; z = m.z; factors = f; matrix = x } → IsOfZoom at m
of_zoom m f x at limits plan ea = subst (λ (z : Zoom). IsOfZoom z m) (sym ea) (record { layer = refl; grid = refl; z = refl; limits = limits; plan = plan })

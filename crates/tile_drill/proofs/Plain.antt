-- Short texts without a space, of which the lines of a drill are made.
use Rattle.std.proofs.Common.{◌≡◌, ℕ, zero, suc, ◌+◌, ◌*◌, ◌%◌, ◌^◌, ◌==◌, leb, ◌<◌, ◌≤◌, true, false, List, [], ◌∷◌, ◌++◌, length, decimal, flat_map, slice_get, unwrap_or, codes, refl, subst, ◌∙◌, arith, length-append}
use Rattle.std.specs.List.{AllByRecursion, list_all, list_any}
use Rattle.std.proofs.lemmas.Bool.{and_parts, false≢true, leb-true, ne_eqb}
use Rattle.std.proofs.lemmas.Fmt.{decimal_by_steps, length-decimal-le}
use Rattle.std.proofs.lemmas.List.Folds.{list_any-append}
use Rattle.catalog.specs.declared.layer.Dimension.{Dimension}
use Rattle.catalog.specs.Names.{is_name, is_name_byte}
use Rattle.catalog.specs.Valid.{IsDimension, IsLayer, IsName, IsNamedGrid, IsStyle}
use Rattle.tile_drill.specs.Made.{Aimed, cover_text, dimension_text, name_at, target_of, value_of}

-- at most so many bytes, and none is a space (32 in ASCII)
pub record IsPlain (most : ℕ) (text : List ℕ) : Type 0 where
  pub short : length text ≤ most
  pub spaceless : list_any (λ b. b == 32) text ≡ false

plain_wider : (m n : ℕ) (text : List ℕ) → m ≤ n → IsPlain m text → IsPlain n text
plain_wider m n text l p = record { short = let s = p.short in omega arith; spaceless = p.spaceless }

plain_both : (m n : ℕ) (a b : List ℕ) → IsPlain m a → IsPlain n b → IsPlain (m + n) (a ++ b)
plain_both m n a b p q =
    record {
      short = let e = length-append a b in let s = p.short in let t = q.short in omega arith;
      spaceless = list_any-append (λ b. b == 32) a b ∙ rw (p.spaceless, q.spaceless) refl;
    }

-- a label of at most 60 bytes
plain_label : (label : List ℕ) → leb (length label) 60 ≡ true → list_any (λ b. b == 32) label ≡ false → IsPlain 60 label
plain_label label s e = record { short = leb-true _ _ s; spaceless = e }

-- a label, and what stands after it
plain_first : (n : ℕ) (label value : List ℕ) → IsPlain 60 label → IsPlain n value → IsPlain (60 + n) (label ++ value)
plain_first n label value p q = plain_both 60 n label value p q

plain_next : (m n : ℕ) (text label value : List ℕ) → IsPlain m text → IsPlain 60 label → IsPlain n value → IsPlain (m + 60 + n) (text ++ label ++ value)
plain_next m n text label value p q r = plain_both (m + 60) n (text ++ label) value (plain_both m 60 text label p q) r

-- NAMES AND NUMBERS

name_spaceless : (text : List ℕ) → list_all is_name_byte text ≡ true → list_any (λ b. b == 32) text ≡ false
name_spaceless [] e = refl
name_spaceless (b ∷ bs) e =
    let parts = and_parts (is_name_byte b) (list_all is_name_byte bs) e in
    let other : (b == 32) ≡ false = ne_eqb b 32 (λ same. false≢true (subst (λ n. is_name_byte n ≡ true) same parts.0)) in
    rw other (name_spaceless bs parts.1)

plain_name : (text : List ℕ) → IsName text → IsPlain 64 text
unfolding is_name
plain_name text n = record { short = n.most; spaceless = name_spaceless text (and_parts _ _ n.bytes).1 }

-- one of the names, or nothing
plain_name_at : (names : List (List ℕ)) (i : ℕ) → AllByRecursion IsName names → IsPlain 64 (unwrap_or (slice_get names i) [])
plain_name_at [] i a = record { short = omega arith; spaceless = refl }
plain_name_at (name ∷ names) zero a = plain_name name a.0
plain_name_at (name ∷ names) (suc i) a = plain_name_at names i a.1

digit_spaceless : (d : ℕ) → (48 + d == 32) ≡ false
digit_spaceless d = ne_eqb (48 + d) 32 (λ e. omega arith)

plain_decimal : (n : ℕ) → n < 2 ^ 31 → IsPlain 10 (decimal n)
plain_decimal n l =
    let wide : n < 2 ^ 64 = omega arith in
    record {
      short = length-decimal-le 10 n (omega arith) (omega arith) wide;
      spaceless =
          decimal_by_steps (λ n ds. list_any (λ b. b == 32) ds ≡ false) (λ n l. rw (digit_spaceless n) refl)
          (λ n ds l e. list_any-append (λ b. b == 32) ds ((48 + n % 10) ∷ []) ∙ rw (e, digit_spaceless (n % 10)) refl) n wide;
    }

-- TARGETS AND COVERS

plain_dimension : (d : Dimension) → IsDimension d → IsPlain 248 (dimension_text d)
plain_dimension d v =
    let id = plain_first 64 (codes "&") d.id (plain_label (codes "&") refl refl) (plain_name d.id v.id) in
    plain_next _ 64 _ (codes "=") (value_of d) id (plain_label (codes "=") refl refl) (plain_name_at d.values (unwrap_or d.default 0) v.values)

plain_dimensions : (ds : List Dimension) → AllByRecursion IsDimension ds → IsPlain (248 * length ds) (flat_map dimension_text ds)
plain_dimensions [] a = record { short = omega arith; spaceless = refl }
plain_dimensions (d ∷ ds) a = plain_wider _ (248 * length (d ∷ ds)) _ (omega arith) (plain_both _ _ _ _ (plain_dimension d a.0) (plain_dimensions ds a.1))

module _ (aim : Aimed) (layer : IsLayer aim.layer) (style : IsStyle aim.style) (grid : IsNamedGrid aim.grid) where
  pub plain_target : (z row col : ℕ) → row < 2 ^ 31 → col < 2 ^ 31 → IsPlain 2000 (target_of aim z row col)
  unfolding target_of
  plain_target z row col l k =
      let front = codes "/wmts?service=WMTS&request=GetTile&version=1.0.0&layer=" in
      let format = codes "&format=image/x-portable-pixmap&TileMatrixSet=" in
      let first = plain_first 64 front aim.layer.id (plain_label front refl refl) (plain_name aim.layer.id layer.id) in
      let drawing = plain_next _ _ _ (codes "&style=") aim.style.id first (plain_label (codes "&style=") refl refl) (plain_name aim.style.id style.id) in
      let set = plain_next _ _ _ format aim.grid.id drawing (plain_label format refl refl) (plain_name aim.grid.id grid.id) in
      let matrix = plain_next _ _ _ (codes "&TileMatrix=") (name_at aim.grid z) set (plain_label (codes "&TileMatrix=") refl refl) (plain_name_at aim.grid.names z grid.names) in
      let tile_row = plain_next _ _ _ (codes "&TileRow=") (decimal row) matrix (plain_label (codes "&TileRow=") refl refl) (plain_decimal row l) in
      let tile_col = plain_next _ _ _ (codes "&TileCol=") (decimal col) tile_row (plain_label (codes "&TileCol=") refl refl) (plain_decimal col k) in
      let whole = plain_both _ _ _ (flat_map dimension_text aim.layer.dims) tile_col (plain_dimensions aim.layer.dims layer.dims) in
      plain_wider _ 2000 _ (let few = layer.dims_most in omega arith) whole

  pub plain_cover : (z : ℕ) → z < 2 ^ 31 → IsPlain 2000 (cover_text aim z)
  unfolding cover_text
  plain_cover z l =
      let front = codes "{\"layer\":\"" in
      let grid_label = codes "\",\"grid\":\"" in
      let start_label = codes "\",\"zoomStart\":" in
      let stop_label = codes ",\"zoomStop\":" in
      let first = plain_first 64 front aim.layer.id (plain_label front refl refl) (plain_name aim.layer.id layer.id) in
      let set = plain_next _ _ _ grid_label aim.grid.id first (plain_label grid_label refl refl) (plain_name aim.grid.id grid.id) in
      let start = plain_next _ _ _ start_label (decimal z) set (plain_label start_label refl refl) (plain_decimal z l) in
      let stop = plain_next _ _ _ stop_label (decimal z) start (plain_label stop_label refl refl) (plain_decimal z l) in
      plain_wider _ 2000 _ (omega arith) (plain_both _ _ _ (codes "}") stop (plain_label (codes "}") refl refl))

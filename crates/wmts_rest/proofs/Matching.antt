-- Which of the two routes a path matches.
use Rattle.std.proofs.Common.{◌≡◌, ◌⊎◌, ℕ, zero, suc, ◌-◌, ◌<◌, Bool, true, false, cond, ◌&&◌, ◌==◌, List, [], ◌∷◌, ◌++◌, length, get_or, Option, Some, None, refl, sym, ap, ◌∙◌, arith, inl, inr}
use Rattle.std.specs.Prelude.{nat_lt, bytes_eq, option_map, option_and_then, codes}
use Rattle.std.specs.List.{list_all}
use Rattle.std.proofs.lemmas.Bool.Decides.{nat_tests, eqb_tells}
use Rattle.std.proofs.lemmas.Bool.{and_parts, ltb-true, lt-ltb}
use Rattle.matchit.specs.Rows.{RowsOf, param_token, catch_all_token}
use Rattle.matchit.specs.Router.{RouteOf}
use Rattle.matchit.specs.Seek.{seek, step, own, or_else, param_step, has_slash, first}
use Rattle.wmts_rest.specs.declared.route.Route.{Route}
use Rattle.wmts_rest.specs.Paths.{after, front, capabilities_path}
use Rattle.wmts_rest.specs.Routes.{route_at, routes, capabilities_route, tile_route}

-- no rows lead nowhere
no_param : {K : Type 0} (path : List ℕ) → (param_step {K = K} [] path).1 ≡ []
unfolding param_step
no_param {K} path = by (has_slash path)
  where
    by : (b : Bool) → (cond {A = ℕ × RowsOf K} b (0, []) (length path, [])).1 ≡ []
    by true = refl
    by false = refl

nowhere : {K : Type 0} (n : ℕ) (path : List ℕ) → seek {K = K} n [] path ≡ None
unfolding seek
nowhere n [] = refl
nowhere (suc n) (b ∷ path) = nowhere n path
nowhere {K} zero (b ∷ path) = rw (nowhere {K = K} 0 path, no_param {K = K} (b ∷ path), nowhere {K = K} ((param_step {K = K} [] (b ∷ path)).0 - 1) path) refl

-- where no row begins with a parameter
one_byte : {K : Type 0} (rs : RowsOf K) (b : ℕ) (path : List ℕ) → step param_token rs ≡ [] → seek 0 rs (b ∷ path) ≡ or_else (seek 0 (step b rs) path) (own (step catch_all_token rs))
unfolding seek
one_byte {K} rs b path e = rw (e, no_param {K = K} (b ∷ path), nowhere {K = K} ((param_step {K = K} [] (b ∷ path)).0 - 1) path) refl

-- bytes, as a test
abbrev pub is_text : List ℕ → Bool
is_text bytes = list_all (λ b. nat_lt b 256) bytes

no_token : (x : ℕ) → nat_lt x 256 ≡ true → ((x == 256) ≡ false) × ((x == 257) ≡ false)
no_token x e = (grind (arith, nat_tests), grind (arith, nat_tests))

no_catch_all : (b : ℕ) → b < 256 → (257 == b) ≡ false
no_catch_all b l = grind (arith, nat_tests)

alike : (x b : ℕ) → (((x == b) ≡ true) × ((b == x) ≡ true)) ⊎ (((x == b) ≡ false) × ((b == x) ≡ false))
alike x b = elim (eqb_tells x b) [ inl e ↦ inl (grind (arith, nat_tests), grind (arith, nat_tests)) | inr e ↦ inr (grind (arith, nat_tests), grind (arith, nat_tests)) ]

first_only : {K : Type 0} (o : Option K) → or_else o None ≡ o
first_only None = refl
first_only (Some k) = refl

-- one row of bytes
literal : {K : Type 0} (lit : List ℕ) (r : K) (path : List ℕ) → is_text lit ≡ true → seek 0 ((lit, r) ∷ []) path ≡ cond (bytes_eq path lit) (Some r) None
unfolding seek
literal [] r [] text = refl
literal {K} [] r (b ∷ path) text = one_byte {K = K} (([], r) ∷ []) b path refl ∙ rw (nowhere {K = K} 0 path) refl
literal (x ∷ lit) r [] text = refl
literal {K} (x ∷ lit) r (b ∷ path) text =
    let t = and_parts (nat_lt x 256) (is_text lit) text in
    let n = no_token x t.0 in
    one_byte {K = K} ((x ∷ lit, r) ∷ []) b path (rw n.0 refl)
    ∙ rw n.1 (by (alike x b) (literal {K = K} lit r path t.1))
  where
    by : (((x == b) ≡ true) × ((b == x) ≡ true)) ⊎ (((x == b) ≡ false) × ((b == x) ≡ false)) → seek 0 ((lit, r) ∷ []) path ≡ cond (bytes_eq path lit) (Some r) None → or_else (seek 0 (cond (x == b) ((lit, r) ∷ []) []) path) None ≡ cond ((b == x) && bytes_eq path lit) (Some r) None
    by (inl e) ih = rw (e.0, e.1, ih) (first_only (cond (bytes_eq path lit) (Some r) None))
    by (inr e) ih = rw (e.0, e.1, nowhere {K = K} 0 path) refl

-- what follows the front, where there is something
abbrev pub rest_of : {K : Type 0} → K → List ℕ → Option K
rest_of s [] = None
rest_of s (b ∷ rest) = Some s

-- a row of bytes, and one that takes all that there is
literal_or_all : {K : Type 0} (lit : List ℕ) (r s : K) (path : List ℕ) → is_text lit ≡ true → is_text path ≡ true → seek 0 ((lit, r) ∷ (257 ∷ [], s) ∷ []) path ≡ cond (bytes_eq path lit) (Some r) (rest_of s path)
unfolding seek
literal_or_all [] r s [] lit_text text = refl
literal_or_all {K} [] r s (b ∷ path) lit_text text =
    let t = and_parts (nat_lt b 256) (is_text path) text in
    one_byte {K = K} (([], r) ∷ (257 ∷ [], s) ∷ []) b path refl ∙ rw (no_catch_all b (ltb-true b 256 t.0), nowhere {K = K} 0 path) refl
literal_or_all (x ∷ lit) r s [] lit_text text = refl
literal_or_all {K} (x ∷ lit) r s (b ∷ path) lit_text text =
    let t = and_parts (nat_lt x 256) (is_text lit) lit_text in
    let u = and_parts (nat_lt b 256) (is_text path) text in
    let n = no_token x t.0 in
    one_byte {K = K} ((x ∷ lit, r) ∷ (257 ∷ [], s) ∷ []) b path (rw n.0 refl)
    ∙ rw (n.1, no_catch_all b (ltb-true b 256 u.0)) (by (alike x b) (literal {K = K} lit r path t.1))
  where
    by : (((x == b) ≡ true) × ((b == x) ≡ true)) ⊎ (((x == b) ≡ false) × ((b == x) ≡ false)) → seek 0 ((lit, r) ∷ []) path ≡ cond (bytes_eq path lit) (Some r) None → or_else (seek 0 (cond (x == b) ((lit, r) ∷ []) []) path) (Some s) ≡ cond ((b == x) && bytes_eq path lit) (Some r) (Some s)
    by (inl e) ih = rw (e.0, e.1, ih) (or_all (bytes_eq path lit))
      where
        or_all : (v : Bool) → or_else (cond v (Some r) None) (Some s) ≡ cond v (Some r) (Some s)
        or_all true = refl
        or_all false = refl
    by (inr e) ih = rw (e.0, e.1, nowhere {K = K} 0 path) refl

-- the answer of both rows after a front
abbrev pub answer : {K : Type 0} → List ℕ → List ℕ → K → K → List ℕ → Option K
answer f lit r s path = cond (bytes_eq path (f ++ lit)) (Some r) (option_and_then (rest_of s) (after f path))

behind : {K : Type 0} (f lit : List ℕ) (r s : K) (path : List ℕ) → is_text f ≡ true → is_text lit ≡ true → is_text path ≡ true → seek 0 ((f ++ lit, r) ∷ (f ++ 257 ∷ [], s) ∷ []) path ≡ answer f lit r s path
unfolding seek
behind [] lit r s path f_text lit_text text = literal_or_all lit r s path lit_text text
behind (x ∷ f) lit r s [] f_text lit_text text = refl
behind {K} (x ∷ f) lit r s (b ∷ path) f_text lit_text text =
    let t = and_parts (nat_lt x 256) (is_text f) f_text in
    let u = and_parts (nat_lt b 256) (is_text path) text in
    let n = no_token x t.0 in
    one_byte {K = K} ((x ∷ (f ++ lit), r) ∷ (x ∷ (f ++ 257 ∷ []), s) ∷ []) b path (rw n.0 refl)
    ∙ rw n.1 (by (alike x b) (behind {K = K} f lit r s path t.1 lit_text u.1))
  where
    by : (((x == b) ≡ true) × ((b == x) ≡ true)) ⊎ (((x == b) ≡ false) × ((b == x) ≡ false))
        → seek 0 ((f ++ lit, r) ∷ (f ++ 257 ∷ [], s) ∷ []) path ≡ answer f lit r s path
        → or_else (seek 0 (cond (x == b) ((f ++ lit, r) ∷ cond (x == b) ((f ++ 257 ∷ [], s) ∷ []) []) (cond (x == b) ((f ++ 257 ∷ [], s) ∷ []) [])) path) None ≡ answer (x ∷ f) lit r s (b ∷ path)
    by (inl e) ih = rw (e.0, e.1, ih) (first_only (answer f lit r s path))
    by (inr e) ih = rw (e.0, e.1, nowhere {K = K} 0 path) refl

is_text_of : (bytes : List ℕ) → ((i : ℕ) → get_or bytes i 0 < 256) → is_text bytes ≡ true
is_text_of [] small = refl
is_text_of (b ∷ bytes) small = rw (lt-ltb b 256 (small 0), is_text_of bytes (λ i. small (suc i))) refl

abbrev pub value_of : Option (RouteOf Route) → Option Route
value_of o = option_map (λ r. r.value) o

same_route : (v : Bool) (o : Option (List ℕ)) → value_of (cond v (Some capabilities_route) (option_and_then (rest_of tile_route) o)) ≡ cond v (Some capabilities_route.value) (option_and_then (rest_of tile_route.value) o)
same_route true o = refl
same_route false None = refl
same_route false (Some []) = refl
same_route false (Some (b ∷ rest)) = refl

-- what the router answers is the route that the path takes
pub taken : (path : List ℕ) → ((i : ℕ) → get_or path i 0 < 256) → value_of (first routes path) ≡ route_at path
unfolding route_at
taken path small =
    ap value_of (behind front (codes "WMTSCapabilities.xml") capabilities_route tile_route path refl refl (is_text_of path small))
    ∙ same_route (bytes_eq path capabilities_path) (after front path)

pub taken_some : (rows : RowsOf (RouteOf Route)) (path : List ℕ) (r : RouteOf Route) → rows ≡ routes → ((i : ℕ) → get_or path i 0 < 256) → first rows path ≡ Some r → Some r.value ≡ route_at path
taken_some rows path r same small found = ap value_of (sym found) ∙ ap (λ rs. value_of (first rs path)) same ∙ taken path small

pub taken_none : (rows : RowsOf (RouteOf Route)) (path : List ℕ) → rows ≡ routes → ((i : ℕ) → get_or path i 0 < 256) → first rows path ≡ None → None ≡ route_at path
taken_none rows path same small found = ap value_of (sym found) ∙ ap (λ rs. value_of (first rs path)) same ∙ taken path small

-- `contains` is reflexive and transitive
use Rattle.std.proofs.Common.{◌≡◌, ◌&&◌, ◌==◌, refl, arith, List, [], ◌∷◌, length, Option, Some, None, ℕ, ℤ, IsTrue, ap, Bool}
use Rattle.std.specs.Prelude.{nat_le, int_le}
use Rattle.std.specs.List.{list_all, zip}
use Rattle.std.proofs.lemmas.Int.{ints}
use Rattle.matrix_geometry.specs.declared.boxes.Box9.{Box9}
use Rattle.truncation_list.specs.declared.cover.Cover.{Cover}
use Rattle.truncation_list.specs.Contains.{contains, contains_box, contains_filter, contains_number, contains_numbers, contains_x, contains_y, contains_zoom}
use Rattle.truncation_list.proofs.Decided.{both, eq_through, five, int_le_through, is_eq, is_int_le, is_le, join, join_five, le_through}

-- EACH PART

-- the four tests on the edges of two boxes
pub record Holds (o i : Box9) : Type 0 where
  pub min_x : IsTrue (int_le o.min_x i.min_x)
  pub min_y : IsTrue (int_le o.min_y i.min_y)
  pub max_x : IsTrue (int_le i.max_x o.max_x)
  pub max_y : IsTrue (int_le i.max_y o.max_y)

pub box_holds : (o i : Box9) → IsTrue (contains_box (Some o) (Some i)) → Holds o i
box_holds o i h =
    let t = both (contains_x o i) (contains_y o i) h in
    let x = both (int_le o.min_x i.min_x) (int_le i.max_x o.max_x) t.0 in
    let y = both (int_le o.min_y i.min_y) (int_le i.max_y o.max_y) t.1 in
    record { min_x = x.0; min_y = y.0; max_x = x.1; max_y = y.1 }

pub holds_box : (o i : Box9) → Holds o i → IsTrue (contains_box (Some o) (Some i))
holds_box o i h =
    join (contains_x o i) (contains_y o i)
    (join (int_le o.min_x i.min_x) (int_le i.max_x o.max_x) h.min_x h.max_x)
    (join (int_le o.min_y i.min_y) (int_le i.max_y o.max_y) h.min_y h.max_y)

box_through : (a b c : Option Box9) → IsTrue (contains_box a b) → IsTrue (contains_box b c) → IsTrue (contains_box a c)
box_through None b c h k = refl
box_through (Some a) None c h k = absurd (cc)
box_through (Some a) (Some b) None h k = absurd (cc)
box_through (Some a) (Some b) (Some c) h k =
    let p = box_holds a b h in
    let q = box_holds b c k in
    holds_box a c
    (record {
      min_x = int_le_through a.min_x b.min_x c.min_x p.min_x q.min_x;
      min_y = int_le_through a.min_y b.min_y c.min_y p.min_y q.min_y;
      max_x = int_le_through c.max_x b.max_x a.max_x q.max_x p.max_x;
      max_y = int_le_through c.max_y b.max_y a.max_y q.max_y p.max_y;
    })

number_through : (a b c : Option ℕ) → IsTrue (contains_number a b) → IsTrue (contains_number b c) → IsTrue (contains_number a c)
number_through None b c h k = refl
number_through (Some a) None c h k = absurd (cc)
number_through (Some a) (Some b) None h k = absurd (cc)
number_through (Some a) (Some b) (Some c) h k = eq_through a b c h k

numbers_through : (a b c : List (Option ℕ)) → IsTrue (contains_numbers a b) → IsTrue (contains_numbers b c) → IsTrue (contains_numbers a c)
numbers_through [] b c h k = refl
numbers_through (x ∷ xs) [] c h k = absurd (cc)
numbers_through (x ∷ xs) (y ∷ ys) [] h k = absurd (cc)
numbers_through (x ∷ xs) (y ∷ ys) (z ∷ zs) h k =
    let p = both (contains_number x y) (contains_numbers xs ys) h in
    let q = both (contains_number y z) (contains_numbers ys zs) k in
    join (contains_number x z) (contains_numbers xs zs) (number_through x y z p.0 q.0) (numbers_through xs ys zs p.1 q.1)

-- THE COVERS

-- the tests on two covers, one by one
pub record Within (o i : Cover) : Type 0 where
  pub layer : IsTrue (o.layer == i.layer)
  pub grid : IsTrue (o.grid == i.grid)
  pub z_start : IsTrue (nat_le o.z_start i.z_start)
  pub z_stop : IsTrue (nat_le i.z_stop o.z_stop)
  pub bounds : IsTrue (contains_box o.bounds i.bounds)
  pub style : IsTrue (contains_number o.filter.style i.filter.style)
  pub dims : IsTrue (contains_numbers o.filter.dims i.filter.dims)

pub contains_within : (o i : Cover) → IsTrue (contains o i) → Within o i
contains_within o i h =
    let t = five (o.layer == i.layer) (o.grid == i.grid) (contains_zoom o i) (contains_box o.bounds i.bounds) (contains_filter o.filter i.filter) h in
    let z = both (nat_le o.z_start i.z_start) (nat_le i.z_stop o.z_stop) t.2 in
    let f = both (contains_number o.filter.style i.filter.style) (contains_numbers o.filter.dims i.filter.dims) t.4 in
    record { layer = t.0; grid = t.1; z_start = z.0; z_stop = z.1; bounds = t.3; style = f.0; dims = f.1 }

pub within_contains : (o i : Cover) → Within o i → IsTrue (contains o i)
within_contains o i w =
    let z = join (nat_le o.z_start i.z_start) (nat_le i.z_stop o.z_stop) w.z_start w.z_stop in
    let f = join (contains_number o.filter.style i.filter.style) (contains_numbers o.filter.dims i.filter.dims) w.style w.dims in
    join_five (o.layer == i.layer) (o.grid == i.grid) (contains_zoom o i) (contains_box o.bounds i.bounds) (contains_filter o.filter i.filter) w.layer w.grid z w.bounds f

pub contains_through : (a b c : Cover) → IsTrue (contains a b) → IsTrue (contains b c) → IsTrue (contains a c)
contains_through a b c h k =
    let p = contains_within a b h in
    let q = contains_within b c k in
    within_contains a c
    (record {
      layer = eq_through a.layer b.layer c.layer p.layer q.layer;
      grid = eq_through a.grid b.grid c.grid p.grid q.grid;
      z_start = le_through a.z_start b.z_start c.z_start p.z_start q.z_start;
      z_stop = le_through c.z_stop b.z_stop a.z_stop q.z_stop p.z_stop;
      bounds = box_through a.bounds b.bounds c.bounds p.bounds q.bounds;
      style = number_through a.filter.style b.filter.style c.filter.style p.style q.style;
      dims = numbers_through a.filter.dims b.filter.dims c.filter.dims p.dims q.dims;
    })

int_le_itself : (x : ℤ) → IsTrue (int_le x x)
int_le_itself x = is_int_le x x (omega (arith, ints))

box_itself : (a : Option Box9) → IsTrue (contains_box a a)
box_itself None = refl
box_itself (Some a) = holds_box a a (record { min_x = int_le_itself a.min_x; min_y = int_le_itself a.min_y; max_x = int_le_itself a.max_x; max_y = int_le_itself a.max_y })

number_itself : (a : Option ℕ) → IsTrue (contains_number a a)
number_itself None = refl
number_itself (Some a) = is_eq a a refl

numbers_itself : (a : List (Option ℕ)) → IsTrue (contains_numbers a a)
numbers_itself [] = refl
numbers_itself (x ∷ xs) = join (contains_number x x) (contains_numbers xs xs) (number_itself x) (numbers_itself xs)

pub contains_itself : (a : Cover) → IsTrue (contains a a)
contains_itself a =
    within_contains a a
    (record {
      layer = is_eq a.layer a.layer refl;
      grid = is_eq a.grid a.grid refl;
      z_start = is_le a.z_start a.z_start (omega arith);
      z_stop = is_le a.z_stop a.z_stop (omega arith);
      bounds = box_itself a.bounds;
      style = number_itself a.filter.style;
      dims = numbers_itself a.filter.dims;
    })

-- lists of one length, pair by pair
pub zip-contains_numbers : (outers inners : List (Option ℕ)) → length outers ≡ length inners → list_all (λ p. contains_number p.0 p.1) (zip outers inners) ≡ contains_numbers outers inners
zip-contains_numbers [] inners h = refl
zip-contains_numbers (o ∷ os) [] h = absurd (omega arith)
zip-contains_numbers (o ∷ os) (i ∷ is) h = ap (λ (rest : Bool). contains_number o i && rest) (zip-contains_numbers os is (omega arith))

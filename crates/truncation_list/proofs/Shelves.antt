-- what is found at the first shelf of a layer and grid
use Rattle.std.proofs.Common.{ℕ, zero, suc, ◌≡◌, ◌<◌, ◌==◌, ◌&&◌, refl, subst, ap, ◌∙◌, sym, arith, Bool, true, false, cond, List, [], ◌∷◌, ◌++◌, length, take, set, get_or, IsTrue}
use Rattle.std.specs.List.{All, AllZip}
use Rattle.std.proofs.lemmas.List.Elements.{All-head, All-tail}
use Rattle.truncation_list.specs.declared.index.Shelf.{Shelf}
use Rattle.truncation_list.specs.Index.{found, is_of, listed, slots_in}
use Rattle.truncation_list.proofs.Decided.{both, eq_is}

module _ {A : Type 0} (of : Shelf → A) (none : A) where
  pub found_none : (shelves : List Shelf) (l g : ℕ) → All (λ shelf. is_of l g shelf ≡ false) shelves → found of none shelves l g ≡ none
  unfolding found
  found_none [] l g h = refl
  found_none (x ∷ xs) l g h =
      rw (All-head (λ shelf. is_of l g shelf ≡ false) x xs h) (found_none xs l g (All-tail (λ shelf. is_of l g shelf ≡ false) x xs h))

  either_none : (v : Bool) (a rest : A) → a ≡ none → rest ≡ none → cond v a rest ≡ none
  either_none true a rest e f = e
  either_none false a rest e f = f

  pub found_all : (shelves : List Shelf) (l g : ℕ) → All (λ shelf. of shelf ≡ none) shelves → found of none shelves l g ≡ none
  unfolding found
  found_all [] l g h = refl
  found_all (x ∷ xs) l g h =
      either_none (is_of l g x) (of x) (found of none xs l g) (All-head (λ shelf. of shelf ≡ none) x xs h) (found_all xs l g (All-tail (λ shelf. of shelf ≡ none) x xs h))

  pub found_at : (shelves : List Shelf) (s l g : ℕ) (d : Shelf) → s < length shelves → All (λ shelf. is_of l g shelf ≡ false) (take s shelves) → IsTrue (is_of l g (get_or shelves s d)) → found of none shelves l g ≡ of (get_or shelves s d)
  unfolding found
  found_at [] s l g d b h t = absurd (omega arith)
  found_at (x ∷ xs) zero l g d b h t = rw t refl
  found_at (x ∷ xs) (suc s) l g d b h t =
      rw (All-head (λ shelf. is_of l g shelf ≡ false) x (take s xs) h)
      (found_at xs s l g d (omega arith) (All-tail (λ shelf. is_of l g shelf ≡ false) x (take s xs) h) t)

  push_at : (v : Bool) (w : A) → w ≡ none → cond v w none ≡ none
  push_at v w e = either_none v w none e refl

  pub found_push : (shelves : List Shelf) (w : Shelf) (l g : ℕ) → of w ≡ none → found of none (shelves ++ w ∷ []) l g ≡ found of none shelves l g
  unfolding found
  found_push [] w l g e = push_at (is_of l g w) (of w) e
  found_push (x ∷ xs) w l g e = ap (λ (rest : A). cond (is_of l g x) (of x) rest) (found_push xs w l g e)

  -- a shelf in the place of one of its layer and grid
  pub found_set_same : (shelves : List Shelf) (s : ℕ) (w d : Shelf) (l g : ℕ) → s < length shelves → w.layer ≡ (get_or shelves s d).layer → w.grid ≡ (get_or shelves s d).grid → of w ≡ of (get_or shelves s d) → found of none (set shelves s w) l g ≡ found of none shelves l g
  unfolding found
  found_set_same [] s w d l g b e f h = absurd (omega arith)
  found_set_same (x ∷ xs) zero w d l g b e f h = cong_at (found of none xs l g)
    where
      cong_at : (r : A) → cond (is_of l g w) (of w) r ≡ cond (is_of l g x) (of x) r
      cong_at r = ap (λ (v : Bool). cond v (of w) r) (ap (λ (n : ℕ). (n == l) && (w.grid == g)) e ∙ ap (λ (n : ℕ). (x.layer == l) && (n == g)) f) ∙ ap (λ (v : A). cond (is_of l g x) v r) h
  found_set_same (x ∷ xs) (suc s) w d l g b e f h =
      ap (λ (rest : A). cond (is_of l g x) (of x) rest) (found_set_same xs s w d l g (omega arith) e f h)

  past_other : (t b : Bool) (a w r : A) → (IsTrue t → b ≡ false) → cond b a (cond t w r) ≡ cond t w (cond b a r)
  past_other true b a w r h = rw (h refl) refl
  past_other false b a w r h = refl

  in_place : (t : Bool) (w x r : A) → cond t w r ≡ cond t w (cond t x r)
  in_place true w x r = refl
  in_place false w x r = refl

  at_tests : (s b t : Bool) (w x r : A) → s ≡ t → b ≡ t → cond s w r ≡ cond t w (cond b x r)
  at_tests s b t w x r e f = rw (e, f) (in_place t w x r)

  -- and of the first one
  pub found_set : (shelves : List Shelf) (s : ℕ) (w d : Shelf) (l g l' g' : ℕ) → s < length shelves → All (λ shelf. is_of l g shelf ≡ false) (take s shelves) → IsTrue (is_of l g (get_or shelves s d)) → w.layer ≡ l → w.grid ≡ g → found of none (set shelves s w) l' g' ≡ cond ((l == l') && (g == g')) (of w) (found of none shelves l' g')
  unfolding found
  found_set [] s w d l g l' g' b h t e f = absurd (omega arith)
  found_set (x ∷ xs) zero w d l g l' g' b h t e f =
      let p = both (x.layer == l) (x.grid == g) t in
      let new : is_of l' g' w ≡ ((l == l') && (g == g')) = ap (λ (n : ℕ). (n == l') && (w.grid == g')) e ∙ ap (λ (n : ℕ). (l == l') && (n == g')) f in
      let old : is_of l' g' x ≡ ((l == l') && (g == g')) = ap (λ (n : ℕ). (n == l') && (x.grid == g')) (eq_is x.layer l p.0) ∙ ap (λ (n : ℕ). (l == l') && (n == g')) (eq_is x.grid g p.1) in
      at_tests (is_of l' g' w) (is_of l' g' x) ((l == l') && (g == g')) (of w) (of x) (found of none xs l' g') new old
  found_set (x ∷ xs) (suc s) w d l g l' g' b h t e f =
      let first = All-head (λ shelf. is_of l g shelf ≡ false) x (take s xs) h in
      let rest = found_set xs s w d l g l' g' (omega arith) (All-tail (λ shelf. is_of l g shelf ≡ false) x (take s xs) h) t e f in
      ap (λ (r : A). cond (is_of l' g' x) (of x) r) rest ∙ past_other ((l == l') && (g == g')) (is_of l' g' x) (of x) (of w) (found of none xs l' g') (other first)
    where
      other : is_of l g x ≡ false → IsTrue ((l == l') && (g == g')) → is_of l' g' x ≡ false
      other first k =
          let p = both (l == l') (g == g') k in
          subst (λ (n : ℕ). is_of l' n x ≡ false) (eq_is g g' p.1) (subst (λ (n : ℕ). is_of n g x ≡ false) (eq_is l l' p.0) first)

-- EACH LIST OF EACH SHELF

module _ (edit : List ℕ → List ℕ) where
  pub record Edited (old new : Shelf) : Type 0 where
    pub layer : new.layer ≡ old.layer
    pub grid : new.grid ≡ old.grid
    pub slots : (k : ℕ) → slots_in new.lists.items k ≡ edit (slots_in old.lists.items k)

  either_edited : (v : Bool) (a b c d : List ℕ) → a ≡ edit b → c ≡ edit d → cond v a c ≡ edit (cond v b d)
  either_edited true a b c d e f = e
  either_edited false a b c d e f = f

  pub found_edited : edit [] ≡ [] → (old new : List Shelf) → AllZip Edited old new → (l g k : ℕ) → listed new l g k ≡ edit (listed old l g k)
  unfolding found
  found_edited e [] [] h l g k = sym e
  found_edited e [] (y ∷ ys) h l g k = absurd h
  found_edited e (x ∷ xs) [] h l g k = absurd h
  found_edited e (x ∷ xs) (y ∷ ys) h l g k =
      ap (λ (v : Bool). cond v (slots_in y.lists.items k) (listed ys l g k)) (ap (λ (n : ℕ). (n == l) && (y.grid == g)) h.0.layer ∙ ap (λ (n : ℕ). (x.layer == l) && (n == g)) h.0.grid)
      ∙ either_edited (is_of l g x) (slots_in y.lists.items k) (slots_in x.lists.items k) (listed ys l g k) (listed xs l g k) (h.0.slots k) (found_edited e xs ys h.1 l g k)

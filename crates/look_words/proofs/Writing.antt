-- Texts that are written one after the other.
use Rattle.std.proofs.Common.{ℕ, zero, suc, ◌≡◌, ◌<◌, List, [], ◌∷◌, ◌++◌, length, take, drop, get_or, Option, refl, sym, ap, ◌∙◌, arith, append_assoc, append-nil, flat_map}
use Rattle.std.proofs.lemmas.Grind.{common_steps}
use Rattle.std.specs.List.{AllByRecursion}
use Rattle.std.specs.Io.KnownBytes.{Appends}
use Rattle.tile_requests.proofs.Known.{appends_more}
use Rattle.tile_requests.specs.Sent.{AppendsFront}
use Rattle.look_words.specs.Lists.{HasBegun}
use Rattle.sessions.specs.Outside.{FaultCounts}

-- P holds of the one at a place
pub at_place : {A : Type 0} (P : A → Type 0) (xs : List A) (i : ℕ) (d : A) → AllByRecursion P xs → i < length xs → P (get_or xs i d)
at_place P [] i d all within = absurd (omega (arith, within))
at_place P (x ∷ xs) zero d all within = all.0
at_place P (x ∷ xs) (suc i) d all within = at_place P xs i d all.1 (omega (arith, within))

module _ {A : Type 0} (f : A → List ℕ) where
  -- the texts of the first ones, of the next one, and of the others
  pub split_at_place : (xs : List A) (i : ℕ) (d : A) → i < length xs → flat_map f xs ≡ flat_map f (take i xs) ++ (f (get_or xs i d) ++ flat_map f (drop (suc i) xs))
  split_at_place [] i d within = absurd (omega (arith, within))
  split_at_place (x ∷ xs) zero d within = refl
  split_at_place (x ∷ xs) (suc i) d within = ap (λ (ys : List ℕ). f x ++ ys) (split_at_place xs i d (omega (arith, within))) ∙ sym (append_assoc (f x) (flat_map f (take i xs)) (f (get_or xs i d) ++ flat_map f (drop (suc i) xs)))

  pub one_more : (xs : List A) (i : ℕ) (d : A) → i < length xs → flat_map f (take (suc i) xs) ≡ flat_map f (take i xs) ++ f (get_or xs i d)
  one_more [] i d within = absurd (omega (arith, within))
  one_more (x ∷ xs) zero d within = append-nil (f x)
  one_more (x ∷ xs) (suc i) d within = ap (λ (ys : List ℕ). f x ++ ys) (one_more xs i d (omega (arith, within))) ∙ sym (append_assoc (f x) (flat_map f (take i xs)) (f (get_or xs i d)))

-- a front of the next text, behind texts that went out
pub front_behind : (a b c : Option (List ℕ)) (xs ys zs whole : List ℕ) → whole ≡ xs ++ (ys ++ zs) → Appends a b xs → AppendsFront b c ys → AppendsFront a c whole
front_behind a b c xs ys zs whole is first h = record {
  front = xs ++ h.front;
  rest = h.rest ++ zs;
  whole = is ∙ (ap (λ (us : List ℕ). xs ++ (us ++ zs)) h.whole ∙ (ap (λ (us : List ℕ). xs ++ us) (append_assoc h.front h.rest zs) ∙ sym (append_assoc xs h.front (h.rest ++ zs))));
  short = search (arith, common_steps, h.short);
  grows = appends_more a b c xs h.front first h.grows;
}

-- a front of the next text that ends anywhere, behind texts that went out
pub begun_behind : (a b c : Option (List ℕ)) (writes writes' : FaultCounts) (xs ys zs whole : List ℕ) → whole ≡ xs ++ (ys ++ zs) → Appends a b xs → HasBegun (record { writes = writes; from = b; to = c }) ys
    → HasBegun (record { writes = writes'; from = a; to = c }) whole
begun_behind a b c writes writes' xs ys zs whole is first h = record {
  front = xs ++ h.front;
  rest = h.rest ++ zs;
  whole = is ∙ (ap (λ (us : List ℕ). xs ++ (us ++ zs)) h.whole ∙ (ap (λ (us : List ℕ). xs ++ us) (append_assoc h.front h.rest zs) ∙ sym (append_assoc xs h.front (h.rest ++ zs))));
  written = appends_more a b c xs h.front first h.written;
}

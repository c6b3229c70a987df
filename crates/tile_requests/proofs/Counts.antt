-- The turns of a usage text.
use Rattle.std.proofs.Common.{ℕ, zero, suc, ◌≡◌, ◌+◌, List, [], ◌∷◌, ◌++◌, length, take, None, Some, ◌<◌, refl, sym, ap, subst, ◌∙◌, append_assoc, arith}
use Rattle.std.specs.Prelude.{slice_get}
use Rattle.cabinet.proofs.Lists.{all_push}
use Rattle.cabinet_chest.specs.declared.command.Command.TheVariants as command
use Rattle.cabinet_chest.specs.declared.command.Counts.{Counts}
use Rattle.cabinet_chest.specs.declared.command.Reply.TheVariants as reply
use Rattle.cabinet_chest.specs.declared.shown.Note.{Note}
use Rattle.catalog.specs.declared.catalogue.Catalogue.{Catalogue}
use Rattle.catalog.specs.declared.layer.Layer.{Layer}
use Rattle.turnstile.specs.declared.view.Made.{Made}
use Rattle.cache_access.specs.Turned.{GainsOne}
use Rattle.tile_requests.specs.Counted.{AreAllCounts, AreCounts, IsCount}
use Rattle.tile_requests.specs.Texts.{layer_line, layer_lines, totals_text}
use Rattle.tile_requests.specs.Counting.{HasCounted, HasCountedVainly, HasToldUsage}

nothing_behind : {X : Type 0} (xs : List X) → xs ++ [] ≡ xs
nothing_behind [] = refl
nothing_behind (x ∷ xs) = ap (λ ys. x ∷ ys) (nothing_behind xs)

-- ONE COUNT MORE

counts_more : (k : ℕ) (ns : List Counts) (ms : List (Made Note)) (x : Counts) (m : Made Note) → AreCounts k ns ms → IsCount (k + length ns) x m → AreCounts k (ns ++ x ∷ []) (ms ++ m ∷ [])
counts_more k [] [] x m are is = let e : k + length {A = Counts} [] ≡ k = omega arith in (subst (λ (j : ℕ). IsCount j x m) e is, tt)
counts_more k [] (y ∷ ms) x m are is = absurd are
counts_more k (n ∷ ns) [] x m are is = absurd are
counts_more k (n ∷ ns) (y ∷ ms) x m are is =
    let e : k + suc (length ns) ≡ k + 1 + length ns = omega arith in
    (are.0, counts_more (k + 1) ns ms x m are.1 (subst (λ (j : ℕ). IsCount j x m) e is))

length_more : (ns : List Counts) (x : Counts) → length (ns ++ x ∷ []) ≡ length ns + 1
length_more [] x = refl
length_more (n ∷ ns) x = let e = length_more ns x in omega (arith, e)

some_layer : (a b : Layer) → Some a ≡ Some b → a ≡ b
some_layer a b e = cc

lines_more : (ls : List Layer) (ns : List Counts) (n : ℕ) (l : Layer) (x : Counts) → length ns ≡ n → slice_get ls n ≡ Some l → layer_lines (take (suc n) ls) (ns ++ x ∷ []) ≡ layer_lines (take n ls) ns ++ layer_line l x
lines_more [] ns n l x e there = absurd (cc)
lines_more (k ∷ ls) [] zero l x e there = nothing_behind (layer_line k x) ∙ ap (λ (h : Layer). layer_line h x) (some_layer k l there)
lines_more (k ∷ ls) [] (suc n) l x e there = absurd (omega (arith, e))
lines_more (k ∷ ls) (y ∷ ns) zero l x e there = absurd (omega (arith, e))
lines_more (k ∷ ls) (y ∷ ns) (suc n) l x e there =
    ap (λ t. layer_line k y ++ t) (lines_more ls ns n l x (omega (arith, e)) there) ∙ sym (append_assoc (layer_line k y) (layer_lines (take n ls) ns) (layer_line l x))

no_lines : (ls : List Layer) → [] ≡ layer_lines (take 0 ls) []
no_lines ls = refl

abbrev Leading : Type 0 → Type 1
Leading C = C → C → List (Made Note) → Type 0

-- turns that lead on from others
abbrev LeadOn : {C : Type 0} → Leading C → C → C → C → Type 0
LeadOn leads x y z = (first then : List (Made Note)) → leads x y first → leads y z then → leads x z (first ++ then)

module _ {C : Type 0} (leads : Leading C) (c : Catalogue) (p q r : C) where
  pub counted_first : leads p p [] → (text : List ℕ) → text ≡ [] → HasCounted leads c p p 0 text
  counted_first nothing text none = record { counts = []; turns = []; gains = nothing; layers = tt; each = refl; lines = none ∙ no_lines c.layers }

  pub counted_more : LeadOn leads p q r → (n : ℕ) (l : Layer) (x : Counts) (text more : List ℕ) → HasCounted leads c p q n text → GainsOne leads q r (command.Usage n) (reply.Usage x) → slice_get c.layers n ≡ Some l → more ≡ text ++ layer_line l x → HasCounted leads c p r (n + 1) more
  counted_more on n l x text more h one there is = record {
    counts = h.counts ++ x ∷ [];
    turns = h.turns ++ one.turn ∷ [];
    gains = on h.turns (one.turn ∷ []) h.gains one.gains;
    layers = let e : n ≡ 0 + length h.counts = let each = h.each in omega (arith, each) in counts_more 0 h.counts h.turns x one.turn h.layers (subst (λ (j : ℕ). IsCount j x one.turn) e one.of);
    each = length_more h.counts x ∙ ap (λ k. k + 1) h.each;
    lines =
        let e : suc n ≡ n + 1 = omega arith in
        is ∙ ap (λ t. t ++ layer_line l x) h.lines ∙ sym (lines_more c.layers h.counts n l x h.each there) ∙ ap (λ k. layer_lines (take k c.layers) (h.counts ++ x ∷ [])) e;
  }

  all_counts : (k : ℕ) (ns : List Counts) (ms : List (Made Note)) → AreCounts k ns ms → AreAllCounts ms
  all_counts k [] [] are = tt
  all_counts k [] (m ∷ ms) are = absurd are
  all_counts k (n ∷ ns) [] are = absurd are
  all_counts k (n ∷ ns) (m ∷ ms) are = ((k, n, are.0), all_counts (k + 1) ns ms are.1)

  -- the text of the last one wasn't made
  pub counted_vainly : LeadOn leads p q r → (n : ℕ) (x : Counts) (text : List ℕ) → HasCounted leads c p q n text → GainsOne leads q r (command.Usage n) (reply.Usage x) → HasCountedVainly leads p r
  counted_vainly on n x text h one = record {
    turns = h.turns ++ one.turn ∷ [];
    gains = on h.turns (one.turn ∷ []) h.gains one.gains;
    counts = all_push (λ (m : Made Note). (layer : ℕ) × (y : Counts) × IsCount layer y m) h.turns one.turn (all_counts 0 h.counts h.turns h.layers) (n, x, one.of);
  }

-- a list has an element at each place before its end
pub is_there : (ls : List Layer) (n : ℕ) → n < length ls → slice_get ls n ≡ None → ⊥
is_there [] n less none = absurd (omega (arith, less))
is_there (l ∷ ls) zero less none = absurd (cc)
is_there (l ∷ ls) (suc n) less none = is_there ls n (omega (arith, less)) none

-- ALL LINES

take_all : {X : Type 0} (xs : List X) → take (length xs) xs ≡ xs
take_all [] = refl
take_all (x ∷ xs) = ap (λ ys. x ∷ ys) (take_all xs)

module _ {C : Type 0} (leads : Leading C) (c : Catalogue) (p q r s : C) (first_on : LeadOn leads p q r) (then_on : LeadOn leads p r s) (all cuts : Counts) (text : List ℕ)
    (h : HasCounted leads c p q (length c.layers) text) (one : GainsOne leads q r (command.Usage (length c.layers)) (reply.Usage all)) (two : GainsOne leads r s (command.Usage (length c.layers)) (reply.Usage cuts)) where
  whole : leads p s (h.turns ++ one.turn ∷ two.turn ∷ [])
  whole =
      let first = first_on h.turns (one.turn ∷ []) h.gains one.gains in
      subst (λ (ms : List (Made Note)). leads p s ms) (append_assoc h.turns (one.turn ∷ []) (two.turn ∷ [])) (then_on (h.turns ++ one.turn ∷ []) (two.turn ∷ []) first two.gains)

  pub usage_told : (more : List ℕ) → more ≡ text ++ totals_text c.quota all cuts → HasToldUsage leads c p s more
  usage_told more is = record {
    turns = h.turns ++ one.turn ∷ two.turn ∷ [];
    gains = whole;
    counted = record {
      counts = h.counts;
      turns = h.turns;
      layers = h.layers;
      each = h.each;
      all = all;
      all_turn = one.turn;
      of_all = one.of;
      cuts = cuts;
      cuts_turn = two.turn;
      of_cuts = two.of;
      made = refl;
      is_text = is ∙ ap (λ t. t ++ totals_text c.quota all cuts) (h.lines ∙ ap (λ ls. layer_lines ls h.counts) (take_all c.layers));
    };
  }

  pub usage_untold : HasCountedVainly leads p s
  usage_untold =
      let vain = counted_vainly leads c p q r first_on (length c.layers) all text h one in
      record {
        turns = vain.turns ++ two.turn ∷ [];
        gains = then_on vain.turns (two.turn ∷ []) vain.gains two.gains;
        counts = all_push (λ (m : Made Note). (layer : ℕ) × (y : Counts) × IsCount layer y m) vain.turns two.turn vain.counts (length c.layers, cuts, two.of);
      }

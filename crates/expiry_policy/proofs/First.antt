-- The first of the least elements of a list, in any total order.
use Rattle.std.proofs.Common.{◌≡◌, Bool, true, false, cond, not, ◌&&◌, List, [], ◌∷◌, find, Option, Some, None, Ordering, Less, Equal, Greater, refl, sym, ap, subst, ◌∙◌}
use Rattle.std.specs.Cmp.{IsTotalOrder}
use Rattle.std.specs.List.{list_all}
use Rattle.std.specs.Ordering.{is_gt, is_lt, ordering_reverse}
use Rattle.std.proofs.lemmas.Cmp.{tied_itself, upto}
use Rattle.expiry_policy.proofs.Finds.{all_weaker, find_among, find_passes}

pub is_less : (r : Ordering) → is_lt r ≡ true → r ≡ Less
is_less Less e = refl
is_less Equal e = absurd (cc)
is_less Greater e = absurd (cc)

turned : (r : Ordering) → is_gt (ordering_reverse r) ≡ is_lt r
turned Less = refl
turned Equal = refl
turned Greater = refl

negated : (b : Bool) → not b ≡ true → b ≡ false
negated true e = absurd (cc)
negated false e = refl

otherwise : (b : Bool) → (b ≡ true → ⊥) → b ≡ false
otherwise true f = absurd (f refl)
otherwise false f = refl

module _ {X : Type 0} (R : X → X → Ordering) where
  -- the first goes before the second
  abbrev goes : X → X → Bool
  goes x y = is_lt (R x y)

  -- none of these goes before it
  abbrev pub leads : List X → X → Bool
  leads xs x = list_all (λ v. not (goes v x)) xs

  -- the first before which none goes
  abbrev pub leader : List X → Option X
  leader xs = find (leads xs) xs

  -- the latter where it goes before the former
  abbrev pub sooner_of : Option X → Option X → Option X
  sooner_of None b = b
  sooner_of (Some x) None = Some x
  sooner_of (Some x) (Some y) = cond (goes y x) (Some y) (Some x)

  module _ (o : IsTotalOrder R) where
    goes_through : (x y z : X) → goes x y ≡ true → goes y z ≡ true → goes x z ≡ true
    goes_through x y z h k = ap is_lt (o.trans x y z (is_less (R x y) h) (is_less (R y z) k))

    back : (x y : X) → is_gt (R y x) ≡ goes x y
    back x y = ap is_gt (o.antisymm y x) ∙ turned (R x y)

    -- one that does not go before the second does not go before the first either, before which the second does not go
    pub stays_through : (x y z : X) → goes y x ≡ false → goes z y ≡ false → goes z x ≡ false
    stays_through x y z h k = sym (back z x) ∙ upto o x y z (back y x ∙ h) (back z y ∙ k)

    alone : (x : X) → leader (x ∷ []) ≡ Some x
    alone x = rw (tied_itself o x) refl

    -- an element before which the leader does not go leads too
    leads_with : (xs : List X) (b x : X) → leader xs ≡ Some b → goes b x ≡ false → leads xs x ≡ true
    leads_with xs b x e h = all_weaker (λ v. not (goes v b)) (λ v. not (goes v x)) (λ v k. ap not (stays_through x b v h (negated _ k))) xs (find_passes (leads xs) xs b e)

    stays_behind : (xs : List X) (b x : X) → leader xs ≡ Some b → leads xs x ≡ true → goes b x ≡ false
    stays_behind xs b x e h = negated _ (find_among (λ v. not (goes v x)) (leads xs) xs b e h)

    -- one more element, before which the leader goes, leaves those that lead
    leads_alike : (xs : List X) (b x : X) → leader xs ≡ Some b → goes b x ≡ true → (u : X) → leads (x ∷ xs) u ≡ leads xs u
    leads_alike xs b x e h u = chosen (goes x u) (leads xs u) refl refl
      where
        chosen : (s c : Bool) → goes x u ≡ s → leads xs u ≡ c → (not s && c) ≡ c
        chosen true true k l = let through = goes_through b x u h k in let behind = stays_behind xs b u e l in absurd (cc)
        chosen true false k l = refl
        chosen false true k l = refl
        chosen false false k l = refl

    led_by : (xs : List X) (b x : X) → leader xs ≡ Some b → (s : Bool) → goes b x ≡ s → leader (x ∷ xs) ≡ cond s (Some b) (Some x)
    led_by xs b x e true h =
        let behind : leads xs x ≡ false = otherwise (leads xs x) (λ k. let no = stays_behind xs b x e k in absurd (cc)) in
        let alike = leads_alike xs b x e h in
        ap (λ c. cond c (Some x) (find (leads (x ∷ xs)) xs)) (alike x ∙ behind) ∙ (λ i. find (λ u. alike u i) xs) ∙ e
    led_by xs b x e false h =
        let itself : not (goes x x) ≡ true = ap (λ r. not (is_lt r)) (tied_itself o x) in
        let others = leads_with xs b x e h in
        ap (λ c. cond c (Some x) (find (leads (x ∷ xs)) xs)) (λ i. itself i && others i)

    more_led : (x : X) (xs : List X) → (leader xs ≡ None → xs ≡ []) → (l : Option X) → leader xs ≡ l → leader (x ∷ xs) ≡ sooner_of (Some x) l
    more_led x xs none None e = subst (λ ys. leader (x ∷ ys) ≡ Some x) (sym (none e)) (alone x)
    more_led x xs none (Some b) e = led_by xs b x e (goes b x) refl

    some_sooner : (x : X) (l : Option X) → sooner_of (Some x) l ≡ None → ⊥
    some_sooner x None e = cc
    some_sooner x (Some y) e = chosen (goes y x) e
      where
        chosen : (b : Bool) → cond b (Some y) (Some x) ≡ None → ⊥
        chosen true e = cc
        chosen false e = cc

    -- a list without a leader is empty
    pub leader_none : (xs : List X) → leader xs ≡ None → xs ≡ []
    leader_none [] e = refl
    leader_none (x ∷ xs) e = absurd (some_sooner x (leader xs) (sym (more_led x xs (leader_none xs) (leader xs) refl) ∙ e))

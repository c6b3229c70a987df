-- There is one victim: what is said of it by a function of the metatiles is the victim of a list of their uses.
use Rattle.std.proofs.Common.{ℕ, ◌≡◌, ◌≢◌, Bool, true, false, true≢false, cond, not, List, [], ◌∷◌, ◌++◌, length, length-append, find, filter, Option, None, Some, IsSome, Ordering, Less, Equal, Greater, refl, sym, ap, subst, ◌∙◌, arith}
use Rattle.std.proofs.lemmas.Bool.{and_parts}
use Rattle.std.specs.Cmp.Lexicographic.{same_text, slice_cmp, texts_ties}
use Rattle.std.specs.List.{AllByRecursion, list_all}
use Rattle.std.specs.Option.{option_map}
use Rattle.std.specs.Ordering.{is_eq, is_lt, nat_cmp, ordering_reverse}
use Rattle.catalog.specs.declared.catalogue.Policy.{Policy}
use Rattle.catalog.specs.declared.catalogue.Policy.TheVariants.{Lru, Lfu}
use Rattle.catalog.specs.declared.catalogue.Scope.{Scope}
use Rattle.catalog.specs.Scopes.{is_in}
use Rattle.metatile_plan.proofs.Same.{same_meta_is, same_meta_self}
use Rattle.metatile_plan.specs.declared.metatile.MetaKey.{MetaKey}
use Rattle.metatile_plan.specs.Keys.{same_meta}
use Rattle.expiry_policy.specs.declared.uses.Use.{Use}
use Rattle.expiry_policy.specs.Victims.{AreApart, IsVictim, fields, in_scope, is_before, is_first, is_of, rank, victim}
use Rattle.expiry_policy.proofs.Choices.{cmp_ranks, ranks_total, victim_held, victim_in_scope}
use Rattle.expiry_policy.proofs.Finds.{all_filter, find_among, find_passes}
use Rattle.expiry_policy.proofs.First.{leader, leader_none}

none_some : {X : Type 0} {x : X} → None ≡ Some x → ⊥
none_some e = cc

-- RANKS OF DIFFERENT KEYS DIFFER

-- two keys' last four numbers and the values before them
pub record AreSame (xs ys : List ℕ) (a b c d e f g h : ℕ) : Type 0 where
  pub values : xs ≡ ys
  pub first : a ≡ e
  pub second : b ≡ f
  pub third : c ≡ g
  pub fourth : d ≡ h

same_ends : (xs ys : List ℕ) (a b c d e f g h : ℕ) → xs ++ (a ∷ b ∷ c ∷ d ∷ []) ≡ ys ++ (e ∷ f ∷ g ∷ h ∷ []) → AreSame xs ys a b c d e f g h
same_ends [] [] a b c d e f g h is = record { values = refl; first = cc; second = cc; third = cc; fourth = cc }
same_ends [] (y ∷ ys) a b c d e f g h is = let sizes = ap length is in absurd (omega (arith, sizes, length-append ys (e ∷ f ∷ g ∷ h ∷ [])))
same_ends (x ∷ xs) [] a b c d e f g h is = let sizes = ap length is in absurd (omega (arith, sizes, length-append xs (a ∷ b ∷ c ∷ d ∷ [])))
same_ends (x ∷ xs) (y ∷ ys) a b c d e f g h is =
    let rest : xs ++ (a ∷ b ∷ c ∷ d ∷ []) ≡ ys ++ (e ∷ f ∷ g ∷ h ∷ []) = cc in
    let one : x ≡ y = cc in
    let r = same_ends xs ys a b c d e f g h rest in
    record { values = λ i. one i ∷ r.values i; first = r.first; second = r.second; third = r.third; fourth = r.fourth }

-- keys of the same numbers are one
same_fields : (a b : MetaKey) → fields a ≡ fields b → a ≡ b
same_fields a b is =
    let layer : a.theme.layer ≡ b.theme.layer = cc in
    let style : a.theme.style ≡ b.theme.style = cc in
    let rest : a.theme.dims ++ (a.grid ∷ a.z ∷ a.row ∷ a.col ∷ []) ≡ b.theme.dims ++ (b.grid ∷ b.z ∷ b.row ∷ b.col ∷ []) = cc in
    let r = same_ends a.theme.dims b.theme.dims a.grid a.z a.row a.col b.grid b.z b.row b.col rest in
    λ i. record { theme = record { layer = layer i; style = style i; dims = r.values i }; grid = r.first i; z = r.second i; row = r.third i; col = r.fourth i }

same_rank : (p : Policy) (u v : Use) → rank p u ≡ rank p v → u.meta ≡ v.meta
same_rank Lru u v is = let rest : fields u.meta ≡ fields v.meta = cc in same_fields u.meta v.meta rest
same_rank Lfu u v is = let rest : fields u.meta ≡ fields v.meta = cc in same_fields u.meta v.meta rest

tied : (r : Ordering) → is_lt r ≡ false → is_lt (ordering_reverse r) ≡ false → is_eq r ≡ true
tied Less h k = absurd (cc)
tied Equal h k = refl
tied Greater h k = absurd (cc)

-- two uses of which neither goes before the other are of one metatile
neither_before : (p : Policy) (u v : Use) → is_before p u v ≡ false → is_before p v u ≡ false → u.meta ≡ v.meta
neither_before p u v h k =
    let equal = tied (slice_cmp nat_cmp (rank p u) (rank p v)) h (ap is_lt (sym ((ranks_total p).antisymm v u)) ∙ k) in
    same_rank p u v (same_text (rank p u) (rank p v) (sym (texts_ties (rank p u) (rank p v) ∙ equal)))

-- WHAT IS FOUND

all_found : (P : Use → Type 0) (t : Use → Bool) (us : List Use) (w : Use) → AllByRecursion P us → find t us ≡ Some w → P w
all_found P t [] w all e = absurd (none_some e)
all_found P t (x ∷ xs) w all e = by (t x) e (λ f. all_found P t xs w all.1 f)
  where
    by : (b : Bool) → cond b (Some x) (find t xs) ≡ Some w → (find t xs ≡ Some w → P w) → P w
    by true f later = let same : x ≡ w = cc in subst P same all.0
    by false f later = later f

-- what is found among some of the uses is found by its own key
found_own : (q c : Use → Bool) (us : List Use) (w : Use) → AreApart us → find q (filter c us) ≡ Some w → find (is_of w.meta) us ≡ Some w
found_own q c [] w apart e = absurd (none_some e)
found_own q c (x ∷ xs) w apart e = by (c x) (q x) e (found_own q c xs w apart.1)
  where
    behind : find (is_of w.meta) xs ≡ Some w → (b : Bool) → same_meta x.meta w.meta ≡ b → cond b (Some x) (find (is_of w.meta) xs) ≡ Some w
    behind found true is = absurd (all_found (λ v. x.meta ≢ v.meta) (is_of w.meta) xs w apart.0 found (same_meta_is x.meta w.meta is))
    behind found false is = found

    later : (find q (filter c xs) ≡ Some w → find (is_of w.meta) xs ≡ Some w) → find q (filter c xs) ≡ Some w → find (is_of w.meta) (x ∷ xs) ≡ Some w
    later rest f = behind (rest f) (same_meta x.meta w.meta) refl

    by : (b d : Bool) → find q (cond b (x ∷ filter c xs) (filter c xs)) ≡ Some w → (find q (filter c xs) ≡ Some w → find (is_of w.meta) xs ≡ Some w) → find (is_of w.meta) (x ∷ xs) ≡ Some w
    by true d f rest = here (q x) f
      where
        here : (d : Bool) → cond d (Some x) (find q (filter c xs)) ≡ Some w → find (is_of w.meta) (x ∷ xs) ≡ Some w
        here true g = let same : x ≡ w = cc in ap (λ b. cond b (Some x) (find (is_of w.meta) xs)) (ap (λ (v : Use). same_meta v.meta w.meta) same ∙ same_meta_self w.meta) ∙ ap Some same
        here false g = later rest g
    by false d f rest = later rest f

-- a test that all of some uses pass is passed by one of them that is found among all
all_kept : (t c s : Use → Bool) (us : List Use) (u : Use) → list_all t (filter c us) ≡ true → find s us ≡ Some u → c u ≡ true → t u ≡ true
all_kept t c s [] u all e h = absurd (none_some e)
all_kept t c s (x ∷ xs) u all e h = by (c x) refl all (s x) e (λ k f. all_kept t c s xs u k f h)
  where
    by : (b : Bool) → c x ≡ b → list_all t (cond b (x ∷ filter c xs) (filter c xs)) ≡ true → (d : Bool) → cond d (Some x) (find s xs) ≡ Some u → (list_all t (filter c xs) ≡ true → find s xs ≡ Some u → t u ≡ true) → t u ≡ true
    by true is k true f rest = let same : x ≡ u = cc in ap t (sym same) ∙ (and_parts (t x) (list_all t (filter c xs)) k).0
    by true is k false f rest = rest (and_parts (t x) (list_all t (filter c xs)) k).1 f
    by false is k true f rest = let same : x ≡ u = cc in absurd (true≢false (sym h ∙ ap c (sym same) ∙ is))
    by false is k false f rest = rest k f

negated : (b : Bool) → not b ≡ true → b ≡ false
negated true e = absurd (cc)
negated false e = refl

-- THE VICTIM

-- the victim that a function of the metatiles tells of is that of the list
pub one_victim : (p : Policy) (scope : Scope) (us : List Use) (result : Option MetaKey) → AreApart us → IsVictim p scope (λ m. find (is_of m) us) result → result ≡ victim p scope us
one_victim p scope us None apart none = by (victim p scope us) refl
  where
    by : (r : Option MetaKey) → victim p scope us ≡ r → None ≡ r
    by None e = refl
    by (Some m) e =
        let nothing = none m (victim_in_scope p scope us m e) in
        let held = victim_held p scope us m e in
        absurd (true≢false (sym (subst IsSome nothing held)))
one_victim p scope us (Some m) apart is = by (leader (cmp_ranks p) (in_scope scope us)) refl
  where
    by : (l : Option Use) → leader (cmp_ranks p) (in_scope scope us) ≡ l → Some m ≡ option_map (λ (u : Use). u.meta) l
    by None e =
        let bare = leader_none (cmp_ranks p) (ranks_total p) (in_scope scope us) e in
        let own : is.0.meta ≡ m = same_meta_is is.0.meta m (find_passes (is_of m) us is.0 is.1.held) in
        let scoped : is_in scope is.0.meta.theme.layer ≡ true = ap (λ (k : MetaKey). is_in scope k.theme.layer) own ∙ is.1.scoped in
        absurd (true≢false (sym (all_kept (λ _. false) (λ u. is_in scope u.meta.theme.layer) (is_of m) us is.0 (ap (list_all (λ _. false)) bare) is.1.held scoped)))
    by (Some w) e =
        let counted = λ (u : Use). is_in scope u.meta.theme.layer in
        let own : is.0.meta ≡ m = same_meta_is is.0.meta m (find_passes (is_of m) us is.0 is.1.held) in
        let scoped : is_in scope is.0.meta.theme.layer ≡ true = ap (λ (k : MetaKey). is_in scope k.theme.layer) own ∙ is.1.scoped in
        let found = found_own (is_first p (in_scope scope us)) counted us w apart e in
        let w_scoped = find_among counted (is_first p (in_scope scope us)) (in_scope scope us) w e (all_filter counted us) in
        let after = is.1.before w.meta w found w_scoped in
        let leads = find_passes (is_first p (in_scope scope us)) (in_scope scope us) w e in
        let before = negated (is_before p is.0 w) (all_kept (λ v. not (is_before p v w)) counted (is_of m) us is.0 leads is.1.held scoped) in
        ap Some (sym own ∙ neither_before p is.0 w before after)

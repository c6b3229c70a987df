-- Members that are made of a pass and a source each.
use Rattle.std.proofs.Common.{◌≡◌, ◌∙◌, ℕ, Bool, true, List, [], ◌∷◌, ◌++◌, All, Option, Some, ap, sym, subst}
use Rattle.std.proofs.lemmas.List.{map-append}
use Rattle.std.proofs.lemmas.List.Elements.{All-nil, All-pop, All-push}
use Rattle.atomic_table.specs.Seated.{TableId}
use Rattle.cache_hall.specs.Turned.{HallPass, IsPassOf}
use Rattle.catalog.specs.declared.catalogue.Catalogue.{Catalogue}
use Rattle.source_render.specs.Renders.{GivenImage}
use Rattle.seed_jobs.specs.declared.runner.IdleMember.{IdleMember}
use Rattle.seed_jobs.specs.Idles.{Idle, MayJoin, all_idle, idle_of}

popped : {A : Type 0} (P : A → Type 0) (xs ys : List A) (a : A) → xs ≡ ys ++ a ∷ [] → All P xs → All P ys × P a
popped P xs ys a e all = All-pop P xs ys (Some a) e all

module _ {K S G : Type 0} (tells : S → Option ℕ) (faults : S → ℕ) (gave : S → List GivenImage) (table : TableId) (c : Catalogue) (told : Bool) where
  -- what holds of the passes and sources that are left, and of the members so far
  pub record AreOf (passes : List HallPass) (sources : List S) (members : List (IdleMember K S G)) : Type 0 where
    pub of_hall : All (IsPassOf table c) passes
    pub marks : All (λ (p : HallPass). p.told ≡ told) passes
    pub renders : All (λ (s : S). told ≡ true → tells s ≡ Some c.source) sources
    pub join : All (MayJoin table c) (all_idle tells faults gave members)

  pub one_paired : (passes passes' : List HallPass) (sources sources' : List S) (members members' : List (IdleMember K S G)) (m : IdleMember K S G) → passes ≡ passes' ++ m.pass ∷ [] → sources ≡ sources' ++ m.source ∷ [] → members' ≡ members ++ m ∷ []
      → AreOf passes sources members → AreOf passes' sources' members'
  one_paired passes passes' sources sources' members members' m passes_are sources_are members_are had =
      let of_hall = popped (IsPassOf table c) passes passes' m.pass passes_are had.of_hall in
      let marks = popped (λ (p : HallPass). p.told ≡ told) passes passes' m.pass passes_are had.marks in
      let renders = popped (λ (s : S). told ≡ true → tells s ≡ Some c.source) sources sources' m.source sources_are had.renders in
      record {
        of_hall = of_hall.0;
        marks = marks.0;
        renders = renders.0;
        join = subst (All (MayJoin table c)) (sym (ap (all_idle tells faults gave) members_are ∙ map-append (idle_of tells faults gave) members (m ∷ [])))
            (All-push (MayJoin table c) (all_idle tells faults gave members) (idle_of tells faults gave m) had.join (record { of_hall = of_hall.1; source = λ is. renders.1 (sym marks.1 ∙ is) }));
      }

  pub none_join : (members : List (IdleMember K S G)) → members ≡ [] → All (MayJoin table c) (all_idle tells faults gave members)
  none_join members none = subst (λ (ms : List (IdleMember K S G)). All (MayJoin table c) (all_idle tells faults gave ms)) (sym none) (All-nil (MayJoin table c))

-- MEMBERS WITH PASSES THAT ARE ALL ALIKE

module _ {K S G : Type 0} (tells : S → Option ℕ) (faults : S → ℕ) (gave : S → List GivenImage) (p : HallPass) where
  pub none_alike : (members : List (IdleMember K S G)) → members ≡ [] → All (λ (i : Idle). i.pass ≡ p) (all_idle tells faults gave members)
  none_alike members none = subst (λ (ms : List (IdleMember K S G)). All (λ (i : Idle). i.pass ≡ p) (all_idle tells faults gave ms)) (sym none) (All-nil (λ (i : Idle). i.pass ≡ p))

  pub one_alike : (passes passes' : List HallPass) (members members' : List (IdleMember K S G)) (m : IdleMember K S G) → passes ≡ passes' ++ m.pass ∷ [] → members' ≡ members ++ m ∷ []
      → All (λ (q : HallPass). q ≡ p) passes × All (λ (i : Idle). i.pass ≡ p) (all_idle tells faults gave members) → All (λ (q : HallPass). q ≡ p) passes' × All (λ (i : Idle). i.pass ≡ p) (all_idle tells faults gave members')
  one_alike passes passes' members members' m passes_are members_are had =
      let those = popped (λ (q : HallPass). q ≡ p) passes passes' m.pass passes_are had.0 in (
        those.0,
        subst (All (λ (i : Idle). i.pass ≡ p)) (sym (ap (all_idle tells faults gave) members_are ∙ map-append (idle_of tells faults gave) members (m ∷ [])))
            (All-push (λ (i : Idle). i.pass ≡ p) (all_idle tells faults gave members) (idle_of tells faults gave m) had.1 those.1),
      )

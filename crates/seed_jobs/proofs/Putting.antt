-- The passes of members, put to others from behind.
use Rattle.std.proofs.Common.{◌≡◌, ◌∙◌, ℕ, List, [], ◌∷◌, ◌++◌, Option, append_assoc, sym, ap}
use Rattle.std.proofs.lemmas.List.{map-append, reverse-append}
use Rattle.std.specs.Prelude.{reverse}
use Rattle.cache_hall.specs.Turned.{HallPass}
use Rattle.source_render.specs.Renders.{GivenImage}
use Rattle.seed_jobs.specs.declared.runner.IdleMember.{IdleMember}
use Rattle.seed_jobs.specs.Idles.{Idle, all_idle, idle_of, passes_of}

module _ {K S G : Type 0} (tells : S → Option ℕ) (faults : S → ℕ) (gave : S → List GivenImage) where
  abbrev behind : List (IdleMember K S G) → List HallPass
  behind idle = reverse (passes_of (all_idle tells faults gave idle))

  last_first : (idle : List (IdleMember K S G)) (m : IdleMember K S G) → behind (idle ++ m ∷ []) ≡ m.pass ∷ behind idle
  last_first idle m =
      ap reverse (ap passes_of (map-append (idle_of tells faults gave) idle (m ∷ [])) ∙ map-append (λ (i : Idle). i.pass) (all_idle tells faults gave idle) (idle_of tells faults gave m ∷ []))
      ∙ reverse-append (passes_of (all_idle tells faults gave idle)) (m.pass ∷ [])

  -- the last member's pass is put
  pub one_put : (passes passes' first : List HallPass) (idle left : List (IdleMember K S G)) (m : IdleMember K S G) → idle ≡ left ++ m ∷ [] → passes' ≡ passes ++ m.pass ∷ [] → passes ++ behind idle ≡ first → passes' ++ behind left ≡ first
  one_put passes passes' first idle left m idle_is passes_are had =
      ap (λ (ps : List HallPass). ps ++ behind left) passes_are ∙ append_assoc passes (m.pass ∷ []) (behind left) ∙ ap (λ (ps : List HallPass). passes ++ ps) (sym (ap behind idle_is ∙ last_first left m)) ∙ had

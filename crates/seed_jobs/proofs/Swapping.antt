-- Members that leave the end of one list and join the end of another.
use Rattle.std.proofs.Common.{◌≡◌, ◌∙◌, ◌+◌, ℕ, List, [], ◌∷◌, ◌++◌, map, reverse, length, Option, ap, sym, arith}
use Rattle.std.proofs.lemmas.List.{append-nil, append_assoc, length-append, length-map, length-reverse, map-append, reverse-append}
use Rattle.job_board.specs.Hands.{SheetHolding}
use Rattle.source_render.specs.Renders.{GivenImage}
use Rattle.seed_jobs.specs.Idles.{Idle, all_idle, idle_of, without_hand}
use Rattle.seed_jobs.specs.declared.runner.IdleMember.{IdleMember}
use Rattle.seed_jobs.specs.Crews.{hands_of}
use Rattle.seed_jobs.specs.Members.{worker_of, workers_of}
use Rattle.seed_jobs.specs.Workers.{JobWorker}
use Rattle.seed_jobs.specs.declared.member.Member.{Member}

moved : {A : Type 0} (rest xs : List A) (x : A) → (rest ++ x ∷ []) ++ reverse xs ≡ rest ++ reverse (xs ++ x ∷ [])
moved rest xs x = append_assoc rest (x ∷ []) (reverse xs) ∙ ap (λ ys. rest ++ ys) (sym (reverse-append xs (x ∷ [])))

module _ {K S G : Type 0} (tells : S → Option ℕ) (faults : S → ℕ) (gave : S → List GivenImage) where
  -- the members without their hands, the last one first
  abbrev pub back : List (Member K S G) → List Idle
  back crew = reverse (map without_hand (workers_of tells faults gave crew))

  back_more : (crew : List (Member K S G)) (m : Member K S G) → map without_hand (workers_of tells faults gave (crew ++ m ∷ [])) ≡ map without_hand (workers_of tells faults gave crew) ++ without_hand (worker_of tells faults gave m) ∷ []
  back_more crew m =
      ap (map without_hand) (map-append (worker_of tells faults gave) crew (m ∷ [])) ∙ map-append without_hand (workers_of tells faults gave crew) (worker_of tells faults gave m ∷ [])

  -- a member of a crew who is idle in its stead changes nothing of the whole
  pub swapped : (idle more : List (IdleMember K S G)) (crew less : List (Member K S G)) (i : IdleMember K S G) (m : Member K S G) → crew ≡ less ++ m ∷ [] → more ≡ idle ++ i ∷ [] → idle_of tells faults gave i ≡ without_hand (worker_of tells faults gave m)
      → all_idle tells faults gave more ++ back less ≡ all_idle tells faults gave idle ++ back crew
  swapped idle more crew less i m crew_is more_is same =
      ap (λ is. all_idle tells faults gave is ++ back less) more_is
      ∙ ap (λ is. is ++ back less) (map-append (idle_of tells faults gave) idle (i ∷ []))
      ∙ ap (λ j. (all_idle tells faults gave idle ++ j ∷ []) ++ back less) same
      ∙ moved (all_idle tells faults gave idle) (map without_hand (workers_of tells faults gave less)) (without_hand (worker_of tells faults gave m))
      ∙ ap (λ ws. all_idle tells faults gave idle ++ reverse ws) (sym (back_more less m))
      ∙ ap (λ ms. all_idle tells faults gave idle ++ back ms) (sym crew_is)

  -- the hands that are given out, and those that are left
  pub handed : (crew more : List (Member K S G)) (m : Member K S G) (rest left all : List SheetHolding) → more ≡ crew ++ m ∷ [] → rest ≡ m.hand ∷ left → hands_of (workers_of tells faults gave crew) ++ rest ≡ all
      → hands_of (workers_of tells faults gave more) ++ left ≡ all
  handed crew more m rest left all more_is rest_is whole =
      ap (λ ms. hands_of (workers_of tells faults gave ms) ++ left) more_is
      ∙ ap (λ ws. hands_of ws ++ left) (map-append (worker_of tells faults gave) crew (m ∷ []))
      ∙ ap (λ hs. hs ++ left) (map-append (λ (w : JobWorker). w.hand) (workers_of tells faults gave crew) (worker_of tells faults gave m ∷ []))
      ∙ append_assoc (hands_of (workers_of tells faults gave crew)) (m.hand ∷ []) left
      ∙ ap (λ hs. hands_of (workers_of tells faults gave crew) ++ hs) (sym rest_is)
      ∙ whole

  -- how many they are
  pub how_many : (idle less : List (IdleMember K S G)) (crew : List (Member K S G)) → all_idle tells faults gave idle ≡ all_idle tells faults gave less ++ back crew → length idle ≡ length less + length crew
  how_many idle less crew e =
      omega (arith, ap length e, length-map idle (idle_of tells faults gave), length-map less (idle_of tells faults gave), length-append (all_idle tells faults gave less) (back crew), length-reverse (map without_hand (workers_of tells faults gave crew)), length-map (workers_of tells faults gave crew) without_hand, length-map crew (worker_of tells faults gave))

  pub as_many_hands : (crew : List (Member K S G)) → length (hands_of (workers_of tells faults gave crew)) ≡ length crew
  as_many_hands crew = length-map (workers_of tells faults gave crew) (λ (w : JobWorker). w.hand) ∙ length-map crew (worker_of tells faults gave)

  -- at first no hand is given out, and all are idle
  pub none_handed : (crew : List (Member K S G)) (rest all : List SheetHolding) → crew ≡ [] → rest ≡ all → hands_of (workers_of tells faults gave crew) ++ rest ≡ all
  none_handed crew rest all none same = ap (λ ms. hands_of (workers_of tells faults gave ms) ++ rest) none ∙ same

  pub none_swapped : (idle : List (IdleMember K S G)) (crew : List (Member K S G)) → crew ≡ [] → all_idle tells faults gave idle ++ back crew ≡ all_idle tells faults gave idle
  none_swapped idle crew none = ap (λ ms. all_idle tells faults gave idle ++ back ms) none ∙ append-nil (all_idle tells faults gave idle)

  pub all_handed : (crew : List (Member K S G)) (rest all : List SheetHolding) → rest ≡ [] → hands_of (workers_of tells faults gave crew) ++ rest ≡ all → hands_of (workers_of tells faults gave crew) ≡ all
  all_handed crew rest all none whole = sym (append-nil (hands_of (workers_of tells faults gave crew))) ∙ ap (λ hs. hands_of (workers_of tells faults gave crew) ++ hs) (sym none) ∙ whole

  pub as_many : (before after : List (Member K S G)) → length (workers_of tells faults gave after) ≡ length (workers_of tells faults gave before) → length after ≡ length before
  as_many before after same = sym (length-map after (worker_of tells faults gave)) ∙ same ∙ length-map before (worker_of tells faults gave)

pub one_longer : {A : Type 0} (xs ys : List A) (a : A) → xs ≡ ys ++ a ∷ [] → length xs ≡ length ys + 1
one_longer xs ys a e = omega (arith, ap length e, length-append ys (a ∷ []))

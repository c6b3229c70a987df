-- Who may join a crew may work there, and may join the next one.
use Rattle.std.proofs.Common.{ℕ, zero, suc, ◌≡◌, ◌<◌, ◌∙◌, All, List, [], ◌∷◌, ◌++◌, length, map, reverse, get_or, replicate, slice_get, Some, refl, sym, ap, subst, arith}
use Rattle.std.proofs.lemmas.List.{get_or-map, length-map, reverse-append, reverse-reverse}
use Rattle.std.proofs.lemmas.List.Elements.{All-append, All-cons, All-head, All-nil, All-tail}
use Rattle.atomic_table.specs.Seated.{TableId}
use Rattle.cache_hall.specs.Turned.{HallPass}
use Rattle.catalog.specs.declared.catalogue.Catalogue.{Catalogue}
use Rattle.job_places.specs.declared.tally.Tally.{Tally}
use Rattle.job_board.specs.declared.standing.HandAccount.{HandAccount}
use Rattle.job_board.specs.Hands.{AreFresh, Sheet, SheetHolding, fresh_holding, own}
use Rattle.job_board.specs.Standings.{fresh}
use Rattle.job_forms.specs.declared.job.Job.{Job}
use Rattle.seed_jobs.specs.Crews.{HaveWorked, hands_of}
use Rattle.seed_jobs.specs.Workers.{JobWorker, MayWork}
use Rattle.seed_jobs.specs.Works.{Works}
use Rattle.seed_jobs.specs.Idles.{Idle, MayJoin, without_hand}

module _ {A : Type 0} (P : A → Type 0) where
  all_left : (xs ys : List A) → All P (xs ++ ys) → All P xs
  all_left [] ys h = All-nil P
  all_left (x ∷ xs) ys h = All-cons P x xs (All-head P x (xs ++ ys) h) (all_left xs ys (All-tail P x (xs ++ ys) h))

  all_right : (xs ys : List A) → All P (xs ++ ys) → All P ys
  all_right [] ys h = h
  all_right (x ∷ xs) ys h = all_right xs ys (All-tail P x (xs ++ ys) h)

  all_reversed : (xs : List A) → All P xs → All P (reverse xs)
  all_reversed [] h = All-nil P
  all_reversed (x ∷ xs) h =
      subst (All P) (sym (reverse-append (x ∷ []) xs)) (All-append P (reverse xs) (x ∷ []) (all_reversed xs (All-tail P x xs h)) (All-cons P x [] (All-head P x xs h) (All-nil P)))

  all_forward : (xs : List A) → All P (reverse xs) → All P xs
  all_forward xs h = subst (All P) (reverse-reverse xs) (all_reversed (reverse xs) h)

some_same : {X : Type 0} {a b : X} → Some a ≡ Some b → a ≡ b
some_same e = cc

fresh_in : (k n : ℕ) → get_or (replicate k fresh) n fresh ≡ fresh
fresh_in zero n = refl
fresh_in (suc k) zero = refl
fresh_in (suc k) (suc n) = fresh_in k n

hand_at : (ws : List JobWorker) (k : ℕ) (d : JobWorker) (h : SheetHolding) → k < length ws → slice_get (hands_of ws) k ≡ Some h → (get_or ws k d).hand ≡ h
hand_at [] k d h within e = absurd (omega (arith, within))
hand_at (w ∷ ws) zero d h within e = some_same e
hand_at (w ∷ ws) (suc k) d h within e = hand_at ws k d h (omega (arith, within)) e

module _ (table : TableId) (c : Catalogue) where
  -- a worker of a fresh hand whose pass and source are a member's
  may_work_with : (sheet : Sheet) (w : JobWorker) (k : ℕ) → w.hand ≡ fresh_holding sheet (Some k) → MayJoin table c (without_hand w) → MayWork table c sheet w
  may_work_with sheet w k is may =
      record {
        of_hall = may.of_hall;
        of_sheet = ap (λ (h : SheetHolding). h.sheet) is;
        may_claim = ((k, ap (λ (h : SheetHolding). h.number) is), ap (λ (h : SheetHolding). (own h).end) is ∙ ap (λ (a : HandAccount). a.end) (fresh_in sheet.hands k));
        source = may.source;
      }

  pub may_work : (sheet : Sheet) (ws : List JobWorker) → AreFresh sheet (hands_of ws) → All (MayJoin table c) (map without_hand ws) → All (MayWork table c sheet) ws
  may_work sheet ws new may k d within =
      let count = new.count in
      let lengths = length-map ws (λ (w : JobWorker). w.hand) in
      let idles = length-map ws without_hand in
      may_work_with sheet (get_or ws k d) k (hand_at ws k d _ within (new.each k (omega (arith, count, lengths, within))))
      (subst (MayJoin table c) (get_or-map without_hand ws k d (without_hand d) within) (may k (without_hand d) (omega (arith, idles, within))))

  module _ (job : Job) where
    may_join_after : (b a : JobWorker) (t : Tally) → Works c job b a t → MayJoin table c (without_hand b) → MayJoin table c (without_hand a)
    may_join_after b a t works may =
        let made = works.worked.made in
        record {
          of_hall = record {
            same_table = ap (λ (p : HallPass). p.table) made ∙ may.of_hall.same_table;
            charter = ap (λ (p : HallPass). p.charter) made ∙ may.of_hall.charter;
          };
          source = λ told. works.worked.same_source ∙ may.source (sym (ap (λ (p : HallPass). p.told) made) ∙ told);
        }

    all_after : (before after : List JobWorker) (ts : List Tally) → HaveWorked c job before after ts → All (MayJoin table c) (map without_hand before) → All (MayJoin table c) (map without_hand after)
    all_after before [] ts works may = All-nil (MayJoin table c)
    all_after [] (a ∷ after) ts works may = absurd works
    all_after (b ∷ before) (a ∷ after) [] works may = absurd works
    all_after (b ∷ before) (a ∷ after) (t ∷ ts) works may =
        All-cons (MayJoin table c) (without_hand a) (map without_hand after) (may_join_after b a t works.0 (All-head (MayJoin table c) (without_hand b) (map without_hand before) may))
        (all_after before after ts works.1 (All-tail (MayJoin table c) (without_hand b) (map without_hand before) may))

    pub same_count : (before after : List JobWorker) (ts : List Tally) → HaveWorked c job before after ts → length after ≡ length before
    same_count [] [] ts works = refl
    same_count [] (a ∷ after) ts works = absurd works
    same_count (b ∷ before) [] ts works = absurd works
    same_count (b ∷ before) (a ∷ after) [] works = absurd works
    same_count (b ∷ before) (a ∷ after) (t ∷ ts) works = ap suc (same_count before after ts works.1)

    -- all may join again after a crew of them has worked
    pub may_join_again : (before others after : List Idle) (crew crew_after : List JobWorker) (ts : List Tally) → before ≡ others ++ reverse (map without_hand crew) → after ≡ others ++ reverse (map without_hand crew_after)
        → HaveWorked c job crew crew_after ts → All (MayJoin table c) before → All (MayJoin table c) after
    may_join_again before others after crew crew_after ts were are works may =
        let P : Idle → Type 0 = MayJoin table c in
        let all = subst (All P) were may in
        let those = all_forward P (map without_hand crew) (all_right P others (reverse (map without_hand crew)) all) in
        subst (All P) (sym are) (All-append P others (reverse (map without_hand crew_after)) (all_left P others (reverse (map without_hand crew)) all) (all_reversed P (map without_hand crew_after) (all_after crew crew_after ts works those)))

  -- those who join a crew
  pub may_join_of : (before others : List Idle) (crew : List JobWorker) → before ≡ others ++ reverse (map without_hand crew) → All (MayJoin table c) before → All (MayJoin table c) (map without_hand crew)
  may_join_of before others crew were may =
      all_forward (MayJoin table c) (map without_hand crew) (all_right (MayJoin table c) others (reverse (map without_hand crew)) (subst (All (MayJoin table c)) were may))

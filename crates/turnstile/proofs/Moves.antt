-- Each kind of step keeps the rule of a turnstile, and tells what it tells.
use Rattle.std.proofs.Common.{◌≡◌, ◌∙◌, ℕ, ◌+◌, ◌-◌, ◌<◌, ◌==◌, ◌≢◌, ◌⊎◌, inl, inr, ⊎_elim, Bool, true, true≢false, List, [], ◌∷◌, ◌++◌, set, get_or, sym, refl, ap, subst, arith, length-set, get_or-set_same}
use Rattle.std.specs.Prelude.{Some}
use Rattle.std.proofs.lemmas.List.Elements.{All-append, All-contains, All-contains_itself, All-nil, All-weaker, Contains-append_cases, Contains-append_left, Contains-append_right}
use Rattle.std.specs.List.{Contains}
use mathlib.Core.Logic.{dite}
use mathlib.Core.Option.{none, some, some-injective}
use native.Mathlib.Decide.{ℕ_discrete}
use lib.ListN.{get_elem?}
use lib.Seq.{set-get_or}
use prog.Atomic.{either}
use Rattle.atomic_table.specs.Table.{State, Me, Step, step, Act, keeps, takes, gives, Valid, stepped, carried_after, Allows, Splits, Joins, opening, Final, Seen}
use Rattle.atomic_table.proofs.Lists.{set_here, set_else, set_again, exchanged}
use Rattle.truncation_list.specs.declared.book.FrontedBook.{FrontedBook}
use Rattle.truncation_list.specs.Books.{AnswersForFronted}
use Rattle.truncation_list.proofs.Answering.{fronted_itself, fronted_through}
use Rattle.turnstile.specs.declared.view.Known.{Known}
use Rattle.turnstile.specs.declared.view.Lodged.{Lodged}
use Rattle.turnstile.specs.declared.view.Made.{Made}
use Rattle.turnstile.specs.declared.view.Opening.{Opening}
use Rattle.turnstile.specs.declared.view.TurnStage.TheVariants.{Idle, Out}
use Rattle.turnstile.specs.declared.view.View.{View}
use Rattle.turnstile.specs.Line.{InLine, IsLine}
use Rattle.turnstile.specs.Views.{Slot, after_turn, first_view, hearing, known_after, known_from, newcomer, notes, one_less, parts_of, spent, turns_in}
use Rattle.turnstile.specs.Rule.{Agree, Fits, Holds, Kept, Stands, Tells}
use Rattle.turnstile.specs.Steps.{Found, Gathers, gave, learned, took}
use Rattle.turnstile.specs.Passes.{MayReturn}
use Rattle.turnstile.proofs.Seats.{at_one, each_set, inside, one_part, same_load, total_set, two_parts}
use Rattle.turnstile.proofs.Rules.{AllKnown, AllTold, holds_all, holds_set, joined_by, knows_heard, knows_own, other_stands, revised, still, tells_all, tells_its, tells_set}
use Rattle.turnstile.proofs.Notes.{back_of, front_of, notes_are_one, notes_left, notes_found}

module _ {C H N M R X : Type 0} (charter : C → H) (book : C → FrontedBook) (sound : C → Type 0) (shown : C → X) (note : M → R → X → X → N) (total : ℕ) where
  abbrev W : Type 0
  W = View C H N

  abbrev St : Type 0
  St = State (Slot C M R) W

  abbrev Seated : Type 0
  Seated = Me (Slot C M R) W

  abbrev Rule : St → Type 0
  Rule = Kept charter book sound total

  abbrev word : St → ℕ
  word s = get_or s.words 0 0

  -- STEPS THAT CHANGE NEITHER THE WORD NOR A SLOT

  unmoved : (s : St) (id : ℕ) (me : Seated) (w : W) → Rule record { words = s.words; homes = s.homes; views = set s.views id w } → Rule (stepped s 0 (word s) id me.1 w keeps)
  unmoved s id me w k = subst (λ (ws : List ℕ). Rule record { words = ws; homes = s.homes; views = set s.views id w }) (sym (set-get_or s.words 0 0)) k

  same : (s : St) → Rule s → (id : ℕ) (me : Seated) → get_elem? s.views id ≡ some me.0 → Rule (stepped s 0 (word s) id me.1 me.0 keeps)
  same s r id me at = unmoved s id me me.0 (subst (λ (vs : List W). Rule record { words = s.words; homes = s.homes; views = vs }) (sym (set_again s.views id me.0 at)) r)

  -- a seat that has the fit of its own may find the chest
  found_by : (now : C) (mark : Bool) (k : Known H) (l : Lodged C M R) → (mark ≡ true → sound now) → l.chest ≡ now → Fits charter book now mark k → Found charter sound book k l.chest
  found_by now mark k l s is p = record {
    charter_is = p.charter_is ∙ ap (λ (c : C). Some (charter c)) (sym is);
    is_sound = λ t. subst sound (sym is) (s (sym p.told_is ∙ t));
    answers = subst (λ (c : C). AnswersForFronted (book c) k.book) (sym is) p.answers;
  }

  -- TAKE

  abbrev Taken : St → ℕ → Seated → Step (Slot C M R) → ℕ → Type 0
  Taken s id me st z = (w : W) × (a : Act (Slot C M R)) × Valid s.homes me.1 a × Rule (stepped s 0 z id me.1 w a) × took charter sound book st me (word s) (w, carried_after me.1 a)

  -- the turn is taken where the chest is home, and else nothing changes
  takes_turn : (id : ℕ) (me : Seated) (st : Step (Slot C M R)) → me.0.live ≡ true → 0 < me.0.parts → Allows Rule 1 id me 0 (λ n. either (n == 0) 1 n) (took charter sound book st me)
  takes_turn id me st live some_part s r deep at range = exchanged (word s) 0 1 (Taken s id me st) hit miss
    where
      miss : word s ≢ 0 → Taken s id me st (word s)
      miss ne = (me.0, keeps, tt, same s r id me at, ((λ e. absurd (ne e)), (λ _. refl)))

      hit : word s ≡ 0 → Taken s id me st 1
      hit e =
          let h = r.home e in
          let l : Lodged C M R = h.0 in
          let w : W = record me.0 { stage = Out l.chest } in
          let one = r.one in
          let now_one : get_or (set s.words 0 1) 0 0 ≡ 1 = get_or-set_same s.words 0 1 0 (omega arith) in
          let old : (k : Known H) → Holds (set s.views id w) k → Holds s.views k = holds_set (Holds s.views) s.views id w (λ lw. (knows_own s.views id me.0 at lw, knows_heard s.views id me.0 at lw)) (λ _ k. k) in
          let old_turn : (m : Made N) → Tells (set s.views id w) m → Tells s.views m = tells_set (Tells s.views) s.views id w (tells_its s.views id me.0 at) (λ _ t. t) in (
            w,
            takes 0 (Some l),
            h.1,
            record {
              now = r.now;
              mark = r.mark;
              holder = id;
              one = length-set s.words 0 1 ∙ r.one;
              word = inr now_one;
              home = λ z. absurd (omega arith);
              out = λ _. (w, set_here s.views id w (inside s.views id me.0 at), ap Out h.2, some_part);
              turn = each_set (λ j (u : W). Stands r.now (get_or (set s.words 0 1) 0 0) id j u.stage) s.views id w (now_one, refl, h.2) (λ j u _ x. still r.now r.now (word s) (get_or (set s.words 0 1) 0 0) r.holder id j j e u.stage (r.turn j u x));
              is_sound = r.is_sound;
              fits = λ k x. r.fits k (old k x);
              agree = λ a b x y. r.agree a b (old a x) (old b y);
              past = λ m t. r.past m (old_turn m t);
              line = λ m n t u. r.line m n (old_turn m t) (old_turn n u);
              all = let t = total_set parts_of s.views id me.0 w at in let a = r.all in omega arith;
            },
            ((λ _. (l, refl, found_by r.now r.mark me.0.own l r.is_sound h.2 (r.fits me.0.own (knows_own s.views id me.0 at live)))), (λ ne. absurd (ne e))),
          )

  -- GIVE

  -- the view of a seat that found the chest c and leaves l
  abbrev leaving : W → C → Lodged C M R → W
  leaving v c l = after_turn v (book l.chest) (notes book shown note c l.chest l.asked.entries l.answered.entries)

  -- what is known after the turn: what the seat knows by then, or what some view knew
  abbrev New : W → Lodged C M R → List W → Known H → Type 0
  New v l vs k = (k ≡ known_after v.own (book l.chest)) ⊎ Holds vs k

  -- the chest comes home, and the view gains what the turn left
  gives_turn : (id : ℕ) (v : W) (c : C) (l : Lodged C M R) (st : Step (Slot C M R)) → v.live ≡ true → v.stage ≡ Out c → charter l.chest ≡ charter c → (v.own.told ≡ true → sound l.chest) → AnswersForFronted (book l.chest) (book c)
      → Allows Rule 1 id (v, (0, Some l) ∷ []) 0 (λ _. 0) (λ _. gave book shown note st (v, (0, Some l) ∷ []) 0)
  gives_turn id v c l st live out same_charter is_sound answers s r deep at range =
      let one = r.one in
      let now_zero : get_or (set s.words 0 0) 0 0 ≡ 0 = get_or-set_same s.words 0 0 0 (omega arith) in (
        leaving v c l,
        gives,
        tt,
        record {
          now = l.chest;
          mark = r.mark;
          holder = id;
          one = length-set s.words 0 0 ∙ r.one;
          word = inl now_zero;
          home = λ _. (l, set_here s.homes 0 (some (Some l)) (omega arith), refl);
          out = λ z. absurd (omega arith);
          turn = each_set (λ j (u : W). Stands l.chest (get_or (set s.words 0 0) 0 0) id j u.stage) s.views id (leaving v c l) tt (λ j u ne x. other_stands r.now l.chest (word s) (get_or (set s.words 0 0) 0 0) r.holder id j (λ e. ne (e ∙ sym mine.1)) u.stage (r.turn j u x));
          is_sound = λ t. is_sound (own.told_is ∙ t);
          fits = λ k x. fit k (old k x);
          agree = λ a b x y. agrees a b (old a x) (old b y);
          past = λ m t. was m (old_turn m t);
          line = λ m n t u. stand m n (old_turn m t) (old_turn n u);
          all = let t = total_set parts_of s.views id v (leaving v c l) at in let a = r.all in omega arith;
        },
        tells,
      )
    where
      mine : Stands r.now (word s) r.holder id (Out c)
      mine = subst (Stands r.now (word s) r.holder id) out (r.turn id v at)

      grows : AnswersForFronted (book l.chest) (book r.now)
      grows = subst (λ (z : C). AnswersForFronted (book l.chest) (book z)) mine.2 answers

      charters : charter l.chest ≡ charter r.now
      charters = same_charter ∙ ap charter mine.2

      own : Fits charter book r.now r.mark v.own
      own = r.fits v.own (knows_own s.views id v at live)

      old : (k : Known H) → Holds (set s.views id (leaving v c l)) k → New v l s.views k
      old = holds_set (New v l s.views) s.views id (leaving v c l) (λ _. (inl refl, inl refl)) (λ _ h. inr h)

      fit : (k : Known H) → New v l s.views k → Fits charter book l.chest r.mark k
      fit k (inl e) = subst (Fits charter book l.chest r.mark) (sym e) record { charter_is = own.charter_is ∙ ap (λ (h : H). Some h) (sym charters); told_is = own.told_is; answers = fronted_itself _ }
      fit k (inr h) = let p = r.fits k h in record { charter_is = p.charter_is ∙ ap (λ (h : H). Some h) (sym charters); told_is = p.told_is; answers = fronted_through _ _ _ grows p.answers }

      agrees : (a b : Known H) → New v l s.views a → New v l s.views b → Agree a.book b.book
      agrees a b (inl e) n = let p = fit b n in inl (subst (λ (k : FrontedBook). AnswersForFronted k b.book) (sym (ap (λ (k : Known H). k.book) e)) p.answers)
      agrees a b (inr h) (inl e) = let p = fit a (inr h) in inr (subst (λ (k : FrontedBook). AnswersForFronted k a.book) (sym (ap (λ (k : Known H). k.book) e)) p.answers)
      agrees a b (inr h) (inr h') = r.agree a b h h'

      -- the notes of this turn
      gained : List (Made N)
      gained = notes book shown note c l.chest l.asked.entries l.answered.entries

      NewTurn : Made N → Type 0
      NewTurn m = Contains gained m ⊎ Tells s.views m

      its : (m : Made N) → Contains (turns_in v) m → Tells s.views m
      its m among = record { at = id; view = v; there = at; live = live; among = among }

      mine_or_old : (m : Made N) → Contains ((v.made ++ gained) ++ v.gathered) m → NewTurn m
      mine_or_old m among = ⊎_elim
          (λ (made : Contains (v.made ++ gained) m). ⊎_elim (λ (old : Contains v.made m). inr (its m (Contains-append_left v.made v.gathered m old))) (λ (new : Contains gained m). inl new) (Contains-append_cases v.made gained m made))
          (λ (heard : Contains v.gathered m). inr (its m (Contains-append_right v.made v.gathered m heard)))
          (Contains-append_cases (v.made ++ gained) v.gathered m among)

      old_turn : (m : Made N) → Tells (set s.views id (leaving v c l)) m → NewTurn m
      old_turn = tells_set NewTurn s.views id (leaving v c l) (λ _. All-weaker (Contains (turns_in (leaving v c l))) NewTurn mine_or_old (turns_in (leaving v c l)) (All-contains_itself (turns_in (leaving v c l)))) (λ _ t. inr t)

      was : (m : Made N) → NewTurn m → AnswersForFronted (book l.chest) m.left
      was m (inl new) = let e : m.left ≡ book l.chest = All-contains (λ (n : Made N). n.left ≡ book l.chest) gained m (notes_left book shown note c l.chest l.asked.entries l.answered.entries) new in subst (AnswersForFronted (book l.chest)) (sym e) (fronted_itself _)
      was m (inr t) = fronted_through _ _ _ grows (r.past m t)

      -- what this turn found answers for all that earlier ones left
      follows : (m n : Made N) → Contains gained m → Tells s.views n → AnswersForFronted m.found n.left
      follows m n new t =
          let e : m.found ≡ book c = All-contains (λ (k : Made N). k.found ≡ book c) gained m (notes_found book shown note c l.chest l.asked.entries l.answered.entries) new in
          subst (λ (k : FrontedBook). AnswersForFronted k n.left) (sym (e ∙ ap book mine.2)) (r.past n t)

      stand : (m n : Made N) → NewTurn m → NewTurn n → InLine m n
      stand m n (inl new) (inl new') = inr (inr (notes_are_one book shown note c l.chest l.asked.entries l.answered.entries m n new new'))
      stand m n (inl new) (inr t) = inr (inl (follows m n new t))
      stand m n (inr t) (inl new) = inl (follows n m new t)
      stand m n (inr t) (inr t') = r.line m n t t'

      tells : gave book shown note st (v, (0, Some l) ∷ []) 0 (leaving v c l, [])
      tells c' l' o' m' =
          let e : c ≡ c' = cc in
          let e' : l ≡ l' = same_load l l' m' in
          λ i. (after_turn v (book (e' i).chest) (notes book shown note (e i) (e' i).chest (e' i).asked.entries (e' i).answered.entries), [])

  -- LOAD

  -- what was heard is taken in
  learns : (id : ℕ) (me : Seated) (st : Step (Slot C M R)) → me.0.live ≡ true → Allows Rule 1 id me 0 (λ n. n) (learned st me)
  learns id me st live s r deep at range = ⊎_elim
      (λ (p : AnswersForFronted me.0.own.book me.0.heard.book). with_known me.0.own has_mine record { one_charter = charters; one_mark = marks; is = refl; answers_mine = fronted_itself _; answers_theirs = p; which = inl refl })
      (λ (p : AnswersForFronted me.0.heard.book me.0.own.book). with_known me.0.heard has_theirs record { one_charter = charters; one_mark = marks; is = λ i. record { charter = charters i; told = marks i; book = me.0.heard.book }; answers_mine = p; answers_theirs = fronted_itself _; which = inr refl })
      (r.agree me.0.own me.0.heard has_mine has_theirs)
    where
      has_mine : Holds s.views me.0.own
      has_mine = knows_own s.views id me.0 at live

      has_theirs : Holds s.views me.0.heard
      has_theirs = knows_heard s.views id me.0 at live

      charters : me.0.heard.charter ≡ me.0.own.charter
      charters = let p = r.fits me.0.heard has_theirs in let q = r.fits me.0.own has_mine in p.charter_is ∙ sym q.charter_is

      marks : me.0.heard.told ≡ me.0.own.told
      marks = let p = r.fits me.0.heard has_theirs in let q = r.fits me.0.own has_mine in p.told_is ∙ sym q.told_is

      with_known : (k : Known H) → Holds s.views k → Gathers me.0.own me.0.heard k
          → (w : W) × (a : Act (Slot C M R)) × Valid s.homes me.1 a × Rule (stepped s 0 (word s) id me.1 w a) × learned st me (word s) (w, carried_after me.1 a)
      with_known k has gathers =
          let w : W = record me.0 { own = k; heard = k } in
          (w, keeps, tt, unmoved s id me w (revised charter book sound s total r total id me.0 w at refl (inr refl) (omega arith) (λ _. (has, has)) (tells_its s.views id me.0 at)), (k, refl, gathers))

  -- SPLIT

  -- a seat without the turn is cut in two that know what it knew
  splits : (id : ℕ) (v : W) (n m : ℕ) → v.stage ≡ Idle → n + m ≡ v.parts → Splits Rule id v (record v { parts = n }) (newcomer m v)
  splits id v n m idle parts s r at =
      let left : W = record v { parts = n } in
      let p = one_part parts_of s.views id v at in
      let a = r.all in
      let k = revised charter book sound s total r (total - m) id v left at refl (inl idle) (omega arith) (λ l. (knows_own s.views id v at l, knows_heard s.views id v at l)) (tells_its s.views id v at) in
      let here : get_elem? (set s.views id left) id ≡ some left = set_here s.views id left (inside s.views id v at) in
      let whole : (total - m) + m ≡ total = omega arith in
      subst (λ (t : ℕ). Kept charter book sound t record { words = s.words; homes = s.homes; views = set s.views id left ++ newcomer m v ∷ [] }) whole
      (joined_by charter book sound record { words = s.words; homes = s.homes; views = set s.views id left } (total - m) k (newcomer m v) refl (λ l. (knows_own (set s.views id left) id left here l, knows_own (set s.views id left) id left here l)) (λ _. All-nil (Tells (set s.views id left))))

  pub copies : (id : ℕ) (v : W) → v.stage ≡ Idle → Splits Rule id v v (newcomer 0 v)
  copies id v idle = splits id v v.parts 0 idle (omega arith)

  pub deals : (id : ℕ) (v : W) → v.stage ≡ Idle → 0 < v.parts → Splits Rule id v (one_less v) (newcomer 1 v)
  deals id v idle some_part = splits id v (v.parts - 1) 1 idle (omega arith)

  -- JOIN

  -- a seat hears what another one knows, and the other is spent
  pub hears_of : (id : ℕ) (v : W) (other : ℕ) (w : W) → v.live ≡ true → v.stage ≡ Idle → w.live ≡ true → w.stage ≡ Idle → Joins Rule id v other w (hearing v w) spent
  hears_of id v other w live idle live' idle' s r at apart there =
      let b : W = hearing v w in
      let theirs : get_elem? s.views other ≡ some w = sym (set_else s.views id other b apart) ∙ there in
      let first = revised charter book sound s total r (total + w.parts) id v b at refl (inl idle) (omega arith) (λ l. (knows_own s.views id v at l, knows_own s.views other w theirs live')) (λ l. All-append (Tells s.views) v.made (v.gathered ++ turns_in w) (front_of (Tells s.views) v.made v.gathered (tells_its s.views id v at l))
      (All-append (Tells s.views) v.gathered (turns_in w) (back_of (Tells s.views) v.made v.gathered (tells_its s.views id v at l)) (tells_its s.views other w theirs live'))) in
      revised charter book sound record { words = s.words; homes = s.homes; views = set s.views id b } (total + w.parts) first total other w spent there (sym idle') (inl idle') (omega arith) (λ l. absurd (true≢false (sym l))) (λ l. absurd (true≢false (sym l)))

  -- AS THE CALLS ASK FOR THEM: what a step tells does not read the step

  abbrev any_step : Step (Slot C M R)
  any_step = step 1 0 0 0 none

  pub takes_as : (slots id : ℕ) (me : Seated) → slots ≡ 1 → me.0.live ≡ true → 0 < me.0.parts → Allows Rule slots id me 0 (λ n. either (n == 0) 1 n) (took charter sound book any_step me)
  takes_as slots id me one live some_part = subst (λ (n : ℕ). Allows Rule n id me 0 (λ n. either (n == 0) 1 n) (took charter sound book any_step me)) (sym one) (takes_turn id me any_step live some_part)

  pub gives_as : (slots id : ℕ) (me : Seated) (v : W) (l : Lodged C M R) → slots ≡ 1 → me ≡ (v, (0, Some l) ∷ []) → v.live ≡ true → MayReturn charter sound book v l.chest → Allows Rule slots id me 0 (λ _. 0) (λ _. gave book shown note any_step me 0)
  gives_as slots id me v l one is live p = subst (λ (x : ℕ × Seated). Allows Rule x.0 id x.1 0 (λ _. 0) (λ _. gave book shown note any_step x.1 0)) (λ i. (sym one i, sym is i)) (gives_turn id v p.found l any_step live p.out p.charter_is p.is_sound p.answers)

  pub learns_as : (slots id : ℕ) (me : Seated) → slots ≡ 1 → me.0.live ≡ true → Allows Rule slots id me 0 (λ n. n) (learned any_step me)
  learns_as slots id me one live = subst (λ (n : ℕ). Allows Rule n id me 0 (λ n. n) (learned any_step me)) (sym one) (learns id me any_step live)

-- THE START AND THE END

module _ {C H N M R : Type 0} (charter : C → H) (book : C → FrontedBook) (sound : C → Type 0) where
  begins : (key : Opening C) (l : Lodged C M R) → l.chest ≡ key.start.chest → (key.start.told ≡ true → sound key.start.chest)
      → Kept {C = C} {H = H} charter book {N = N} {M = M} {R = R} sound key.passes (opening (0 ∷ []) (Some l ∷ []) (first_view charter book key))
  begins key l is told = record {
    now = key.start.chest;
    mark = key.start.told;
    holder = 0;
    one = refl;
    word = inl refl;
    home = λ _. (l, refl, is);
    out = λ z. absurd (omega arith);
    turn = λ j u e. subst (Stands key.start.chest 0 0 j) (ap (λ (z : View C H N). z.stage) (at_one (first_view charter book key) u j e).1) tt;
    is_sound = told;
    fits = λ k h. subst (Fits charter book key.start.chest key.start.told) (sym (alone k h)) record { charter_is = refl; told_is = refl; answers = fronted_itself _ };
    agree = λ a b h h'. inl (subst (λ (x : Known H × Known H). AnswersForFronted x.0.book x.1.book) (λ i. (sym (alone a h) i, sym (alone b h') i)) (fronted_itself _));
    past = λ m t. absurd (none m t);
    line = λ m n t u. absurd (none m t);
    all = omega arith;
  }
    where
      none : (m : Made N) → Tells {C = C} {H = H} (first_view charter book key ∷ []) m → ⊥
      none = tells_all (λ _. ⊥) (first_view charter book key ∷ []) (λ j u e. subst (AllTold (λ _. ⊥)) (at_one (first_view charter book key) u j e).1 (λ _. All-nil (λ _. ⊥)))

      alone : (k : Known H) → Holds {C = C} {N = N} (first_view charter book key ∷ []) k → k ≡ known_from charter book key.start.chest key.start.told
      alone = holds_all (λ k. k ≡ known_from charter book key.start.chest key.start.told) (first_view charter book key ∷ [])
          (λ j u e. subst (AllKnown (λ k. k ≡ known_from charter book key.start.chest key.start.told)) (at_one (first_view charter book key) u j e).1 (λ _. (refl, refl)))

  pub begins_as : (xs : List (Slot C M R)) (key : Opening C) (l : Lodged C M R) → xs ≡ Some l ∷ [] → key.start.chest ≡ l.chest → (key.start.told ≡ true → sound l.chest)
      → Kept {C = C} {H = H} charter book {N = N} {M = M} {R = R} sound key.passes (opening (0 ∷ []) xs (first_view charter book key))
  begins_as xs key l is same told = subst (λ (z : List (Slot C M R)). Kept {C = C} {H = H} charter book {N = N} {M = M} {R = R} sound key.passes (opening (0 ∷ []) z (first_view charter book key))) (sym is)
      (begins key l (sym same) (λ t. subst sound (sym same) (told t)))

  -- the table at the end, with a seat that has all parts
  pub closes : (total id : ℕ) (v : View C H N) (ws : List ℕ) (xs : List (Slot C M R)) → Final (Seen (Kept charter book sound total) id v) ws xs → v.live ≡ true → v.stage ≡ Idle → v.parts ≡ total
      → (l : Lodged C M R) × (get_elem? xs 0 ≡ some (Some l)) × Found charter sound book v.own l.chest × IsLine (turns_in v)
  closes total id v ws xs (s, seen, _, _, back) live idle all_parts = ⊎_elim (λ (z : get_or s.words 0 0 ≡ 0). home z) (λ (z : get_or s.words 0 0 ≡ 1). absurd (none_out z)) seen.0.word
    where
      its : (m : Made N) → Contains (turns_in v) m → Tells s.views m
      its m among = record { at = id; view = v; there = seen.1; live = live; among = among }

      home : get_or s.words 0 0 ≡ 0 → (l : Lodged C M R) × (get_elem? xs 0 ≡ some (Some l)) × Found charter sound book v.own l.chest × IsLine (turns_in v)
      home z =
          let r = seen.0 in
          let h = r.home z in
          let p = r.fits v.own (knows_own s.views id v seen.1 live) in (
            h.0,
            back 0 (Some h.0) h.1,
            record {
              charter_is = p.charter_is ∙ ap (λ (c : C). Some (charter c)) (sym h.2);
              is_sound = λ t. subst sound (sym h.2) (r.is_sound (sym p.told_is ∙ t));
              answers = subst (λ (c : C). AnswersForFronted (book c) v.own.book) (sym h.2) p.answers;
            },
            λ m n c d. r.line m n (its m c) (its n d),
          )

      none_out : get_or s.words 0 0 ≡ 1 → ⊥
      none_out z =
          let r = seen.0 in
          let o = r.out z in
          dite (ℕ_discrete r.holder id)
          (λ e. let same_v : o.0 ≡ v = some-injective o.0 v (sym o.1 ∙ (ap (get_elem? s.views) e ∙ seen.1)) in let st : o.0.stage ≡ v.stage = ap (λ (x : View C H N). x.stage) same_v in let bad : Out r.now ≡ Idle = sym o.2 ∙ (st ∙ idle) in absurd (cc))
          (λ ne. let two = two_parts parts_of s.views id r.holder v o.0 seen.1 o.1 ne in let a = r.all in let q = o.3 in omega arith)

-- a fact of what lies in a full slot
pub lodged_is : {L : Type 0} (P : L → Type 0) (l l' : L) → Some l ≡ Some l' → P l → P l'
lodged_is P l l' e p = let same : l ≡ l' = cc in subst P same p

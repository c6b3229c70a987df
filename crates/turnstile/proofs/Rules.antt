-- The rule of a turnstile, as views change.
use Rattle.std.proofs.Common.{◌≡◌, ◌∙◌, ℕ, ◌+◌, ◌<◌, ◌≢◌, ◌⊎◌, inl, inr, ⊎_elim, true, List, [], ◌∷◌, ◌++◌, set, get_or, sym, refl, ap, subst, arith}
use Rattle.std.proofs.lemmas.List.Elements.{All-contains, All-contains_itself, All-weaker}
use Rattle.std.specs.List.{All, Contains}
use mathlib.Core.Logic.{dite}
use mathlib.Core.Option.{some, some-injective}
use native.Mathlib.Decide.{ℕ_discrete}
use lib.ListN.{get_elem?}
use Rattle.atomic_table.specs.Table.{State}
use Rattle.atomic_table.proofs.Lists.{set_here, set_else, at_longer}
use Rattle.truncation_list.specs.declared.book.FrontedBook.{FrontedBook}
use Rattle.turnstile.specs.declared.view.Known.{Known}
use Rattle.turnstile.specs.declared.view.Made.{Made}
use Rattle.turnstile.specs.declared.view.TurnStage.{TurnStage}
use Rattle.turnstile.specs.declared.view.TurnStage.TheVariants.{Idle, Out}
use Rattle.turnstile.specs.declared.view.View.{View}
use Rattle.turnstile.specs.Views.{Slot, parts_of, turns_in}
use Rattle.turnstile.specs.Rule.{Holds, Kept, Stands, Tells}
use Rattle.turnstile.proofs.Seats.{each_set, each_snoc, inside, total_set, total_snoc}

-- WHO HAS THE TURN

-- a view that has no turn, since the chest is home, stands wherever the turn goes
pub still : {C : Type 0} (now now' : C) (word word' holder holder' j j' : ℕ) → word ≡ 0 → (st : TurnStage C) → Stands now word holder j st → Stands now' word' holder' j' st
still now now' word word' holder holder' j j' z Idle k = tt
still now now' word word' holder holder' j j' z (Out c) k = let w = k.0 in absurd (omega arith)

-- a view that is not the holder's stands wherever the turn goes
pub other_stands : {C : Type 0} (now now' : C) (word word' holder holder' j : ℕ) → j ≢ holder → (st : TurnStage C) → Stands now word holder j st → Stands now' word' holder' j st
other_stands now now' word word' holder holder' j ne Idle k = tt
other_stands now now' word word' holder holder' j ne (Out c) k = absurd (ne k.1)

-- WHAT IS KNOWN

module _ {C H N : Type 0} where
  -- all that this view knows, if it isn't spent, has the fact P
  abbrev pub AllKnown : (Known H → Type 0) → View C H N → Type 0
  AllKnown P v = v.live ≡ true → P v.own × P v.heard

  -- a view knows its own, and what it heard
  pub knows_own : (vs : List (View C H N)) (at : ℕ) (v : View C H N) → get_elem? vs at ≡ some v → v.live ≡ true → Holds vs v.own
  knows_own vs at v there live = record { at = at; view = v; there = there; live = live; is = inl refl }

  pub knows_heard : (vs : List (View C H N)) (at : ℕ) (v : View C H N) → get_elem? vs at ≡ some v → v.live ≡ true → Holds vs v.heard
  knows_heard vs at v there live = record { at = at; view = v; there = there; live = live; is = inr refl }

  -- what some view knows has the fact, where all that every view knows has it
  pub holds_all : (P : Known H → Type 0) (vs : List (View C H N)) → ((at : ℕ) (v : View C H N) → get_elem? vs at ≡ some v → AllKnown P v) → (k : Known H) → Holds vs k → P k
  holds_all P vs all k h =
      let p = all h.at h.view h.there h.live in
      ⊎_elim (λ (e : k ≡ h.view.own). subst P (sym e) p.0) (λ (e : k ≡ h.view.heard). subst P (sym e) p.1) h.is

  -- a view is replaced by one that knows only what has the fact
  pub holds_set : (P : Known H → Type 0) (vs : List (View C H N)) (id : ℕ) (w : View C H N) → AllKnown P w → ((k : Known H) → Holds vs k → P k) → (k : Known H) → Holds (set vs id w) k → P k
  holds_set P vs id w mine old = holds_all P (set vs id w)
      (each_set (λ (_ : ℕ) (v : View C H N). AllKnown P v) vs id w mine (λ at v _ there live. (old v.own (knows_own vs at v there live), old v.heard (knows_heard vs at v there live))))

  -- a view joins them that knows only what has the fact
  pub holds_snoc : (P : Known H → Type 0) (vs : List (View C H N)) (w : View C H N) → AllKnown P w → ((k : Known H) → Holds vs k → P k) → (k : Known H) → Holds (vs ++ w ∷ []) k → P k
  holds_snoc P vs w mine old = holds_all P (vs ++ w ∷ [])
      (each_snoc (λ (_ : ℕ) (v : View C H N). AllKnown P v) vs w (λ _. mine) (λ at v there live. (old v.own (knows_own vs at v there live), old v.heard (knows_heard vs at v there live))))

-- WHAT IS TOLD OF

module _ {C H N : Type 0} where
  -- all turns that this view tells of, if it isn't spent, have the fact P
  abbrev pub AllTold : (Made N → Type 0) → View C H N → Type 0
  AllTold P v = v.live ≡ true → All P (turns_in v)

  -- a view tells of its turns
  pub tells_its : (vs : List (View C H N)) (at : ℕ) (v : View C H N) → get_elem? vs at ≡ some v → v.live ≡ true → All (Tells vs) (turns_in v)
  tells_its vs at v there live = All-weaker (Contains (turns_in v)) (Tells vs) (λ m c. record { at = at; view = v; there = there; live = live; among = c }) (turns_in v) (All-contains_itself (turns_in v))

  -- a turn of which some view tells has the fact, where all turns of every view have it
  pub tells_all : (P : Made N → Type 0) (vs : List (View C H N)) → ((at : ℕ) (v : View C H N) → get_elem? vs at ≡ some v → AllTold P v) → (m : Made N) → Tells vs m → P m
  tells_all P vs all m t = All-contains P (turns_in t.view) m (all t.at t.view t.there t.live) t.among

  -- a view is replaced by one whose turns have the fact
  pub tells_set : (P : Made N → Type 0) (vs : List (View C H N)) (id : ℕ) (w : View C H N) → AllTold P w → ((m : Made N) → Tells vs m → P m) → (m : Made N) → Tells (set vs id w) m → P m
  tells_set P vs id w mine old = tells_all P (set vs id w)
      (each_set (λ (_ : ℕ) (v : View C H N). AllTold P v) vs id w mine (λ at v _ there live. All-weaker (Tells vs) P old (turns_in v) (tells_its vs at v there live)))

  -- a view joins them whose turns have the fact
  pub tells_snoc : (P : Made N → Type 0) (vs : List (View C H N)) (w : View C H N) → AllTold P w → ((m : Made N) → Tells vs m → P m) → (m : Made N) → Tells (vs ++ w ∷ []) m → P m
  tells_snoc P vs w mine old = tells_all P (vs ++ w ∷ [])
      (each_snoc (λ (_ : ℕ) (v : View C H N). AllTold P v) vs w (λ _. mine) (λ at v there live. All-weaker (Tells vs) P old (turns_in v) (tells_its vs at v there live)))

-- A VIEW CHANGES AND THE CHEST DOES NOT

module _ {C H N M R : Type 0} (charter : C → H) (book : C → FrontedBook) (sound : C → Type 0) where
  -- the seat's new view knows nothing that no view knew, tells of no turn of which none told, and has as much of the turn
  pub revised : (s : State (Slot C M R) (View C H N)) (total : ℕ) (r : Kept charter book sound total s) (total' id : ℕ) (v w : View C H N) → get_elem? s.views id ≡ some v → w.stage ≡ v.stage → (v.stage ≡ Idle) ⊎ (w.parts ≡ v.parts) → total' + v.parts ≡ total + w.parts
      → AllKnown (Holds s.views) w → AllTold (Tells s.views) w → Kept charter book sound total' record { words = s.words; homes = s.homes; views = set s.views id w }
  revised s total r total' id v w at st kind pa known told = record {
    now = r.now;
    mark = r.mark;
    holder = r.holder;
    one = r.one;
    word = r.word;
    home = r.home;
    out = λ is. let o = r.out is in dite (ℕ_discrete r.holder id)
        (λ e. let same_v : o.0 ≡ v = some-injective o.0 v (sym o.1 ∙ (ap (get_elem? s.views) e ∙ at)) in
        (w, subst (λ (k : ℕ). get_elem? (set s.views id w) k ≡ some w) (sym e) (set_here s.views id w (inside s.views id v at)), st ∙ (ap (λ (z : View C H N). z.stage) (sym same_v) ∙ o.2), has_part o.0 same_v o.2 o.3 kind))
        (λ ne. (o.0, set_else s.views id r.holder w ne ∙ o.1, o.2, o.3));
    turn = each_set (λ j (u : View C H N). Stands r.now (get_or s.words 0 0) r.holder j u.stage) s.views id w (subst (Stands r.now (get_or s.words 0 0) r.holder id) (sym st) (r.turn id v at)) (λ j u _ e. r.turn j u e);
    is_sound = r.is_sound;
    fits = λ k h. r.fits k (old k h);
    agree = λ a b h h'. r.agree a b (old a h) (old b h');
    past = λ m t. r.past m (old_turn m t);
    line = λ m n t u. r.line m n (old_turn m t) (old_turn n u);
    all = let t = total_set parts_of s.views id v w at in let a = r.all in omega arith;
  }
    where
      old : (k : Known H) → Holds (set s.views id w) k → Holds s.views k
      old = holds_set (Holds s.views) s.views id w known (λ _ h. h)

      old_turn : (m : Made N) → Tells (set s.views id w) m → Tells s.views m
      old_turn = tells_set (Tells s.views) s.views id w told (λ _ t. t)

      has_part : (o : View C H N) → o ≡ v → o.stage ≡ Out r.now → 0 < o.parts → (v.stage ≡ Idle) ⊎ (w.parts ≡ v.parts) → 0 < w.parts
      has_part o e out some_part (inl idle) = let h : o.stage ≡ v.stage = ap (λ (z : View C H N). z.stage) e in let bad : Out r.now ≡ Idle = sym out ∙ (h ∙ idle) in absurd (cc)
      has_part o e out some_part (inr same_parts) = let h : o.parts ≡ v.parts = ap (λ (z : View C H N). z.parts) e in omega arith

  -- a new view without the turn joins them that knows nothing new and tells of nothing new
  pub joined_by : (s : State (Slot C M R) (View C H N)) (total : ℕ) (r : Kept charter book sound total s) (w : View C H N) → w.stage ≡ Idle → AllKnown (Holds s.views) w → AllTold (Tells s.views) w
      → Kept charter book sound (total + w.parts) record { words = s.words; homes = s.homes; views = s.views ++ w ∷ [] }
  joined_by s total r w idle known told = record {
    now = r.now;
    mark = r.mark;
    holder = r.holder;
    one = r.one;
    word = r.word;
    home = r.home;
    out = λ is. let o = r.out is in (o.0, at_longer s.views (w ∷ []) r.holder o.0 o.1, o.2, o.3);
    turn = each_snoc (λ j (u : View C H N). Stands r.now (get_or s.words 0 0) r.holder j u.stage) s.views w (λ j. subst (Stands r.now (get_or s.words 0 0) r.holder j) (sym idle) tt) r.turn;
    is_sound = r.is_sound;
    fits = λ k h. r.fits k (old k h);
    agree = λ a b h h'. r.agree a b (old a h) (old b h');
    past = λ m t. r.past m (old_turn m t);
    line = λ m n t u. r.line m n (old_turn m t) (old_turn n u);
    all = let t = total_snoc parts_of s.views w in let a = r.all in omega arith;
  }
    where
      old : (k : Known H) → Holds (s.views ++ w ∷ []) k → Holds s.views k
      old = holds_snoc (Holds s.views) s.views w known (λ _ h. h)

      old_turn : (m : Made N) → Tells (s.views ++ w ∷ []) m → Tells s.views m
      old_turn = tells_snoc (Tells s.views) s.views w told (λ _ t. t)

-- The rule of a sheet, as views change and join the others.
use Rattle.std.proofs.Common.{◌≡◌, ◌∙◌, ◌≢◌, ℕ, zero, suc, ◌<◌, ◌⊎◌, inl, inr, ⊎_elim, true, List, [], ◌∷◌, ◌++◌, length, set, get_or, sym, refl, ap, subst}
use mathlib.Core.Option.{some, some-injective, some-ne-none}
use lib.ListN.{get_elem?}
use Rattle.atomic_table.specs.Table.{State, Me, keeps, Allows}
use Rattle.atomic_table.proofs.Lists.{at_set}
use Rattle.job_board.specs.declared.standing.SheetStanding.{SheetStanding}
use Rattle.job_board.specs.declared.view.SheetSize.{SheetSize}
use Rattle.job_board.specs.declared.view.SeatView.{SeatView}
use Rattle.job_board.specs.Standings.{IsSound, Later, account}
use Rattle.job_board.specs.Views.{Owns, seeing_now, words_of}
use Rattle.job_board.specs.Rule.{Fits, Kept}
use Rattle.job_board.specs.Steps.{Meets}
use Rattle.job_board.proofs.Accounts.{later_than, same_own, same_standing}

-- LISTS OF VIEWS

-- no two of the views answer for one number
abbrev pub Alone : List SeatView → Type 0
Alone views = (at at' : ℕ) (v v' : SeatView) (number : ℕ) → get_elem? views at ≡ some v → get_elem? views at' ≡ some v' → Owns v number → Owns v' number → at ≡ at'

-- the view at a place before it was replaced, where the new one answers for no more
was : (views : List SeatView) (id : ℕ) (v w : SeatView) → get_elem? views id ≡ some v → ((k : ℕ) → Owns w k → Owns v k) → (at : ℕ) (u : SeatView) → get_elem? (set views id w) at ≡ some u
    → (u' : SeatView) × (get_elem? views at ≡ some u') × ((k : ℕ) → Owns u k → Owns u' k)
was views id v w there less at u e = ⊎_elim
    (λ (t : (at ≡ id) × (w ≡ u)). (v, subst (λ (x : ℕ). get_elem? views x ≡ some v) (sym t.0) there, λ k o. less k (subst (λ (z : SeatView). Owns z k) (sym t.1) o)))
    (λ (t : (at ≢ id) × (get_elem? views at ≡ some u)). (u, t.1, λ k o. o))
    (at_set views id at w u e)

pub alone_set : (views : List SeatView) (id : ℕ) (v w : SeatView) → get_elem? views id ≡ some v → ((k : ℕ) → Owns w k → Owns v k) → Alone views → Alone (set views id w)
alone_set views id v w there less alone at at' u u' k e e' o o' =
    let p = was views id v w there less at u e in
    let q = was views id v w there less at' u' e' in
    alone at at' p.0 q.0 k p.1 q.1 (p.2 k o) (q.2 k o')

at_end : {A : Type 0} (l : List A) (a b : A) (j : ℕ) → get_elem? (l ++ a ∷ []) j ≡ some b → (get_elem? l j ≡ some b) ⊎ ((j ≡ length l) × (a ≡ b))
at_end [] a b zero e = inr (refl, some-injective a b e)
at_end [] a b (suc j) e = absurd (some-ne-none b (sym e))
at_end (x ∷ xs) a b zero e = inl e
at_end (x ∷ xs) a b (suc j) e = ⊎_elim (λ (t : get_elem? xs j ≡ some b). inl t) (λ (t : (j ≡ length xs) × (a ≡ b)). inr (ap suc t.0, t.1)) (at_end xs a b j e)

alone_longer : (views : List SeatView) (w : SeatView) → ((k at : ℕ) (u : SeatView) → get_elem? views at ≡ some u → Owns w k → Owns u k → ⊥) → Alone views → Alone (views ++ w ∷ [])
alone_longer views w apart alone at at' u u' k e e' o o' = ⊎_elim
    (λ (t : get_elem? views at ≡ some u). ⊎_elim
    (λ (t' : get_elem? views at' ≡ some u'). alone at at' u u' k t t' o o')
    (λ (t' : (at' ≡ length views) × (w ≡ u')). absurd (apart k at u t (subst (λ (z : SeatView). Owns z k) (sym t'.1) o') o))
    (at_end views w u' at' e'))
    (λ (t : (at ≡ length views) × (w ≡ u)). ⊎_elim
    (λ (t' : get_elem? views at' ≡ some u'). absurd (apart k at' u' t' (subst (λ (z : SeatView). Owns z k) (sym t.1) o) o'))
    (λ (t' : (at' ≡ length views) × (w ≡ u')). t.0 ∙ sym t'.0)
    (at_end views w u' at' e'))
    (at_end views w u at e)

-- THE RULE

module _ {S : Type 0} (size : SheetSize) where
  -- a view is replaced by one that fits the standing that is left, and the accounts of the numbers that it doesn't answer for are as they were
  unfoldable pub changed : (s : State S SeatView) (r : Kept size s) (id : ℕ) (v w : SeatView) → get_elem? s.views id ≡ some v → (left : SheetStanding) (words : List ℕ) → words ≡ words_of left → IsSound size.places size.hands left → Later r.now left
      → ((k : ℕ) → ¬ (Owns v k) → account left k ≡ account r.now k) → Fits size left w → ((k : ℕ) → Owns w k → Owns v k)
      → Kept size record { words = words; homes = s.homes; views = set s.views id w }
  changed s r id v w there left words is sound later others fits less = record {
    now = left;
    sound = sound;
    words = is;
    each = λ at u e. ⊎_elim
        (λ (t : (at ≡ id) × (w ≡ u)). subst (Fits size left) t.1 fits)
        (λ (t : (at ≢ id) × (get_elem? s.views at ≡ some u)).
        let f = r.each at u t.1 in
        record {
          size_is = f.size_is;
          saw = later_than u.seen r.now left f.saw later;
          heard = later_than u.heard r.now left f.heard later;
          owns = λ k o. let p = f.owns k o in (p.0, p.1 ∙ sym (others k (λ mine. t.0 (r.alone at id u v k t.1 there o mine))));
        })
        (at_set s.views id at w u e);
    alone = alone_set s.views id v w there less r.alone;
  }

  -- a view joins the others that fits, and answers for no number that one of them answers for
  pub joined : (s : State S SeatView) (r : Kept size s) (w : SeatView) → Fits size r.now w → ((k at : ℕ) (u : SeatView) → get_elem? s.views at ≡ some u → Owns w k → Owns u k → ⊥)
      → Kept size record { words = s.words; homes = s.homes; views = s.views ++ w ∷ [] }
  joined s r w fits apart = record {
    now = r.now;
    sound = r.sound;
    words = r.words;
    each = λ at u e. ⊎_elim (λ (t : get_elem? s.views at ≡ some u). r.each at u t) (λ (t : (at ≡ length s.views) × (w ≡ u)). subst (Fits size r.now) t.1 fits) (at_end s.views w u at e);
    alone = alone_longer s.views w apart r.alone;
  }

-- A STEP

-- what a seat may leave at a step that makes the word i f of what it was, and what it is told
pub record CanLeave {S : Type 0} (me : Me S SeatView) (now : SheetStanding) (i : ℕ) (f : ℕ → ℕ) (told : ℕ → Me S SeatView → Type 0) : Type 0 where
  pub left : SheetStanding
  pub sound : IsSound me.0.places me.0.hands left
  pub later : Later now left
  pub others : (k : ℕ) → ¬ (Owns me.0 k) → account left k ≡ account now k
  pub words : set (words_of now) i (f (get_or (words_of now) i 0)) ≡ words_of left
  pub tells : told (get_or (words_of now) i 0) (seeing_now me.0 left, me.1)

-- what the seat's own view knows at a step
pub record Knows (size : SheetSize) (v : SeatView) (now : SheetStanding) : Type 0 where
  pub places_is : v.places ≡ size.places
  pub hands_is : v.hands ≡ size.hands
  pub meets : Meets v now
  pub owns : (k : ℕ) → Owns v k → (k < v.hands) × (account v.seen k ≡ account now k)

pub allows : {S : Type 0} (size : SheetSize) (slots id : ℕ) (me : Me S SeatView) (i : ℕ) (f : ℕ → ℕ) (told : ℕ → Me S SeatView → Type 0) → me.0.live ≡ true
    → ((now : SheetStanding) → Knows size me.0 now → CanLeave me now i f told) → Allows (Kept size) slots id me i f told
allows {S} size slots id me i f told live can s r deep at range =
    let fits = r.each id me.0 at in
    let is = fits.size_is live in
    let knows : Knows size me.0 r.now = record {
      places_is = is.0;
      hands_is = is.1;
      meets = record {
        sound = subst (λ (x : ℕ × ℕ). IsSound x.0 x.1 r.now) (λ j. (sym is.0 j, sym is.1 j)) r.sound;
        later = fits.saw;
        heard = fits.heard;
        own_is = same_own me.0.number r.now me.0.seen (λ k e. sym (fits.owns k (inl e)).1);
      };
      owns = λ k o. let p = fits.owns k o in (subst (λ (x : ℕ). k < x) (sym is.1) p.0, p.1);
    } in
    let c = can r.now knows in
    let w : SeatView = seeing_now me.0 c.left in
    let words : set s.words i (f (get_or s.words i 0)) ≡ words_of c.left = ap (λ (ws : List ℕ). set ws i (f (get_or ws i 0))) r.words ∙ c.words in (
      w,
      keeps,
      tt,
      changed size s r id me.0 w at c.left (set s.words i (f (get_or s.words i 0))) words (subst (λ (x : ℕ × ℕ). IsSound x.0 x.1 c.left) (λ j. (is.0 j, is.1 j)) c.sound) c.later c.others
          record {
            size_is = fits.size_is;
            saw = same_standing c.left;
            heard = same_standing c.left;
            owns = λ k o. ((fits.owns k o).0, refl);
          }
          (λ k o. o),
      subst (λ (ws : List ℕ). told (get_or ws i 0) (w, me.1)) (sym r.words) c.tells,
    )

-- Seats are dealt out, noted and heard, and the table begins: each keeps the rule of a sheet.
use Rattle.std.proofs.Common.{◌≡◌, ◌∙◌, ◌≢◌, ℕ, zero, suc, ◌<◌, inl, inr, ⊎_elim, true≢false, [], ◌∷◌, Option, Some, None, length, set, sym, refl, subst, arith}
use mathlib.Core.Option.{some, some-injective, some-ne-none}
use lib.ListN.{get_elem?}
use Rattle.atomic_table.specs.Table.{Splits, Joins, opening}
use Rattle.atomic_table.proofs.Lists.{at_set, set_else}
use Rattle.job_board.specs.declared.standing.HandAccount.{HandAccount}
use Rattle.job_board.specs.declared.standing.SheetStanding.{SheetStanding}
use Rattle.job_board.specs.declared.view.SheetSize.{SheetSize}
use Rattle.job_board.specs.declared.view.SeatView.{SeatView}
use Rattle.job_board.specs.Standings.{vain}
use Rattle.job_board.specs.Hands.{fresh_standing}
use Rattle.job_board.specs.Views.{Owns, claim_word, done_word, dealer, dealt_to, hearing, note_of, one_less, spent}
use Rattle.job_board.specs.Rule.{Fits, Kept}
use Rattle.job_board.proofs.Accounts.{nothing_yet, same_standing}
use Rattle.job_board.proofs.Sound.{no_sum, nothing_sound}
use Rattle.job_board.proofs.Rules.{changed, joined}

none_some : (k : ℕ) → ◌≡◌ {A = Option ℕ} None (Some k) → ⊥
none_some k e = absurd (cc)

module _ {S : Type 0} (size : SheetSize) where
  -- A SEAT IS CUT IN TWO

  -- the two parts know what the seat knew, and answer for different numbers of those that it answered for
  cuts : (id : ℕ) (v left right : SeatView) → ((now : SheetStanding) → Fits size now v → Fits size now left × Fits size now right)
      → ((k : ℕ) → Owns left k → Owns v k) → ((k : ℕ) → Owns right k → Owns v k) → ((k : ℕ) → Owns left k → Owns right k → ⊥) → Splits (Kept {S = S} size) id v left right
  unfolding changed
  cuts id v left right fits less less' apart s r at =
      let f = fits r.now (r.each id v at) in
      let cut = changed size s r id v left at r.now s.words r.words r.sound (same_standing r.now) (λ k _. refl) f.0 less in
      joined size record { words = s.words; homes = s.homes; views = set s.views id left } cut right f.1
      (λ k at' u e mine theirs. ⊎_elim
      (λ (t : (at' ≡ id) × (left ≡ u)). apart k (subst (λ (z : SeatView). Owns z k) (sym t.1) theirs) mine)
      (λ (t : (at' ≢ id) × (get_elem? s.views at' ≡ some u)). t.0 (r.alone at' id u v k t.1 at theirs (less' k mine)))
      (at_set s.views id at' left u e))

  pub notes_of : (id : ℕ) (v : SeatView) → Splits (Kept {S = S} size) id v v (note_of v)
  notes_of id v = cuts id v v (note_of v)
      (λ now f. (f, record { size_is = f.size_is; saw = f.saw; heard = f.heard; owns = λ k o. absurd (nothing k o) }))
      (λ k o. o) (λ k o. absurd (nothing k o)) (λ k _ o. nothing k o)
    where
      nothing : (k : ℕ) → Owns (note_of v) k → ⊥
      nothing k (inl e) = none_some k e
      nothing k (inr (le, lt)) = absurd (omega arith)

  pub deals_of : (id : ℕ) (v : SeatView) → v.number ≡ None → v.dealt < v.hands → Splits (Kept {S = S} size) id v (one_less v) (dealt_to v)
  deals_of id v none some_left = cuts id v (one_less v) (dealt_to v)
      (λ now f. (
        record { size_is = f.size_is; saw = f.saw; heard = f.heard; owns = λ k o. f.owns k (left_less k o) },
        record { size_is = f.size_is; saw = f.saw; heard = f.heard; owns = λ k o. f.owns k (right_less k o) },
      ))
      left_less right_less apart
    where
      left_less : (k : ℕ) → Owns (one_less v) k → Owns v k
      left_less k (inl e) = inl e
      left_less k (inr (le, lt)) = inr (omega arith, lt)

      is_next : (k : ℕ) → Owns (dealt_to v) k → k ≡ v.dealt
      is_next k (inl e) = cc
      is_next k (inr (le, lt)) = absurd (omega arith)

      right_less : (k : ℕ) → Owns (dealt_to v) k → Owns v k
      right_less k o = let e = is_next k o in inr (omega arith, omega arith)

      apart : (k : ℕ) → Owns (one_less v) k → Owns (dealt_to v) k → ⊥
      apart k (inl e) o = none_some k (sym none ∙ e)
      apart k (inr (le, lt)) o = let e = is_next k o in absurd (omega arith)

  -- A SEAT HEARS A NOTE

  pub hears_of : (id : ℕ) (v : SeatView) (other : ℕ) (w : SeatView) → Joins (Kept {S = S} size) id v other w (hearing v w) spent
  unfolding changed
  hears_of id v other w s r at apart there =
      let b = hearing v w in
      let theirs : get_elem? s.views other ≡ some w = sym (set_else s.views id other b apart) ∙ there in
      let f = r.each id v at in
      let g = r.each other w theirs in
      let heard = changed size s r id v b at r.now s.words r.words r.sound (same_standing r.now) (λ k _. refl)
      record { size_is = f.size_is; saw = f.saw; heard = g.saw; owns = f.owns } (λ k o. o) in
      changed size record { words = s.words; homes = s.homes; views = set s.views id b } heard other w spent there r.now s.words r.words r.sound (same_standing r.now) (λ k _. refl)
      record { size_is = λ e. absurd (true≢false (sym e)); saw = nothing_yet 0 r.now (let s = r.sound in s.unkept); heard = nothing_yet 0 r.now (let s = r.sound in s.unkept); owns = λ k o. absurd (nothing k o) }
      (λ k o. absurd (nothing k o))
    where
      nothing : (k : ℕ) → Owns spent k → ⊥
      nothing k (inl e) = none_some k e
      nothing k (inr (le, lt)) = absurd (omega arith)

-- THE START

alone_at : (v : SeatView) (at : ℕ) (u : SeatView) → get_elem? (v ∷ []) at ≡ some u → (at ≡ 0) × (v ≡ u)
alone_at v zero u e = (refl, some-injective v u e)
alone_at v (suc at) u e = absurd (some-ne-none u (sym e))

begins_fitting : (size : SheetSize) → Fits size (fresh_standing size.hands) (dealer size 0)
begins_fitting size = record {
  size_is = λ _. (refl, refl);
  saw = same_standing (fresh_standing size.hands);
  heard = same_standing (fresh_standing size.hands);
  owns = λ k o. (below k o, refl);
}
  where
    below : (k : ℕ) → Owns (dealer size 0) k → k < size.hands
    below k (inl e) = absurd (none_some k e)
    below k (inr (le, lt)) = lt

pub begins : {S : Type 0} (size : SheetSize) → Kept {S = S} size (opening (0 ∷ 0 ∷ 0 ∷ []) [] (dealer size 0))
begins size = record {
  now = fresh_standing size.hands;
  sound = nothing_sound size.places size.hands;
  words =
      let a = no_sum size.hands (λ (a : HandAccount). length a.claimed) refl in
      let b = no_sum size.hands (λ (a : HandAccount). vain a.end) refl in
      let c = no_sum size.hands (λ (a : HandAccount). a.done) refl in
      let u = no_sum size.hands (λ (a : HandAccount). a.unkept) refl in
      let d = no_sum size.hands (λ (a : HandAccount). a.failed) refl in
      let w : 0 ≡ claim_word (fresh_standing size.hands) = omega arith in
      let x : 0 ≡ done_word (fresh_standing size.hands) = omega arith in
      λ i. w i ∷ x i ∷ sym d i ∷ [];
  each = λ at u e. subst (Fits size (fresh_standing size.hands)) (alone_at (dealer size 0) at u e).1 (begins_fitting size);
  alone = λ at at' u u' k e e' o o'. (alone_at (dealer size 0) at u e).0 ∙ sym (alone_at (dealer size 0) at' u' e').0;
}

-- Each kind of step keeps the rule of a sheet, and tells what it tells.
use Rattle.std.proofs.Common.{◌≡◌, ◌∙◌, ℕ, ◌+◌, ◌%◌, ◌^◌, ◌<◌, ◌≤◌, inl, Bool, true, false, if◌then◌else◌, nat_lt, not, T, ltb→lt, nltb→le, List, [], ◌∷◌, Option, Some, bit_or, length, set, get_or, sym, refl, ap, subst, arith, mod-eq_of_lt}
use Rattle.std.proofs.lemmas.List.{set-get_or}
use Rattle.atomic_table.specs.Table.{Me, Allows}
use Rattle.job_board.specs.declared.standing.HandAccount.{HandAccount}
use Rattle.job_board.specs.declared.standing.HandEnd.{HandEnd}
use Rattle.job_board.specs.declared.standing.HandEnd.TheVariants.{AllClaimed, Cancelled, Open}
use Rattle.job_board.specs.declared.standing.SheetStanding.{SheetStanding}
use Rattle.job_board.specs.declared.view.SheetSize.{SheetSize}
use Rattle.job_board.specs.declared.view.SeatView.{SeatView}
use Rattle.job_board.specs.Standings.{HasCause, IsSound, Later, LaterAccount, account, claimed_count, done_count, ending, failed_count, gaining, vain, vain_count, with_account}
use Rattle.job_board.specs.Hands.{change_own, own_of}
use Rattle.job_board.specs.SheetCalls.{one_done, one_failed, one_unkept}
use Rattle.job_board.specs.Views.{Owns, claim_word, done_word, hearing, words_of}
use Rattle.job_board.specs.Rule.{Kept}
use Rattle.job_board.specs.Steps.{CancelledBy, ClaimedBy, HasSeatNumber, HasUnreported, HeardBy, ReadBy, ReportedBy, claiming}
use Rattle.job_board.proofs.Accounts.{account_else, later_done, later_ending, later_failed, later_gaining, later_unkept, later_with, same_account, same_standing, sum_same, sum_with}
use Rattle.job_board.proofs.Sound.{cancels_soundly, count_gained, ends_soundly, gains_soundly, reports_done_soundly, reports_failed_soundly, reports_unkept_soundly}
use Rattle.job_board.proofs.Words.{count_small, failed_within, marked, one_done_fits, one_more_fits, one_unkept_fits}
use Rattle.job_board.proofs.Rules.{Knows, allows}

pub of_number : (o : Option ℕ) (k : ℕ) → o ≡ Some k → (s : SheetStanding) → own_of o s ≡ account s k
of_number o k e s = ap (λ (x : Option ℕ). own_of x s) e

-- words by their three parts
three : (a b c a' b' c' : ℕ) → a ≡ a' → b ≡ b' → c ≡ c' → ◌≡◌ {A = List ℕ} (a ∷ b ∷ c ∷ []) (a' ∷ b' ∷ c' ∷ [])
three a b c a' b' c' p q r = λ i. p i ∷ q i ∷ r i ∷ []

-- a standing that a seat may leave, but for what it is told
pub record Possible (v : SeatView) (now : SheetStanding) (i : ℕ) (f : ℕ → ℕ) (left : SheetStanding) : Type 0 where
  pub sound : IsSound v.places v.hands left
  pub later : Later now left
  pub others : (k : ℕ) → ¬ (Owns v k) → account left k ≡ account now k
  pub words : set (words_of now) i (f (get_or (words_of now) i 0)) ≡ words_of left

-- THE OWN ACCOUNT CHANGES

module _ (v : SeatView) (now : SheetStanding) (sound : IsSound v.places v.hands now) (k : ℕ) (number : v.number ≡ Some k) (h : k < v.hands) where
  inside : k < length now.accounts
  inside = let a = sound.all in omega arith

  changes : (a : HandAccount) (i : ℕ) (f : ℕ → ℕ) → IsSound v.places v.hands (with_account k a now) → LaterAccount (account now k) a
      → set (words_of now) i (f (get_or (words_of now) i 0)) ≡ words_of (with_account k a now) → Possible v now i f (with_account k a now)
  changes a i f sound' later words = record {
    sound = sound';
    later = later_with now k a inside later;
    others = λ j not_mine. account_else now k j a (λ e. not_mine (inl (number ∙ ap (λ (x : ℕ). Some x) (sym e))));
    words = words;
  }

  module _ (few : v.places ≤ 10000000) (some_hands : v.hands ≤ 63) (is_open : (account now k).end ≡ Open) where
    abbrev counted : ℕ → ℕ
    counted n = (n + 1) % 2 ^ 64

    one_more : (claim_word now + 1) % 2 ^ 64 ≡ claim_word now + 1
    one_more = one_more_fits v.places v.hands now sound few some_hands

    not_yet : vain (account now k).end ≡ 0
    not_yet = ap vain is_open

    -- a claim word that counts one more claim
    words_after : (a : HandAccount) → a.done ≡ (account now k).done → a.unkept ≡ (account now k).unkept → a.failed ≡ (account now k).failed
        → claimed_count (with_account k a now) + vain_count (with_account k a now) ≡ claimed_count now + vain_count now + 1
        → set (words_of now) 0 (counted (claim_word now)) ≡ words_of (with_account k a now)
    words_after a d u f c = three (counted (claim_word now)) (done_word now) (failed_count now) (claim_word (with_account k a now)) (done_word (with_account k a now)) (failed_count (with_account k a now))
        (one_more ∙ omega arith)
        (let x = sum_same (λ (b : HandAccount). b.done) now k a inside d in let y = sum_same (λ (b : HandAccount). b.unkept) now k a inside u in omega arith)
        (sym (sum_same (λ (b : HandAccount). b.failed) now k a inside f))

    ends : (end : HandEnd) → HasCause v.places now end → vain end ≡ 1 → Possible v now 0 counted (with_account k (ending end (account now k)) now)
    ends end cause one =
        let t = sum_with (λ (b : HandAccount). vain b.end) now k (ending end (account now k)) inside in
        let u = sum_same (λ (b : HandAccount). length b.claimed) now k (ending end (account now k)) inside refl in
        let z = not_yet in
        changes (ending end (account now k)) 0 counted (ends_soundly v.places v.hands now sound k h end cause) (later_ending end (account now k) is_open)
        (words_after (ending end (account now k)) refl refl refl (omega arith))

    gains : claimed_count now < v.places → Possible v now 0 counted (with_account k (gaining (claimed_count now) (account now k)) now)
    gains room =
        let t = count_gained v.places v.hands now sound k h room in
        let u = sum_same (λ (b : HandAccount). vain b.end) now k (gaining (claimed_count now) (account now k)) inside refl in
        changes (gaining (claimed_count now) (account now k)) 0 counted (gains_soundly v.places v.hands now sound k h room) (later_gaining (claimed_count now) (account now k) is_open)
        (words_after (gaining (claimed_count now) (account now k)) refl refl refl (omega arith))

    claims_by : (b c : Bool) → now.cancelled ≡ b → nat_lt (claimed_count now) v.places ≡ c
        → Possible v now 0 counted (with_account k (if b then ending Cancelled (account now k) else if c then gaining (claimed_count now) (account now k) else ending AllClaimed (account now k)) now)
    claims_by true c e e' = ends Cancelled e refl
    claims_by false true e e' = gains (ltb→lt (claimed_count now) v.places (subst T (sym e') tt))
    claims_by false false e e' = ends AllClaimed (let w = sound.within in let o = nltb→le (claimed_count now) v.places (subst (λ (b : Bool). T (not b)) (sym e') tt) in omega arith) refl

    pub claims : Possible v now 0 counted (with_account k (claiming v.places now (account now k)) now)
    claims = claims_by now.cancelled (nat_lt (claimed_count now) v.places) refl refl

  -- a report: the word counts one more
  module _ (few : v.places ≤ 10000000) (some_left : (account now k).done + (account now k).failed < length (account now k).claimed) where
    pub reports_done : Possible v now 1 (λ n. (n + 1) % 2 ^ 64) (with_account k (one_done (account now k)) now)
    reports_done =
        let a = one_done (account now k) in
        let t = sum_with (λ (b : HandAccount). b.done) now k a inside in
        let u = sum_with (λ (b : HandAccount). b.unkept) now k a inside in
        let one = one_done_fits v.places v.hands now sound few in
        let c = sum_same (λ (b : HandAccount). length b.claimed) now k a inside refl in
        let e = sum_same (λ (b : HandAccount). vain b.end) now k a inside refl in
        changes a 1 (λ n. (n + 1) % 2 ^ 64) (reports_done_soundly v.places v.hands now sound k h some_left) (later_done (account now k))
        (three (claim_word now) ((done_word now + 1) % 2 ^ 64) (failed_count now) (claim_word (with_account k a now)) (done_word (with_account k a now)) (failed_count (with_account k a now))
        (omega arith) (omega arith) (sym (sum_same (λ (b : HandAccount). b.failed) now k a inside refl)))

    pub reports_unkept : Possible v now 1 (λ n. (n + 4294967297) % 2 ^ 64) (with_account k (one_unkept (account now k)) now)
    reports_unkept =
        let a = one_unkept (account now k) in
        let t = sum_with (λ (b : HandAccount). b.done) now k a inside in
        let u = sum_with (λ (b : HandAccount). b.unkept) now k a inside in
        let one = one_unkept_fits v.places v.hands now sound few in
        let c = sum_same (λ (b : HandAccount). length b.claimed) now k a inside refl in
        let e = sum_same (λ (b : HandAccount). vain b.end) now k a inside refl in
        changes a 1 (λ n. (n + 4294967297) % 2 ^ 64) (reports_unkept_soundly v.places v.hands now sound k h some_left) (later_unkept (account now k))
        (three (claim_word now) ((done_word now + 4294967297) % 2 ^ 64) (failed_count now) (claim_word (with_account k a now)) (done_word (with_account k a now)) (failed_count (with_account k a now))
        (omega arith) (omega arith) (sym (sum_same (λ (b : HandAccount). b.failed) now k a inside refl)))

    pub reports_failed : Possible v now 2 (λ n. (n + 1) % 2 ^ 64) (with_account k (one_failed (account now k)) now)
    reports_failed =
        let a = one_failed (account now k) in
        let t = sum_with (λ (b : HandAccount). b.failed) now k a inside in
        let w = sound.within in
        let d = failed_within v.places v.hands now sound in
        let one : (failed_count now + 1) % 2 ^ 64 ≡ failed_count now + 1 = mod-eq_of_lt (omega arith) in
        let c = sum_same (λ (b : HandAccount). length b.claimed) now k a inside refl in
        let e = sum_same (λ (b : HandAccount). vain b.end) now k a inside refl in
        changes a 2 (λ n. (n + 1) % 2 ^ 64) (reports_failed_soundly v.places v.hands now sound k h some_left) (later_failed (account now k))
        (three (claim_word now) (done_word now) ((failed_count now + 1) % 2 ^ 64) (claim_word (with_account k a now)) (done_word (with_account k a now)) (failed_count (with_account k a now))
        (omega arith) (let x = sum_same (λ (b : HandAccount). b.done) now k a inside refl in let y = sum_same (λ (b : HandAccount). b.unkept) now k a inside refl in omega arith) (omega arith))

-- the same, by the number that the view has
by_number : (v : SeatView) (now : SheetStanding) (k : ℕ) → v.number ≡ Some k → (g : HandAccount → HandAccount) (i : ℕ) (f : ℕ → ℕ) → Possible v now i f (with_account k (g (account now k)) now) → Possible v now i f (change_own v.number g now)
by_number v now k e g i f p = subst (Possible v now i f) (sym (ap (λ (o : Option ℕ). change_own o g now) e)) p

-- THE STEPS AS THE CALLS ASK FOR THEM

module _ {S : Type 0} (size : SheetSize) (few : size.places ≤ 10000000) (some_hands : size.hands ≤ 63) (slots id : ℕ) (me : Me S SeatView) (live : me.0.live ≡ true) where
  -- the own account is as the seat has seen it
  own_now : (now : SheetStanding) → Knows size me.0 now → (n : HasSeatNumber me.0) → account now n.0 ≡ own_of me.0.number me.0.seen
  own_now now knows n = sym (knows.owns n.0 (inl n.1)).1 ∙ sym (of_number me.0.number n.0 n.1 me.0.seen)

  few_places : (now : SheetStanding) → Knows size me.0 now → me.0.places ≤ 10000000
  few_places now knows = let p = knows.places_is in omega arith

  pub claims_as : HasSeatNumber me.0 → (own_of me.0.number me.0.seen).end ≡ Open → Allows (Kept size) slots id me 0 (λ n. (n + 1) % 2 ^ 64) (ClaimedBy me)
  claims_as n is_open = allows size slots id me 0 (λ n. (n + 1) % 2 ^ 64) (ClaimedBy me) live (λ now knows.
      let is = knows.hands_is in
      let m = knows.meets in
      let p = by_number me.0 now n.0 n.1 (claiming me.0.places now) 0 (λ n. (n + 1) % 2 ^ 64)
      (claims me.0 now m.sound n.0 n.1 (knows.owns n.0 (inl n.1)).0 (few_places now knows) (omega arith) (ap (λ (a : HandAccount). a.end) (own_now now knows n) ∙ is_open)) in
      record {
        left = change_own me.0.number (claiming me.0.places now) now;
        sound = p.sound;
        later = p.later;
        others = p.others;
        words = p.words;
        tells = (now, refl, record { meets = m; sound = p.sound; is = refl });
      })

  pub reports_done_as : HasSeatNumber me.0 → HasUnreported me.0 → Allows (Kept size) slots id me 1 (λ n. (n + 1) % 2 ^ 64) (λ _ after. ReportedBy one_done me after)
  reports_done_as n unreported = allows size slots id me 1 (λ n. (n + 1) % 2 ^ 64) (λ _ after. ReportedBy one_done me after) live (λ now knows.
      let m = knows.meets in
      let p = by_number me.0 now n.0 n.1 one_done 1 (λ n. (n + 1) % 2 ^ 64)
      (reports_done me.0 now m.sound n.0 n.1 (knows.owns n.0 (inl n.1)).0 (few_places now knows) (subst (λ (a : HandAccount). a.done + a.failed < length a.claimed) (sym (own_now now knows n)) unreported)) in
      record {
        left = change_own me.0.number one_done now;
        sound = p.sound;
        later = p.later;
        others = p.others;
        words = p.words;
        tells = (now, record { meets = m; sound = p.sound; is = refl });
      })

  pub reports_unkept_as : HasSeatNumber me.0 → HasUnreported me.0 → Allows (Kept size) slots id me 1 (λ n. (n + 4294967297) % 2 ^ 64) (λ _ after. ReportedBy one_unkept me after)
  reports_unkept_as n unreported = allows size slots id me 1 (λ n. (n + 4294967297) % 2 ^ 64) (λ _ after. ReportedBy one_unkept me after) live (λ now knows.
      let m = knows.meets in
      let p = by_number me.0 now n.0 n.1 one_unkept 1 (λ n. (n + 4294967297) % 2 ^ 64)
      (reports_unkept me.0 now m.sound n.0 n.1 (knows.owns n.0 (inl n.1)).0 (few_places now knows) (subst (λ (a : HandAccount). a.done + a.failed < length a.claimed) (sym (own_now now knows n)) unreported)) in
      record {
        left = change_own me.0.number one_unkept now;
        sound = p.sound;
        later = p.later;
        others = p.others;
        words = p.words;
        tells = (now, record { meets = m; sound = p.sound; is = refl });
      })

  pub reports_failed_as : HasSeatNumber me.0 → HasUnreported me.0 → Allows (Kept size) slots id me 2 (λ n. (n + 1) % 2 ^ 64) (λ _ after. ReportedBy one_failed me after)
  reports_failed_as n unreported = allows size slots id me 2 (λ n. (n + 1) % 2 ^ 64) (λ _ after. ReportedBy one_failed me after) live (λ now knows.
      let m = knows.meets in
      let p = by_number me.0 now n.0 n.1 one_failed 2 (λ n. (n + 1) % 2 ^ 64)
      (reports_failed me.0 now m.sound n.0 n.1 (knows.owns n.0 (inl n.1)).0 (few_places now knows) (subst (λ (a : HandAccount). a.done + a.failed < length a.claimed) (sym (own_now now knows n)) unreported)) in
      record {
        left = change_own me.0.number one_failed now;
        sound = p.sound;
        later = p.later;
        others = p.others;
        words = p.words;
        tells = (now, record { meets = m; sound = p.sound; is = refl });
      })

  pub cancels_as : Allows (Kept size) slots id me 0 (λ n. bit_or n (2 ^ 63)) (λ _ after. CancelledBy me after)
  cancels_as = allows size slots id me 0 (λ n. bit_or n (2 ^ 63)) (λ _ after. CancelledBy me after) live (λ now knows.
      let m = knows.meets in
      let is = knows.hands_is in
      let c = count_small me.0.places me.0.hands now m.sound (few_places now knows) (omega arith) in
      let sound = cancels_soundly me.0.places me.0.hands now m.sound in
      record {
        left = record now { cancelled = true };
        sound = sound;
        later = record { accounts = λ j. same_account (account now j); cancelled = λ _. refl };
        others = λ k _. refl;
        words = three (bit_or (claim_word now) (2 ^ 63)) (done_word now) (failed_count now) (claimed_count now + vain_count now + 2 ^ 63) (done_word now) (failed_count now)
            (marked (claimed_count now + vain_count now) now.cancelled (omega arith)) refl refl;
        tells = (now, record { meets = m; sound = sound; is = refl });
      })

  -- a load of the word i
  pub reads_as : (i : ℕ) (word_of : SheetStanding → ℕ) → ((now : SheetStanding) → get_or (words_of now) i 0 ≡ word_of now) → Allows (Kept size) slots id me i (λ n. n) (ReadBy word_of me)
  reads_as i word_of is_word = allows size slots id me i (λ n. n) (ReadBy word_of me) live (λ now knows.
      let m = knows.meets in
      record {
        left = now;
        sound = m.sound;
        later = same_standing now;
        others = λ k _. refl;
        words = set-get_or (words_of now) i 0;
        tells = (now, is_word now, record { meets = m; sound = m.sound; is = refl });
      })

-- a seat heard another one, and then loaded a word
pub heard_by : {S : Type 0} (me heard other after : Me S SeatView) (word_of : SheetStanding → ℕ) (word : ℕ) → heard ≡ (hearing me.0 other.0, me.1) → ReadBy word_of heard word after → HeardBy me other after
heard_by {S} me heard other after word_of word is told =
    let t = subst (λ (m : Me S SeatView). ReadBy word_of m word after) is told in
    let l = t.2 in
    let m = l.meets in
    record { found = t.0; sound = m.sound; later = m.later; heard = m.heard; own_is = m.own_is; is = l.is }

-- What hands know after the calls.
use Rattle.std.proofs.Common.{◌≡◌, ◌∙◌, ℕ, ◌<◌, ◌≤◌, ◌^◌, Bool, true, false, true≢false, if◌then◌else◌, nat_lt, T, lt→ltb, ltb→lt, Contains, List, [], ◌∷◌, ◌++◌, Option, Some, None, get_or, length, sym, refl, ap, subst, arith}
use Rattle.std.proofs.lemmas.List.Elements.{Contains-push}
use Rattle.std.proofs.lemmas.List.Sums.{sum_by-le}
use Rattle.std.proofs.lemmas.List.{get_or_default}
use mathlib.Core.Logic.{dite}
use native.Mathlib.Decide.{dec_lt}
use Rattle.atomic_table.specs.Table.{Me}
use Rattle.atomic_table.specs.declared.shared.Seat.{Seat}
use Rattle.job_board.specs.declared.standing.HandAccount.{HandAccount}
use Rattle.job_board.specs.declared.standing.HandEnd.{HandEnd}
use Rattle.job_board.specs.declared.standing.HandEnd.TheVariants.{AllClaimed, Cancelled, Open}
use Rattle.job_board.specs.declared.standing.SheetStanding.{SheetStanding}
use Rattle.job_board.specs.declared.view.SeatView.{SeatView}
use Rattle.job_board.specs.Standings.{HasCause, IsSound, account, claimed_count, ending, fresh, gaining, times, vain, vain_count}
use Rattle.job_board.specs.Hands.{AreReports, MayReport, SheetHolding, change_own, own_of}
use Rattle.job_board.specs.SheetCalls.{Cancels, Claims, MayFind, MeetsNone, ReportsDone, ReportsFailed, ReportsUnkept, one_done, one_failed, one_unkept, seeing}
use Rattle.job_board.specs.Views.{claim_word, mark_of, seeing_now}
use Rattle.job_board.specs.Steps.{CancelledBy, ClaimedBy, HasSeatNumber, HasUnreported, Leaves, Meets, ReportedBy, claiming}
use Rattle.job_board.specs.Seats.{IsHand, holding_of}
use Rattle.job_board.proofs.Accounts.{account_here, one_of_sum}
use Rattle.job_board.proofs.Counting.{reports_after_done, reports_after_failed, reports_after_unkept, some_unreported, times_push, times_some}

-- THE OWN ACCOUNT

-- the own account after it was changed
pub own_changed : (o : Option ℕ) (g : HandAccount → HandAccount) (s : SheetStanding) → (n : ℕ) × (o ≡ Some n) → ((n : ℕ) → o ≡ Some n → n < length s.accounts) → own_of o (change_own o g s) ≡ g (own_of o s)
own_changed None g s (n, e) within = absurd (cc)
own_changed (Some k) g s n within = account_here s k (g (account s k)) (within k refl)

cancel_own : (o : Option ℕ) (s : SheetStanding) → own_of o (record s { cancelled = true }) ≡ own_of o s
cancel_own None s = refl
cancel_own (Some k) s = refl

-- reports stay what they are where an account only gains claims
reports_with : (a b : HandAccount) (done failed : List ℕ) → b.done ≡ a.done → b.failed ≡ a.failed → ((place : ℕ) → times place a.claimed ≤ times place b.claimed) → AreReports a done failed → AreReports b done failed
reports_with a b done failed d f more r = record {
  done_is = r.done_is ∙ sym d;
  failed_is = r.failed_is ∙ sym f;
  of_claimed = λ place. let m = more place in let c = r.of_claimed place in omega arith;
}

reports_claiming : (places : ℕ) (found : SheetStanding) (a : HandAccount) (done failed : List ℕ) → AreReports a done failed → AreReports (claiming places found a) done failed
reports_claiming places found a done failed r = by found.cancelled (nat_lt (claimed_count found) places)
  where
    by : (b c : Bool) → AreReports (if b then ending Cancelled a else if c then gaining (claimed_count found) a else ending AllClaimed a) done failed
    by true c = reports_with a (ending Cancelled a) done failed refl refl (λ place. omega arith) r
    by false true = reports_with a (gaining (claimed_count found) a) done failed refl refl (λ place. let t = times_push place (claimed_count found) a.claimed in omega arith) r
    by false false = reports_with a (ending AllClaimed a) done failed refl refl (λ place. omega arith) r

-- WHAT THE CLAIM WORD TELLS

module _ (places hands : ℕ) (s : SheetStanding) (sound : IsSound places hands s) where
  -- while the job runs and some place is left, no hand has met None
  pub no_vain : s.cancelled ≡ false → claimed_count s < places → vain_count s ≡ 0
  no_vain running room =
      let t = sum_by-le (λ (a : HandAccount). vain a.end) 0 s.accounts (λ k d lt. none (get_or s.accounts k d).end (causes k d lt)) in
      omega arith
    where
      none : (end : HandEnd) → HasCause places s end → vain end ≤ 0
      none Open c = omega arith
      none AllClaimed c = absurd (omega arith)
      none Cancelled c = absurd (true≢false (sym c ∙ running))

      causes : (k : ℕ) (d : HandAccount) → k < length s.accounts → HasCause places s (get_or s.accounts k d).end
      causes k d lt = subst (λ (a : HandAccount). HasCause places s a.end) (get_or_default s.accounts k fresh d lt) (sound.cause k)

  -- a word below the places tells that a place is gained, and any other one why None is met
  gains_below : places ≤ 10000000 → claim_word s < places → (s.cancelled ≡ false) × (claimed_count s < places) × (claim_word s ≡ claimed_count s)
  gains_below few below = by s.cancelled refl
    where
      by : (b : Bool) → s.cancelled ≡ b → (s.cancelled ≡ false) × (claimed_count s < places) × (claim_word s ≡ claimed_count s)
      by true e = let m : mark_of s.cancelled ≡ 2 ^ 63 = ap mark_of e in absurd (omega arith)
      by false e = let m : mark_of s.cancelled ≡ 0 = ap mark_of e in let room : claimed_count s < places = omega arith in let v = no_vain e room in (e, room, omega arith)

  none_above : places ≤ claim_word s → s.cancelled ≡ false → claimed_count s ≡ places
  none_above above running = dite (dec_lt (claimed_count s) places)
      (λ room. let m : mark_of s.cancelled ≡ 0 = ap mark_of running in let v = no_vain running room in absurd (omega arith))
      (λ full. let w = sound.within in omega arith)

pub yes_true : (b : Bool) → T b → b ≡ true
yes_true true t = refl
yes_true false t = absurd t

-- a claim that gains the next place, and one that meets None
gaining_is : (places : ℕ) (s : SheetStanding) → s.cancelled ≡ false → claimed_count s < places → claiming places s ≡ gaining (claimed_count s)
gaining_is places s running room =
    let c : nat_lt (claimed_count s) places ≡ true = yes_true (nat_lt (claimed_count s) places) (lt→ltb (claimed_count s) places room) in
    λ i a. if running i then ending Cancelled a else if c i then gaining (claimed_count s) a else ending AllClaimed a

pub no_true : (b : Bool) → (T b → ⊥) → b ≡ false
no_true true n = absurd (n tt)
no_true false n = refl

all_claimed_is : (places : ℕ) (s : SheetStanding) → s.cancelled ≡ false → claimed_count s ≡ places → claiming places s ≡ ending AllClaimed
all_claimed_is places s running full =
    let c : nat_lt (claimed_count s) places ≡ false = no_true (nat_lt (claimed_count s) places) (λ t. let l = ltb→lt (claimed_count s) places t in omega arith) in
    λ i a. if running i then ending Cancelled a else if c i then gaining (claimed_count s) a else ending AllClaimed a

cancelled_is : (places : ℕ) (s : SheetStanding) → s.cancelled ≡ true → claiming places s ≡ ending Cancelled
cancelled_is places s stopped = λ i a. if stopped i then ending Cancelled a else if nat_lt (claimed_count s) places then gaining (claimed_count s) a else ending AllClaimed a

-- SEATS AND HANDS

-- the number of a hand that is seen as h
pub number_of : {S : Type 0} (seat : Seat S SeatView) (done failed : List ℕ) (h : SheetHolding) → holding_of seat done failed ≡ h → (n : ℕ) × (h.number ≡ Some n) → HasSeatNumber seat.me.0
number_of seat done failed h is (n, e) = (n, ap (λ (x : SheetHolding). x.number) is ∙ e)

module _ {S : Type 0} where
  -- the hand of a seat that left this standing
  shows : (seat seat' : Seat S SeatView) (done failed done' failed' : List ℕ) (left : SheetStanding) → seat'.table_id ≡ seat.table_id → seat'.me ≡ (seeing_now seat.me.0 left, seat.me.1)
      → holding_of seat' done' failed' ≡ record (holding_of seat done failed) { seen = left; done = done'; failed = failed' }
  shows seat seat' done failed done' failed' left t e =
      λ i. record { sheet = record { table = t i; places = (e i).0.places; hands = (e i).0.hands }; number = (e i).0.number; seen = (e i).0.seen; done = done'; failed = failed' }

  may_find : (seat : Seat S SeatView) (done failed : List ℕ) (found : SheetStanding) → Meets seat.me.0 found → MayFind (holding_of seat done failed) found
  may_find seat done failed found m = record { sound = m.sound; later = m.later; own_is = m.own_is }

  -- the seat of a hand after it left this standing
  still_hand : (me after : Me S SeatView) (done failed done' failed' : List ℕ) (found left : SheetStanding) → IsHand me done failed → Leaves me found left after → AreReports (own_of me.0.number left) done' failed' → IsHand after done' failed'
  still_hand me after done failed done' failed' found left hand l reports = subst (λ (m : Me S SeatView). IsHand m done' failed') (sym l.is) record {
    live = hand.live;
    carries = hand.carries;
    dealt = hand.dealt;
    numbered = hand.numbered;
    sound = l.sound;
    reports = reports;
  }

  -- what it left is sound for the sheet
  sound_after : (me after : Me S SeatView) (found left : SheetStanding) → Leaves me found left after → IsSound me.0.places me.0.hands after.0.seen
  sound_after me after found left l = subst (λ (m : Me S SeatView). IsSound me.0.places me.0.hands m.0.seen) (sym l.is) l.sound

  -- the hand's own account, after it was changed from what the hand had left
  own_after : (me : Me S SeatView) (done failed : List ℕ) (found : SheetStanding) (g : HandAccount → HandAccount) → IsHand me done failed → Meets me.0 found → HasSeatNumber me.0 → own_of me.0.number (change_own me.0.number g found) ≡ g (own_of me.0.number me.0.seen)
  own_after me done failed found g hand m n =
      own_changed me.0.number g found n (λ k e. let w = hand.numbered k e in let a = m.sound in let l = a.all in omega arith) ∙ ap g m.own_is

  -- its own account then
  own_left : (me after : Me S SeatView) (done failed : List ℕ) (found : SheetStanding) (g : HandAccount → HandAccount) → IsHand me done failed → HasSeatNumber me.0 → Leaves me found (change_own me.0.number g found) after
      → own_of after.0.number after.0.seen ≡ g (own_of me.0.number me.0.seen)
  own_left me after done failed found g hand n l = ap (λ (m : Me S SeatView). own_of m.0.number m.0.seen) l.is ∙ own_after me done failed found g hand l.meets n

  -- CLAIMS

  module _ (seat seat' : Seat S SeatView) (done failed : List ℕ) (hand : IsHand seat.me done failed) (number : HasSeatNumber seat.me.0) (word : ℕ) (same : seat'.table_id ≡ seat.table_id) (claimed : ClaimedBy seat.me word seat'.me) where
    abbrev found : SheetStanding
    found = claimed.0

    abbrev places : ℕ
    places = seat.me.0.places

    pub claims_still : IsHand seat'.me done failed
    claims_still =
        let m = claimed.2.meets in
        still_hand seat.me seat'.me done failed done failed found (change_own seat.me.0.number (claiming places found) found) hand claimed.2
        (subst (λ (a : HandAccount). AreReports a done failed) (sym (own_after seat.me done failed found (claiming places found) hand m number))
        (reports_claiming places found (own_of seat.me.0.number seat.me.0.seen) done failed hand.reports))

    -- the hand shows what the claim did to its account
    shows_claim : (g : HandAccount → HandAccount) → claiming places found ≡ g → holding_of seat' done failed ≡ seeing (holding_of seat done failed) (change_own seat.me.0.number g found)
    shows_claim g e = shows seat seat' done failed done failed (change_own seat.me.0.number g found) same
        (claimed.2.is ∙ ap (λ (h : HandAccount → HandAccount). (seeing_now seat.me.0 (change_own seat.me.0.number h found), seat.me.1)) e)

    own_claim : (g : HandAccount → HandAccount) → claiming places found ≡ g → own_of seat'.me.0.number seat'.me.0.seen ≡ g (own_of seat.me.0.number seat.me.0.seen)
    own_claim g e = own_left seat.me seat'.me done failed found (claiming places found) hand number claimed.2 ∙ ap (λ (h : HandAccount → HandAccount). h (own_of seat.me.0.number seat.me.0.seen)) e

    -- the next place is none of its own, and so none that it has reported
    new_place : word ≡ claimed_count found → times word (own_of seat.me.0.number seat.me.0.seen).claimed ≡ 0
    new_place next =
        let m = claimed.2.meets in
        let k = number.0 in
        let o = m.sound.none_else word (omega arith) in
        let w = hand.numbered k number.1 in
        let all = m.sound.all in
        let t = one_of_sum (λ (a : HandAccount). times word a.claimed) found k (omega arith) in
        let e : times word (account found k).claimed ≡ times word (own_of seat.me.0.number seat.me.0.seen).claimed = ap (λ (a : HandAccount). times word a.claimed) (ap (λ (x : Option ℕ). own_of x found) (sym number.1) ∙ m.own_is) in
        omega arith

    may_report_it : own_of seat'.me.0.number seat'.me.0.seen ≡ gaining word (own_of seat.me.0.number seat.me.0.seen) → word ≡ claimed_count found → MayReport (holding_of seat' done failed) word
    may_report_it own_is next =
        let z = new_place next in
        let r = hand.reports.of_claimed word in
        record {
          claimed = subst (λ (a : HandAccount). Contains a.claimed word) (sym own_is) (Contains-push (own_of seat.me.0.number seat.me.0.seen).claimed word);
          not_done = λ c. let t = times_some done word c in absurd (omega arith);
          not_failed = λ c. let t = times_some failed word c in absurd (omega arith);
        }

    pub claims_place : places ≤ 10000000 → word < places → Claims (holding_of seat done failed) (holding_of seat' done failed) word
    claims_place few below =
        let w = claimed.1 in
        let m = claimed.2.meets in
        let g = gains_below places seat.me.0.hands found m.sound few (omega arith) in
        record {
          found = found;
          finds = may_find seat done failed found m;
          running = g.0;
          next = w ∙ g.2;
          within = below;
          is = shows_claim (gaining word) (gaining_is places found g.0 g.1 ∙ ap gaining (sym (w ∙ g.2)));
          own_is = own_claim (gaining word) (gaining_is places found g.0 g.1 ∙ ap gaining (sym (w ∙ g.2)));
          is_new = λ c. let z = new_place (w ∙ g.2) in let t = times_some (own_of seat.me.0.number seat.me.0.seen).claimed word c in absurd (omega arith);
          may_report = may_report_it (own_claim (gaining word) (gaining_is places found g.0 g.1 ∙ ap gaining (sym (w ∙ g.2)))) (w ∙ g.2);
          sound = sound_after seat.me seat'.me found (change_own seat.me.0.number (claiming places found) found) claimed.2;
        }

    pub meets_none : places ≤ word → MeetsNone (holding_of seat done failed) (holding_of seat' done failed)
    meets_none above = by found.cancelled refl
      where
        by : (b : Bool) → found.cancelled ≡ b → MeetsNone (holding_of seat done failed) (holding_of seat' done failed)
        by true e = record {
          found = found;
          finds = may_find seat done failed found claimed.2.meets;
          end = Cancelled;
          why = e;
          is = shows_claim (ending Cancelled) (cancelled_is places found e);
          own_is = own_claim (ending Cancelled) (cancelled_is places found e);
          sound = sound_after seat.me seat'.me found (change_own seat.me.0.number (claiming places found) found) claimed.2;
        }
        by false e =
            let w = claimed.1 in
            let m = claimed.2.meets in
            let full = none_above places seat.me.0.hands found m.sound (omega arith) e in
            record {
              found = found;
              finds = may_find seat done failed found m;
              end = AllClaimed;
              why = (e, full);
              is = shows_claim (ending AllClaimed) (all_claimed_is places found e full);
              own_is = own_claim (ending AllClaimed) (all_claimed_is places found e full);
              sound = sound_after seat.me seat'.me found (change_own seat.me.0.number (claiming places found) found) claimed.2;
            }

  -- REPORTS

  -- who may report a place is no watch, and has reported fewer places than it claimed
  pub reports_number : (seat : Seat S SeatView) (done failed : List ℕ) (place : ℕ) → MayReport (holding_of seat done failed) place → HasSeatNumber seat.me.0
  reports_number seat done failed place may = by seat.me.0.number refl
    where
      by : (o : Option ℕ) → seat.me.0.number ≡ o → HasSeatNumber seat.me.0
      by (Some k) e = (k, e)
      by None e = absurd (let c = subst (λ (x : Option ℕ). Contains (own_of x seat.me.0.seen).claimed place) e may.claimed in let l = c.1 in omega arith)

  pub reports_some : (seat : Seat S SeatView) (done failed : List ℕ) (place : ℕ) → IsHand seat.me done failed → MayReport (holding_of seat done failed) place → HasUnreported seat.me.0
  reports_some seat done failed place hand may = some_unreported (own_of seat.me.0.number seat.me.0.seen) done failed hand.reports place may.claimed may.not_done may.not_failed

  module _ (seat seat' : Seat S SeatView) (done failed : List ℕ) (hand : IsHand seat.me done failed) (same : seat'.table_id ≡ seat.table_id) (place : ℕ) (may : MayReport (holding_of seat done failed) place) where
    abbrev number : HasSeatNumber seat.me.0
    number = reports_number seat done failed place may

    reports_by : (g : HandAccount → HandAccount) (done' failed' : List ℕ) → ((a : HandAccount) → AreReports a done failed → a ≡ own_of seat.me.0.number seat.me.0.seen → AreReports (g a) done' failed') → (told : ReportedBy g seat.me seat'.me)
        → IsHand seat'.me done' failed'
    reports_by g done' failed' reports told =
        let m = told.1.meets in
        still_hand seat.me seat'.me done failed done' failed' told.0 (change_own seat.me.0.number g told.0) hand told.1
        (subst (λ (a : HandAccount). AreReports a done' failed') (sym (own_after seat.me done failed told.0 g hand m number)) (reports (own_of seat.me.0.number seat.me.0.seen) hand.reports refl))

    pub done_still : ReportedBy one_done seat.me seat'.me → IsHand seat'.me (done ++ place ∷ []) failed
    done_still = reports_by one_done (done ++ place ∷ []) failed (λ a r e. reports_after_done a done failed r place (subst (λ (b : HandAccount). Contains b.claimed place) (sym e) may.claimed) may.not_done may.not_failed)

    pub unkept_still : ReportedBy one_unkept seat.me seat'.me → IsHand seat'.me (done ++ place ∷ []) failed
    unkept_still = reports_by one_unkept (done ++ place ∷ []) failed (λ a r e. reports_after_unkept a done failed r place (subst (λ (b : HandAccount). Contains b.claimed place) (sym e) may.claimed) may.not_done may.not_failed)

    pub failed_still : ReportedBy one_failed seat.me seat'.me → IsHand seat'.me done (failed ++ place ∷ [])
    failed_still = reports_by one_failed done (failed ++ place ∷ []) (λ a r e. reports_after_failed a done failed r place (subst (λ (b : HandAccount). Contains b.claimed place) (sym e) may.claimed) may.not_done may.not_failed)

    pub reports_done_of : (told : ReportedBy one_done seat.me seat'.me) → ReportsDone (holding_of seat done failed) (holding_of seat' (done ++ place ∷ []) failed) place
    reports_done_of told = record {
      found = told.0;
      finds = may_find seat done failed told.0 told.1.meets;
      is = shows seat seat' done failed (done ++ place ∷ []) failed (change_own seat.me.0.number one_done told.0) same told.1.is;
      own_is = own_left seat.me seat'.me done failed told.0 one_done hand number told.1;
      sound = sound_after seat.me seat'.me told.0 (change_own seat.me.0.number one_done told.0) told.1;
    }

    pub reports_unkept_of : (told : ReportedBy one_unkept seat.me seat'.me) → ReportsUnkept (holding_of seat done failed) (holding_of seat' (done ++ place ∷ []) failed) place
    reports_unkept_of told = record {
      found = told.0;
      finds = may_find seat done failed told.0 told.1.meets;
      is = shows seat seat' done failed (done ++ place ∷ []) failed (change_own seat.me.0.number one_unkept told.0) same told.1.is;
      own_is = own_left seat.me seat'.me done failed told.0 one_unkept hand number told.1;
      sound = sound_after seat.me seat'.me told.0 (change_own seat.me.0.number one_unkept told.0) told.1;
    }

    pub reports_failed_of : (told : ReportedBy one_failed seat.me seat'.me) → ReportsFailed (holding_of seat done failed) (holding_of seat' done (failed ++ place ∷ [])) place
    reports_failed_of told = record {
      found = told.0;
      finds = may_find seat done failed told.0 told.1.meets;
      is = shows seat seat' done failed done (failed ++ place ∷ []) (change_own seat.me.0.number one_failed told.0) same told.1.is;
      own_is = own_left seat.me seat'.me done failed told.0 one_failed hand number told.1;
      sound = sound_after seat.me seat'.me told.0 (change_own seat.me.0.number one_failed told.0) told.1;
    }

  -- CANCELLING

  module _ (seat seat' : Seat S SeatView) (done failed : List ℕ) (hand : IsHand seat.me done failed) (same : seat'.table_id ≡ seat.table_id) (told : CancelledBy seat.me seat'.me) where
    pub cancels_still : IsHand seat'.me done failed
    cancels_still =
        let m = told.1.meets in
        still_hand seat.me seat'.me done failed done failed told.0 (record told.0 { cancelled = true }) hand told.1 (subst (λ (a : HandAccount). AreReports a done failed) (sym (cancel_own seat.me.0.number told.0 ∙ m.own_is)) hand.reports)

    pub cancels_of : Cancels (holding_of seat done failed) (holding_of seat' done failed)
    cancels_of = record {
      found = told.0;
      finds = may_find seat done failed told.0 told.1.meets;
      is = shows seat seat' done failed done failed (record told.0 { cancelled = true }) same told.1.is;
      own_is = let m = told.1.meets in ap (λ (x : Me S SeatView). own_of x.0.number x.0.seen) told.1.is ∙ (cancel_own seat.me.0.number told.0 ∙ m.own_is);
      sound = sound_after seat.me seat'.me told.0 (record told.0 { cancelled = true }) told.1;
    }

-- a hand has claimed no more places than there are
pub own_within : (places hands : ℕ) (s : SheetStanding) (o : Option ℕ) → IsSound places hands s → ((n : ℕ) → o ≡ Some n → n < hands) → length (own_of o s).claimed ≤ places
own_within places hands s None sound numbered = omega arith
own_within places hands s (Some k) sound numbered =
    let w = sound.within in
    let all = sound.all in
    let lt = numbered k refl in
    let t = one_of_sum (λ (a : HandAccount). length a.claimed) s k (omega arith) in
    omega arith

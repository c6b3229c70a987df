-- What progress tells, and what hands that were gathered know.
use Rattle.std.proofs.Common.{◌≡◌, ◌∙◌, ℕ, suc, ◌+◌, ◌*◌, ◌/◌, ◌%◌, ◌^◌, ◌<◌, ◌≤◌, min, leb, le→leb, leb→le, Bool, true, false, List, [], ◌∷◌, ◌++◌, get_or, length, sum_by, sym, refl, ap, subst, arith, length-append}
use Rattle.std.proofs.lemmas.List.Sums.{sum_by-cons}
use mathlib.Core.Logic.{dite}
use native.Mathlib.Decide.{dec_lt}
use Rattle.atomic_table.specs.Table.{Me}
use Rattle.atomic_table.specs.declared.shared.Seat.{Seat}
use Rattle.job_board.specs.declared.progress.Progress.{Progress}
use Rattle.job_board.specs.declared.standing.HandAccount.{HandAccount}
use Rattle.job_board.specs.declared.standing.SheetStanding.{SheetStanding}
use Rattle.job_board.specs.declared.view.SeatView.{SeatView}
use Rattle.job_board.specs.Standings.{IsSound, Later, account, claimed_count, done_count, failed_count, fresh, unkept_count, vain_count}
use Rattle.job_board.specs.Hands.{AreReports, SheetHolding, own_of}
use Rattle.job_board.specs.SheetCalls.{AddsUp, Cancels, Gathers, HasEnded, IsFinal, IsSettled, MayFind, StaysEnded, Tells, seeing}
use Rattle.job_board.specs.Views.{claim_word, done_word, mark_of, seeing_now}
use Rattle.job_board.specs.Steps.{HeardBy, ReadBy}
use Rattle.job_board.specs.Seats.{IsHand, holding_of}
use Rattle.job_board.proofs.Accounts.{later_than}
use Rattle.job_board.proofs.Words.{count_small, done_within, reported_within, unkept_within, vain_few}
use Rattle.job_board.proofs.Held.{no_true, no_vain, yes_true}

-- SUMS OVER TWO STANDINGS

-- of two lists of accounts, as long as each other, each term of the first is within that of the second
sum_within : (f g : HandAccount → ℕ) (xs ys : List HandAccount) → length xs ≡ length ys → ((k : ℕ) → k < length xs → f (get_or xs k fresh) ≤ g (get_or ys k fresh)) → sum_by f xs ≤ sum_by g ys
sum_within f g [] ys e each = omega arith
sum_within f g (x ∷ xs) [] e each = absurd (omega arith)
sum_within f g (x ∷ xs) (y ∷ ys) e each =
    let first : f x ≤ g y = each 0 (omega arith) in
    let others = sum_within f g xs ys (omega arith) (λ k lt. each (suc k) (omega arith)) in
    let a = sum_by-cons f x xs in
    let b = sum_by-cons g y ys in
    omega arith

sum_plus : (f g : HandAccount → ℕ) (xs : List HandAccount) → sum_by (λ a. f a + g a) xs ≡ sum_by f xs + sum_by g xs
sum_plus f g [] = refl
sum_plus f g (x ∷ xs) =
    let a = sum_by-cons (λ a. f a + g a) x xs in
    let b = sum_by-cons f x xs in
    let c = sum_by-cons g x xs in
    let d = sum_plus f g xs in
    omega arith

module _ (places hands : ℕ) (a b : SheetStanding) (as_many : length a.accounts ≡ hands) (sound : IsSound places hands b) (later : Later a b) where
  lengths : length a.accounts ≡ length b.accounts
  lengths = as_many ∙ sym sound.all

  pub more_done : done_count a ≤ done_count b
  more_done = sum_within (λ (x : HandAccount). x.done) (λ (x : HandAccount). x.done) a.accounts b.accounts lengths (λ k lt. let l = later.accounts k in l.done)

  pub more_unkept : unkept_count a ≤ unkept_count b
  more_unkept = sum_within (λ (x : HandAccount). x.unkept) (λ (x : HandAccount). x.unkept) a.accounts b.accounts lengths (λ k lt. let l = later.accounts k in l.unkept)

  pub more_failed : failed_count a ≤ failed_count b
  more_failed = sum_within (λ (x : HandAccount). x.failed) (λ (x : HandAccount). x.failed) a.accounts b.accounts lengths (λ k lt. let l = later.accounts k in l.failed)

  pub more_claimed : claimed_count a ≤ claimed_count b
  more_claimed = sum_within (λ (x : HandAccount). length x.claimed) (λ (x : HandAccount). length x.claimed) a.accounts b.accounts lengths
      (λ k lt. let l = later.accounts k in let m = l.claimed in let e : length (account b k).claimed ≡ length ((account a k).claimed ++ m.0) = ap length m.1 in let n = length-append (account a k).claimed m.0 in omega arith)

  -- where each hand of a has met None and reported all, nothing changes any more
  module _ (settled : IsSettled hands a) where
    no_more : (k : ℕ) → k < hands → ((account b k).done ≤ (account a k).done) × ((account b k).failed ≤ (account a k).failed) × ((account b k).unkept ≤ (account a k).unkept)
    no_more k lt =
        let l = later.accounts k in
        let s = settled k lt in
        let e : length (account b k).claimed ≡ length (account a k).claimed = ap length (l.ended s.0).0 in
        let r = sound.reported k in
        let d = l.done in
        let f = l.failed in
        let all = s.1 in
        let u = l.unkept_done in
        (omega arith, omega arith, omega arith)

    pub as_done : done_count b ≡ done_count a
    as_done =
        let up = more_done in
        let down = sum_within (λ (x : HandAccount). x.done) (λ (x : HandAccount). x.done) b.accounts a.accounts (sym lengths) (λ k lt. let s = sound.all in (no_more k (omega arith)).0) in
        omega arith

    pub as_failed : failed_count b ≡ failed_count a
    as_failed =
        let up = more_failed in
        let down = sum_within (λ (x : HandAccount). x.failed) (λ (x : HandAccount). x.failed) b.accounts a.accounts (sym lengths) (λ k lt. let s = sound.all in (no_more k (omega arith)).1) in
        omega arith

    pub as_unkept : unkept_count b ≡ unkept_count a
    as_unkept =
        let up = more_unkept in
        let down = sum_within (λ (x : HandAccount). x.unkept) (λ (x : HandAccount). x.unkept) b.accounts a.accounts (sym lengths) (λ k lt. let s = sound.all in (no_more k (omega arith)).2) in
        omega arith

    -- b is settled, too
    pub stays_settled : IsSettled hands b
    stays_settled k lt =
        let l = later.accounts k in
        let s = settled k lt in
        let ended = l.ended s.0 in
        let e : length (account b k).claimed ≡ length (account a k).claimed = ap length ended.0 in
        let r = sound.reported k in
        let d = l.done in
        let f = l.failed in
        let all = s.1 in
        (λ still. s.0 (sym ended.1 ∙ still), omega arith)

    pub all_reported : done_count a + failed_count a ≡ claimed_count a
    all_reported =
        let p = sum_plus (λ (x : HandAccount). x.done) (λ (x : HandAccount). x.failed) a.accounts in
        let up = sum_within (λ (x : HandAccount). x.done + x.failed) (λ (x : HandAccount). length x.claimed) a.accounts a.accounts refl (λ k lt. let s = (settled k (omega arith)).1 in omega arith) in
        let down = sum_within (λ (x : HandAccount). length x.claimed) (λ (x : HandAccount). x.done + x.failed) a.accounts a.accounts refl (λ k lt. let s = (settled k (omega arith)).1 in omega arith) in
        omega arith

  pub ended_still : StaysEnded hands a b
  ended_still d f u e =
      let settled = e.settled in
      record {
        settled = stays_settled settled;
        done_is = e.done_is ∙ sym (as_done settled);
        failed_is = e.failed_is ∙ sym (as_failed settled);
        unkept_is = e.unkept_is ∙ sym (as_unkept settled);
      }

-- a cancel changes no account
pub cancelled_still : (before after : SheetHolding) (n : ℕ) → before.sheet.hands ≡ n → length before.seen.accounts ≡ before.sheet.hands → Cancels before after → StaysEnded n before.seen after.seen
cancelled_still before after n hands_are as_many c =
    let left : SheetStanding = record c.found { cancelled = true } in
    let seen : after.seen ≡ left = ap (λ (h : SheetHolding). h.seen) c.is in
    let later = c.finds.later in
    let sound = subst (IsSound before.sheet.places before.sheet.hands) seen c.sound in
    subst (λ (k : ℕ). StaysEnded k before.seen after.seen) hands_are
    (subst (StaysEnded before.sheet.hands before.seen) (sym seen)
    (ended_still before.sheet.places before.sheet.hands before.seen left as_many sound (record { accounts = later.accounts; cancelled = λ _. refl })))

-- WHAT THREE LOOKS TELL

-- the standings that a hand found at three looks, at each of which it read one word
pub record Looks (before after : SheetHolding) (d f word : ℕ) : Type 0 where
  pub first : SheetStanding
  pub second : SheetStanding
  pub finds : MayFind before first
  pub then_finds : MayFind (seeing before first) second
  pub then_sees : MayFind (seeing before second) after.seen
  pub is : after ≡ seeing before after.seen
  pub own_is : own_of after.number after.seen ≡ own_of before.number before.seen
  pub done_is : d ≡ done_word first
  pub failed_is : f ≡ failed_count second
  pub word_is : word ≡ claim_word after.seen

-- the claim word apart: the count, and the mark
count_apart : (n : ℕ) (b : Bool) → n < 2 ^ 63 → (n + mark_of b) % 2 ^ 63 ≡ n
count_apart n true small = omega arith
count_apart n false small = omega arith

mark_apart : (n : ℕ) (b : Bool) → n < 2 ^ 63 → leb (2 ^ 63) (n + mark_of b) ≡ b
mark_apart n true small = yes_true (leb (2 ^ 63) (n + mark_of true)) (le→leb (2 ^ 63) (n + mark_of true) (omega arith))
mark_apart n false small = no_true (leb (2 ^ 63) (n + mark_of false)) (λ t. let l = leb→le (2 ^ 63) (n + mark_of false) t in omega arith)

-- the word of the places done apart: how many they are, and how many of them are not kept
done_apart : (n m : ℕ) → n < 2 ^ 32 → (n + 2 ^ 32 * m) % 2 ^ 32 ≡ n
done_apart n m small = omega arith

unkept_apart : (n m : ℕ) → n < 2 ^ 32 → (n + 2 ^ 32 * m) / 2 ^ 32 ≡ m
unkept_apart n m small = omega arith

pub tells : (before after : SheetHolding) (d f word : ℕ) (p : Progress) → before.sheet.places ≤ 10000000 → before.sheet.hands ≤ 63 → Looks before after d f word
    → p.places ≡ before.sheet.places → p.claimed ≡ min (word % 2 ^ 63) before.sheet.places → p.done ≡ d % 2 ^ 32 → p.unkept ≡ d / 2 ^ 32 → p.failed ≡ f → p.cancelled ≡ leb (2 ^ 63) word → Tells before after p
tells before after d f word p few some_hands l places claimed done unkept failed cancelled =
    let s = l.then_sees.sound in
    let c = count_small before.sheet.places before.sheet.hands after.seen s few some_hands in
    let n = claimed_count after.seen + vain_count after.seen in
    let at_first = l.finds.sound in
    let small = done_within before.sheet.places before.sheet.hands l.first at_first in
    record {
      first = l.first;
      second = l.second;
      finds = l.finds;
      then_finds = l.then_finds;
      then_sees = l.then_sees;
      is = l.is;
      own_is = l.own_is;
      places = places;
      done = done ∙ (ap (λ (x : ℕ). x % 2 ^ 32) l.done_is ∙ done_apart (done_count l.first) (unkept_count l.first) (omega arith));
      unkept = unkept ∙ (ap (λ (x : ℕ). x / 2 ^ 32) l.done_is ∙ unkept_apart (done_count l.first) (unkept_count l.first) (omega arith));
      failed = failed ∙ l.failed_is;
      claimed = claimed ∙ ap (λ (x : ℕ). min x before.sheet.places) (ap (λ (x : ℕ). x % 2 ^ 63) l.word_is ∙ count_apart n after.seen.cancelled (omega arith));
      cancelled = cancelled ∙ (ap (leb (2 ^ 63)) l.word_is ∙ mark_apart n after.seen.cancelled (omega arith));
    }

module _ (before after : SheetHolding) (p : Progress) (as_many : length before.seen.accounts ≡ before.sheet.hands) (t : Tells before after p) where
  abbrev places : ℕ
  places = before.sheet.places

  abbrev hands : ℕ
  hands = before.sheet.hands

  to_second : Later before.seen t.second
  to_second = later_than before.seen t.first t.second t.finds.later t.then_finds.later

  from_first : Later t.first after.seen
  from_first = later_than t.first t.second after.seen t.then_finds.later t.then_sees.later

  to_third : Later before.seen after.seen
  to_third = later_than before.seen t.first after.seen t.finds.later from_first

  pub adds_up : AddsUp before after p
  adds_up =
      let at_first = t.finds.sound in
      let at_second = t.then_finds.sound in
      let at_third = t.then_sees.sound in
      let d = t.done in
      let f = t.failed in
      let c = t.claimed in
      let w = at_third.within in
      let d0 = more_done places hands before.seen t.first as_many at_first t.finds.later in
      let d1 = more_done places hands t.first after.seen at_first.all at_third from_first in
      let f0 = more_failed places hands before.seen t.second as_many at_second to_second in
      let f1 = more_failed places hands t.second after.seen at_second.all at_third t.then_sees.later in
      let c0 = more_claimed places hands before.seen after.seen as_many at_third to_third in
      let r = reported_within places hands after.seen at_third in
      let e = t.places in
      let u = t.unkept in
      let u0 = more_unkept places hands before.seen t.first as_many at_first t.finds.later in
      let u1 = unkept_within places hands t.first at_first in
      record {
        reported = omega arith;
        claimed = omega arith;
        exact = λ running. dite (dec_lt (claimed_count after.seen) places)
            (λ room. let v = no_vain places hands after.seen at_third (sym t.cancelled ∙ running) room in omega arith)
            (λ full. omega arith);
        vain = (omega arith, vain_few places hands after.seen at_third);
        within = omega arith;
        at_least = (omega arith, omega arith, omega arith);
        at_most = (omega arith, omega arith);
        cancelled = λ e. t.cancelled ∙ to_third.cancelled e;
        unkept = (omega arith, omega arith);
      }

  pub final : IsSettled hands before.seen → IsFinal before.seen p
  final settled = record {
    done = t.done ∙ as_done places hands before.seen t.first as_many t.finds.sound t.finds.later settled;
    failed = t.failed ∙ as_failed places hands before.seen t.second as_many t.then_finds.sound to_second settled;
    unkept = t.unkept ∙ as_unkept places hands before.seen t.first as_many t.finds.sound t.finds.later settled;
    all =
        let d = as_done places hands before.seen t.first as_many t.finds.sound t.finds.later settled in
        let f = as_failed places hands before.seen t.second as_many t.then_finds.sound to_second settled in
        let a = all_reported places hands before.seen t.first as_many t.finds.sound t.finds.later settled in
        let x = t.done in
        let y = t.failed in
        omega arith;
  }

  pub told_still : (n : ℕ) → hands ≡ n → StaysEnded n before.seen after.seen
  told_still n hands_are = subst (λ (k : ℕ). StaysEnded k before.seen after.seen) hands_are (ended_still places hands before.seen after.seen as_many t.then_sees.sound to_third)

-- A HAND THAT LOOKS

module _ {S : Type 0} where
  -- what a hand that only looked sees: it is the same hand
  pub same_hand : (me after : Me S SeatView) (done failed : List ℕ) (left : SheetStanding) → IsHand me done failed → IsSound me.0.places me.0.hands left → own_of me.0.number left ≡ own_of me.0.number me.0.seen → after ≡ (seeing_now me.0 left, me.1) → IsHand after done failed
  same_hand me after done failed left hand sound same is = subst (λ (m : Me S SeatView). IsHand m done failed) (sym is) record {
    live = hand.live;
    carries = hand.carries;
    dealt = hand.dealt;
    numbered = hand.numbered;
    sound = sound;
    reports = subst (λ (a : HandAccount). AreReports a done failed) (sym same) hand.reports;
  }

  pub sees : (seat seat' : Seat S SeatView) (done failed : List ℕ) (left : SheetStanding) → seat'.table_id ≡ seat.table_id → seat'.me ≡ (seeing_now seat.me.0 left, seat.me.1) → holding_of seat' done failed ≡ seeing (holding_of seat done failed) left
  sees seat seat' done failed left t e =
      λ i. record { sheet = record { table = t i; places = (e i).0.places; hands = (e i).0.hands }; number = (e i).0.number; seen = (e i).0.seen; done = done; failed = failed }

  -- GATHERING

  module _ (seat seat' : Seat S SeatView) (done failed : List ℕ) (hand : IsHand seat.me done failed) (same : seat'.table_id ≡ seat.table_id) (other : Me S SeatView) (heard : HeardBy seat.me other seat'.me) where
    pub gathers_still : IsHand seat'.me done failed
    gathers_still = same_hand seat.me seat'.me done failed heard.found hand heard.sound heard.own_is heard.is

    pub gathers_of : (h : SheetHolding) → other.0.seen ≡ h.seen → Gathers (holding_of seat done failed) h (holding_of seat' done failed)
    gathers_of h e =
        let seen : heard.found ≡ seat'.me.0.seen = sym (ap (λ (m : Me S SeatView). m.0.seen) heard.is) in
        record {
          finds = subst (MayFind (holding_of seat done failed)) seen record { sound = heard.sound; later = heard.later; own_is = heard.own_is };
          heard = subst (Later h.seen) seen (subst (λ (s : SheetStanding). Later s heard.found) e heard.heard);
          is = sees seat seat' done failed heard.found same heard.is ∙ ap (seeing (holding_of seat done failed)) seen;
          own_is = ap (λ (m : Me S SeatView). own_of m.0.number m.0.seen) heard.is ∙ heard.own_is;
        }

  -- PROGRESS

  -- a hand that took three looks
  module _ (seat one two three : Seat S SeatView) (done failed : List ℕ) (hand : IsHand seat.me done failed) (d f word : ℕ)
      (first : ReadBy done_word seat.me d one.me) (second : ReadBy failed_count one.me f two.me) (third : ReadBy claim_word two.me word three.me) where
    after_first : one.me ≡ (seeing_now seat.me.0 first.0, seat.me.1)
    after_first = first.2.is

    read_second : ReadBy failed_count (seeing_now seat.me.0 first.0, seat.me.1) f two.me
    read_second = subst (λ (m : Me S SeatView). ReadBy failed_count m f two.me) after_first second

    read_third : ReadBy claim_word (seeing_now seat.me.0 read_second.0, seat.me.1) word three.me
    read_third = subst (λ (m : Me S SeatView). ReadBy claim_word m word three.me) read_second.2.is third

    abbrev own : SheetStanding → HandAccount
    own s = own_of seat.me.0.number s

    same_first : own first.0 ≡ own seat.me.0.seen
    same_first = let m = first.2.meets in m.own_is

    same_second : own read_second.0 ≡ own seat.me.0.seen
    same_second = let m = read_second.2.meets in m.own_is ∙ same_first

    same_third : own read_third.0 ≡ own seat.me.0.seen
    same_third = let m = read_third.2.meets in m.own_is ∙ same_second

    pub looks_still : IsHand three.me done failed
    looks_still = same_hand seat.me three.me done failed read_third.0 hand read_third.2.sound same_third read_third.2.is

    pub looks_of : one.table_id ≡ seat.table_id → two.table_id ≡ one.table_id → three.table_id ≡ two.table_id → Looks (holding_of seat done failed) (holding_of three done failed) d f word
    looks_of t t' t'' =
        let seen : read_third.0 ≡ three.me.0.seen = sym (ap (λ (m : Me S SeatView). m.0.seen) read_third.2.is) in
        let h = holding_of seat done failed in
        let a = first.2.meets in
        let b = read_second.2.meets in
        let e = read_third.2.meets in
        record {
          first = first.0;
          second = read_second.0;
          finds = record { sound = a.sound; later = a.later; own_is = a.own_is };
          then_finds = record { sound = b.sound; later = b.later; own_is = b.own_is };
          then_sees = subst (MayFind (seeing h read_second.0)) seen record { sound = e.sound; later = e.later; own_is = e.own_is };
          is = sees seat three done failed read_third.0 (t'' ∙ (t' ∙ t)) read_third.2.is ∙ ap (seeing h) seen;
          own_is = ap (λ (m : Me S SeatView). own_of m.0.number m.0.seen) read_third.2.is ∙ same_third;
          done_is = first.1;
          failed_is = read_second.1;
          word_is = read_third.1 ∙ ap claim_word seen;
        }

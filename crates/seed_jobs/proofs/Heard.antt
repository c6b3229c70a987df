-- Hands that are gathered, and what the one that gathered them knows.
use Rattle.std.proofs.Common.{ℕ, zero, suc, ◌≡◌, ◌≢◌, ◌+◌, ◌<◌, ◌≤◌, All, List, [], ◌∷◌, ◌++◌, length, get_or, slice_get, slice_set, Option, Some, None, refl, sym, ap, subst, ◌∙◌, append_assoc, arith}
use Rattle.std.specs.List.{AllWithin}
use Rattle.std.proofs.lemmas.List.Elements.{All-map, AllWithin-more}
use Rattle.job_board.specs.declared.standing.HandAccount.{HandAccount}
use Rattle.job_board.specs.declared.standing.HandEnd.TheVariants.{Open}
use Rattle.job_board.specs.declared.standing.SheetStanding.{SheetStanding}
use Rattle.job_board.specs.SheetCalls.{Gathers, HasEnded, ShareOut, claimed_by, done_by, failed_by, seeing, unkept_by}
use Rattle.job_board.specs.Hands.{HasGathered, Sheet, SheetHolding, own, own_of, watching}
use Rattle.job_board.specs.Standings.{IsSound, Later, LaterAccount, account}
use Rattle.job_board.proofs.Gathered.{all_places, sees_end, shares_out}
use Rattle.source_render.specs.Renders.{GivenImage}
use Rattle.seed_jobs.specs.declared.member.Member.{Member}
use Rattle.seed_jobs.specs.Crews.{AreShared, SeesEnd, hands_of}
use Rattle.seed_jobs.specs.Gathered.{AreAlike, AreAll, HasHeard, IsAlike}
use Rattle.seed_jobs.specs.Members.{worker_of, workers_of}
use Rattle.seed_jobs.specs.Workers.{JobWorker}

some_same : {X : Type 0} {a b : X} → Some a ≡ Some b → a ≡ b
some_same e = cc

option_apart : {X : Type 0} {a : X} → None ≡ Some a → ⊥
option_apart e = cc

-- LATER

append_nil : {X : Type 0} (xs : List X) → xs ++ [] ≡ xs
append_nil [] = refl
append_nil (x ∷ xs) = ap (λ ys. x ∷ ys) (append_nil xs)

account_itself : (a : HandAccount) → LaterAccount a a
account_itself a = record { claimed = ([], sym (append_nil a.claimed)); done = omega arith; unkept = omega arith; unkept_done = omega arith; failed = omega arith; ended = λ met. (refl, refl) }

account_through : (x y z : HandAccount) → LaterAccount x y → LaterAccount y z → LaterAccount x z
account_through x y z first then = record {
  claimed = (first.claimed.0 ++ then.claimed.0, then.claimed.1 ∙ ap (λ ps. ps ++ then.claimed.0) first.claimed.1 ∙ append_assoc x.claimed first.claimed.0 then.claimed.0);
  done = omega (arith, first.done, then.done);
  unkept = omega (arith, first.unkept, then.unkept);
  unkept_done = omega (arith, first.unkept_done, then.unkept_done);
  failed = omega (arith, first.failed, then.failed);
  ended = λ met.
      let one = first.ended met in
      let two = then.ended (λ e. met (sym one.1 ∙ e)) in (
        two.0 ∙ one.0,
        two.1 ∙ one.1,
      );
}

later_through : (x y z : SheetStanding) → Later x y → Later y z → Later x z
later_through x y z first then = record { accounts = λ n. account_through (account x n) (account y n) (account z n) (first.accounts n) (then.accounts n); cancelled = λ e. then.cancelled (first.cancelled e) }

-- HEARING, one member after the other

module _ {K S G : Type 0} where
  -- what a hand has seen is what the member's had, and more
  abbrev pub IsHeard : SheetStanding → Member K S G → Type 0
  IsHeard s m = Later m.hand.seen s

  pub record IsHearing (start now : SheetHolding) (before members : List (Member K S G)) (i : ℕ) : Type 0 where
    pub same : members ≡ before
    pub is : now ≡ seeing start now.seen
    pub own_is : own now ≡ own start
    pub heard : AllWithin (IsHeard now.seen) before 0 i

  pub hears_none : (start : SheetHolding) (ms : List (Member K S G)) → IsHearing start start ms ms 0
  hears_none start ms = record { same = refl; is = refl; own_is = refl; heard = λ k d low high. absurd (omega (arith, high)) }

  pub hears_more : (start now next : SheetHolding) (before members left : List (Member K S G)) (other : SheetHolding) (i : ℕ) → IsHearing start now before members i → left ≡ members
      → ((d : Member K S G) → (get_or members i d).hand ≡ other) → Gathers now other next → IsHearing start next before left (i + 1)
  hears_more start now next before members left other i so_far same at gathers = record {
    same = same ∙ so_far.same;
    is = gathers.is ∙ ap (λ (h : SheetHolding). seeing h next.seen) so_far.is;
    own_is = gathers.own_is ∙ so_far.own_is;
    heard = AllWithin-more (IsHeard next.seen) before 0 i (λ k d low high. later_through (get_or before k d).hand.seen now.seen next.seen (so_far.heard k d low high) gathers.finds.later)
        (λ d. subst (λ (h : SheetHolding). Later h.seen next.seen) (sym (ap (λ (ms : List (Member K S G)). (get_or ms i d).hand) (sym so_far.same) ∙ at d)) gathers.heard);
  }

  -- a member is at its place whatever stands behind the end
  get_any : (ms : List (Member K S G)) (i : ℕ) (d e : Member K S G) → i < length ms → get_or ms i d ≡ get_or ms i e
  get_any [] i d e within = absurd (omega (arith, within))
  get_any (m ∷ ms) zero d e within = refl
  get_any (m ∷ ms) (suc i) d e within = get_any ms i d e (omega (arith, within))

  set_itself : (ms : List (Member K S G)) (i : ℕ) (d : Member K S G) → i < length ms → slice_set ms i (get_or ms i d) ≡ ms
  set_itself [] i d within = absurd (omega (arith, within))
  set_itself (m ∷ ms) zero d within = refl
  set_itself (m ∷ ms) (suc i) d within = ap (λ xs. m ∷ xs) (set_itself ms i d (omega (arith, within)))

  -- one step of the loop, in which the member's hand stays as it was
  pub hears_one : (start now next other : SheetHolding) (before members : List (Member K S G)) (i : ℕ) (d : Member K S G) → IsHearing start now before members i → i < length before → other ≡ (get_or members i d).hand
      → Gathers now (get_or members i d).hand next → IsHearing start next before (slice_set members i (record (get_or members i d) { hand = other })) (i + 1)
  hears_one start now next other before members i d so_far below same gathers =
      let within : i < length members = subst (λ (ms : List (Member K S G)). i < length ms) (sym so_far.same) below in
      hears_more start now next before members (slice_set members i (record (get_or members i d) { hand = other })) (get_or members i d).hand i so_far
      (ap (λ (h : SheetHolding). slice_set members i (record (get_or members i d) { hand = h })) same ∙ set_itself members i d within)
      (λ e. ap (λ (m : Member K S G). m.hand) (get_any members i e d within)) gathers

  module _ (tells : S → Option ℕ) (faults : S → ℕ) (gave : S → List GivenImage) where
    -- what holds of each hand holds of the one at a place
    pub each_hand : (P : SheetHolding → Type 0) (ms : List (Member K S G)) → All P (hands_of (workers_of tells faults gave ms)) → (i : ℕ) (d : Member K S G) → i < length ms → P (get_or ms i d).hand
    each_hand P [] all i d within = absurd (omega (arith, within))
    each_hand P (m ∷ ms) all zero d within = all 0 m.hand (omega arith)
    each_hand P (m ∷ ms) all (suc i) d within = each_hand P ms (λ k e below. all (suc k) e (omega (arith, below))) i d (omega (arith, within))

    pub hears_of : (sheet : Sheet) (start now : SheetHolding) (before members : List (Member K S G)) (i : ℕ) (d : Member K S G) → IsHearing start now before members i → start.sheet ≡ sheet → All (λ (h : SheetHolding). h.sheet ≡ sheet) (hands_of (workers_of tells faults gave before)) → i < length before
        → (now.sheet ≡ sheet) × ((get_or members i d).hand.sheet ≡ sheet)
    hears_of sheet start now before members i d so_far own theirs within = (
      ap (λ (h : SheetHolding). h.sheet) so_far.is ∙ own,
      subst (λ (ms : List (Member K S G)). (get_or ms i d).hand.sheet ≡ sheet) (sym so_far.same)
          (each_hand (λ (h : SheetHolding). h.sheet ≡ sheet) before theirs i d within),
    )

    pub hears_all : (start now : SheetHolding) (before members : List (Member K S G)) (i : ℕ) → IsHearing start now before members i → length before ≤ i → HasHeard start now (hands_of (workers_of tells faults gave before))
    hears_all start now before members i so_far all = record {
      is = so_far.is;
      own_is = so_far.own_is;
      heard = All-map (λ (h : SheetHolding). Later h.seen now.seen) (λ (w : JobWorker). w.hand) (workers_of tells faults gave before)
          (All-map (λ (w : JobWorker). Later w.hand.seen now.seen) (worker_of tells faults gave) before (λ k d within. so_far.heard k d (omega arith) (omega (arith, within, all))));
    }

    -- THE CREW, of the first member and the others

    alike_itself : (ms : List (Member K S G)) → AreAlike (workers_of tells faults gave ms) (workers_of tells faults gave ms)
    alike_itself [] = tt
    alike_itself (m ∷ ms) = (record { hand = refl; own_is = refl; is = refl }, alike_itself ms)

    pub alike_all : (crew others left : List (Member K S G)) (first then : Member K S G) → crew ≡ first ∷ others → left ≡ others → IsAlike (worker_of tells faults gave first) (worker_of tells faults gave then) → AreAlike (workers_of tells faults gave crew) (workers_of tells faults gave (then ∷ left))
    alike_all crew others left first then is same alike =
        subst (λ (ms : List (Member K S G)). AreAlike (workers_of tells faults gave ms) (workers_of tells faults gave (then ∷ left))) (sym is)
        (subst (λ (ms : List (Member K S G)). AreAlike (workers_of tells faults gave (first ∷ others)) (workers_of tells faults gave (then ∷ ms))) (sym same) (alike, alike_itself others))

    pub shared_all : (sheet : Sheet) (crew others left : List (Member K S G)) (first then : Member K S G) → crew ≡ first ∷ others → left ≡ others
        → (AreAll sheet (first.hand ∷ hands_of (workers_of tells faults gave others)) → AreShared sheet (then.hand ∷ hands_of (workers_of tells faults gave others)) (claimed_by (then.hand ∷ hands_of (workers_of tells faults gave others))))
        → AreAll sheet (hands_of (workers_of tells faults gave crew)) → AreShared sheet (hands_of (workers_of tells faults gave (then ∷ left))) (claimed_by (hands_of (workers_of tells faults gave (then ∷ left))))
    shared_all sheet crew others left first then is same shared all =
        subst (λ (ms : List (Member K S G)). AreShared sheet (hands_of (workers_of tells faults gave (then ∷ ms))) (claimed_by (hands_of (workers_of tells faults gave (then ∷ ms))))) (sym same)
        (shared (subst (λ (ms : List (Member K S G)). AreAll sheet (hands_of (workers_of tells faults gave ms))) is all))

    pub ended_all : (sheet : Sheet) (crew others left : List (Member K S G)) (first then : Member K S G) (watch : SheetHolding) → crew ≡ first ∷ others → left ≡ others
        → (AreAll sheet (first.hand ∷ hands_of (workers_of tells faults gave others)) → SeesEnd sheet (done_by (then.hand ∷ hands_of (workers_of tells faults gave others))) (failed_by (then.hand ∷ hands_of (workers_of tells faults gave others))) (unkept_by (then.hand ∷ hands_of (workers_of tells faults gave others))) watch)
        → AreAll sheet (hands_of (workers_of tells faults gave crew)) → SeesEnd sheet (done_by (hands_of (workers_of tells faults gave (then ∷ left)))) (failed_by (hands_of (workers_of tells faults gave (then ∷ left)))) (unkept_by (hands_of (workers_of tells faults gave (then ∷ left)))) watch
    ended_all sheet crew others left first then watch is same ended all =
        subst (λ (ms : List (Member K S G)). SeesEnd sheet (done_by (hands_of (workers_of tells faults gave (then ∷ ms)))) (failed_by (hands_of (workers_of tells faults gave (then ∷ ms)))) (unkept_by (hands_of (workers_of tells faults gave (then ∷ ms)))) watch) (sym same)
        (ended (subst (λ (ms : List (Member K S G)). AreAll sheet (hands_of (workers_of tells faults gave ms))) is all))

    pub theirs_of : (sheet : Sheet) (crew others : List (Member K S G)) (first : Member K S G) → crew ≡ first ∷ others → All (λ (h : SheetHolding). h.sheet ≡ sheet) (hands_of (workers_of tells faults gave crew)) → All (λ (h : SheetHolding). h.sheet ≡ sheet) (first.hand ∷ hands_of (workers_of tells faults gave others))
    theirs_of sheet crew others first is all = subst (λ (ms : List (Member K S G)). All (λ (h : SheetHolding). h.sheet ≡ sheet) (hands_of (workers_of tells faults gave ms))) is all

-- WHAT THE FIRST HAND KNOWS

all_get : (P : SheetHolding → Type 0) (hs : List SheetHolding) (k : ℕ) (h : SheetHolding) → All P hs → slice_get hs k ≡ Some h → P h
all_get P [] k h all e = absurd (option_apart e)
all_get P (x ∷ hs) zero h all e = subst P (some_same e) (all 0 x (omega arith))
all_get P (x ∷ hs) (suc k) h all e = all_get P hs k h (λ i d below. all (suc i) d (omega (arith, below))) e

module _ (sheet : Sheet) (first then : SheetHolding) (others : List SheetHolding) (own_is : first.sheet ≡ sheet) (heard : HasHeard first then others) (all : AreAll sheet (first ∷ others)) where
  same : then.sheet ≡ sheet
  same = ap (λ (h : SheetHolding). h.sheet) heard.is ∙ own_is

  number_is : then.number ≡ Some 0
  number_is = ap (λ (h : SheetHolding). h.number) heard.is ∙ all.number 0 first refl

  own_at : (h : SheetHolding) (n : ℕ) → h.number ≡ Some n → own h ≡ account h.seen n
  own_at h n e = ap (λ (o : Option ℕ). own_of o h.seen) e

  each_heard : (n : ℕ) (h : SheetHolding) → slice_get (then ∷ others) n ≡ Some h → (h.number ≡ Some n) × LaterAccount (own h) (account then.seen n) × ((own h).end ≢ Open)
  each_heard zero h e =
      let P : SheetHolding → Type 0 = λ x. (x.number ≡ Some 0) × LaterAccount (own x) (account then.seen 0) × ((own x).end ≢ Open) in
      subst P (some_same e) (
        number_is,
        subst (λ (a : HandAccount). LaterAccount a (account then.seen 0)) (sym (own_at then 0 number_is)) (account_itself (account then.seen 0)),
        λ ended. all.met_none 0 first refl (ap (λ (a : HandAccount). a.end) (sym heard.own_is) ∙ ended),
      )
  each_heard (suc k) h e =
      let number = all.number (suc k) h e in
      let later : Later h.seen then.seen = all_get (λ (x : SheetHolding). Later x.seen then.seen) others k h heard.heard e in (
        number,
        subst (λ (a : HandAccount). LaterAccount a (account then.seen (suc k))) (sym (own_at h (suc k) number)) (later.accounts (suc k)),
        all.met_none (suc k) h e,
      )

  reported_by : (n : ℕ) (h : SheetHolding) → slice_get (then ∷ others) n ≡ Some h → (own h).done + (own h).failed ≡ length (own h).claimed
  reported_by zero h e =
      subst (λ (x : SheetHolding). (own x).done + (own x).failed ≡ length (own x).claimed) (some_same e)
      (subst (λ (a : HandAccount). a.done + a.failed ≡ length a.claimed) (sym heard.own_is) (all.reported 0 first refl))
  reported_by (suc k) h e = all.reported (suc k) h e

  pub ended_by : (watch : SheetHolding) → watch ≡ watching sheet then.seen → IsSound then.sheet.places then.sheet.hands then.seen → SeesEnd sheet (done_by (then ∷ others)) (failed_by (then ∷ others)) (unkept_by (then ∷ others)) watch
  ended_by watch is sound =
      let gathered : HasGathered then (then ∷ others) = record { count = all.count ∙ sym (ap (λ (s : Sheet). s.hands) same); each = each_heard } in
      let seen : watch.seen ≡ then.seen = ap (λ (h : SheetHolding). h.seen) is in
      let end : HasEnded sheet.hands then.seen (done_by (then ∷ others)) (failed_by (then ∷ others)) (unkept_by (then ∷ others)) =
      subst (λ (s : Sheet). HasEnded s.hands then.seen (done_by (then ∷ others)) (failed_by (then ∷ others)) (unkept_by (then ∷ others))) same (sees_end then (then ∷ others) sound gathered reported_by) in
      record {
        is = is ∙ ap (watching sheet) (sym seen);
        ended = subst (λ (s : SheetStanding). HasEnded sheet.hands s (done_by (then ∷ others)) (failed_by (then ∷ others)) (unkept_by (then ∷ others))) (sym seen) end;
      }

  pub shared_by : IsSound then.sheet.places then.sheet.hands then.seen → AreShared sheet (then ∷ others) (claimed_by (then ∷ others))
  shared_by sound =
      let gathered : HasGathered then (then ∷ others) = record { count = all.count ∙ sym (ap (λ (s : Sheet). s.hands) same); each = each_heard } in
      let places = ap (λ (s : Sheet). s.places) same in
      record {
        count = refl;
        shared = subst (λ (n : ℕ). ShareOut n (then ∷ others)) places (shares_out then (then ∷ others) sound gathered);
        all = λ h among ended. all_places then (then ∷ others) sound gathered h among ended ∙ places;
      }

-- no hands have claimed nothing
pub shared_none : (sheet : Sheet) → AreShared sheet [] (claimed_by [])
shared_none sheet = record {
  count = refl;
  shared = record { within = omega arith; once = λ place below. absurd (omega (arith, below)); none_else = λ place above. refl };
  all = λ h among ended. absurd (omega (arith, among.1));
}

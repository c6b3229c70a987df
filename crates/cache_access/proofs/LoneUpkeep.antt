-- Upkeep by a thread that has the cabinet for itself: what each turn keeps holds of the state that is left, and what the last turn says.
use Rattle.std.proofs.Common.{ℕ, ◌≡◌, ◌≤◌, ◌+◌, false, List, [], ◌∷◌, ◌++◌, length, refl, sym, subst, ◌∙◌, arith}
use Rattle.cabinet.specs.Commands.{Expires, IsCountedExpired, IsCountedSaved, Saves}
use Rattle.cabinet.specs.declared.replies.Expired.{Expired}
use Rattle.cabinet.specs.declared.replies.Expired.TheVariants as expired
use Rattle.cabinet.specs.declared.replies.Saved.{Saved}
use Rattle.cabinet.specs.declared.replies.Saved.TheVariants as saved
use Rattle.cabinet.specs.State.{State}
use Rattle.cabinet_chest.specs.declared.command.Command.{Command}
use Rattle.cabinet_chest.specs.declared.command.Command.TheVariants as command
use Rattle.cabinet_chest.specs.declared.command.Reply.{Reply}
use Rattle.cabinet_chest.specs.declared.command.Reply.TheVariants as reply
use Rattle.cabinet_chest.specs.declared.shown.Note.{Note}
use Rattle.cabinet_chest.specs.declared.shown.Shown.{Shown}
use Rattle.cabinet_chest.specs.Replies.{IsReplyTo}
use Rattle.catalog.specs.declared.catalogue.Catalogue.{Catalogue}
use Rattle.base.specs.Causes.{Rose}
use Rattle.metatile_plan.specs.declared.metatile.MetaKey.{MetaKey}
use Rattle.turnstile.specs.declared.view.Made.{Made}
use Rattle.cache_access.specs.declared.upkept.Upkept.{Upkept}
use Rattle.cache_access.specs.declared.upkept.Upkept.TheVariants.{Done, DiskFault, Stopped}
use Rattle.cache_access.specs.Alone.{AreSteps, IsStep}
use Rattle.cache_access.specs.KeepsUp.{AreDone, Chore, KeepsUp, UpkeepEndsAs, dropping, saving}
use Rattle.cache_access.specs.Stepping.{unsure}
use Rattle.cache_access.specs.Turned.{IsOf}

-- TURNS one after the other

-- the disk has failed no less often behind them
pub steps_later : (c : Catalogue) (ms : List (Made Note)) (x y : Shown) → AreSteps c x ms y → x.faults ≤ y.faults
steps_later c [] x y steps = steps.1
steps_later c (m ∷ ms) x y steps = let later = steps_later c ms m.note.after y steps.1 in omega (arith, later, steps.0.later, (unsure c x m steps.0).later)

pub steps_split : (c : Catalogue) (ms ns : List (Made Note)) (x y : Shown) → AreSteps c x (ms ++ ns) y → (z : Shown) × AreSteps c x ms z × AreSteps c z ns y
steps_split c [] ns x y steps = (x, (refl, omega arith), steps)
steps_split c (m ∷ ms) ns x y steps = let later = steps_split c ms ns m.note.after y steps.1 in (later.0, (steps.0, later.1), later.2)

-- what a turn of this command with this reply says
reply_of : (c : Catalogue) (x : Shown) (m : Made Note) (does : Command) (r : Reply) → IsStep c x m → IsOf does r m → IsReplyTo c false m.note.before m.note.after does r
reply_of c x m does r step is =
    subst (λ (d : Command). IsReplyTo c false m.note.before m.note.after d r) is.command
    (subst (λ (z : Reply). IsReplyTo c false m.note.before m.note.after m.note.command z) is.reply (unsure c x m step).answer)

-- A KIND OF UPKEEP, by what holds of the state behind so many turns

module _ (c : Catalogue) (chore : Chore) (P : ℕ → State → Type 0) (on : (n : ℕ) (b a : Shown) (k : MetaKey) → IsReplyTo c false b a chore.does (chore.done k) → P n b.state → P (n + 1) a.state) where
  done_through : (ms : List (Made Note)) (x y : Shown) (n : ℕ) → AreSteps c x ms y → AreDone chore ms → P n x.state → P (n + length ms) y.state
  done_through [] x y n steps done p =
      let e : n ≡ n + length {A = Made Note} [] = omega arith in
      subst (λ (k : ℕ). P k y.state) e (subst (λ (s : State). P n s) (sym steps.0) p)
  done_through (m ∷ ms) x y n steps (did, done) p =
      let e : n + 1 + length ms ≡ n + length (m ∷ ms) = omega arith in
      let before = subst (λ (s : State). P n s) (sym steps.0.state) p in
      let next = on n m.note.before m.note.after did.0 (reply_of c x m chore.does (chore.done did.0) steps.0 did.1) before in
      subst (λ (k : ℕ). P k y.state) e (done_through ms m.note.after y (n + 1) steps.1 done next)

-- a last turn, with this reply, between two of which the disk had failed so often
pub record IsLast (c : Catalogue) (does : Command) (r : Reply) (z y : Shown) : Type 0 where
  pub before : Shown
  pub after : Shown
  pub reply : IsReplyTo c false before after does r
  pub from : before.state ≡ z.state
  pub to : y.state ≡ after.state
  pub early : z.faults ≤ before.faults
  pub late : after.faults ≤ y.faults

last_of : (c : Catalogue) (does : Command) (r : Reply) (z y : Shown) (m : Made Note) (ends : List (Made Note)) → ends ≡ m ∷ [] → IsOf does r m → AreSteps c z ends y → IsLast c does r z y
last_of c does r z y m ends one is steps =
    let st = subst (λ (ms : List (Made Note)). AreSteps c z ms y) one steps in
    record { before = m.note.before; after = m.note.after; reply = reply_of c z m does r st.0 is; from = st.0.state; to = st.1.0; early = st.0.later; late = st.1.1 }

-- what is known at the end
abbrev Says : Catalogue → Chore → ℕ → ℕ → Shown → Shown → Upkept → Type 0
Says c chore most many z y (Done n) = (n ≡ many) × IsLast c chore.does chore.nothing z y
Says c chore most many z y (DiskFault n) = (n ≡ many) × ((b : ℕ) × (a : ℕ) × IsLast c chore.does (chore.failed b a) z y)
Says c chore most many z y Stopped = (many ≡ most) × (y.state ≡ z.state)

says : (c : Catalogue) (chore : Chore) (most many : ℕ) (ends : List (Made Note)) (r : Upkept) (z y : Shown) → UpkeepEndsAs chore most many ends r → AreSteps c z ends y → Says c chore most many z y r
says c chore most many ends (Done n) z y (same, (m, one, is)) steps = (same, last_of c chore.does chore.nothing z y m ends one is steps)
says c chore most many ends (DiskFault n) z y (same, (m, b, a, one, is)) steps = (same, (b, a, last_of c chore.does (chore.failed b a) z y m ends one is steps))
says c chore most many ends Stopped z y (is, none) steps = let st = subst (λ (ms : List (Made Note)). AreSteps c z ms y) none steps in (is, st.0)

-- THE ROWS of its commands

saved_same : (x y : Saved) → reply.Saved x ≡ reply.Saved y → x ≡ y
saved_same x y e = cc

expired_same : (x y : Expired) → reply.Expired x ≡ reply.Expired y → x ≡ y
expired_same x y e = cc

saving_row : (c : Catalogue) (b a : Shown) (r : Saved) → IsReplyTo c false b a command.SaveUses (reply.Saved r) → Saves b.state r a.state × IsCountedSaved b.faults a.faults r
saving_row c b a r h =
    let same = sym (saved_same r h.0 h.1) in (subst (λ (k : Saved). Saves b.state k a.state) same h.2, subst (λ (k : Saved). IsCountedSaved b.faults a.faults k) same h.3)

expiry_row : (c : Catalogue) (b a : Shown) (r : Expired) → IsReplyTo c false b a command.Expire (reply.Expired r) → Expires b.state r a.state × IsCountedExpired b.faults a.faults r
expiry_row c b a r h =
    let same = sym (expired_same r h.0 h.1) in (subst (λ (k : Expired). Expires b.state k a.state) same h.2, subst (λ (k : Expired). IsCountedExpired b.faults a.faults k) same h.3)

-- BY ONE THREAD: what the last turn says of the state before it and of the one that is left, and that the disk's count rose where it failed

abbrev pub SaysOfUses : ℕ → ℕ → Shown → State → Shown → Upkept → Type 0
SaysOfUses most many x s y (Done n) = (n ≡ many) × Saves s saved.Within y.state
SaysOfUses most many x s y (DiskFault n) = (n ≡ many) × (y.state ≡ s) × Rose x.faults y.faults
SaysOfUses most many x s y Stopped = (many ≡ most) × (y.state ≡ s)

abbrev pub SaysOfQuotas : ℕ → ℕ → Shown → State → Shown → Upkept → Type 0
SaysOfQuotas most many x s y (Done n) = (n ≡ many) × Expires s expired.Within y.state
SaysOfQuotas most many x s y (DiskFault n) = (n ≡ many) × (y.state ≡ s) × Rose x.faults y.faults
SaysOfQuotas most many x s y Stopped = (many ≡ most) × (y.state ≡ s)

row_between : (P : State → State → Type 0) (s b a t : State) → b ≡ s → t ≡ a → P b a → P s t
row_between P s b a t from to p = subst (λ (u : State). P u t) from (subst (λ (u : State). P b u) (sym to) p)

rose_so : (x z b a y p q : ℕ) → x ≤ z → z ≤ b → a ≤ y → Rose p q → p ≡ b → q ≡ a → Rose x y
rose_so x z b a y p q le early late rose e f = omega (arith, le, early, late, rose, e, f)

uses_so : (c : Catalogue) (most many : ℕ) (x z y : Shown) (r : Upkept) → x.faults ≤ z.faults → Says c saving most many z y r → SaysOfUses most many x z.state y r
uses_so c most many x z y (Done n) le (same, h) =
    let row = saving_row c h.before h.after saved.Within h.reply in
    (same, row_between (λ s t. Saves s saved.Within t) z.state h.before.state h.after.state y.state h.from h.to row.0)
uses_so c most many x z y (DiskFault n) le (same, (b, a, h)) =
    let row = saving_row c h.before h.after (saved.DiskFault b a) h.reply in
    (same, h.to ∙ row.0.2 ∙ h.from, rose_so x.faults z.faults h.before.faults h.after.faults y.faults b a le h.early h.late row.0.1 row.1.0 row.1.1)
uses_so c most many x z y Stopped le h = h

quotas_so : (c : Catalogue) (most many : ℕ) (x z y : Shown) (r : Upkept) → x.faults ≤ z.faults → Says c dropping most many z y r → SaysOfQuotas most many x z.state y r
quotas_so c most many x z y (Done n) le (same, h) =
    let row = expiry_row c h.before h.after expired.Within h.reply in
    (same, row_between (λ s t. Expires s expired.Within t) z.state h.before.state h.after.state y.state h.from h.to row.0)
quotas_so c most many x z y (DiskFault n) le (same, (b, a, h)) =
    let row = expiry_row c h.before h.after (expired.DiskFault b a) h.reply in
    (same, h.to ∙ row.0.2 ∙ h.from, rose_so x.faults z.faults h.before.faults h.after.faults y.faults b a le h.early h.late row.0.1 row.1.0 row.1.1)
quotas_so c most many x z y Stopped le h = h

-- so many turns hold on to P, and the last one says this
module _ {C : Type 0} (leads : C → C → List (Made Note) → Type 0) (p q : C) (c : Catalogue) (x y : Shown) (P : ℕ → State → Type 0) (first : P 0 x.state) (most : ℕ) (r : Upkept) where
  pub lone_saving : ((n : ℕ) (s t : State) (k : MetaKey) → P n s → Saves s (saved.Done k) t → P (n + 1) t) → (h : KeepsUp leads saving most p q r) → AreSteps c x (h.turns ++ h.ends) y
      → (many : ℕ) × (s : State) × P many s × SaysOfUses most many x s y r
  lone_saving on h steps =
      let parts = steps_split c h.turns h.ends x y steps in
      let z = parts.0 in
      let many = length h.turns in
      let e : 0 + many ≡ many = omega arith in
      let all = done_through c saving P (λ n b a k row p. on n b.state a.state k p (saving_row c b a (saved.Done k) row).0) h.turns x z 0 parts.1 h.done first in
      (many, z.state, subst (λ (n : ℕ). P n z.state) e all, uses_so c most many x z y r (steps_later c h.turns x z parts.1) (says c saving most many h.ends r z y h.over parts.2))

  pub lone_dropping : ((n : ℕ) (s t : State) (k : MetaKey) → P n s → Expires s (expired.Dropped k) t → P (n + 1) t) → (h : KeepsUp leads dropping most p q r) → AreSteps c x (h.turns ++ h.ends) y
      → (many : ℕ) × (s : State) × P many s × SaysOfQuotas most many x s y r
  lone_dropping on h steps =
      let parts = steps_split c h.turns h.ends x y steps in
      let z = parts.0 in
      let many = length h.turns in
      let e : 0 + many ≡ many = omega arith in
      let all = done_through c dropping P (λ n b a k row p. on n b.state a.state k p (expiry_row c b a (expired.Dropped k) row).0) h.turns x z 0 parts.1 h.done first in
      (many, z.state, subst (λ (n : ℕ). P n z.state) e all, quotas_so c most many x z y r (steps_later c h.turns x z parts.1) (says c dropping most many h.ends r z y h.over parts.2))

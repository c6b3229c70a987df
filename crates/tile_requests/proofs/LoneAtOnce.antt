-- Requests that are answered without a render, by a thread that has the cabinet for itself.
use Rattle.std.proofs.Common.{ℕ, ◌≡◌, ◌+◌, ◌<◌, ◌≤◌, Bool, true, false, List, [], ◌∷◌, length, Option, Some, None, inl, inr, refl, sym, ap, subst, ◌∙◌, arith}
use Rattle.std.proofs.lemmas.Bool.Decides.{nat_tests}
use Rattle.std.specs.Prelude.{IsSome, nat_lt, if◌then◌else◌}
use Rattle.cabinet.specs.declared.replies.CutReply.{CutReply}
use Rattle.cabinet.specs.declared.replies.CutReply.TheVariants as cut
use Rattle.cabinet.specs.declared.replies.Expired.{Expired}
use Rattle.cabinet.specs.declared.replies.Expired.TheVariants as expired
use Rattle.cabinet.specs.Commands.{Cuts, Expires, IsCountedCut, IsCountedExpired, book_before}
use Rattle.cabinet.specs.History.{next}
use Rattle.cabinet.specs.State.{State, now}
use Rattle.cabinet_chest.specs.declared.command.Command.{Command}
use Rattle.cabinet_chest.specs.declared.command.Command.TheVariants as command
use Rattle.cabinet_chest.specs.declared.command.Counts.{Counts}
use Rattle.cabinet_chest.specs.declared.command.Reply.{Reply}
use Rattle.cabinet_chest.specs.declared.command.Reply.TheVariants as reply
use Rattle.cabinet_chest.specs.declared.shown.Note.{Note}
use Rattle.cabinet_chest.specs.declared.shown.Shown.{Shown}
use Rattle.cabinet_chest.specs.Counts.{counts_in_all, counts_in_layer, counts_of}
use Rattle.cabinet_chest.specs.Replies.{IsReplyTo, MayReply}
use Rattle.cache_access.specs.Alone.{AreSteps, IsStep}
use Rattle.cache_access.proofs.LoneUpkeep.{steps_later, steps_split}
use Rattle.catalog.specs.declared.catalogue.Catalogue.{Catalogue}
use Rattle.catalog.specs.declared.catalogue.Scope.{Scope}
use Rattle.catalog.specs.declared.layer.Layer.{Layer}
use Rattle.base.specs.Causes.{Rose, RoseBy}
use Rattle.cache_core.specs.Steps.{one_where}
use Rattle.metatile_plan.specs.declared.metatile.MetaKey.{MetaKey}
use Rattle.truncation_list.specs.declared.cover.Cover.{Cover}
use Rattle.turnstile.specs.declared.view.Made.{Made}
use Rattle.tile_requests.specs.declared.outcome.Outcome.{Outcome}
use Rattle.tile_requests.specs.declared.outcome.Outcome.TheVariants as outcome
use Rattle.tile_requests.specs.declared.outcome.Plain.TheVariants as plain
use Rattle.tile_requests.specs.declared.request.Request.{Request}
use Rattle.tile_requests.specs.declared.request.Request.TheVariants as request
use Rattle.tile_requests.specs.Counted.{AreAllCounts, AreCounts, IsCount, IsCounted}
use Rattle.tile_requests.specs.Immediate.{IsImmediate}
use Rattle.tile_requests.specs.Requests.{Chance, cut_at, cut_by, dropped, expired_in, tile_of, told_at, told_usage}
use Rattle.tile_requests.specs.Requests as requests
use Rattle.tile_requests.specs.Served.{IsCutServed, IsExpiryServed, IsServedAtOnce, IsUsageServed, outcome_of_cut, outcome_of_expiry}
use Rattle.tile_requests.specs.Texts.{counted_text, layer_counts, usage_text}

-- WHAT IS SAID OF AN OUTCOME

-- this is what the cabinet came to, and the outcome
abbrev pub IsBoth : State × Outcome → Outcome → State → Type 0
IsBoth done o t = (t ≡ done.0) × (o ≡ done.1)

-- this it came to where what it was to write went unwritten or not, as the disk's count of faults rose or not
abbrev pub IsWritten : ℕ → ℕ → (Bool → State × Outcome) → Outcome → State → Type 0
IsWritten before after done o t = (unwritten : Bool) × RoseBy (one_where unwritten) before after × IsBoth (done unwritten) o t

-- memory is left or not for what such a request needs, and what it was to write goes unwritten or not
abbrev chance_of : Bool → Bool → Chance
chance_of left unwritten = record { read = true; ask = left; moment = 0; unread = false; work = left; bytes = None; unwritten = unwritten; left = true }

-- TESTS

less_true : (x y : ℕ) → x < y → nat_lt x y ≡ true
less_true x y l = grind (arith, nat_tests)

less_false : (x y : ℕ) → y ≤ x → nat_lt x y ≡ false
less_false x y l = grind (arith, nat_tests)

both_so : (done : State × Outcome) (x : State × Outcome) (o : Outcome) (t : State) → done ≡ x → t ≡ x.0 → o ≡ x.1 → IsBoth done o t
both_so done x o t e is told = (is ∙ ap (λ d. d.0) (sym e), told ∙ ap (λ d. d.1) (sym e))

-- COUNTS OF FAULTS

none_risen : (before after : ℕ) → before ≤ after → RoseBy (one_where false) before after
none_risen before after l = omega (arith, l)

one_risen : (before b a after x y : ℕ) → before ≤ b → a ≤ after → Rose x y → x ≡ b → y ≡ a → RoseBy (one_where true) before after
one_risen before b a after x y early late rose e f = omega (arith, early, late, rose, e, f)

-- A TRUNCATION

module _ (s : State) (cover : Cover) (before b a after : ℕ) (early : before ≤ b) (late : a ≤ after) where
  none_rose : before ≤ after → RoseBy (one_where false) before after
  none_rose l = none_risen before after l

  one_rose : (x y : ℕ) → Rose x y → x ≡ b → y ≡ a → RoseBy (one_where true) before after
  one_rose x y rose e f = one_risen before b a after x y early late rose e f

  some_less : (unwritten : Bool) (t : ℕ) → next s.opening (now s) ≡ Some t → length (book_before s cover).cuts < s.catalogue.cut_limit → requests.cut s cover true unwritten ≡ cut_at s cover t unwritten
  some_less unwritten t e less =
      ap (λ (n : Option ℕ). cut_by s cover unwritten n) e ∙ ap (λ v. if v then cut_at s cover t unwritten else (s, outcome.Plain plain.CutsFull)) (less_true _ _ less)

  some_full : (t : ℕ) → next s.opening (now s) ≡ Some t → s.catalogue.cut_limit ≤ length (book_before s cover).cuts → requests.cut s cover true false ≡ (s, outcome.Plain plain.CutsFull)
  some_full t e full =
      ap (λ (n : Option ℕ). cut_by s cover false n) e ∙ ap (λ v. if v then cut_at s cover t false else (s, outcome.Plain plain.CutsFull)) (less_false _ _ full)

  is_some : (n : Option ℕ) → IsSome n → (t : ℕ) × (n ≡ Some t)
  is_some (Some t) is = (t, refl)
  is_some None is = absurd (cc)

  pub cut_written : (r : CutReply) (t : State) → Cuts s cover r t → IsCountedCut b a r → b ≤ a → IsWritten before after (requests.cut s cover true) (outcome_of_cut r) t
  cut_written (cut.Done k) t row counted on = (false, none_rose (omega (arith, early, late, on)), both_so _ _ _ t (some_less false k row.0 row.1) row.2 refl)
  cut_written (cut.DiskFault x y) t (k, e, less, rose, is) counted on = (true, one_rose x y rose counted.0 counted.1, both_so _ _ _ t (some_less true k e less) is refl)
  cut_written cut.Full t row counted on = let k = is_some _ row.0 in (false, none_rose (omega (arith, early, late, on)), both_so _ _ _ t (some_full k.0 k.1 row.1) row.2 refl)
  cut_written cut.Spent t row counted on = (false, none_rose (omega (arith, early, late, on)), both_so _ _ _ t (ap (λ (n : Option ℕ). cut_by s cover false n) row.0) row.1 refl)

-- AN EXPIRY

module _ (s : State) (before b a after : ℕ) (early : before ≤ b) (late : a ≤ after) where
  pub expiry_written : (r : Expired) (left : Bool) (t : State) → Expires s r t → IsCountedExpired b a r → b ≤ a → IsWritten before after (requests.expired s left) (outcome_of_expiry s.catalogue r left) t
  expiry_written (expired.Dropped m) left t (scope, e, victim, is) counted on =
      (false, none_risen before after (omega (arith, early, late, on)), both_so _ _ _ t (ap (λ (x : Option Scope). expired_in s left x false) e ∙ ap (λ (v : Option MetaKey). dropped s left v) victim) is refl)
  expiry_written (expired.DiskFault x y) left t (some, rose, is) counted on =
      let k = is_scope _ some in
      (true, one_risen before b a after x y early late rose counted.0 counted.1, both_so _ _ _ t (ap (λ (x : Option Scope). expired_in s left x true) k.1) is refl)
    where
      is_scope : (n : Option Scope) → IsSome n → (x : Scope) × (n ≡ Some x)
      is_scope (Some x) is = (x, refl)
      is_scope None is = absurd (cc)
  expiry_written expired.Within left t row counted on = (false, none_risen before after (omega (arith, early, late, on)), both_so _ _ _ t (ap (λ (x : Option Scope). expired_in s left x false) row.0) row.1 refl)

-- WHAT A TURN WAS ANSWERED

cut_same : (x y : CutReply) → reply.Cut x ≡ reply.Cut y → x ≡ y
cut_same x y e = cc

expired_same : (x y : Expired) → reply.Expired x ≡ reply.Expired y → x ≡ y
expired_same x y e = cc

counts_same : (x y : Counts) → reply.Usage x ≡ reply.Usage y → x ≡ y
counts_same x y e = cc

module _ (c : Catalogue) (b a : Shown) (does : Command) (r : Reply) (may : MayReply c false b a does r) where
  to : (d : Command) (x : Reply) → does ≡ d → r ≡ x → IsReplyTo c false b a d x
  to d x e f = subst (λ (z : Reply). IsReplyTo c false b a d z) f (subst (λ (k : Command). IsReplyTo c false b a k r) e may.answer)

  cut_row : (cover : Cover) (x : CutReply) → does ≡ command.Cut cover → r ≡ reply.Cut x → Cuts b.state cover x a.state × IsCountedCut b.faults a.faults x
  cut_row cover x e f =
      let h = to (command.Cut cover) (reply.Cut x) e f in
      let same = sym (cut_same x h.0 h.1) in
      (subst (λ (k : CutReply). Cuts b.state cover k a.state) same h.2.row, subst (λ (k : CutReply). IsCountedCut b.faults a.faults k) same h.2.counted)

  expiry_row : (x : Expired) → does ≡ command.Expire → r ≡ reply.Expired x → Expires b.state x a.state × IsCountedExpired b.faults a.faults x
  expiry_row x e f =
      let h = to command.Expire (reply.Expired x) e f in
      let same = sym (expired_same x h.0 h.1) in
      (subst (λ (k : Expired). Expires b.state k a.state) same h.2, subst (λ (k : Expired). IsCountedExpired b.faults a.faults k) same h.3)

  count_row : (layer : ℕ) (n : Counts) → does ≡ command.Usage layer → r ≡ reply.Usage n → (n ≡ counts_of b.state layer) × (a ≡ b)
  count_row layer n e f = let h = to (command.Usage layer) (reply.Usage n) e f in (counts_same n (counts_of b.state layer) h.0, h.1)

-- TURNS ONE AFTER THE OTHER

unsure : (m : Made Note) (c : Catalogue) (x : Shown) → IsStep c x m → MayReply c false m.note.before m.note.after m.note.command m.note.reply
unsure m c x step = step.reply false (λ e. absurd (cc))

-- a count changes nothing
count_stays : (c : Catalogue) (x : Shown) (m : Made Note) (layer : ℕ) (n : Counts) → IsStep c x m → IsCount layer n m → (n ≡ counts_of x.state layer) × (m.note.after.state ≡ x.state)
count_stays c x m layer n step is =
    let h = count_row c m.note.before m.note.after m.note.command m.note.reply (unsure m c x step) layer n is.command is.reply in
    (h.0 ∙ ap (λ (s : State). counts_of s layer) step.state, ap (λ (b : Shown). b.state) h.1 ∙ step.state)

pub counts_stay : (c : Catalogue) (ms : List (Made Note)) (x y : Shown) → AreSteps c x ms y → AreAllCounts ms → y.state ≡ x.state
counts_stay c [] x y steps all = steps.0
counts_stay c (m ∷ ms) x y steps ((layer, n, is), all) = counts_stay c ms m.note.after y steps.1 all ∙ (count_stays c x m layer n steps.0 is).1

in_layer : (s : State) (k : ℕ) → k < length s.catalogue.layers → counts_of s k ≡ counts_in_layer s k
in_layer s k less = ap (λ v. if v then counts_in_layer s k else counts_in_all s) (less_true k (length s.catalogue.layers) less)

in_all : (s : State) → counts_of s (length s.catalogue.layers) ≡ counts_in_all s
in_all s =
    let n = length s.catalogue.layers in
    ap (λ v. if v then counts_in_layer s n else counts_in_all s) (less_false n n (omega arith))

counts_are : (c : Catalogue) (ls : List Layer) (k : ℕ) (ns : List Counts) (ms : List (Made Note)) (x z : Shown) → AreSteps c x ms z → AreCounts k ns ms → length ns ≡ length ls → k + length ls ≤ length x.state.catalogue.layers
    → (ns ≡ layer_counts x.state k ls) × (z.state ≡ x.state)
counts_are c [] k [] [] x z steps are each within = (refl, steps.0)
counts_are c [] k [] (m ∷ ms) x z steps are each within = absurd are
counts_are c [] k (n ∷ ns) ms x z steps are each within = absurd (omega (arith, each))
counts_are c (l ∷ ls) k [] ms x z steps are each within = absurd (omega (arith, each))
counts_are c (l ∷ ls) k (n ∷ ns) [] x z steps are each within = absurd are
counts_are c (l ∷ ls) k (n ∷ ns) (m ∷ ms) x z steps are each within =
    let first = count_stays c x m k n steps.0 are.0 in
    let same = first.1 in
    let inside : k + 1 + length ls ≤ length x.state.catalogue.layers = omega (arith, within) in
    let later = counts_are c ls (k + 1) ns ms m.note.after z steps.1 are.1 (omega (arith, each)) (subst (λ (s : State). k + 1 + length ls ≤ length s.catalogue.layers) (sym same) inside) in
    let rest = later.0 ∙ ap (λ (s : State). layer_counts s (k + 1) ls) same in
    (ap (λ (t : Counts). t ∷ ns) (first.0 ∙ in_layer x.state k (omega (arith, within))) ∙ ap (λ (ts : List Counts). counts_in_layer x.state k ∷ ts) rest, later.1 ∙ same)

-- THE TEXT OF WHAT IS KEPT

module _ (x y : Shown) where
  abbrev c : Catalogue
  c = x.state.catalogue

  pub usage_is : (gained : List (Made Note)) (text : List ℕ) → AreSteps c x gained y → IsCounted c gained text → (text ≡ usage_text x.state) × (y.state ≡ x.state)
  usage_is gained text steps k =
      let parts = steps_split c k.turns (k.all_turn ∷ k.cuts_turn ∷ []) x y (subst (λ (ms : List (Made Note)). AreSteps c x ms y) k.made steps) in
      let z = parts.0 in
      let lines = counts_are c c.layers 0 k.counts k.turns x z parts.1 k.layers k.each (omega arith) in
      let all = count_stays c z k.all_turn (length c.layers) k.all parts.2.0 k.of_all in
      let cuts = count_stays c k.all_turn.note.after k.cuts_turn (length c.layers) k.cuts parts.2.1.0 k.of_cuts in
      let at_all : k.all_turn.note.after.state ≡ x.state = all.1 ∙ lines.1 in
      let all_is : k.all ≡ counts_in_all x.state = all.0 ∙ ap (λ (s : State). counts_of s (length c.layers)) lines.1 ∙ in_all x.state in
      let cuts_is : k.cuts ≡ counts_in_all x.state = cuts.0 ∙ ap (λ (s : State). counts_of s (length c.layers)) at_all ∙ in_all x.state in
      let texts = ap (λ (ns : List Counts). counted_text c ns k.all k.cuts) lines.0 ∙ ap (λ (n : Counts). counted_text c (layer_counts x.state 0 c.layers) n k.cuts) all_is
      ∙ ap (λ (n : Counts). counted_text c (layer_counts x.state 0 c.layers) (counts_in_all x.state) n) cuts_is in
      (k.is_text ∙ texts, parts.2.1.1.0 ∙ cuts.1 ∙ at_all)

  usage_served : (gained : List (Made Note)) (o : Outcome) → AreSteps c x gained y → IsUsageServed c gained o → (left : Bool) × IsBoth (x.state, told_usage x.state left) o y.state
  usage_served gained o steps (inl (text, k, is)) = let h = usage_is gained text steps k in (true, (h.1, is ∙ ap (λ (t : List ℕ). outcome.Usage t) h.0))
  usage_served gained o steps (inr (all, is)) = (false, (counts_stay c gained x y steps all, is))

  -- ONE TURN

  row_between : (P : State → State → Type 0) (m : Made Note) → IsStep c x m → y.state ≡ m.note.after.state → P m.note.before.state m.note.after.state → P x.state y.state
  row_between P m step last p = subst (λ (s : State). P s y.state) step.state (subst (λ (t : State). P m.note.before.state t) (sym last) p)

  cut_served : (cover : Cover) (gained : List (Made Note)) (o : Outcome) → AreSteps c x gained y → IsCutServed cover gained o → (left : Bool) × IsWritten x.faults y.faults (requests.cut x.state cover left) o y.state
  cut_served cover gained o steps (inr (none, is)) =
      let st = subst (λ (ms : List (Made Note)). AreSteps c x ms y) none steps in
      (false, (false, none_risen x.faults y.faults st.1, (st.0, is)))
  cut_served cover gained o steps (inl (m, r, one, of, is)) =
      let st = subst (λ (ms : List (Made Note)). AreSteps c x ms y) one steps in
      let may = unsure m c x st.0 in
      let h = cut_row c m.note.before m.note.after m.note.command m.note.reply may cover r of.command of.reply in
      let row = row_between (λ s t. Cuts s cover r t) m st.0 st.1.0 h.0 in
      (true, subst (λ (z : Outcome). IsWritten x.faults y.faults (requests.cut x.state cover true) z y.state) (sym is) (cut_written x.state cover x.faults m.note.before.faults m.note.after.faults y.faults st.0.later st.1.1 r y.state row h.1 may.later))

  expiry_served : (gained : List (Made Note)) (o : Outcome) → AreSteps c x gained y → IsExpiryServed c gained o → (left : Bool) × IsWritten x.faults y.faults (requests.expired x.state left) o y.state
  expiry_served gained o steps (m, r, left, one, of, is) =
      let st = subst (λ (ms : List (Made Note)). AreSteps c x ms y) one steps in
      let may = unsure m c x st.0 in
      let h = expiry_row c m.note.before m.note.after m.note.command m.note.reply may r of.command of.reply in
      let row = row_between (λ s t. Expires s r t) m st.0 st.1.0 h.0 in
      (left, subst (λ (z : Outcome). IsWritten x.faults y.faults (requests.expired x.state left) z y.state) (sym is) (expiry_written x.state x.faults m.note.before.faults m.note.after.faults y.faults st.0.later st.1.1 r left y.state row h.1 may.later))

  -- ANY REQUEST

  both_made : (done : State × Outcome) (o : Outcome) → IsBoth done o y.state → done ≡ (y.state, o)
  both_made done o is = rw (is.0, is.1) refl

  written : (r : Request) (o : Outcome) → tile_of r ≡ None → (left : Bool) × IsWritten x.faults y.faults (λ unwritten. requests.at_once x.state (chance_of left unwritten) r) o y.state → IsImmediate x.faults y.faults x.state r o y.state
  written r o other (left, (unwritten, rose, is)) =
      record { chance = chance_of left unwritten; other = other; faults = omega (arith, rose); made = both_made (requests.at_once x.state (chance_of left unwritten) r) o is }

  looked : (gained : List (Made Note)) (r : Request) (o : Outcome) → AreSteps c x gained y → tile_of r ≡ None → (left : Bool) × IsBoth (requests.at_once x.state (chance_of left false) r) o y.state → IsImmediate x.faults y.faults x.state r o y.state
  looked gained r o steps other (left, is) = written r o other (left, (false, none_risen x.faults y.faults (steps_later c gained x y steps), is))

  -- one that makes no turn
  untouched : (gained : List (Made Note)) (r : Request) (o told : Outcome) → AreSteps c x gained y → tile_of r ≡ None → requests.at_once x.state (chance_of true false) r ≡ (x.state, told) → (gained ≡ []) × (o ≡ told) → IsImmediate x.faults y.faults x.state r o y.state
  untouched gained r o told steps other made (none, is) =
      let st = subst (λ (ms : List (Made Note)). AreSteps c x ms y) none steps in
      looked gained r o steps other (true, subst (λ (done : State × Outcome). IsBoth done o y.state) (sym made) (st.0, is))

  pub at_once : (gained : List (Made Note)) (r : Request) (o : Outcome) → AreSteps c x gained y → IsServedAtOnce c r gained o → IsImmediate x.faults y.faults x.state r o y.state
  at_once gained (request.Tile a) o steps h = absurd h
  at_once gained request.Usage o steps h = looked gained request.Usage o steps refl (usage_served gained o steps h)
  at_once gained (request.Truncation cover) o steps h = written (request.Truncation cover) o refl (cut_served cover gained o steps h)
  at_once gained request.Expiry o steps h = written request.Expiry o refl (expiry_served gained o steps h)
  at_once gained r o steps h = untouched gained r o _ steps refl refl h

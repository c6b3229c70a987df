-- A content is refused for one cause alone, and none that is refused is opened.
use Rattle.std.specs.Prelude.{ℕ, ◌≡◌, ◌+◌, ◌^◌, ◌<◌, ◌≤◌, ◌⊎◌, false, zero, suc, IsSomeAnd, IsTrue, List, [], ◌∷◌, drop, length, slice_get, Option, Some, None}
use Rattle.std.specs.List.{AllByRecursion}
use Rattle.std.proofs.Common.{ap, arith, inl, inr, refl, subst, sym, ◌∙◌}
use Rattle.std.proofs.lemmas.Bool.{cases_order}
use Rattle.cabinet.specs.State.{State}
use Rattle.cabinet_records.specs.Replay.{AreRecordsOf, IsBadAt, IsLastCut, IsRecordOf, IsRefusedAt, Replayed, Replays, book_after, is_cut, opening_number, replayed, unplayed}
use Rattle.catalog.specs.declared.catalogue.Catalogue.{Catalogue}
use Rattle.base.specs.Readings.{Readings}
use Rattle.durable_cabinet.proofs.Once.{bodies_in, opens_once, replays_once, version_in}
use Rattle.durable_cabinet.specs.Images.{OpensTo}
use Rattle.gate_journal.specs.declared.fault.OpenFault.{OpenFault}
use Rattle.gate_journal.specs.declared.fault.OpenFault.TheVariants as fault
use Rattle.gate_journal.specs.Opened as journal
use Rattle.opened_cache.specs.Change.{DiskChange}
use Rattle.opened_cache.specs.Opened.{IsOpened, IsRefused}
use Rattle.record_text.specs.declared.entries.Record.{Record}
use Rattle.record_text.specs.Reading.{entry_of}
use Rattle.record_text.proofs.Back.{entry_back}
use Rattle.record_text.proofs.Decoded.{same_entry}

-- THE FIRST RECORD that no cache has

bad_or_replayed : (c : Catalogue) (r t : Replayed) (es : List (Option Record)) (slot : ℕ) → IsBadAt c r es slot → Replays c r es t → ⊥
bad_or_replayed c r t [] slot bad plays = bad
bad_or_replayed c r t (None ∷ es) slot bad plays = plays
bad_or_replayed c r t (Some e ∷ es) zero bad plays = bad plays.0
bad_or_replayed c r t (Some e ∷ es) (suc slot) bad plays = bad_or_replayed c (replayed c r e) t es slot bad.1 plays.1

one_bad : (c : Catalogue) (r : Replayed) (es : List (Option Record)) (i j : ℕ) → IsBadAt c r es i → IsBadAt c r es j → i ≡ j
one_bad c r [] i j x y = absurd x
one_bad c r (None ∷ es) i j x y = x ∙ sym y
one_bad c r (Some e ∷ es) zero zero x y = refl
one_bad c r (Some e ∷ es) zero (suc j) x y = absurd (x y.0)
one_bad c r (Some e ∷ es) (suc i) zero x y = absurd (y x.0)
one_bad c r (Some e ∷ es) (suc i) (suc j) x y = ap (λ (n : ℕ). suc n) (one_bad c (replayed c r e) es i j x.1 y.1)

-- THE LAST CUT of the records

no_cut : (e : Option Record) → is_cut e ≡ false → IsTrue (is_cut e) → ⊥
no_cut e none there = cc

none_there : (es : List (Option Record)) (k : ℕ) → AllByRecursion (λ r. is_cut r ≡ false) es → IsSomeAnd (slice_get es k) (λ r. IsTrue (is_cut r)) → ⊥
none_there [] k none there = there
none_there (e ∷ es) zero none there = no_cut e none.0 there
none_there (e ∷ es) (suc k) none there = none_there es k none.1 there

none_behind : (es : List (Option Record)) (n k : ℕ) → n ≤ k → AllByRecursion (λ r. is_cut r ≡ false) (drop n es) → IsSomeAnd (slice_get es k) (λ r. IsTrue (is_cut r)) → ⊥
none_behind es zero k le none there = none_there es k none there
none_behind [] (suc n) k le none there = there
none_behind (e ∷ es) (suc n) zero le none there = absurd (omega arith)
none_behind (e ∷ es) (suc n) (suc k) le none there = none_behind es n k (omega arith) none there

one_last : (es : List (Option Record)) (i j : ℕ) → IsLastCut es i → IsLastCut es j → i ≡ j
one_last es i j x y = chosen (cases_order i j)
  where
    chosen : (i ≡ j) ⊎ ((i < j) ⊎ (j < i)) → i ≡ j
    chosen (inl same) = same
    chosen (inr (inl less)) = absurd (none_behind es (i + 1) j (omega arith) x.last y.there)
    chosen (inr (inr more)) = absurd (none_behind es (j + 1) i (omega arith) y.last x.there)

-- THE SLOT at which records are refused

one_slot : (c : Catalogue) (es : List (Option Record)) (i j : ℕ) → IsRefusedAt c es i → IsRefusedAt c es j → i ≡ j
one_slot c es i j (inl x) (inl y) = one_bad c unplayed es i j x y
one_slot c es i j (inl x) (inr y) = absurd (bad_or_replayed c unplayed y.0.replayed es i x y.0.replays)
one_slot c es i j (inr x) (inl y) = absurd (bad_or_replayed c unplayed x.0.replayed es j y x.0.replays)
one_slot c es i j (inr x) (inr y) = one_last es i j x.1 y.1

refused_or_replayed : (c : Catalogue) (es : List (Option Record)) (slot : ℕ) (r : Replayed) → IsRefusedAt c es slot → Replays c unplayed es r → length (book_after r).cuts ≤ c.cut_limit → ⊥
refused_or_replayed c es slot r (inl x) plays few = bad_or_replayed c unplayed r es slot x plays
refused_or_replayed c es slot r (inr x) plays few =
    let many : c.cut_limit < length (book_after r).cuts =
    subst (λ (t : Replayed). c.cut_limit < length (book_after t).cuts) (replays_once c unplayed es x.0.replayed r x.0.replays plays) x.0.many
    in
    absurd (omega arith)

-- ONE LIST of records

entry_one : (version : ℕ) (body : List ℕ) (e f : Option Record) → IsRecordOf version body e → IsRecordOf version body f → e ≡ f
entry_one version body None None h k = refl
entry_one version body None (Some q) h k = absurd (h q k.0 k.1 k.2)
entry_one version body (Some r) None h k = absurd (k r h.0 h.1 h.2)
entry_one version body (Some r) (Some q) h k = ap (λ (x : Record). Some x) (same_entry r q (sym (entry_back r h.0) ∙ ap entry_of (h.1 ∙ sym k.1) ∙ entry_back q k.0))

entries_one : (version : ℕ) (bodies : List (List ℕ)) (es fs : List (Option Record)) → AreRecordsOf version bodies es → AreRecordsOf version bodies fs → es ≡ fs
entries_one version [] [] [] h k = refl
entries_one version [] [] (f ∷ fs) h k = absurd k
entries_one version [] (e ∷ es) fs h k = absurd h
entries_one version (body ∷ bodies) [] fs h k = absurd h
entries_one version (body ∷ bodies) (e ∷ es) [] h k = absurd k
entries_one version (body ∷ bodies) (e ∷ es) (f ∷ fs) h k = λ i. entry_one version body e f h.0 k.0 i ∷ entries_one version bodies es fs h.1 k.1 i

one_list : (o : journal.Opening) (v w : ℕ) (bs cs : List (List ℕ)) (es fs : List (Option Record))
    → o ≡ journal.records v bs → o ≡ journal.records w cs → AreRecordsOf v bs es → AreRecordsOf w cs fs → es ≡ fs
one_list o v w bs cs es fs is also are also_are =
    let same : journal.records v bs ≡ journal.records w cs = sym is ∙ also in
    let moved : AreRecordsOf w cs es = subst (λ (n : ℕ). AreRecordsOf n cs es) (ap version_in same) (subst (λ (xs : List (List ℕ)). AreRecordsOf v xs es) (ap bodies_in same) are) in
    entries_one w cs es fs moved also_are

-- ONE OPENING of a content

pub not_other : (o : journal.Opening) (found : List ℕ) (version : ℕ) (bodies : List (List ℕ)) → o ≡ journal.differs found → o ≡ journal.records version bodies → ⊥
not_other o found version bodies e f = cc

pub not_none : (o : journal.Opening) (version : ℕ) (bodies : List (List ℕ)) → o ≡ journal.no_cache → o ≡ journal.records version bodies → ⊥
not_none o version bodies e f = cc

none_or_other : (o : journal.Opening) (found : List ℕ) → o ≡ journal.no_cache → o ≡ journal.differs found → ⊥
none_or_other o found e f = cc

-- ONE CAUSE

at_limit : (limit n : ℕ) → limit ≤ n → n < limit → ⊥
at_limit limit n le less = absurd (omega arith)

module _ (c : Catalogue) (d : DiskChange) (told : IsTrue d.told) where
  two_others : (o : journal.Opening) (f g a b : List ℕ) → o ≡ journal.differs f → o ≡ journal.differs g → a ≡ c.digest → b ≡ c.digest → fault.CatalogueDiffers g b ≡ fault.CatalogueDiffers f a
  two_others o f g a b e k i j = cc

  pub bad_or_opened : (slot : ℕ) (r : Replayed) → IsRefused c d (fault.BadRecord slot) → OpensTo c d.from.seen r → ⊥
  bad_or_opened slot r x o =
      let z = x told in
      refused_or_replayed c o.entries slot r (subst (λ (es : List (Option Record)). IsRefusedAt c es slot) (one_list _ z.0 o.version z.1 o.bodies z.2 o.entries z.3 o.opens z.4 o.are) z.5) o.replays o.few_cuts

  one_bad_record : (i j : ℕ) → IsRefused c d (fault.BadRecord i) → IsRefused c d (fault.BadRecord j) → j ≡ i
  one_bad_record i j x y =
      let a = x told in
      let b = y told in
      one_slot c a.2 j i (subst (λ (es : List (Option Record)). IsRefusedAt c es j) (one_list _ b.0 a.0 b.1 a.1 b.2 a.2 b.3 a.3 b.4 a.4) b.5) a.5

  pub one_refusal : (cause other : OpenFault) → IsRefused c d cause → IsRefused c d other → other ≡ cause
  one_refusal fault.NotACache fault.NotACache x y = refl
  one_refusal fault.NotACache (fault.CatalogueDiffers found asked) x y = absurd (none_or_other _ found (x told) (y.1 told))
  one_refusal fault.NotACache (fault.BadRecord slot) x y = let z = y told in absurd (not_none _ z.0 z.1 (x told) z.3)
  one_refusal fault.NotACache fault.Spent x y = let z = y told in absurd (not_none _ z.1.version z.1.bodies (x told) z.1.opens)
  one_refusal fault.NotACache fault.DiskFault x y = absurd y
  one_refusal fault.NotACache fault.OutOfMemory x y = absurd y
  one_refusal (fault.CatalogueDiffers found asked) fault.NotACache x y = absurd (none_or_other _ found (y told) (x.1 told))
  one_refusal (fault.CatalogueDiffers found asked) (fault.CatalogueDiffers g b) x y = two_others _ found g asked b (x.1 told) (y.1 told) x.0 y.0
  one_refusal (fault.CatalogueDiffers found asked) (fault.BadRecord slot) x y = let z = y told in absurd (not_other _ found z.0 z.1 (x.1 told) z.3)
  one_refusal (fault.CatalogueDiffers found asked) fault.Spent x y = let z = y told in absurd (not_other _ found z.1.version z.1.bodies (x.1 told) z.1.opens)
  one_refusal (fault.CatalogueDiffers found asked) fault.DiskFault x y = absurd y
  one_refusal (fault.CatalogueDiffers found asked) fault.OutOfMemory x y = absurd y
  one_refusal (fault.BadRecord slot) fault.NotACache x y = let z = x told in absurd (not_none _ z.0 z.1 (y told) z.3)
  one_refusal (fault.BadRecord slot) (fault.CatalogueDiffers found asked) x y = let z = x told in absurd (not_other _ found z.0 z.1 (y.1 told) z.3)
  one_refusal (fault.BadRecord slot) (fault.BadRecord other) x y = ap (λ (n : ℕ). fault.BadRecord n) (one_bad_record slot other x y)
  one_refusal (fault.BadRecord slot) fault.Spent x y = let z = y told in absurd (bad_or_opened slot z.0 x z.1)
  one_refusal (fault.BadRecord slot) fault.DiskFault x y = absurd y
  one_refusal (fault.BadRecord slot) fault.OutOfMemory x y = absurd y
  one_refusal fault.Spent fault.NotACache x y = let z = x told in absurd (not_none _ z.1.version z.1.bodies (y told) z.1.opens)
  one_refusal fault.Spent (fault.CatalogueDiffers found asked) x y = let z = x told in absurd (not_other _ found z.1.version z.1.bodies (y.1 told) z.1.opens)
  one_refusal fault.Spent (fault.BadRecord slot) x y = let z = x told in absurd (bad_or_opened slot z.0 y z.1)
  one_refusal fault.Spent fault.Spent x y = refl
  one_refusal fault.Spent fault.DiskFault x y = absurd y
  one_refusal fault.Spent fault.OutOfMemory x y = absurd y
  one_refusal fault.DiskFault other x y = absurd x
  one_refusal fault.OutOfMemory other x y = absurd x

  pub not_opened : (clock : Readings) (s : State) (cause : OpenFault) → IsRefused c d cause → IsOpened c clock d s → ⊥
  not_opened clock s fault.NotACache x o = let y = o.opens told in not_none _ y.version y.bodies (x told) y.opens
  not_opened clock s (fault.CatalogueDiffers found asked) x o = let y = o.opens told in not_other _ found y.version y.bodies (x.1 told) y.opens
  not_opened clock s (fault.BadRecord slot) x o = bad_or_opened slot o.replayed x (o.opens told)
  not_opened clock s fault.Spent x o =
      let z = x told in
      let reached : 2 ^ 24 ≤ opening_number o.replayed + 1 = subst (λ (r : Replayed). 2 ^ 24 ≤ opening_number r + 1) (opens_once c d.from.seen z.0 o.replayed z.1 (o.opens told)) z.2 in
      at_limit (2 ^ 24) (opening_number o.replayed + 1) reached (subst (λ (t : State). t.opening.number < 2 ^ 24) o.begins o.number)
  not_opened clock s fault.DiskFault x o = x
  not_opened clock s fault.OutOfMemory x o = x

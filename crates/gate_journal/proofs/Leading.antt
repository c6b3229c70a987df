-- How a visitor is led on, and what opening makes of it.
use Rattle.std.proofs.Common.{◌≡◌, ◌≢◌, ℕ, zero, suc, ◌+◌, ◌-◌, ◌*◌, ◌<◌, ◌≤◌, List, [], ◌∷◌, ◌++◌, length, length-append, get_or, take, drop, Bool, IsTrue, Some, Result, Err, refl, sym, ◌∙◌, ap, subst, arith, inl, inr}
use Rattle.std.proofs.lemmas.List.{append-nil}
use mathlib.Core.List.{append_assoc}
use Rattle.disk_model.specs.Content.{Content, byte_at, bytes_at}
use Rattle.disk_model.proofs.Reading.{length-bytes_at}
use Rattle.gate_journal.specs.declared.fault.OpenFault.{OpenFault}
use Rattle.gate_journal.specs.declared.fault.OpenFault.TheVariants.{NotACache, CatalogueDiffers, BadRecord, Spent, DiskFault, OutOfMemory}
use Rattle.gate_journal.specs.declared.half.Half.{Half}
use Rattle.gate_journal.specs.Layout.{header_at, half_at}
use Rattle.gate_journal.specs.Opened.{bodies_at, digest_at, half_in_force, records_at}
use Rattle.gate_journal.specs.Reading.{HasRead, RefusesAs}
use Rattle.gate_journal.specs.Visiting.{Reaches, StopsAt, VisitsPart, StopsInPart, VisitsFirst, StopsInHalf, ComesOfHalf, VisitsSome, IsStopped, IsCutShort, first_of_half, first_records}
use Rattle.gate_journal.proofs.Choosing.{opened_disorder, slot_gate, slot_body}
use Rattle.gate_journal.proofs.Gates.{Open, first_open, open_behind}
use Rattle.gate_journal.proofs.Gathering.{disordered, none_read, slot_of_part, found_disorder, disorder_more, more_open, more_shut}

module _ {V : Type 0} (visits : ℕ → List ℕ → V → V → Type 0) (leaves : V → V → Type 0) where
  pub reach_then : (slot at : ℕ) (xs ys : List (List ℕ)) (old mid new : V) → at ≡ slot + length xs → Reaches visits slot xs old mid → Reaches visits at ys mid new → Reaches visits slot (xs ++ ys) old new
  reach_then slot at [] ys old mid new is one two =
      let here : at ≡ slot = omega arith in
      subst (λ (n : ℕ). Reaches visits n ys old new) here (subst (λ (v : V). Reaches visits at ys v new) one two)
  reach_then slot at (x ∷ xs) ys old mid new is one two = (one.0, one.1, reach_then (slot + 1) at xs ys one.0 mid new (omega arith) one.2 two)

  -- one visit more
  pub reach_more : (slot at : ℕ) (bodies : List (List ℕ)) (body : List ℕ) (old mid new : V) → at ≡ slot + length bodies → Reaches visits slot bodies old mid → visits at body mid new → Reaches visits slot (bodies ++ body ∷ []) old new
  reach_more slot at bodies body old mid new is reaches visit = reach_then slot at bodies (body ∷ []) old mid new is reaches (new, visit, refl)

  -- and no further one, or one that was refused
  pub stop_then : (slot at : ℕ) (xs ys : List (List ℕ)) (old mid new : V) → at ≡ slot + length xs → Reaches visits slot xs old mid → StopsAt visits leaves at ys mid new → StopsAt visits leaves slot (xs ++ ys) old new
  stop_then slot at xs ys old mid new is one two = (two.0, reach_then slot at xs ys old mid two.0 is one two.1, two.2)

  pub stop_here : (slot : ℕ) (bodies : List (List ℕ)) (old new : V) → Reaches visits slot bodies old new → StopsAt visits leaves slot bodies old new
  stop_here slot bodies old new reaches = (new, reaches, inl refl)

-- the records up to the first closed gate, where the first gates are open
records_split : (c : Content) (at n count : ℕ) → count ≤ n → Open c at count → bodies_at c at count ++ records_at c (at + 64 * count) (n - count) ≡ records_at c at n
records_split c at n zero le opens = let here : at + 64 * 0 ≡ at = omega arith in let all : n - 0 ≡ n = omega arith in λ k. records_at c (here k) (all k)
records_split c at zero (suc count) le opens = absurd (omega arith)
records_split c at (suc n) (suc count) le opens =
    let first = first_open c at count opens in
    let there : at + 64 * suc count ≡ at + 64 + 64 * count = omega arith in
    let rest : suc n - suc count ≡ n - count = omega arith in
    rw first (ap (λ (l : List (List ℕ)). bytes_at c at 63 ∷ l) ((λ k. bodies_at c (at + 64) count ++ records_at c (there k) (rest k)) ∙ records_split c (at + 64) n count (omega arith) (open_behind c at count opens)))

-- why opening stops among the slots of the half in force
refuses_as : (digest : List ℕ) (slots : ℕ) (c : Content) (half : Half) (bodies : List (List ℕ)) (fault : OpenFault) → half_in_force c ≡ Some half → digest_at c (header_at half) ≡ digest → IsCutShort c (half_at slots half) slots bodies fault → RefusesAs digest slots c fault
refuses_as digest slots c half bodies NotACache is same short = opened_disorder digest slots c half is same (disordered c (half_at slots half) slots slots (omega arith) short.why)
refuses_as digest slots c half bodies (CatalogueDiffers found asked) is same short = absurd short.why
refuses_as digest slots c half bodies (BadRecord bad) is same short = absurd short.why
refuses_as digest slots c half bodies Spent is same short = absurd short.why
refuses_as digest slots c half bodies DiskFault is same short = tt
refuses_as digest slots c half bodies OutOfMemory is same short = tt

module _ {V : Type 0} (visits : ℕ → List ℕ → V → V → Type 0) (leaves : V → V → Type 0) (told : Bool) (digest : List ℕ) (slots : ℕ) (c : Content) (before after : V) (fault : OpenFault) where
  -- no half was chosen
  pub visits_none : after ≡ before → (IsTrue told → RefusesAs digest slots c fault) → VisitsSome visits leaves told digest slots c before after fault
  visits_none same refuses = record { refuses = refuses; bodies = []; others = first_records slots c; stops = (before, refl, inl same); prefix = λ is. refl }

  -- reading the half that was chosen stopped
  pub visits_some : (half : Half) → (IsTrue told → half_in_force c ≡ Some half) → (IsTrue told → digest_at c (header_at half) ≡ digest) → StopsInHalf visits leaves told c (half_at slots half) slots before after fault → VisitsSome visits leaves told digest slots c before after fault
  visits_some half is same stopped = record {
    refuses = λ t. refuses_as digest slots c half stopped.bodies fault (is t) (same t) (stopped.short t);
    bodies = stopped.bodies;
    others = records_at c (half_at slots half + 64 * length stopped.bodies) (slots - length stopped.bodies);
    stops = stopped.stops;
    prefix = λ t.
        let short = stopped.short t in
        let few : length stopped.bodies ≤ slots = let fits = short.has.fits in let within = short.within in omega arith in
        ap (λ (l : List (List ℕ)). l ++ records_at c (half_at slots half + 64 * length stopped.bodies) (slots - length stopped.bodies)) (sym short.has.bodies_are)
        ∙ records_split c (half_at slots half) slots (length stopped.bodies) few short.has.opens
        ∙ ap (first_of_half slots c) (sym (is t));
  }

-- Visiting some slots, one after another.
module _ {V : Type 0} (visits : ℕ → List ℕ → V → V → Type 0) (leaves : V → V → Type 0) (found before count : ℕ) (slots : List ℕ) (old : V) where
  pub part_none : found ≤ before → VisitsPart visits found before 0 count slots old old found
  part_none few = record {
    own = [];
    size = omega arith;
    few = omega arith;
    reaches = refl;
    reads = λ c start was size is has. let none : before ≡ before + 0 = omega arith in as_read c start was has none;
  }
    where
      as_read : (c : Content) (start : ℕ) (was : List (List ℕ)) → HasRead c start before was → before ≡ before + 0 → HasRead c start (before + 0) (was ++ [])
      as_read c start was has none = subst (λ (n : ℕ). HasRead c start n (was ++ [])) none (subst (HasRead c start before) (sym (append-nil was)) has)

  -- the slot that comes next
  module _ (k n : ℕ) (mid : V) (records : ℕ) (lt : k < count) (is_n : n ≡ 64) (so_far : VisitsPart visits found before k count slots old mid records) where
    abbrev slot : List ℕ
    slot = take n (drop (64 * k) slots)

    part : (c : Content) (start : ℕ) → slots ≡ bytes_at c (start + 64 * before) (64 * count) → slot ≡ bytes_at c (start + 64 * (before + k)) 64
    part c start is = slot_of_part c start before count k n slots lt is_n is

    gate : (c : Content) (start : ℕ) → slots ≡ bytes_at c (start + 64 * before) (64 * count) → get_or slot 63 0 ≡ byte_at c (start + 64 * (before + k) + 63)
    gate c start is = slot_gate c (start + 64 * (before + k)) slot (part c start is)

    all : (was : List (List ℕ)) → length was ≡ found → length (was ++ so_far.own) ≡ records
    all was size = let own = so_far.size in omega (arith, length-append was so_far.own)

    next : before + k + 1 ≡ before + (k + 1)
    next = omega arith

    pub part_shut : get_or slot 63 0 ≢ 1 → VisitsPart visits found before (k + 1) count slots old mid records
    part_shut shut = record {
      own = so_far.own;
      size = so_far.size;
      few = let few = so_far.few in omega arith;
      reaches = so_far.reaches;
      reads = λ c start was size is has. subst (λ (m : ℕ). HasRead c start m (was ++ so_far.own)) next
          (more_shut c start (before + k) (was ++ so_far.own) (so_far.reads c start was size is has) (λ held. shut (gate c start is ∙ held)));
    }

    pub part_open : (body : List ℕ) (new : V) → get_or slot 63 0 ≡ 1 → before + k ≤ records → body ≡ take 63 slot → visits records body mid new → VisitsPart visits found before (k + 1) count slots old new (records + 1)
    part_open body new held full is_body visit = record {
      own = so_far.own ++ body ∷ [];
      size = let size = so_far.size in omega (arith, length-append so_far.own (body ∷ []));
      few = let few = so_far.few in omega arith;
      reaches = reach_more visits leaves found records so_far.own body old mid new so_far.size so_far.reaches visit;
      reads = λ c start was size is has.
          subst (HasRead c start (before + (k + 1))) (append_assoc was so_far.own (body ∷ [])) (
          subst (λ (m : ℕ). HasRead c start m (was ++ so_far.own ++ body ∷ [])) next
          (more_open c start (before + k) (was ++ so_far.own) (so_far.reads c start was size is has) body (let few = so_far.few in omega (arith, all was size)) (sym (gate c start is) ∙ held)
          (sym (is_body ∙ slot_body c (start + 64 * (before + k)) slot (part c start is)))));
    }

    pub part_disorder : get_or slot 63 0 ≡ 1 → records < before + k → StopsInPart visits leaves found before count slots old mid NotACache
    part_disorder held fewer = record {
      own = so_far.own;
      stops = stop_here visits leaves found so_far.own old mid so_far.reaches;
      narrow = tt;
      reads = λ c start was size is has.
          let read = so_far.reads c start was size is has in
          record {
            upto = before + k;
            within = omega arith;
            has = read;
            why = disorder_more c start (before + k + 1) (before + count) (omega arith) (found_disorder c start (before + k) (was ++ so_far.own) read (omega (arith, all was size)) (sym (gate c start is) ∙ held));
          };
    }

    pub part_refused : (new : V) → leaves mid new → StopsInPart visits leaves found before count slots old new OutOfMemory
    part_refused new left = record {
      own = so_far.own;
      stops = (mid, so_far.reaches, inr left);
      narrow = tt;
      reads = λ c start was size is has. record { upto = before + k; within = omega arith; has = so_far.reads c start was size is has; why = tt };
    }

stopped_later : (c : Content) (start upto slots : ℕ) (fault : OpenFault) → upto ≤ slots → IsStopped c start upto fault → IsStopped c start slots fault
stopped_later c start upto slots NotACache le why = disorder_more c start upto slots le why
stopped_later c start upto slots (CatalogueDiffers found asked) le why = why
stopped_later c start upto slots (BadRecord bad) le why = why
stopped_later c start upto slots Spent le why = why
stopped_later c start upto slots DiskFault le why = tt
stopped_later c start upto slots OutOfMemory le why = tt

-- Visiting the slots of a half, some at a time.
module _ {V : Type 0} (visits : ℕ → List ℕ → V → V → Type 0) (leaves : V → V → Type 0) (told : Bool) (c : Content) (start : ℕ) (old : V) where
  pub half_none : VisitsFirst visits told c start 0 old old 0
  half_none = record { bodies = []; size = refl; few = omega arith; reaches = refl; has = λ t. none_read c start }

  module _ (done found : ℕ) (mid : V) (so_far : VisitsFirst visits told c start done old mid found) where
    -- nothing more was read
    pub half_stops : (slots : ℕ) (fault : OpenFault) → done ≤ slots → IsStopped c start slots fault → StopsInHalf visits leaves told c start slots old mid fault
    half_stops slots fault le why = record {
      bodies = so_far.bodies;
      stops = stop_here visits leaves 0 so_far.bodies old mid so_far.reaches;
      short = λ t. record { upto = done; within = le; has = so_far.has t; why = why };
    }

    module _ (count : ℕ) (part : List ℕ) (new : V) (is : IsTrue told → part ≡ bytes_at c (start + 64 * done) (64 * count)) where
      pub half_more : (records : ℕ) → VisitsPart visits found done count count part mid new records → VisitsFirst visits told c start (done + count) old new records
      half_more records more = record {
        bodies = so_far.bodies ++ more.own;
        size = let was = so_far.size in let size = more.size in omega (arith, length-append so_far.bodies more.own);
        few = more.few;
        reaches = reach_then visits leaves 0 found so_far.bodies more.own old mid new (let was = so_far.size in omega arith) so_far.reaches more.reaches;
        has = λ t. more.reads c start so_far.bodies (sym so_far.size) (is t) (so_far.has t);
      }

      pub half_stopped : (slots : ℕ) (fault : OpenFault) → done + count ≤ slots → StopsInPart visits leaves found done count part mid new fault → StopsInHalf visits leaves told c start slots old new fault
      half_stopped slots fault le stopped = record {
        bodies = so_far.bodies ++ stopped.own;
        stops = stop_then visits leaves 0 found so_far.bodies stopped.own old mid new (let was = so_far.size in omega arith) so_far.reaches stopped.stops;
        short = λ t.
            let short = stopped.reads c start so_far.bodies (sym so_far.size) (is t) (so_far.has t) in
            record { upto = short.upto; within = let within = short.within in omega arith; has = short.has; why = stopped_later c start (done + count) slots fault le short.why };
      }

-- as the answer of the call
pub stops_as : {V : Type 0} (visits : ℕ → List ℕ → V → V → Type 0) (leaves : V → V → Type 0) (told : Bool) (c : Content) (start slots : ℕ) (old new : V) (result : Result ℕ OpenFault) (fault : OpenFault) → result ≡ Err fault
    → StopsInHalf visits leaves told c start slots old new fault → ComesOfHalf visits leaves told c start slots old new result
stops_as visits leaves told c start slots old new result fault is stops = subst (ComesOfHalf visits leaves told c start slots old new) (sym is) stops

-- the bytes that were read, by how many there are
pub read_bytes : (c : Content) (at n m : ℕ) (bytes : List ℕ) → bytes ≡ bytes_at c at n → length bytes ≡ m → bytes ≡ bytes_at c at m
read_bytes c at n m bytes is size = let same : n ≡ m = omega (arith, length-bytes_at c at n, ap length is, size) in is ∙ ap (bytes_at c at) same

-- a visitor that collects the bodies has those that it was led over
pub collected : {V : Type 0} (items : V → List (List ℕ)) (first : ℕ) (bodies : List (List ℕ)) (old new : V) → Reaches (λ s body v w. items w ≡ items v ++ body ∷ []) first bodies old new → items new ≡ items old ++ bodies
collected items first [] old new reaches = ap items reaches ∙ sym (append-nil (items old))
collected items first (body ∷ bodies) old new reaches =
    collected items (first + 1) bodies reaches.0 new reaches.2 ∙ ap (λ (l : List (List ℕ)). l ++ bodies) reaches.1 ∙ append_assoc (items old) (body ∷ []) bodies

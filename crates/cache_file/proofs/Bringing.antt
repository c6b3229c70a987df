-- What the calls on the records bring.
use Rattle.std.proofs.Common.{◌≡◌, ◌⊎◌, ℕ, zero, suc, ◌<◌, List, refl, sym, ◌∙◌, subst, arith, inl, inr, Result, Ok, Err, OnOk, OnErr}
use Rattle.disk_model.specs.Content.{Content}
use Rattle.disk_model.specs.Images.{DiskState, ChangesBy, Leaves}
use Rattle.disk_model.specs.Moments.{leaves_as, leaves_none, leaves_then}
use Rattle.gate_journal.specs.declared.journal.Journal.{Journal}
use Rattle.gate_journal.specs.Calls.{Moves}
use Rattle.gate_journal.specs.Layout.{journal_length}
use Rattle.gate_journal.specs.Opened.{Opening, opened, records}
use Rattle.gate_journal.specs.Sound.{IsAlike, IsSettled, IsSound, SameFrom, slots_of, version_of}
use Rattle.cache_file.specs.File.{Anywhere, Brings, HasHeld, IsAmong, held, opens_to, readied, unsure}
use Rattle.cache_file.proofs.Sparing.{leaves_both, past_now, past_then, settled_sure, whole_now}

-- what an image has at each moment of a call that is to bring this
abbrev pub AtMoment : Opening → ℕ → Journal → DiskState → Content → Type 0
AtMoment after start j old c = IsAmong j old after (opens_to j c) × HasHeld start Anywhere old c

-- A call of the journal, which at each moment leaves the records from before or the second.
module _ (bodies : List (List ℕ)) (version : ℕ) (second : Opening) (start : ℕ) (j j' : Journal) (old new : DiskState)
    (begins : start ≡ journal_length (slots_of j)) (sound : IsSound j old) (among : IsAmong j old (records version bodies) second) where
  abbrev after : Opening
  after = records version bodies

  moments : {T E : Type 0} (result : Result T E) → Moves result bodies second j j' old new → Leaves old new (AtMoment after start j old)
  moments result moves =
      leaves_both old new (λ c. IsAmong j old after (opens_to j c)) (HasHeld start Anywhere old)
      (leaves_as old new (λ c. (opens_to j c ≡ held j old) ⊎ (opens_to j c ≡ second)) (λ c. IsAmong j old after (opens_to j c)) moves.any_moment (λ c is.
      elim is [ inl before ↦ inl before | inr other ↦ subst (IsAmong j old after) (sym other) among ]))
      (past_then start old new (whole_now start j old begins sound) (subst (λ (n : ℕ). ChangesBy (SameFrom n) old new) (sym begins) moves.past))

  pub brings_of : {T E : Type 0} (result : Result T E) → Moves result bodies second j j' old new → OnOk result (version_of j' ≡ version) → OnErr result (version_of j' ≡ version_of j) → OnOk result (IsSettled j')
      → Brings result after start j j' old new
  brings_of (Ok value) moves is_version same_version settled =
      let done : held j' new ≡ after = λ k. records (is_version k) (moves.done k) in
      record {
        sound = moves.sound;
        done = done;
        failed = tt;
        then_unsure = inr (inr (settled_sure j' new settled ∙ done));
        keeps = past_now start old new (whole_now start j old begins sound) (subst (λ (n : ℕ). ChangesBy (SameFrom n) old new) (sym begins) moves.past);
        any_moment = moments (Ok value) moves;
      }
  brings_of (Err fault) moves is_version same_version settled = record {
    sound = moves.sound;
    done = tt;
    failed = λ k. records (same_version k) (moves.failed k);
    then_unsure = elim moves.undecided [ inl before ↦ inl before | inr other ↦ subst (IsAmong j old after) (sym other) among ];
    keeps = past_now start old new (whole_now start j old begins sound) (subst (λ (n : ℕ). ChangesBy (SameFrom n) old new) (sym begins) moves.past);
    any_moment = moments (Err fault) moves;
  }

-- no call
pub brings_none : {T E : Type 0} (value : T) (start : ℕ) (j : Journal) (disk : DiskState) → start ≡ journal_length (slots_of j) → IsSound j disk → Brings {T = T} {E = E} (Ok value) (held j disk) start j j disk disk
brings_none value start j disk begins sound = record {
  sound = sound;
  done = refl;
  failed = tt;
  then_unsure = inr (inl refl);
  keeps = λ c now. record { whole = whole_now start j disk begins sound c now; blobs = λ place blob any holds. holds c now };
  any_moment = leaves_none disk (AtMoment (held j disk) start j disk);
}

-- where there is room, and where there is none
pub readied_some : (room : ℕ) (before : Opening) (bodies : List (List ℕ)) → 0 < room → readied room before bodies ≡ before
readied_some zero before bodies some = absurd (omega arith)
readied_some (suc room) before bodies some = refl

pub readied_none : (room : ℕ) (before : Opening) (bodies : List (List ℕ)) → room ≡ 0 → readied room before bodies ≡ records 2 bodies
readied_none zero before bodies none = refl
readied_none (suc room) before bodies none = absurd (omega arith)

-- A call that leaves the records as they are, and another one after it.
module _ (after : Opening) (start : ℕ) (j jm : Journal) (old mid : DiskState) where
  widen : (o : Opening) → IsAmong j old (held j old) o → IsAmong j old after o
  widen o (inl before) = inl before
  widen o (inr (inl was)) = inr (inl was)
  widen o (inr (inr before)) = inl before

  widen_moment : (c : Content) → AtMoment (held j old) start j old c → AtMoment after start j old c
  widen_moment c (among, has) = (widen (opens_to j c) among, has)

  -- the first failed
  pub brings_failed : {T U E : Type 0} (other : E) (result : Result U E) (fault : E) → result ≡ Err fault → Brings {T = T} {E = E} (Err other) (held j old) start j jm old mid → Brings result after start j jm old mid
  brings_failed other (Ok value) fault is one = absurd (cc)
  brings_failed other (Err f) fault is one = record {
    sound = one.sound;
    done = tt;
    failed = one.failed;
    then_unsure = widen (unsure jm mid) one.then_unsure;
    keeps = one.keeps;
    any_moment = leaves_as old mid (AtMoment (held j old) start j old) (AtMoment after start j old) one.any_moment widen_moment;
  }

  -- both were called
  module _ (jn : Journal) (new : DiskState) (alike : IsAlike j jm) {S E : Type 0} (value : S) (one : Brings {T = S} {E = E} (Ok value) (held j old) start j jm old mid) where
    carry : (o : Opening) → IsAmong jm mid after o → IsAmong j old after o
    carry o (inl before) = inl (before ∙ one.done)
    carry o (inr (inl was)) = subst (IsAmong j old after) (sym was) (widen (unsure jm mid) one.then_unsure)
    carry o (inr (inr brought)) = inr (inr brought)

    same_opens : (c : Content) → opens_to j c ≡ opens_to jm c
    same_opens c = λ k. opened (sym alike.same_digest k) (sym alike.same_slots k) c

    has_before : (c : Content) → HasHeld start Anywhere mid c → HasHeld start Anywhere old c
    has_before c has = record { whole = has.whole; blobs = λ place blob any holds. has.blobs place blob any (λ d now. (one.keeps d now).blobs place blob any holds) }

    carry_moment : (c : Content) → AtMoment after start jm mid c → AtMoment after start j old c
    carry_moment c (among, has) = (subst (IsAmong j old after) (sym (same_opens c)) (carry (opens_to jm c) among), has_before c has)

    pub brings_then : {T : Type 0} (result : Result T E) → Brings result after start jm jn mid new → Brings result after start j jn old new
    brings_then result two = record {
      sound = two.sound;
      done = two.done;
      failed = failed_then result two.failed;
      then_unsure = carry (unsure jn new) two.then_unsure;
      keeps = λ c now. has_before c (two.keeps c now);
      any_moment = leaves_then old mid new (AtMoment after start j old)
          (leaves_as old mid (AtMoment (held j old) start j old) (AtMoment after start j old) one.any_moment widen_moment)
          (leaves_as mid new (AtMoment after start jm mid) (AtMoment after start j old) two.any_moment carry_moment);
    }
      where
        failed_then : {T : Type 0} (result : Result T E) → OnErr result (held jn new ≡ held jm mid) → OnErr result (held jn new ≡ held j old)
        failed_then (Ok v) is = tt
        failed_then (Err e) is = is ∙ one.done

-- One call more.
use Rattle.std.proofs.Common.{◌≡◌, ℕ, List, [], ◌∷◌, ◌++◌, length, refl, sym, ◌∙◌, ap, subst, arith, inl, inr, length-append, Option, Some, None, IsSome, Result, Ok, Err, OnOk, OnErr}
use Rattle.std.proofs.lemmas.List.{take_all, take-append-le}
use Rattle.std.proofs.lemmas.Bool.{cases_lt, false≢true}
use Rattle.std.specs.Prelude.{Vec}
use Rattle.std.specs.declared.alloc.Global.{Global}
use Rattle.disk_model.specs.Content.{Content, written, resized, TornWrite, TornCut, Same}
use Rattle.disk_model.specs.Images.{DiskState, Only, After, Elapses, Steps}
use Rattle.disk_model.specs.Replay.{seen_after_call, Tears, seen_after, ImagesAfter, Left, state_after, first_of}
use Rattle.disk_model.specs.Memory.{log_state}
use Rattle.disk_model.specs.Lawful.{lawful}
use Rattle.disk_model.specs.Writes.{unchanged_write, unchanged_cut, torn_written, torn_resized}
use Rattle.disk_model.specs.declared.log.Log.{Log}
use Rattle.disk_model.specs.declared.log.Call.{Call}
use Rattle.disk_model.specs.declared.log.Call.TheVariants.{Written, WriteFailed, Resized, CutFailed, Synced}

pub seen_after-push : (calls : List Call) (call : Call) (first : Content) → seen_after (calls ++ call ∷ []) first ≡ seen_after_call call (seen_after calls first)
seen_after-push [] call first = refl
seen_after-push (c ∷ calls) call first = seen_after-push calls call (seen_after_call c first)

images_after-push : (calls : List Call) (call : Call) (first : Content) (images : Content → Type 0)
    → ImagesAfter (calls ++ call ∷ []) first images ≡ After (Tears call (seen_after calls first)) (ImagesAfter calls first images)
images_after-push [] call first images = refl
images_after-push (c ∷ calls) call first images = images_after-push calls call (seen_after_call c first) (After (Tears c first) images)

-- what is kept is still what the calls lead to
pub still_replayed : (first : Option (Vec ℕ Global)) (bytes bytes' : List ℕ) (calls calls' : List Call) (call : Call) → IsSome first
    → bytes ≡ seen_after calls (first_of first bytes) → bytes' ≡ seen_after_call call bytes → calls' ≡ calls ++ call ∷ [] → bytes' ≡ seen_after calls' (first_of first bytes')
still_replayed None bytes bytes' calls calls' call some was now is = absurd (false≢true some)
still_replayed (Some first) bytes bytes' calls calls' call some was now is =
    now ∙ ap (seen_after_call call) was ∙ sym (seen_after-push calls call first.items) ∙ ap (λ (l : List Call). seen_after l first.items) (sym is)

module _ (first : Content) (calls : List Call) where
  abbrev Old : DiskState
  Old = state_after first calls

  -- time goes on by a call
  time : (call : Call) → Elapses Old (state_after first (calls ++ call ∷ []))
  time call = record {
    later = omega (arith, length-append calls (call ∷ []));
    nothing_else = λ t c le left. elim (cases_lt (length calls) left.0) [
      | inl past ↦ inr (subst (λ (l : List Call). Left first l c) (take_all left.0 (calls ++ call ∷ []) (omega (arith, length-append calls (call ∷ [])))) left.3)
      | inr before ↦ inl (left.0, left.1, before, subst (λ (l : List Call). Left first l c) (take-append-le left.0 calls (call ∷ []) before) left.3)
    ];
    keeps = λ t c le left.
        (left.0, left.1, (let before = left.2 in omega (arith, length-append calls (call ∷ []))), subst (λ (l : List Call). Left first l c) (sym (take-append-le left.0 calls (call ∷ []) left.2)) left.3);
  }

  -- a call that isn't a sync
  stepped : (call : Call) (step : Content → Content → Type 0) → Tears call (seen_after calls first) ≡ step → step (seen_after calls first) (seen_after_call call (seen_after calls first))
      → Steps step Old (state_after first (calls ++ call ∷ []))
  stepped call step is reads = record {
    reads = subst (step (seen_after calls first)) (sym (seen_after-push calls call first)) reads;
    crash = λ c image. subst (λ (s : Content → Content → Type 0). After s (Left first calls) c) is (subst (λ (P : Content → Type 0). P c) (images_after-push calls call first (Same first)) image);
    time = time call;
  }

  -- a sync
  synced_only : Only (seen_after (calls ++ Synced ∷ []) first) (Left first (calls ++ Synced ∷ []))
  synced_only c image =
      let after : After (Tears Synced (seen_after calls first)) (Left first calls) c = subst (λ (P : Content → Type 0). P c) (images_after-push calls Synced first (Same first)) image in
      after.2 ∙ sym (seen_after-push calls Synced first)

  synced : Steps Same Old (state_after first (calls ++ Synced ∷ []))
  synced = record {
    reads = seen_after-push calls Synced first;
    crash = λ c image. (seen_after calls first, (lawful first calls).reads_as, synced_only c image ∙ seen_after-push calls Synced first);
    time = time Synced;
  }

-- no call
unchanged : (step : Content → Content → Type 0) → ((c : Content) → step c c) → (disk : DiskState) → Steps step disk disk
unchanged step same disk = record {
  reads = same disk.seen;
  crash = λ c image. (c, image, same c);
  time = record { later = omega arith; nothing_else = λ t c le left. inl left; keeps = λ t c le left. left };
}

-- The same of two logs, where the new one has some calls more, or none.
module _ (old new : Log) (same_first : first_of new.first new.bytes.items ≡ first_of old.first old.bytes.items) where
  abbrev first : Content
  first = first_of old.first old.bytes.items

  abbrev calls : List Call
  calls = old.calls.items

  abbrev calls' : List Call
  calls' = new.calls.items

  abbrev Before : DiskState
  Before = log_state old

  abbrev Now : DiskState
  Now = log_state new

  carried : (step : Content → Content → Type 0) (more : List Call) → calls' ≡ more → Steps step Before (state_after first more) → Steps step Before Now
  carried step more is steps = subst (λ (f : Content). Steps step Before (state_after f calls')) (sym same_first) (subst (λ (l : List Call). Steps step Before (state_after first l)) (sym is) steps)

  pub steps_none : (step : Content → Content → Type 0) → ((c : Content) → step c c) → calls' ≡ calls → Steps step Before Now
  steps_none step same is = carried step calls is (unchanged step same Before)

  -- what a read gives, after a call that leaves that as it is, and after none
  pub seen_kept : (call : Call) → ((c : Content) → seen_after_call call c ≡ c) → calls' ≡ calls ++ call ∷ [] → Now.seen ≡ Before.seen
  seen_kept call keeps is =
      ap (λ (f : Content). seen_after calls' f) same_first ∙ ap (λ (l : List Call). seen_after l first) is ∙ seen_after-push calls call first ∙ keeps (seen_after calls first)

  pub seen_none : calls' ≡ calls → Now.seen ≡ Before.seen
  seen_none is = ap (λ (f : Content). seen_after calls' f) same_first ∙ ap (λ (l : List Call). seen_after l first) is

  module _ (at : ℕ) (bytes : List ℕ) (kept : Vec ℕ Global) (same : kept.items ≡ bytes) where
    abbrev Torn : Content → Content → Type 0
    Torn = TornWrite at (length bytes)

    pub steps_written : calls' ≡ calls ++ Written at kept ∷ [] → Steps Torn Before Now
    steps_written is = carried Torn (calls ++ Written at kept ∷ []) is (stepped first calls (Written at kept) Torn (ap (λ (l : List ℕ). TornWrite at (length l)) same)
        (subst (λ (l : List ℕ). TornWrite at (length l) (seen_after calls first) (written at kept.items (seen_after calls first))) same (torn_written at kept.items (seen_after calls first))))

    pub seen_written : calls' ≡ calls ++ Written at kept ∷ [] → Now.seen ≡ written at bytes Before.seen
    seen_written is =
        ap (λ (f : Content). seen_after calls' f) same_first ∙ ap (λ (l : List Call). seen_after l first) is ∙ seen_after-push calls (Written at kept) first
        ∙ ap (λ (l : List ℕ). written at l (seen_after calls first)) same

    pub steps_write_failed : calls' ≡ calls ++ WriteFailed at kept ∷ [] → Steps Torn Before Now
    steps_write_failed is = carried Torn (calls ++ WriteFailed at kept ∷ []) is (stepped first calls (WriteFailed at kept) Torn (ap (λ (l : List ℕ). TornWrite at (length l)) same)
        (unchanged_write at (length bytes) (seen_after calls first)))

  pub steps_resized : (size : ℕ) → calls' ≡ calls ++ Resized size ∷ [] → Steps (TornCut size) Before Now
  steps_resized size is = carried (TornCut size) (calls ++ Resized size ∷ []) is (stepped first calls (Resized size) (TornCut size) refl (torn_resized size (seen_after calls first)))

  pub seen_resized : (size : ℕ) → calls' ≡ calls ++ Resized size ∷ [] → Now.seen ≡ resized size Before.seen
  seen_resized size is = ap (λ (f : Content). seen_after calls' f) same_first ∙ ap (λ (l : List Call). seen_after l first) is ∙ seen_after-push calls (Resized size) first

  pub steps_cut_failed : (size : ℕ) → calls' ≡ calls ++ CutFailed size ∷ [] → Steps (TornCut size) Before Now
  steps_cut_failed size is = carried (TornCut size) (calls ++ CutFailed size ∷ []) is (stepped first calls (CutFailed size) (TornCut size) refl (unchanged_cut size (seen_after calls first)))

  pub steps_synced : calls' ≡ calls ++ Synced ∷ [] → Steps Same Before Now
  steps_synced is = carried Same (calls ++ Synced ∷ []) is (synced first calls)

  pub only_synced : calls' ≡ calls ++ Synced ∷ [] → Only Now.seen Now.may_leave
  only_synced is = subst (λ (f : Content). Only (seen_after calls' f) (Left f calls')) (sym same_first)
      (subst (λ (l : List Call). Only (seen_after l first) (Left first l)) (sym is) (synced_only first calls))

-- a result is one or the other
pub either : {T E A B C : Type 0} (result : Result T E) → OnOk result A → OnErr result B → (A → C) → (B → C) → C
either (Ok value) good bad from_good from_bad = from_good good
either (Err fault) good bad from_good from_bad = from_bad bad

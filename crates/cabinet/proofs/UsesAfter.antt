-- The clock and the uses after one more entry.
use Rattle.std.proofs.Common.{ℕ, ◌≡◌, Bool, true, false, cond, [], ◌∷◌, ◌++◌, fold, refl, ap, ◌∙◌}
use Rattle.std.proofs.lemmas.Grind.{fold-append}
use Rattle.expiry_policy.specs.declared.uses.Use.{Use}
use Rattle.expiry_policy.specs.Victims.{all_saved, one_more, used_at}
use Rattle.metatile_plan.specs.declared.metatile.MetaKey.{MetaKey}
use Rattle.metatile_plan.specs.Keys.{same_meta}
use Rattle.metatile_plan.proofs.Same.{same_meta_is, same_meta_self}
use Rattle.cabinet.specs.declared.entry.HistoryEntry.{HistoryEntry}
use Rattle.cabinet.specs.declared.entry.HistoryEntry.TheVariants as entry
use Rattle.cabinet.specs.Counted.{Times, clock, clock_after, last_use, saved, saved_after, times_after, use_of, uses, uses_after}
use Rattle.cabinet.specs.History.{History}
use Rattle.cabinet.proofs.Sentences.{at_both}

-- ONE ENTRY MORE

pub clock_more : (h : History) (e : HistoryEntry) → clock (h ++ e ∷ []) ≡ clock_after (clock h) e
clock_more h e = rw fold-append refl

-- the count of times is the clock
count_is : (m : MetaKey) (t : Times) (h : History) → (fold (times_after m) t h).count ≡ fold clock_after t.count h
count_is m t [] = refl
count_is m t (entry.At n ∷ es) = count_is m t es
count_is m t (entry.Started k o ∷ es) = count_is m t es
count_is m t (entry.Cut n cover ∷ es) = count_is m t es
count_is m t (entry.Missed n ∷ es) = count_is m t es
count_is m t (entry.Stored k o place length b u ∷ es) = count_is m (times_after m t (entry.Stored k o place length b u)) es
count_is m t (entry.Counted o u ∷ es) = count_is m t es
count_is m t (entry.Ended k ∷ es) = count_is m t es
count_is m t (entry.Used o ∷ es) = count_is m (times_after m t (entry.Used o)) es
count_is m t (entry.Dropped o ∷ es) = count_is m t es

abbrev at_first : Times
at_first = record { count = 0; last = 0 }

abbrev times : History → MetaKey → Times
times h m = fold (times_after m) at_first h

times_more : (h : History) (e : HistoryEntry) (m : MetaKey) → times (h ++ e ∷ []) m ≡ times_after m (times h m) e
times_more h e m = rw fold-append refl

uses_more : (h : History) (e : HistoryEntry) (m : MetaKey) → uses (h ++ e ∷ []) m ≡ uses_after m (uses h m) e
uses_more h e m = rw fold-append refl

saved_more : (h : History) (e : HistoryEntry) (m : MetaKey) → saved (h ++ e ∷ []) m ≡ saved_after m (saved h m) e
saved_more h e m = rw fold-append refl

-- the use after one more entry
abbrev use_then : History → HistoryEntry → MetaKey → Use
use_then h e m = record { meta = m; uses = uses_after m (uses h m) e; saved = saved_after m (saved h m) e; last = (times_after m (times h m) e).last }

pub use_more : (h : History) (e : HistoryEntry) (m : MetaKey) → use_of (h ++ e ∷ []) m ≡ use_then h e m
use_more h e m = λ i. record { meta = m; uses = uses_more h e m i; saved = saved_more h e m i; last = (times_more h e m i).last }

-- the last use, where an entry is one of a metatile
last_then : (h : History) (m : MetaKey) (v : Bool) → cond v (one_more (times h m).count) (times h m).last ≡ cond v (one_more (clock h)) (last_use h m)
last_then h m v = ap (λ (n : ℕ). cond v (one_more n) (times h m).last) (count_is m at_first h)

pub same_swap : (m n : MetaKey) → same_meta m n ≡ same_meta n m
same_swap m n = at_both m m n (same_meta_self m)

-- A USE

used_then : (h : History) (m : MetaKey) (v : Bool)
    → record { meta = m; uses = cond v (one_more (uses h m)) (uses h m); saved = saved h m; last = cond v (one_more (clock h)) (last_use h m) } ≡ cond v (used_at (one_more (clock h)) (use_of h m)) (use_of h m)
used_then h m true = refl
used_then h m false = refl

pub used_more : (h : History) (o m : MetaKey) → use_of (h ++ entry.Used o ∷ []) m ≡ cond (same_meta m o) (used_at (one_more (clock h)) (use_of h m)) (use_of h m)
used_more h o m =
    use_more h (entry.Used o) m
    ∙ ap (λ (n : ℕ). record { meta = m; uses = cond (same_meta o m) (one_more (uses h m)) (uses h m); saved = saved h m; last = n }) (last_then h m (same_meta o m))
    ∙ used_then h m (same_meta o m)
    ∙ ap (λ (v : Bool). cond v (used_at (one_more (clock h)) (use_of h m)) (use_of h m)) (same_swap o m)

-- A SAVING

-- all its uses are saved where so many are told
pub counted_more : (h : History) (o m : MetaKey) (u : ℕ) → u ≡ uses h o → use_of (h ++ entry.Counted o u ∷ []) m ≡ cond (same_meta m o) (all_saved (use_of h m)) (use_of h m)
counted_more h o m u are = use_more h (entry.Counted o u) m ∙ chosen (same_meta o m) refl ∙ ap (λ (v : Bool). cond v (all_saved (use_of h m)) (use_of h m)) (same_swap o m)
  where
    chosen : (v : Bool) → same_meta o m ≡ v → record { meta = m; uses = uses h m; saved = cond (same_meta o m) u (saved h m); last = last_use h m } ≡ cond v (all_saved (use_of h m)) (use_of h m)
    chosen true is =
        let its : u ≡ uses h m = are ∙ ap (uses h) (same_meta_is o m is) in
        ap (λ (w : Bool). record { meta = m; uses = uses h m; saved = cond w u (saved h m); last = last_use h m }) is ∙ ap (λ (n : ℕ). record { meta = m; uses = uses h m; saved = n; last = last_use h m }) its
    chosen false is = ap (λ (w : Bool). record { meta = m; uses = uses h m; saved = cond w u (saved h m); last = last_use h m }) is

-- A STORED ONE

module _ (h : History) (k : ℕ) (o : MetaKey) (place length b u : ℕ) where
  abbrev storing : HistoryEntry
  storing = entry.Stored k o place length b u

  pub stored_then : (m : MetaKey) (v : Bool) → same_meta o m ≡ v → use_of (h ++ storing ∷ []) m ≡ record { meta = m; uses = cond v u (uses h m); saved = cond v u (saved h m); last = cond v (one_more (clock h)) (last_use h m) }
  stored_then m v e =
      use_more h (entry.Stored k o place length b u) m
      ∙ ap (λ (n : ℕ). record { meta = m; uses = cond (same_meta o m) u (uses h m); saved = cond (same_meta o m) u (saved h m); last = n }) (last_then h m (same_meta o m))
      ∙ ap (λ (w : Bool). record { meta = m; uses = cond w u (uses h m); saved = cond w u (saved h m); last = cond w (one_more (clock h)) (last_use h m) }) e

  pub stored_here : use_of (h ++ storing ∷ []) o ≡ record { meta = o; uses = u; saved = u; last = one_more (clock h) }
  stored_here = stored_then o true (same_meta_self o)

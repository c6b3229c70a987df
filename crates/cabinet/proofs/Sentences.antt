-- The lists that stand after a history agree with the sentence on each metatile.
use Rattle.std.proofs.Common.{◌≡◌, Bool, true, false, cond, not, List, [], ◌∷◌, ◌++◌, ◌≢◌, map, fold, find, Option, Some, None, refl, sym, ap, subst, ◌∙◌}
use Rattle.std.specs.List.{AllByRecursion}
use Rattle.std.specs.Option.{option_or}
use Rattle.std.proofs.lemmas.Grind.{fold-append}
use Rattle.std.proofs.lemmas.List.Folds.{find-append}
use Rattle.catalog.specs.declared.catalogue.Catalogue.{Catalogue}
use Rattle.metatile_plan.specs.declared.metatile.MetaKey.{MetaKey}
use Rattle.metatile_plan.specs.Keys.{same_meta}
use Rattle.metatile_plan.proofs.Same.{same_meta_is}
use Rattle.metatile_locks.proofs.Lists.{find_filter}
use Rattle.cabinet.specs.declared.entry.HistoryEntry.{HistoryEntry}
use Rattle.cabinet.specs.declared.entry.HistoryEntry.TheVariants as entry
use Rattle.cabinet.specs.declared.kept.Kept.{Kept}
use Rattle.cabinet.specs.Fresh.{ApartBy, MayBeginWith}
use Rattle.cabinet.specs.Hits.{hits_of}
use Rattle.truncation_list.specs.declared.book.Cut.{Cut}
use Rattle.cabinet.specs.History.{CabinetOpening, CabinetStanding, History, after, but, first, first_entries, is_of, kept, kept_after, kept_of, standing, stored_entry, whole}
use Rattle.cabinet.proofs.Lists.{either_same}
use Rattle.cabinet.proofs.WithUses.{found_set}

truths : (b c : Bool) → (b ≡ true → c ≡ true) → (c ≡ true → b ≡ true) → b ≡ c
truths true c f g = sym (f refl)
truths false true f g = absurd (let e = g refl in cc)
truths false false f g = refl

-- what is of m is of n exactly where n is m
pub at_both : (u m n : MetaKey) → same_meta u m ≡ true → same_meta u n ≡ same_meta n m
at_both u m n is =
    truths (same_meta u n) (same_meta n m) (λ h. subst (λ (x : MetaKey). same_meta x m ≡ true) (same_meta_is u n h) is) (λ h. subst (λ (x : MetaKey). same_meta u x ≡ true) (sym (same_meta_is n m h)) is)

off_at : (v : Bool) (f : Option Kept) → cond (not v) f None ≡ cond v None f
off_at true f = refl
off_at false f = refl

pub stored_at : (t : Kept) (v : Bool) (f : Option Kept) → option_or (cond (not v) f None) (cond v (Some t) None) ≡ cond v (Some t) f
stored_at t true f = refl
stored_at t false None = refl
stored_at t false (Some x) = refl

pub but_is : (m n : MetaKey) (ts : List Kept) → find (is_of m) (but n ts) ≡ cond (not (same_meta n m)) (find (is_of m) ts) None
but_is m n ts = find_filter (is_of m) (λ t. not (is_of n t)) (not (same_meta n m)) (λ t at. ap not (at_both t.meta m n at)) ts

pub kept_step : (c : Catalogue) (m : MetaKey) (s : CabinetStanding) (e : HistoryEntry) → kept_of m (after c s e) ≡ kept_after c m (kept_of m s) e
kept_step c m s (entry.At n) = refl
kept_step c m s (entry.Started k n) = refl
kept_step c m s (entry.Cut t cover) =
    find_filter (is_of m) (λ x. not (hits_of c cover x.meta)) (not (hits_of c cover m)) (λ x at. ap (λ (n : MetaKey). not (hits_of c cover n)) (same_meta_is x.meta m at)) s.kept ∙ off_at (hits_of c cover m) (find (is_of m) s.kept)
kept_step c m s (entry.Missed t) = refl
kept_step c m s (entry.Stored k n place length b uses) =
    let t : Kept = record { number = k; meta = n; place = place; length = length; moment = b; uses = uses } in
    find-append (is_of m) (but n s.kept) (t ∷ [])
    ∙ ap (λ (f : Option Kept). option_or f (cond (same_meta n m) (Some t) None)) (but_is m n s.kept)
    ∙ stored_at t (same_meta n m) (find (is_of m) s.kept)
kept_step c m s (entry.Counted n u) = found_set n u m s.kept
kept_step c m s (entry.Ended k) = refl
kept_step c m s (entry.Used n) = refl
kept_step c m s (entry.Dropped n) = but_is m n s.kept ∙ off_at (same_meta n m) (find (is_of m) s.kept)

kept_run : (c : Catalogue) (m : MetaKey) (s : CabinetStanding) (h : History) → kept_of m (standing c s h) ≡ fold (kept_after c m) (kept_of m s) h
kept_run c m s [] = refl
kept_run c m s (e ∷ es) = kept_run c m (after c s e) es ∙ ap (λ (o : Option Kept). fold (kept_after c m) o es) (kept_step c m s e)

-- WHAT IT BEGINS WITH

-- the cuts of an opening leave nothing kept
first_cuts : (c : Catalogue) (m : MetaKey) (ks : List Cut) (more : History) → fold (kept_after c m) None (map (λ k. entry.Cut k.number k.cover) ks ++ more) ≡ fold (kept_after c m) None more
first_cuts c m [] more = refl
first_cuts c m (k ∷ ks) more = ap (λ (o : Option Kept). fold (kept_after c m) o (map (λ k. entry.Cut k.number k.cover) ks ++ more)) (either_same None (hits_of c k.cover m)) ∙ first_cuts c m ks more

none_of : (m : MetaKey) (t : Kept) (ts : List Kept) → same_meta t.meta m ≡ true → AllByRecursion (λ u. t.meta ≢ u.meta) ts → find (is_of m) ts ≡ None
none_of m t [] is a = refl
none_of m t (u ∷ us) is a = off (same_meta u.meta m) refl (none_of m t us is a.1)
  where
    off : (v : Bool) → same_meta u.meta m ≡ v → find (is_of m) us ≡ None → cond v (Some u) (find (is_of m) us) ≡ None
    off true e rest = absurd (a.0 (same_meta_is t.meta m is ∙ sym (same_meta_is u.meta m e)))
    off false e rest = rest

-- what it keeps of a metatile is the last that is stored, since it is stored once
first_kept : (c : Catalogue) (m : MetaKey) (was : Option Kept) (ts : List Kept) → ApartBy (λ t. t.meta) ts → fold (kept_after c m) was (map stored_entry ts) ≡ option_or (find (is_of m) ts) was
first_kept c m was [] a = refl
first_kept c m was (t ∷ ts) a = chosen (same_meta t.meta m) refl (λ x. first_kept c m x ts a.1)
  where
    chosen : (v : Bool) → same_meta t.meta m ≡ v
        → ((x : Option Kept) → fold (kept_after c m) x (map stored_entry ts) ≡ option_or (find (is_of m) ts) x) → fold (kept_after c m) (cond v (Some t) was) (map stored_entry ts) ≡ option_or (cond v (Some t) (find (is_of m) ts)) was
    chosen true e rest = rest (Some t) ∙ ap (λ (o : Option Kept). option_or o (Some t)) (none_of m t ts e a.0)
    chosen false e rest = rest was

or_none : (o : Option Kept) → option_or o None ≡ o
or_none None = refl
or_none (Some t) = refl

first_is : (c : Catalogue) (o : CabinetOpening) (m : MetaKey) → MayBeginWith c o → kept c (first_entries o) m ≡ kept_of m (first o)
first_is c o m opens = first_cuts c m o.book.cuts (map stored_entry o.kept) ∙ first_kept c m None o.kept opens.once ∙ or_none (find (is_of m) o.kept)

pub kept_is : (c : Catalogue) (o : CabinetOpening) (h : History) (m : MetaKey) → MayBeginWith c o → kept_of m (standing c (first o) h) ≡ kept c (whole o h) m
kept_is c o h m opens =
    let end : kept c (whole o h) m ≡ fold (kept_after c m) (kept c (first_entries o) m) h = rw fold-append refl in
    kept_run c m (first o) h ∙ sym (end ∙ ap (λ (was : Option Kept). fold (kept_after c m) was h) (first_is c o m opens))

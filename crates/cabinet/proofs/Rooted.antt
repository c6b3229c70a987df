-- What is kept or runs was begun in the history, and is a metatile of the catalogue.
use Rattle.std.proofs.Common.{ℕ, ◌≡◌, Bool, not, List, [], ◌∷◌, ◌++◌, map, Some, inl, inr, refl, sym, subst, append_assoc, append-nil}
use Rattle.std.specs.List.{AllByRecursion}
use Rattle.catalog.specs.declared.catalogue.Catalogue.{Catalogue}
use Rattle.metatile_plan.specs.declared.metatile.MetaKey.{MetaKey}
use Rattle.raster_field.specs.Blocks.{IsMeta}
use Rattle.metatile_locks.specs.declared.render.Render.{Render}
use Rattle.metatile_locks.specs.Running.{marked, unmarked, has_number, is_render_of}
use Rattle.metatile_locks.proofs.Lists.{all_weaker, all_map, all_filter}
use Rattle.metatile_locks.proofs.Runs.{marked_is}
use Rattle.cabinet.specs.declared.entry.HistoryEntry.{HistoryEntry}
use Rattle.cabinet.specs.declared.entry.HistoryEntry.TheVariants as entry
use Rattle.cabinet.specs.declared.kept.Kept.{Kept}
use Rattle.cabinet.specs.Hits.{hits_of}
use Rattle.cabinet.specs.History.{History, CabinetOpening, CabinetStanding, first, first_entries, is_of, but, after, standing, stored_entry, kept_of, whole}
use Rattle.cabinet.specs.Fresh.{Begins, Follows, May, Possible}
use Rattle.cabinet.proofs.Holding.{kept_has}
use Rattle.cabinet.proofs.Lists.{all_push, all_found}
use Rattle.cabinet.proofs.WithUses.{all_set}

pub begins_left : (k : ℕ) (m : MetaKey) (h more : History) → Begins k m h → Begins k m (h ++ more)
begins_left k m [] more s = absurd s
begins_left k m (e ∷ es) more (inl x) = inl x
begins_left k m (e ∷ es) more (inr y) = inr (begins_left k m es more y)

pub begins_right : (k : ℕ) (m : MetaKey) (h more : History) → Begins k m more → Begins k m (h ++ more)
begins_right k m [] more s = s
begins_right k m (e ∷ es) more s = inr (begins_right k m es more s)

-- what is said of numbers and metatiles holds of all that is kept or runs
pub record Rooted (P : ℕ → MetaKey → Type 0) (s : CabinetStanding) : Type 0 where
  pub kept : AllByRecursion (λ t. P t.number t.meta) s.kept
  pub out : AllByRecursion (λ r. P r.number r.meta) s.out

module _ (P : ℕ → MetaKey → Type 0) where
  marked_has : (is_hit : MetaKey → Bool) (t : ℕ) (r : Render) → P r.number r.meta → P (marked is_hit t r).number (marked is_hit t r).meta
  marked_has is_hit t r h = subst (λ (n : ℕ). P n (marked is_hit t r).meta) (sym (marked_is is_hit t r).number) (subst (λ (m : MetaKey). P r.number m) (sym (marked_is is_hit t r).meta) h)

  -- an entry but Started leaves what is rooted so
  pub rooted_after : (c : Catalogue) (s : CabinetStanding) (e : HistoryEntry) → ((k : ℕ) (m : MetaKey) → e ≡ entry.Started k m → P k m) → Rooted P s → May c s e → Rooted P (after c s e)
  rooted_after c s (entry.At n) new r may = record { kept = r.kept; out = r.out }
  rooted_after c s (entry.Started k m) new r may = record { kept = r.kept; out = all_push (λ (x : Render). P x.number x.meta) s.out (unmarked k m s.moment) r.out (new k m refl) }
  rooted_after c s (entry.Cut t cover) new r may = record {
    kept = all_filter (λ (x : Kept). P x.number x.meta) (λ x. not (hits_of c cover x.meta)) s.kept r.kept;
    out = all_map (marked (hits_of c cover) t) (λ (x : Render). P x.number x.meta) s.out (all_weaker (λ (x : Render). P x.number x.meta) (λ x. P (marked (hits_of c cover) t x).number (marked (hits_of c cover) t x).meta) (marked_has (hits_of c cover) t) s.out r.out);
  }
  rooted_after c s (entry.Missed t) new r may = record { kept = r.kept; out = r.out }
  rooted_after c s (entry.Stored k m place length n uses) new r may = record {
    kept = all_push (λ (x : Kept). P x.number x.meta) (but m s.kept) (record { number = k; meta = m; place = place; length = length; moment = n; uses = uses }) (all_filter (λ (x : Kept). P x.number x.meta) (λ x. not (is_of m x)) s.kept r.kept)
        (all_found (λ (x : Render). P x.number x.meta) (is_render_of (record { number = k; meta = m })) s.out (unmarked k m n) r.out may.0);
    out = all_filter (λ (x : Render). P x.number x.meta) (λ x. not (has_number k x)) s.out r.out;
  }
  rooted_after c s (entry.Counted m u) new r may = record { kept = all_set m u (λ (x : Kept). P x.number x.meta) (λ t h. h) s.kept r.kept; out = r.out }
  rooted_after c s (entry.Ended k) new r may = record { kept = r.kept; out = all_filter (λ (x : Render). P x.number x.meta) (λ x. not (has_number k x)) s.out r.out }
  rooted_after c s (entry.Used m) new r may = r
  rooted_after c s (entry.Dropped m) new r may = record { kept = all_filter (λ (x : Kept). P x.number x.meta) (λ x. not (is_of m x)) s.kept r.kept; out = r.out }

-- BEGUN

longer : (h : History) (e : HistoryEntry) (s : CabinetStanding) → Rooted (λ k m. Begins k m h) s → Rooted (λ k m. Begins k m (h ++ e ∷ [])) s
longer h e s r = record {
  kept = all_weaker (λ (t : Kept). Begins t.number t.meta h) (λ t. Begins t.number t.meta (h ++ e ∷ [])) (λ t x. begins_left t.number t.meta h (e ∷ []) x) s.kept r.kept;
  out = all_weaker (λ (t : Render). Begins t.number t.meta h) (λ t. Begins t.number t.meta (h ++ e ∷ [])) (λ t x. begins_left t.number t.meta h (e ∷ []) x) s.out r.out;
}

begun_run : (c : Catalogue) (past : History) (s : CabinetStanding) (h : History) → Rooted (λ k m. Begins k m past) s → Follows c s h → Rooted (λ k m. Begins k m (past ++ h)) (standing c s h)
begun_run c past s [] r may = subst (λ (h : History). Rooted (λ k m. Begins k m h) s) (sym (append-nil past)) r
begun_run c past s (e ∷ es) r may =
    let started : (k : ℕ) (m : MetaKey) → e ≡ entry.Started k m → Begins k m (past ++ e ∷ []) = λ k m is. subst (λ (x : HistoryEntry). Begins k m (past ++ x ∷ [])) (sym is) (begins_right k m past (entry.Started k m ∷ []) (inl (refl, refl))) in
    subst (λ (h : History). Rooted (λ k m. Begins k m h) (standing c (after c s e) es)) (append_assoc past (e ∷ []) es)
    (begun_run c (past ++ e ∷ []) (after c s e) es (rooted_after (λ k m. Begins k m (past ++ e ∷ [])) c s e started (longer past e s r) may.0) may.1)

-- what an opening keeps stands in its first entries
stored_begin : (ts : List Kept) → AllByRecursion (λ t. Begins t.number t.meta (map stored_entry ts)) ts
stored_begin [] = tt
stored_begin (t ∷ ts) = (
  inl (refl, refl),
  all_weaker (λ (x : Kept). Begins x.number x.meta (map stored_entry ts)) (λ x. Begins x.number x.meta (map stored_entry (t ∷ ts))) (λ x b. inr b) ts (stored_begin ts),
)

first_begin : (o : CabinetOpening) → Rooted (λ k m. Begins k m (first_entries o)) (first o)
first_begin o = record {
  kept = all_weaker (λ (x : Kept). Begins x.number x.meta (map stored_entry o.kept)) (λ x. Begins x.number x.meta (first_entries o))
      (λ x b. begins_right x.number x.meta (map (λ k. entry.Cut k.number k.cover) o.book.cuts) (map stored_entry o.kept) b) o.kept (stored_begin o.kept);
  out = tt;
}

-- what is kept of a metatile was begun
pub kept_begins : (c : Catalogue) (o : CabinetOpening) (h : History) (m : MetaKey) (t : Kept) → Possible c o h → kept_of m (standing c (first o) h) ≡ Some t → Begins t.number m (whole o h)
kept_begins c o h m t may e =
    let r = begun_run c (first_entries o) (first o) h (first_begin o) may.follows in
    let k = kept_has (λ (x : Kept). Begins x.number x.meta (whole o h)) m (standing c (first o) h) t r.kept e in
    subst (λ (n : MetaKey). Begins t.number n (whole o h)) k.1 k.0

-- METATILES

pub is_meta : (c : Catalogue) (s : CabinetStanding) (e : HistoryEntry) → May c s e → (k : ℕ) (m : MetaKey) → e ≡ entry.Started k m → IsMeta c m
is_meta c s e may k m is = (subst (λ (x : HistoryEntry). May c s x) is may).2

metas_run : (c : Catalogue) (s : CabinetStanding) (h : History) → Rooted (λ k m. IsMeta c m) s → Follows c s h → Rooted (λ k m. IsMeta c m) (standing c s h)
metas_run c s [] r may = r
metas_run c s (e ∷ es) r may = metas_run c (after c s e) es (rooted_after (λ k m. IsMeta c m) c s e (is_meta c s e may.0) r may.0) may.1

pub metas_of : (c : Catalogue) (o : CabinetOpening) (h : History) → Possible c o h → Rooted (λ k m. IsMeta c m) (standing c (first o) h)
metas_of c o h may = metas_run c (first o) h (record { kept = may.opens.metas; out = tt }) may.follows

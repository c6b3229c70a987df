-- How bodies are put one behind the other.
use Rattle.std.proofs.Common.{ℕ, ◌≡◌, ◌+◌, List, [], ◌∷◌, ◌++◌, map, take, Some, refl, sym, ap, subst, ◌∙◌, arith, length, length-append}
use Rattle.std.specs.Prelude.{slice_get}
use Rattle.std.specs.List.{AllByRecursion}
use Rattle.std.proofs.lemmas.List.{length-map, map-append}
use mathlib.Core.List.{append_assoc}
use Rattle.cabinet_records.specs.Recorded.{compacted, stored_record}
use Rattle.record_text.specs.declared.entries.Record.{Record}
use Rattle.record_text.specs.declared.entries.Record.TheVariants as record_of
use Rattle.record_text.specs.Fits.{Fits}
use Rattle.record_text.specs.Spelling.{spelling}
use Rattle.truncation_list.specs.declared.book.Cut.{Cut}
use Rattle.durable_cabinet.specs.Drafts.{IsCompactionOf, cut_record}
use Rattle.cabinet.proofs.Lists.{all_push}
use Rattle.std.specs.List.Sorted.{IsPermutation}
use Rattle.std.proofs.lemmas.List.Sorted.{IsPermutation-sym}
use Rattle.cabinet.specs.declared.kept.Kept.{Kept}
use Rattle.cabinet.specs.State.{IsKnown, State, now}
use Rattle.cabinet.specs.Writing.{IsInWritingOrder}
use Rattle.cabinet_records.proofs.RecordedOrders.{permuted_all}
use Rattle.cabinet_records.proofs.RecordedStanding.{stands_in}
use Rattle.raster_field.specs.Blocks.{IsMeta}
use Rattle.served_covers.specs.OfCatalogue.{IsCoverOf}
use Rattle.cabinet.proofs.Lookups.{taken_next}

map_push : {X Y : Type 0} (f : X → Y) (xs : List X) (x : X) → map f (xs ++ x ∷ []) ≡ map f xs ++ f x ∷ []
map_push f [] x = refl
map_push f (y ∷ ys) x = ap (λ zs. f y ∷ zs) (map_push f ys x)

-- what was put so far, and one more
pub put_more : {X Y Z : Type 0} (f : X → Y) (g : Y → Z) (old : List Z) (xs : List X) (i : ℕ) (x : X) (body : Z) → slice_get xs i ≡ Some x → body ≡ g (f x)
    → (old ++ map g (map f (take i xs))) ++ body ∷ [] ≡ old ++ map g (map f (take (i + 1) xs))
put_more f g old xs i x body e is =
    let next = taken_next xs i x e in
    append_assoc old (map g (map f (take i xs))) (body ∷ [])
    ∙ ap (λ zs. old ++ zs) ((ap (λ z. map g (map f (take i xs)) ++ z ∷ []) is ∙ sym (map_push g (map f (take i xs)) (f x))) ∙ sym (ap (map g) (ap (map f) next ∙ map_push f (take i xs) x)))

-- and each fits
pub fit_more : {X Y : Type 0} (f : X → Y) (P : Y → Type 0) (xs : List X) (i : ℕ) (x : X) → slice_get xs i ≡ Some x → P (f x) → AllByRecursion P (map f (take i xs)) → AllByRecursion P (map f (take (i + 1) xs))
fit_more f P xs i x e fits before =
    subst (AllByRecursion P) (sym (ap (map f) (taken_next xs i x e) ∙ map_push f (take i xs) x)) (all_push P (map f (take i xs)) (f x) before fits)

-- what is listed of a known cabinet is of its catalogue
pub covers_now : (s : State) → IsKnown s → AllByRecursion (λ k. IsCoverOf s.catalogue k.cover) (now s).book.cuts
covers_now s known = (stands_in s known).covers

-- and what is kept, in any order
pub metas_now : (s : State) (kept : List Kept) → IsKnown s → IsPermutation kept (now s).kept → AllByRecursion (λ t. IsMeta s.catalogue t.meta) kept
metas_now s kept known order = permuted_all (λ t. IsMeta s.catalogue t.meta) (now s).kept kept (IsPermutation-sym kept (now s).kept order) (stands_in s known).metas

all_both_lists : {X : Type 0} (P : X → Type 0) (xs ys : List X) → AllByRecursion P xs → AllByRecursion P ys → AllByRecursion P (xs ++ ys)
all_both_lists P [] ys a b = b
all_both_lists P (x ∷ xs) ys a b = (a.0, all_both_lists P xs ys a.1 b)

-- A COMPACTION: its opening, then the cuts, then what is kept

module _ (s : State) (kept : List Kept) (cuts : List Cut) (e floor : ℕ) (body : List ℕ) (cleared first cut all : List (List ℕ))
    (number_is : e ≡ s.opening.number) (floor_is : floor ≡ (now s).book.floor) (cuts_are : cuts ≡ (now s).book.cuts) (body_is : body ≡ spelling (record_of.Opened e floor))
    (none : cleared ≡ []) (one : first ≡ cleared ++ body ∷ []) (with_cuts : cut ≡ first ++ map spelling (map cut_record cuts)) (with_all : all ≡ cut ++ map spelling (map stored_record kept)) where
  abbrev written : List Record
  written = record_of.Opened e floor ∷ (map cut_record cuts ++ map stored_record kept)

  is_written : written ≡ compacted s.opening.number (now s).book kept
  is_written = λ i. record_of.Opened (number_is i) (floor_is i) ∷ (map cut_record (cuts_are i) ++ map stored_record kept)

  first_is : first ≡ spelling (record_of.Opened e floor) ∷ []
  first_is = one ∙ (λ i. none i ++ body_is i ∷ [])

  all_is : all ≡ map spelling written
  all_is =
      with_all ∙ (ap (λ (l : List (List ℕ)). l ++ map spelling (map stored_record kept)) (with_cuts ∙ ap (λ (l : List (List ℕ)). l ++ map spelling (map cut_record cuts)) first_is)
      ∙ ap (λ (l : List (List ℕ)). spelling (record_of.Opened e floor) ∷ l) (sym (map-append spelling (map cut_record cuts) (map stored_record kept))))

  pub compaction_is : IsPermutation kept (now s).kept → IsInWritingOrder s kept → Fits (record_of.Opened e floor) → AllByRecursion Fits (map cut_record cuts) → AllByRecursion Fits (map stored_record kept) → IsCompactionOf s all
  compaction_is order by_use opened listed stored = record {
    kept = kept;
    order = order;
    by_use = by_use;
    bodies_are = all_is ∙ ap (map spelling) is_written;
    fits = subst (AllByRecursion Fits) is_written (opened, all_both_lists Fits (map cut_record cuts) (map stored_record kept) listed stored);
  }

  -- how many bodies stand before what is kept
  pub cuts_long : length cut ≡ 1 + length (now s).book.cuts
  cuts_long =
      let a = ap (λ (l : List (List ℕ)). length l) with_cuts in
      let b = length-append first (map spelling (map cut_record cuts)) in
      let d = length-map (map cut_record cuts) spelling in
      let f = length-map cuts cut_record in
      let g = ap (λ (l : List Cut). length l) cuts_are in
      let h = ap (λ (l : List (List ℕ)). length l) first_is in
      omega (arith, a, b, d, f, g, h)

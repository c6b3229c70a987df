-- What a cabinet is opened with is entered on its shelf, and the parts of the cabinet then are what its history says.
use Rattle.std.proofs.Common.{ℕ, zero, suc, ◌≡◌, ◌≢◌, ◌+◌, ◌*◌, ◌^◌, ◌<◌, ◌≤◌, Bool, true, false, cond, not, List, [], ◌∷◌, ◌++◌, length, map, find, take, slice_get, Option, Some, None, refl, sym, ap, subst, ◌∙◌, arith, length-append}
use Rattle.std.specs.Prelude.{IsTrue, ◌↔◌, replicate}
use Rattle.std.specs.List.{AllByRecursion}
use Rattle.std.specs.Option.{option_map, option_or}
use Rattle.std.proofs.lemmas.List.{append-nil, length-map, length-replicate, map-append}
use Rattle.std.proofs.lemmas.List.Folds.{find-append}
use Rattle.catalog.specs.declared.catalogue.Catalogue.{Catalogue}
use Rattle.catalog.specs.Valid.{IsValid}
use Rattle.base.specs.Readings.{Readings}
use Rattle.expiry_policy.specs.declared.uses.Use.{Use}
use Rattle.expiry_policy.specs.Victims.{Counts, one_more}
use Rattle.expiry_policy.specs.Victims as victims
use Rattle.extent_map.specs.declared.part as extent
use Rattle.extent_map.specs.Parts.{AreApart}
use Rattle.extent_map.specs.Spaces.{IsFree, IsSound, IsTaken, Space}
use Rattle.metatile_locks.specs.declared.render.Render.{Render}
use Rattle.metatile_locks.proofs.Lists.{all_map, all_weaker, few}
use Rattle.metatile_plan.specs.declared.metatile.MetaKey.{MetaKey}
use Rattle.metatile_plan.specs.Keys.{same_meta}
use Rattle.metatile_plan.proofs.Same.{same_meta_is}
use Rattle.quota_ledger.specs.Accounts.{Accounts, added}
use Rattle.raster_field.specs.Blocks.{IsMeta}
use Rattle.truncation_list.specs.declared.book.Book.{Book}
use Rattle.truncation_list.specs.declared.book.Cut.{Cut}
use Rattle.cabinet.specs.declared.entry.HistoryEntry.TheVariants as entry
use Rattle.cabinet.specs.declared.kept.Kept.{Kept}
use Rattle.cabinet.specs.declared.kept.KeptBlob.{KeptBlob}
use Rattle.cabinet.specs.Consistent.{IsConsistent, seen}
use Rattle.cabinet.specs.Counted.{clock, use_of}
use Rattle.cabinet.specs.Entered.{AreEntered, CanBeEntered, CanEnter, Enters, with_entered}
use Rattle.cabinet.specs.Fresh.{IsOfLength, MayBeginWith}
use Rattle.cabinet.specs.Gaps.{AreDisjoint, region, regions}
use Rattle.cabinet.specs.History.{CabinetOpening, History, but, first_entries, is_of, stored_entry, whole}
use Rattle.cabinet.specs.Shelved.{IsAlike, IsBare, IsShelved, LeavesUses, Shelved, listed, use_on}
use Rattle.cabinet.specs.Started.{away, opened_state}
use Rattle.cabinet.specs.State.{IsKnown, IsLong, State, blobs_without, now}
use Rattle.cabinet.proofs.Bytes.{layer_within}
use Rattle.cabinet.proofs.Disjoint.{of_regions}
use Rattle.cabinet.proofs.Lists.{all_right}
use Rattle.cabinet.proofs.Lookups.{taken_next}
use Rattle.cabinet.proofs.Once.{apart_around, off_of}
use Rattle.cabinet.proofs.OnShelf.{fits_beside, kept_shelved}
use Rattle.cabinet.proofs.UsesAfter.{clock_more, same_swap, stored_then}

-- LISTS

-- one of a list, and what is behind it
pub split : {X : Type 0} (xs : List X) (i : ℕ) (x : X) → slice_get xs i ≡ Some x → (ys : List X) × (xs ≡ take i xs ++ x ∷ ys)
split [] i x e = absurd (cc)
split (y ∷ ys) zero x e = let same : y ≡ x = cc in (ys, ap (λ z. z ∷ ys) same)
split (y ∷ ys) (suc i) x e = let r = split ys i x e in (r.0, ap (λ zs. y ∷ zs) r.1)

none_found : {X : Type 0} (q : X → Bool) (xs : List X) → AllByRecursion (λ x. q x ≡ false) xs → find q xs ≡ None
none_found q [] a = refl
none_found q (x ∷ xs) a = rw a.0 (none_found q xs a.1)

pub listed_away : (ts : List Kept) → listed (map away ts) ≡ ts
listed_away [] = refl
listed_away (t ∷ ts) = ap (λ us. t ∷ us) (listed_away ts)

-- nothing goes where nothing is kept of the metatile
pub none_goes : (m : MetaKey) (bs : List KeptBlob) → find (is_of m) (listed bs) ≡ None → blobs_without m bs ≡ bs
none_goes m [] e = refl
none_goes m (b ∷ bs) e = chosen (is_of m b.kept) e (none_goes m bs)
  where
    chosen : (v : Bool) → cond v (Some b.kept) (find (is_of m) (listed bs)) ≡ None → (find (is_of m) (listed bs) ≡ None → blobs_without m bs ≡ bs) → cond (not v) (b ∷ blobs_without m bs) (blobs_without m bs) ≡ b ∷ bs
    chosen true e ih = absurd (cc)
    chosen false e ih = ap (λ xs. b ∷ xs) (ih e)

-- EACH CAN BE ENTERED in turn

apart_before : (xs : List Kept) (t : Kept) (ys : List Kept) → AreDisjoint (xs ++ t ∷ ys) → AllByRecursion (λ u. AreApart (region u) (region t)) xs
apart_before [] t ys a = tt
apart_before (x ∷ xs) t ys a = ((all_right (λ u. AreApart (region x) (region u)) xs (t ∷ ys) a.0).0, apart_before xs t ys a.1)

module _ (c : Catalogue) (xs : List Kept) (t : Kept) (ys : List Kept) (can : CanBeEntered c (xs ++ t ∷ ys)) where
  its_new : find (is_of t.meta) xs ≡ None
  its_new = none_found (is_of t.meta) xs (all_weaker (λ (u : Kept). t.meta ≢ u.meta) (λ u. is_of t.meta u ≡ false) (λ u apart. off_of t.meta u.meta apart) xs (apart_around (λ (u : Kept). u.meta) xs t ys can.once).0)

  can_next : CanEnter c (map away xs) t
  can_next =
      let list = listed_away xs in
      record {
        meta = (all_right (λ (u : Kept). IsMeta c u.meta) xs (t ∷ ys) can.metas).0;
        size = (all_right (IsOfLength c) xs (t ∷ ys) can.lengths).0;
        some = (all_right (λ (u : Kept). 1 ≤ u.length) xs (t ∷ ys) can.regions.some).0;
        free = (
          (all_right (λ (u : Kept). u.place + u.length ≤ c.blob_bytes) xs (t ∷ ys) can.regions.within).0,
          subst (λ (us : List Kept). AllByRecursion (λ q. AreApart q (region t)) (regions us)) (sym list) (of_regions (λ q. AreApart q (region t)) xs (apart_before xs t ys can.regions.disjoint)),
        );
        new = subst (λ (us : List Kept). find (is_of t.meta) us ≡ None) (sym list) its_new;
        few = omega (arith, length-map xs away, length-append xs (t ∷ ys), can.few);
      }

pub can_enter : (c : Catalogue) (kept : List Kept) (i : ℕ) (t : Kept) (s : Shelved) → CanBeEntered c kept → slice_get kept i ≡ Some t → AreEntered c (take i kept) s → CanEnter s.catalogue s.blobs t
can_enter c kept i t s can e r =
    let parts = split kept i t e in
    let next = can_next c (take i kept) t parts.0 (subst (CanBeEntered c) parts.1 can) in
    subst (λ (x : Catalogue). CanEnter x s.blobs t) (sym r.catalogue) (subst (λ (bs : List KeptBlob). CanEnter c bs t) (sym r.blobs) next)

-- THE PARTS OF THE SHELF where one is entered

module _ (c : Catalogue) (blobs : List KeptBlob) (space : Space) (ledger : Accounts) (counts : Counts) (n : IsShelved c blobs space ledger counts) (t : Kept) (can : CanEnter c blobs t) where
  free_there : IsFree space.parts space.size (region t)
  free_there = subst (λ (ps : List extent.Extent.Extent). IsFree ps space.size (region t)) (sym n.parts) (subst (λ (size : ℕ). IsFree (regions (listed blobs)) size (region t)) (sym n.size) can.free)

  module _ (v : Bool) (claimed : Space) (free : IsTrue v ↔ IsFree space.parts space.size (region t)) (taken : IsTrue v → IsTaken space (region t) claimed) (sound : IsSound claimed) where
    claimed_there : IsTaken space (region t) claimed
    claimed_there = taken (free.1 free_there)

    pub entry_fits : ledger.whole.used + t.length < 2 ^ 64
    entry_fits = fits_beside c blobs space ledger counts n t None (sym can.new) claimed claimed_there sound

    pub entered_shelved : (text : List ℕ) (bs : List KeptBlob) (ledger' : Accounts) (counts' : Counts) → text ≡ replicate t.length 0 → bs ≡ blobs_without t.meta blobs ++ record { kept = t; text = text } ∷ [] → ledger' ≡ added t.meta.theme.layer t.length ledger
        → LeavesUses counts (one_more counts.now) (with_entered t (one_more counts.now) (victims.use_of counts)) counts' → IsShelved c bs claimed ledger' counts'
    entered_shelved text bs ledger' counts' zeros are bytes uses =
        let few_others : length (but t.meta (listed blobs)) < c.kept_limit = omega (arith, few (λ (x : Kept). not (is_of t.meta x)) (listed blobs), length-map blobs (λ (b : KeptBlob). b.kept), can.few) in
        subst (λ (xs : List KeptBlob). IsShelved c xs claimed ledger' counts') (sym are)
        (kept_shelved c blobs space ledger counts n t None (sym can.new) claimed claimed_there sound claimed tt refl sound text (record { meta = t.meta; uses = t.uses; saved = t.uses; last = one_more counts.now }) ledger' counts'
        (ap length zeros ∙ length-replicate t.length 0) can.size (layer_within c t.meta can.meta) few_others bytes uses)

  -- what is kept then
  pub blobs_then : (text : List ℕ) (bs : List KeptBlob) → text ≡ replicate t.length 0 → bs ≡ blobs_without t.meta blobs ++ record { kept = t; text = text } ∷ [] → bs ≡ blobs ++ away t ∷ []
  blobs_then text bs zeros are = are ∙ (λ i. none_goes t.meta blobs can.new i ++ record { kept = t; text = zeros i } ∷ [])

-- ONE MORE

or_none : (o : Option Kept) → option_or o None ≡ o
or_none None = refl
or_none (Some t) = refl

module _ (c : Catalogue) (xs : List Kept) (t : Kept) (s new : Shelved) (r : AreEntered c xs s) (none : find (is_of t.meta) xs ≡ None) (l : Enters t s new) where
  abbrev past : History
  past = map stored_entry xs

  abbrev its_use : Use
  its_use = record { meta = t.meta; uses = t.uses; saved = t.uses; last = one_more s.clock }

  abbrev then_used : MetaKey → Use
  then_used m = use_of (map stored_entry xs ++ stored_entry t ∷ []) m

  use_then : (m : MetaKey) (v : Bool) → same_meta t.meta m ≡ v → cond v (Some its_use) (use_on s m) ≡ option_map (λ x. then_used m) (option_or (find (is_of m) xs) (cond v (Some t) None))
  use_then m true is =
      let off : find (is_of m) xs ≡ None = subst (λ (k : MetaKey). find (is_of k) xs ≡ None) (same_meta_is t.meta m is) none in
      (λ i. Some (record { meta = same_meta_is t.meta m is i; uses = t.uses; saved = t.uses; last = one_more (r.clock i) }))
      ∙ ap (λ (u : Use). Some u) (sym (stored_then past t.number t.meta t.place t.length t.moment t.uses m true is))
      ∙ (λ i. option_map (λ x. then_used m) (option_or (sym off i) (Some t)))
  use_then m false is =
      r.uses m
      ∙ ap (λ (u : Use). option_map (λ x. u) (find (is_of m) xs)) (sym (stored_then past t.number t.meta t.place t.length t.moment t.uses m false is))
      ∙ ap (option_map (λ x. then_used m)) (sym (or_none (find (is_of m) xs)))

  entered_more : AreEntered c (xs ++ t ∷ []) new
  entered_more =
      let more = map-append stored_entry xs (t ∷ []) in
      record {
        catalogue = l.catalogue ∙ r.catalogue;
        blobs = l.blobs ∙ ap (λ (bs : List KeptBlob). bs ++ away t ∷ []) r.blobs ∙ sym (map-append away xs (t ∷ []));
        clock = l.clock ∙ ap one_more r.clock ∙ sym (clock_more past (stored_entry t)) ∙ ap clock (sym more);
        uses = λ m. l.uses m ∙ ap (λ (v : Bool). cond v (Some its_use) (use_on s m)) (same_swap m t.meta) ∙ use_then m (same_meta t.meta m) refl
            ∙ ap (option_map (λ x. then_used m)) (sym (find-append (is_of m) xs (t ∷ [])))
            ∙ ap (λ (h : History). option_map (λ x. use_of h m) (find (is_of m) (xs ++ t ∷ []))) (sym more);
      }

pub entered_next : (c : Catalogue) (kept : List Kept) (i : ℕ) (t : Kept) (s new : Shelved) → CanBeEntered c kept → slice_get kept i ≡ Some t → AreEntered c (take i kept) s → Enters t s new → AreEntered c (take (i + 1) kept) new
entered_next c kept i t s new can e r l =
    let parts = split kept i t e in
    subst (λ (ts : List Kept). AreEntered c ts new) (sym (taken_next kept i t e)) (entered_more c (take i kept) t s new r (its_new c (take i kept) t parts.0 (subst (CanBeEntered c) parts.1 can)) l)

-- nothing is entered where room is made
pub alike_can : (t : Kept) (s mid : Shelved) → IsAlike s mid → CanEnter s.catalogue s.blobs t → CanEnter mid.catalogue mid.blobs t
alike_can t s mid l can = subst (λ (x : Catalogue). CanEnter x mid.blobs t) (sym l.catalogue) (subst (λ (bs : List KeptBlob). CanEnter s.catalogue bs t) (sym l.blobs) can)

pub alike_enters : (t : Kept) (s mid new : Shelved) → IsAlike s mid → Enters t mid new → Enters t s new
alike_enters t s mid new l e = record {
  catalogue = e.catalogue ∙ l.catalogue;
  blobs = e.blobs ∙ ap (λ (bs : List KeptBlob). bs ++ away t ∷ []) l.blobs;
  clock = e.clock ∙ ap one_more l.clock;
  uses = λ m. e.uses m ∙ (λ i. with_entered t (one_more (l.clock i)) (λ n. l.uses n i) m);
}

pub none_entered : (c : Catalogue) (s : Shelved) → IsBare c s → AreEntered c [] s
none_entered c s bare = record { catalogue = bare.catalogue; blobs = bare.blobs; clock = bare.clock; uses = bare.uses }

-- THE CABINET THEN

-- the cuts at the front change neither the clock nor uses
cuts_count : (ks : List Cut) (h : History) → clock (map (λ k. entry.Cut k.number k.cover) ks ++ h) ≡ clock h
cuts_count [] h = refl
cuts_count (k ∷ ks) h = cuts_count ks h

cuts_use : (m : MetaKey) (ks : List Cut) (h : History) → use_of (map (λ k. entry.Cut k.number k.cover) ks ++ h) m ≡ use_of h m
cuts_use m [] h = refl
cuts_use m (k ∷ ks) h = cuts_use m ks h

pub opens_entered : (c : Catalogue) (o : CabinetOpening) → MayBeginWith c o → CanBeEntered c o.kept
opens_entered c o x = record { once = x.once; metas = x.metas; regions = x.regions; lengths = x.lengths; few = x.few }

all_long : (c : Catalogue) (ts : List Kept) → AllByRecursion (IsOfLength c) ts → AllByRecursion (IsLong c) (map away ts)
all_long c ts a = all_map away (IsLong c) ts (all_weaker (IsOfLength c) (λ t. IsLong c (away t)) (λ t e. (length-replicate t.length 0, e)) ts a)

pub at_opening : (c : Catalogue) (o : CabinetOpening) (shelf : Shelved) (clock' : Readings) (last : ℕ) (renders : List Render) (book : Book) (h : History) → IsValid c → o.number < 2 ^ 24 → MayBeginWith c o → AreEntered c o.kept shelf → last ≡ o.number * 2 ^ 40 → renders ≡ []
    → book ≡ o.book → h ≡ [] → IsConsistent (record { opening = o; shelf = shelf; last = last; moment = 0; clock = clock'; renders = renders; book = book }) h
at_opening c o shelf clock' last renders book h valid small opens r front none same new =
    let start : State = opened_state c o clock' in
    let there : seen (record { opening = o; shelf = shelf; last = last; moment = 0; clock = clock'; renders = renders; book = book }) h ≡ start =
    λ i. record { catalogue = r.catalogue i; opening = o; history = whole o (new i); since = new i; blobs = Some (r.blobs i); clock = clock' } in
    let list : listed shelf.blobs ≡ o.kept = ap listed r.blobs ∙ listed_away o.kept in
    let past : first_entries o ≡ whole o h = sym (append-nil (first_entries o)) ∙ ap (whole o) (sym new) in
    record {
      known = subst IsKnown (sym there) (record { valid = valid; number = small; whole = refl; possible = record { opens = opens; follows = tt }; blobs = listed_away o.kept; lengths = all_long c o.kept opens.lengths; left = omega arith });
      stands = ap now there ∙ (λ i. record { front = sym front i; moment = 0; kept = sym list i; out = sym none i; book = sym same i });
      clock_is = r.clock ∙ sym (cuts_count o.book.cuts (map stored_entry o.kept)) ∙ ap clock past;
      uses = λ m. r.uses m
          ∙ ap (λ (u : Use). option_map (λ t. u) (find (is_of m) o.kept)) (sym (cuts_use m o.book.cuts (map stored_entry o.kept)) ∙ ap (λ (g : History). use_of g m) past)
          ∙ ap (λ (ts : List Kept). option_map (λ t. use_of (whole o h) m) (find (is_of m) ts)) (sym list);
      room = omega (arith, ap length none);
    }

-- What is taken over of an opening is an opening of the other catalogue.
use Rattle.std.proofs.Common.{ℕ, ◌≡◌, ◌+◌, ◌-◌, ◌<◌, ◌≤◌, List, [], ◌∷◌, length, IsTrue, false, inl, inr, sym, subst, ◌∙◌, arith}
use Rattle.std.specs.List.{AllByRecursion, Contains}
use Rattle.std.specs.Option.{option_map_or}
use Rattle.std.proofs.lemmas.List.{length-drop}
use Rattle.std.proofs.lemmas.List.Elements.{All-from_recursion, recursion_from_All}
use Rattle.catalog.specs.declared.catalogue.Catalogue.{Catalogue}
use Rattle.matrix_geometry.specs.declared.matrix.Matrix.{Matrix}
use Rattle.metatile_locks.proofs.Lists.{all_weaker}
use Rattle.metatile_locks.specs.Running.{block}
use Rattle.metatile_plan.specs.declared.metatile.MetaKey.{MetaKey}
use Rattle.raster_field.specs.Blocks.{IsMeta}
use Rattle.served_covers.specs.OfCatalogue.{IsCoverOf}
use Rattle.truncation_list.specs.declared.book.Cut.{Cut}
use Rattle.truncation_list.specs.declared.cover.Cover.{Cover}
use Rattle.truncation_list.specs.Books.{AnswersFor}
use Rattle.truncation_list.specs.Covers.{IsWithinReach, hits}
use Rattle.cabinet.specs.declared.kept.Kept.{Kept}
use Rattle.cabinet.specs.Fresh.{HoldsOfKept, IsNewer, IsOfLength, MayBeginWith}
use Rattle.cabinet.specs.Hits.{hits_of}
use Rattle.cabinet.specs.History.{CabinetOpening, first_front}
use Rattle.cabinet.proofs.Lists.{all_both, all_of}
use Rattle.catalogue_change.specs.Alike.{Stays}
use Rattle.catalogue_change.proofs.Carrying.{same_factors, same_matrix, same_size, stays_meta}
use Rattle.carry_over.specs.Chosen.{Chooses, ChoosesCuts, HasRoomIn, IsPartOf, Takes, last_of, taken_over}
use Rattle.carry_over.proofs.Parts.{part_all, part_apart, part_by_number, part_disjoint, part_drop, part_long, part_then}

-- WHAT IS CHOSEN

abbrev pub IsChosen : Catalogue → Catalogue → Kept → Type 0
IsChosen c d t = Stays c d t.meta × HasRoomIn d t

pub chosen_part : (c d : Catalogue) (ts us : List Kept) (n : ℕ) → Chooses c d ts us n → IsPartOf us ts
chosen_part c d [] us n h = h.0
chosen_part c d (t ∷ ts) us n (inl h) = inl (chosen_part c d ts us n h.1)
chosen_part c d (t ∷ ts) us n (inr (inl h)) = inl (chosen_part c d ts us h.2.0 h.2.2)
chosen_part c d (t ∷ ts) us n (inr (inr h)) = inr (h.2.0, h.2.1, chosen_part c d ts h.2.0 n h.2.2)

pub chosen_all : (c d : Catalogue) (ts us : List Kept) (n : ℕ) → Chooses c d ts us n → AllByRecursion (IsChosen c d) us
chosen_all c d [] us n h = subst (AllByRecursion (IsChosen c d)) (sym h.0) tt
chosen_all c d (t ∷ ts) us n (inl h) = chosen_all c d ts us n h.1
chosen_all c d (t ∷ ts) us n (inr (inl h)) = chosen_all c d ts us h.2.0 h.2.2
chosen_all c d (t ∷ ts) us n (inr (inr h)) = subst (AllByRecursion (IsChosen c d)) (sym h.2.1) ((h.0, h.1), chosen_all c d ts h.2.0 n h.2.2)

cuts_part : (d : Catalogue) (cuts ks : List Cut) → ChoosesCuts d cuts ks → IsPartOf ks cuts
cuts_part d [] ks h = h
cuts_part d (k ∷ cuts) ks (inl h) = inl (cuts_part d cuts ks h.1)
cuts_part d (k ∷ cuts) ks (inr h) = inr (h.1.0, h.1.1, cuts_part d cuts h.1.0 h.1.2)

pub cuts_all : (d : Catalogue) (cuts ks : List Cut) → ChoosesCuts d cuts ks → AllByRecursion (λ k. IsCoverOf d k.cover) ks
cuts_all d [] ks h = subst (AllByRecursion (λ (k : Cut). IsCoverOf d k.cover)) (sym h) tt
cuts_all d (k ∷ cuts) ks (inl h) = cuts_all d cuts ks h.1
cuts_all d (k ∷ cuts) ks (inr h) = subst (AllByRecursion (λ (k : Cut). IsCoverOf d k.cover)) (sym h.1.1) (h.0, cuts_all d cuts h.1.0 h.1.2)

-- a cover hits a metatile that stays as before
pub hits_as : (c d : Catalogue) (cover : Cover) (m : MetaKey) → Stays c d m → hits_of d cover m ≡ hits_of c cover m
hits_as c d cover m s =
    let f = same_factors c d m s in
    let x = same_matrix c d m s in
    λ i. option_map_or (λ (y : Matrix). hits cover y (block (f i) y m)) (x i) false

newer_as : (c d : Catalogue) (n : ℕ) (m : MetaKey) → Stays c d m → (ks : List Cut) → IsNewer c ks n m → IsNewer d ks n m
newer_as c d n m s [] h = tt
newer_as c d n m s (k ∷ ks) h = (λ hit. h.0 (subst IsTrue (hits_as c d k.cover m s) hit), newer_as c d n m s ks h.1)

-- THE OPENING

module _ (c d : Catalogue) (o : CabinetOpening) (chosen kept : List Kept) (cuts : List Cut) (roomless unread : ℕ) (opens : MayBeginWith c o) (takes : Takes c d o chosen kept cuts roomless unread) where
  pub of_old : IsPartOf kept o.kept
  of_old = part_then kept chosen o.kept takes.part (part_then chosen (last_of d o.kept) o.kept (chosen_part c d (last_of d o.kept) chosen roomless takes.chooses) (part_drop (length o.kept - d.kept_limit) o.kept))

  pub all_chosen : AllByRecursion (IsChosen c d) kept
  all_chosen = part_all (IsChosen c d) kept chosen takes.part (chosen_all c d (last_of d o.kept) chosen roomless takes.chooses)

  of_cuts : IsPartOf cuts o.book.cuts
  of_cuts = cuts_part d o.book.cuts cuts takes.chooses_cuts

  abbrev old_holds : Kept → Type 0
  old_holds = HoldsOfKept c o.book.cuts (first_front o) o.book.floor

  abbrev new_holds : Kept → Type 0
  new_holds = HoldsOfKept d cuts (first_front o) o.book.floor

  one_holds : (t : Kept) → old_holds t × IsChosen c d t → new_holds t
  one_holds t h = record {
    given = h.0.given;
    above_floor = h.0.above_floor;
    newer = newer_as c d t.number t.meta h.1.0 cuts (part_all (λ (k : Cut). IsTrue (hits_of c k.cover t.meta) → k.number < t.number) cuts o.book.cuts of_cuts h.0.newer);
  }

  few : length kept ≤ d.kept_limit
  few =
      let a = part_long kept chosen takes.part in
      let b = part_long chosen (last_of d o.kept) (chosen_part c d (last_of d o.kept) chosen roomless takes.chooses) in
      let e = length-drop (length o.kept - d.kept_limit) o.kept in
      omega (arith, a, b, e)

  pub begins : MayBeginWith d (taken_over o kept cuts)
  begins = record {
    holds = record {
      given = part_all (λ (k : Cut). k.number ≤ first_front o) cuts o.book.cuts of_cuts opens.holds.given;
      floor_given = opens.holds.floor_given;
      listed = all_of (Contains cuts) cuts (λ k has. has);
      order = record {
        by_number = part_by_number cuts o.book.cuts of_cuts opens.holds.order.by_number;
        within_reach = All-from_recursion (λ (k : Cut). IsWithinReach k.cover) cuts (part_all (λ (k : Cut). IsWithinReach k.cover) cuts o.book.cuts of_cuts (recursion_from_All (λ (k : Cut). IsWithinReach k.cover) o.book.cuts opens.holds.order.within_reach));
      };
      answers = all_of (AnswersFor (record { cuts = cuts; floor = o.book.floor })) cuts (λ k has. inl has);
      kept = all_weaker (λ (t : Kept). old_holds t × IsChosen c d t) new_holds one_holds kept (all_both old_holds (IsChosen c d) kept (part_all old_holds kept o.kept of_old opens.holds.kept) all_chosen);
      out = tt;
    };
    numbers = part_apart (λ (t : Kept). t.number) kept o.kept of_old opens.numbers;
    once = part_apart (λ (t : Kept). t.meta) kept o.kept of_old opens.once;
    metas = all_weaker (λ (t : Kept). IsMeta c t.meta × IsChosen c d t) (λ t. IsMeta d t.meta) (λ t h. stays_meta c d t.meta h.1.0 h.0) kept
        (all_both (λ (t : Kept). IsMeta c t.meta) (IsChosen c d) kept (part_all (λ (t : Kept). IsMeta c t.meta) kept o.kept of_old opens.metas) all_chosen);
    regions = record {
      some = part_all (λ (t : Kept). 1 ≤ t.length) kept o.kept of_old opens.regions.some;
      within = all_weaker (IsChosen c d) (λ (t : Kept). t.place + t.length ≤ d.blob_bytes) (λ t h. h.1) kept all_chosen;
      disjoint = part_disjoint kept o.kept of_old opens.regions.disjoint;
    };
    lengths = all_weaker (λ (t : Kept). IsOfLength c t × IsChosen c d t) (IsOfLength d) (λ t h. h.0 ∙ sym (same_size c d t.meta h.1.0)) kept
        (all_both (IsOfLength c) (IsChosen c d) kept (part_all (IsOfLength c) kept o.kept of_old opens.lengths) all_chosen);
    covers = cuts_all d o.book.cuts cuts takes.chooses_cuts;
    few = few;
    few_cuts = takes.few_cuts;
  }

-- Copies that were made stay while others are made.
use Rattle.std.proofs.Common.{ℕ, ◌≡◌, ◌+◌, ◌≤◌, Bool, true, false, List, [], ◌∷◌, ◌++◌, length, length-append, inl, inr, refl, sym, ap, subst, ◌∙◌, arith, append_assoc, append-nil}
use Rattle.std.specs.List.{AllByRecursion}
use Rattle.base.specs.Causes.{Rose, RoseBy}
use Rattle.cabinet.specs.declared.kept.Kept.{Kept}
use Rattle.cabinet.specs.Gaps.{AreDisjoint, region}
use Rattle.cabinet.proofs.Lists.{all_push}
use Rattle.cache_file.specs.File.{HoldsBlob, IsApart}
use Rattle.disk_model.specs.Content.{Content, bytes_at}
use Rattle.disk_model.specs.Images.{DiskState}
use Rattle.disk_model.proofs.Reading.{length-bytes_at}
use Rattle.extent_map.specs.Parts.{AreApart}
use Rattle.carry_over.specs.Chosen.{IsPartOf}
use Rattle.carry_over.specs.Copied.{IsCopyOn, Notes}
use Rattle.carry_over.proofs.Parts.{part_disjoint, part_none}

-- whatever part of what is left comes behind these, all of them are a part of the list
abbrev pub WillBePart : List Kept → List Kept → List Kept → Type 0
WillBePart us left all = (ws : List Kept) → IsPartOf ws left → IsPartOf (us ++ ws) all

pub part_more : (all ts : List Kept) (t : Kept) (is : Bool) (us vs : List Kept) (n m : ℕ) → Notes t is us n vs m → WillBePart us (t ∷ ts) all → WillBePart vs ts all
part_more all ts t true us vs n m notes will ws p =
    subst (λ (l : List Kept). IsPartOf l all) (sym (append_assoc us (t ∷ []) ws) ∙ ap (λ (l : List Kept). l ++ ws) (sym notes.0)) (will (t ∷ ws) (inr (ws, refl, p)))
part_more all ts t false us vs n m notes will ws p = subst (λ (l : List Kept). IsPartOf (l ++ ws) all) (sym notes.0) (will ws (inl p))

pub part_now : (all left us : List Kept) → left ≡ [] → WillBePart us left all → IsPartOf us all
part_now all left us none will = subst (λ (l : List Kept). IsPartOf l all) (append-nil us) (will [] (subst (λ (l : List Kept). IsPartOf [] l) (sym none) refl))

pub count_more : (t : Kept) (is : Bool) (us vs : List Kept) (n m k : ℕ) → Notes t is us n vs m → length us + n ≡ k → length vs + m ≡ k + 1
count_more t true us vs n m k notes count =
    let a = ap (λ (l : List Kept). length l) notes.0 in let b = length-append us (t ∷ []) in let e = notes.1 in omega (arith, a, b, e, count)
count_more t false us vs n m k notes count = let a = ap (λ (l : List Kept). length l) notes.0 in let e = notes.1 in omega (arith, a, e, count)

all_last : {A : Type 0} (P : A → Type 0) (us : List A) (t : A) → AllByRecursion P (us ++ t ∷ []) → P t
all_last P [] t all = all.0
all_last P (u ∷ us) t all = all_last P us t all.1

-- the last one is apart from all before it
apart_from_last : (us : List Kept) (t : Kept) → AreDisjoint (us ++ t ∷ []) → AllByRecursion (λ u. AreApart (region u) (region t)) us
apart_from_last [] t h = tt
apart_from_last (u ∷ us) t h = (all_last (λ (v : Kept). AreApart (region u) (region v)) us t h.0, apart_from_last us t h.1)

module _ (from : ℕ) (seen : Content) (start : ℕ) (old new : DiskState) (t : Kept)
    (keeps : (place : ℕ) (blob : List ℕ) → IsApart t.place t.length place (length blob) → HoldsBlob start place blob old → HoldsBlob start place blob new) where
  stays : (us : List Kept) → AllByRecursion (λ u. AreApart (region u) (region t)) us → AllByRecursion (IsCopyOn from seen start old) us → AllByRecursion (IsCopyOn from seen start new) us
  stays [] apart all = tt
  stays (u ∷ us) apart all = (
    keeps u.place (bytes_at seen (from + u.place) u.length) (subst (λ (n : ℕ). IsApart t.place t.length u.place n) (sym (length-bytes_at seen (from + u.place) u.length)) apart.0) all.0,
    stays us apart.1 all.1,
  )

  -- those before, and this one where it was read
  pub copied_more : (all ts us vs : List Kept) (is : Bool) (n m : ℕ) → AreDisjoint all → WillBePart us (t ∷ ts) all → Notes t is us n vs m → (is ≡ true → IsCopyOn from seen start new t)
      → AllByRecursion (IsCopyOn from seen start old) us → AllByRecursion (IsCopyOn from seen start new) vs
  copied_more all ts us vs true n m disjoint will notes copied before =
      let together = will (t ∷ []) (inr ([], refl, part_none ts)) in
      let apart = apart_from_last us t (part_disjoint (us ++ t ∷ []) all together disjoint) in
      subst (AllByRecursion (IsCopyOn from seen start new)) (sym notes.0) (all_push (IsCopyOn from seen start new) us t (stays us apart before) (copied refl))
  copied_more all ts us vs false n m disjoint will notes copied before =
      let together = will (t ∷ []) (inr ([], refl, part_none ts)) in
      let apart = apart_from_last us t (part_disjoint (us ++ t ∷ []) all together disjoint) in
      subst (AllByRecursion (IsCopyOn from seen start new)) (sym notes.0) (stays us apart before)

-- each one that is unread has a fault of its own
pub unread_more : (t : Kept) (is : Bool) (us vs : List Kept) (n m a b e : ℕ) → Notes t is us n vs m → a ≤ b → b ≤ e → RoseBy n a b → (is ≡ false → Rose b e) → RoseBy m a e
unread_more t true us vs n m a b e notes first next before here = let same = notes.1 in omega (arith, same, first, next, before)
unread_more t false us vs n m a b e notes first next before here = let rose : Rose b e = here refl in let more = notes.1 in omega (arith, more, first, next, before, rose)

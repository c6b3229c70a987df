-- A hit of a sound cabinet is the encoded tile, and an ask leaves a cabinet sound.
use Rattle.std.proofs.Common.{ℕ, ◌≡◌, Bool, true, false, cond, List, map, find, Option, Some, None, refl, sym, ap, subst, ◌∙◌, Result, Ok, Err, OnErr}
use Rattle.std.specs.Prelude.{IfOk, IfSome, IsSomeAnd}
use Rattle.std.specs.List.{AllByRecursion}
use Rattle.std.specs.Option.{option_and_then, option_map}
use Rattle.catalog.specs.declared.catalogue.Catalogue.{Catalogue}
use Rattle.catalog.specs.LookUp.{IsTile}
use Rattle.catalog.specs.Valid.{IsValid}
use Rattle.matrix_geometry.specs.declared.address.Address.{Address}
use Rattle.metatile_locks.proofs.Lists.{found}
use Rattle.metatile_plan.specs.declared.metatile.MetaKey.{MetaKey}
use Rattle.metatile_plan.proofs.Same.{same_meta_is}
use Rattle.raster_field.specs.Blocks.{block_of, block_text, tile_part}
use Rattle.raster_field.specs.TileText.{tile_text}
use Rattle.cabinet.specs.declared.kept.Kept.{Kept}
use Rattle.cabinet.specs.declared.kept.KeptBlob.{KeptBlob}
use Rattle.cabinet.specs.declared.replies.Asked.{Asked}
use Rattle.cabinet.specs.declared.replies.Asked.TheVariants as asked
use Rattle.cabinet.specs.Commands.{Asks, IsHit, IsTrueHit, is_within, where_within}
use Rattle.cabinet.specs.Fresh.{limit_for}
use Rattle.cabinet.specs.History.{is_of, kept_of}
use Rattle.cabinet.specs.State.{IsKnown, IsPictured, IsSound, State, asked_at, now}
use Rattle.cabinet.proofs.Lists.{find_map}
use Rattle.cabinet.proofs.Rows.{now_asked}

-- the tile's part of each true blob is the encoded tile
abbrev pub PartsAreTiles : Type 0
PartsAreTiles = (c : Catalogue) (a : Address) (number : ℕ) → IsValid c → IsTile c a → tile_part c a (block_text c number (block_of c a)) ≡ tile_text c number a

-- what answers is kept
kept_where : (limit : Option ℕ) (n : ℕ) (o : Option Kept) (t : Kept) → option_and_then (where_within limit n) o ≡ Some t → o ≡ Some t
kept_where limit n None t e = absurd (cc)
kept_where limit n (Some x) t e = chosen (is_within limit x.moment n) e
  where
    chosen : (v : Bool) → cond v (Some x) None ≡ Some t → Some x ≡ Some t
    chosen true is = is
    chosen false is = absurd (cc)

module _ (part : PartsAreTiles) (s : State) (known : IsKnown s) (a : Address) (tile : IsTile s.catalogue a) (n k : ℕ) (bytes : List ℕ) (new : State) (hit : IsHit (asked_at n s) a k bytes new) where
  abbrev m : MetaKey
  m = block_of s.catalogue a

  kept_before : kept_of m (now s) ≡ Some hit.kept
  kept_before = ap (kept_of m) (sym (now_asked s n)) ∙ kept_where (limit_for s.catalogue a) (now (asked_at n s)).moment (kept_of m (now (asked_at n s))) hit.kept hit.is_kept

  of_blob : (blobs : List KeptBlob) (b : KeptBlob) → AllByRecursion (IsPictured s.catalogue) blobs → find (λ x. is_of m x.kept) blobs ≡ Some b → Some b.kept ≡ Some hit.kept → hit.blob ≡ b.text → bytes ≡ tile_text s.catalogue k a
  of_blob blobs b pictured at same text =
      let c = s.catalogue in
      let g = found (λ (x : KeptBlob). is_of m x.kept) (IsPictured c) blobs b pictured at in
      let number : b.kept.number ≡ k = (let it : b.kept ≡ hit.kept = cc in ap (λ (t : Kept). t.number) it) ∙ sym hit.number in
      hit.part ∙ ap (tile_part c a) (text ∙ g.1 ∙ (λ i. block_text c (number i) (same_meta_is b.kept.meta m g.0 i))) ∙ part c a k known.valid tile

  among : (blobs : List KeptBlob) (o : Option KeptBlob) → AllByRecursion (IsPictured s.catalogue) blobs → find (λ x. is_of m x.kept) blobs ≡ o → option_map (λ b. b.kept) o ≡ Some hit.kept → IfSome (option_map (λ b. b.text) o) (λ text. hit.blob ≡ text)
      → bytes ≡ tile_text s.catalogue k a
  among blobs None pictured at same told = absurd (cc)
  among blobs (Some b) pictured at same told = of_blob blobs b pictured at same told

  within : (o : Option (List KeptBlob)) → s.blobs ≡ o → IsSomeAnd o (λ blobs. AllByRecursion (IsPictured s.catalogue) blobs) → bytes ≡ tile_text s.catalogue k a
  within None is sound = absurd sound
  within (Some blobs) is pictured =
      let kept : map (λ b. b.kept) blobs ≡ (now s).kept = subst (λ (o : Option (List KeptBlob)). IfSome o (λ bs. map (λ b. b.kept) bs ≡ (now s).kept)) is known.blobs in
      let o = find (λ (b : KeptBlob). is_of m b.kept) blobs in
      let same : option_map (λ b. b.kept) o ≡ Some hit.kept = sym (find_map (λ (b : KeptBlob). b.kept) (is_of m) blobs) ∙ ap (find (is_of m)) kept ∙ kept_before in
      let told : IfSome (option_map (λ b. b.text) o) (λ text. hit.blob ≡ text) =
      subst (λ (bs : Option (List KeptBlob)). IfSome (option_and_then (λ blobs. option_map (λ b. b.text) (find (λ b. is_of m b.kept) blobs)) bs) (λ text. hit.blob ≡ text)) is hit.told in
      among blobs o pictured refl same told

  pub hit_true : IsSound s → bytes ≡ tile_text s.catalogue k a
  hit_true sound = within s.blobs refl sound

pub asks_true : {E : Type 0} (part : PartsAreTiles) (before after : ℕ) (s t : State) (a : Address) (r : Result Asked E) → IsKnown s → IsTile s.catalogue a → IfOk r (λ x. Asks before after s a x t)
    → IfOk r (λ x. IsSound s → IsTrueHit s.catalogue a x)
asks_true part before after s t a (Ok (asked.Hit k bytes)) known tile row = hit_true part s known a tile t.clock.moment k bytes t row
asks_true part before after s t a (Ok (asked.Busy k)) known tile row = λ sound. tt
asks_true part before after s t a (Ok asked.Spent) known tile row = λ sound. tt
asks_true part before after s t a (Ok (asked.Ticket ticket)) known tile row = λ sound. tt
asks_true part before after s t a (Err fault) known tile row = tt

pub asks_sound : {E : Type 0} (before after : ℕ) (s t : State) (a : Address) (r : Result Asked E) → IfOk r (λ x. Asks before after s a x t) → OnErr r (t ≡ s) → IsSound s → IsSound t
asks_sound before after s t a (Ok (asked.Hit k bytes)) row same sound = subst IsSound (sym row.state) sound
asks_sound before after s t a (Ok (asked.Busy k)) row same sound = subst IsSound (sym row.1.1) sound
asks_sound before after s t a (Ok asked.Spent) row same sound = subst IsSound (sym row.1.2) sound
asks_sound before after s t a (Ok (asked.Ticket ticket)) row same sound = subst IsSound (sym row.1.state) sound
asks_sound before after s t a (Err fault) row same sound = subst IsSound (sym same) sound

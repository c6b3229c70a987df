-- What is read of a cabinet, and what an ask then comes to.
use Rattle.std.proofs.Common.{ℕ, ◌≡◌, Bool, true, false, cond, List, map, find, Option, Some, None, IsSome, refl, sym, ap, subst, ◌∙◌}
use Rattle.std.specs.Prelude.{IfOk, IfSome, IsSomeAnd, Ok, Result}
use Rattle.std.specs.List.{AllByRecursion}
use Rattle.std.specs.Option.{option_and_then, option_map}
use Rattle.matrix_geometry.specs.declared.address.Address.{Address}
use Rattle.metatile_plan.proofs.Same.{same_meta_is}
use Rattle.raster_field.specs.Blocks.{block_of, block_text}
use Rattle.raster_field.specs.TileText.{tile_text}
use Rattle.metatile_locks.proofs.Lists.{found}
use Rattle.cabinet.specs.declared.entry.HistoryEntry.TheVariants as entry
use Rattle.cabinet.specs.declared.kept.Kept.{Kept}
use Rattle.cabinet.specs.declared.kept.KeptBlob.{KeptBlob}
use Rattle.cabinet.specs.declared.replies.Asked.{Asked}
use Rattle.cabinet.specs.declared.shelving.FoundTile.{FoundTile}
use Rattle.cabinet.specs.Commands.{IsHit, IsUnkept, answering, where_within}
use Rattle.cabinet.specs.Fresh.{limit_for}
use Rattle.cabinet.specs.History.{is_of, kept_of}
use Rattle.cabinet.specs.State.{IsKnown, IsLong, IsPictured, IsSound, State, asked_at, now, with_entry}
use Rattle.cabinet.specs.Turns.{FindsIn}
use Rattle.cabinet.proofs.Lists.{find_map}
use Rattle.cabinet.proofs.OnShelf.{found_long}
use Rattle.cabinet.proofs.Rows.{now_asked}

-- where it is there at all, it is this one
itself_if : (v : Bool) (t : Kept) → IsSome (cond v (Some t) None) → cond v (Some t) None ≡ Some t
itself_if true t some = refl
itself_if false t some = absurd (cc)

-- what holds of the reply holds of the result
pub when_ok : {E : Type 0} (P : Asked → Type 0) (r : Result Asked E) (x : Asked) → r ≡ Ok x → P x → IfOk r P
when_ok P r x is p = subst (λ y. IfOk y P) (sym is) p

module _ (s : State) (k : IsKnown s) (a : Address) where
  kept_is : (blobs : List KeptBlob) (o : Option KeptBlob) → s.blobs ≡ Some blobs → find (λ b. is_of (block_of s.catalogue a) b.kept) blobs ≡ o → kept_of (block_of s.catalogue a) (now s) ≡ option_map (λ b. b.kept) o
  kept_is blobs o is e =
      let kept : map (λ b. b.kept) blobs ≡ (now s).kept = subst (λ (o : Option (List KeptBlob)). IfSome o (λ blobs. map (λ b. b.kept) blobs ≡ (now s).kept)) is k.blobs in
      ap (find (is_of (block_of s.catalogue a))) (sym kept) ∙ find_map (λ (x : KeptBlob). x.kept) (is_of (block_of s.catalogue a)) blobs ∙ ap (option_map (λ (x : KeptBlob). x.kept)) e

  kept_then : (n : ℕ) (o : Option Kept) → kept_of (block_of s.catalogue a) (now s) ≡ o → kept_of (block_of s.catalogue a) (now (asked_at n s)) ≡ o
  kept_then n o e = ap (kept_of (block_of s.catalogue a)) (now_asked s n) ∙ e

  answers : (n : ℕ) (t : Kept) → kept_of (block_of s.catalogue a) (now s) ≡ Some t → answering (asked_at n s) a ≡ where_within (limit_for s.catalogue a) (now (asked_at n s)).moment t
  answers n t e = ap (option_and_then (where_within (limit_for s.catalogue a) (now (asked_at n s)).moment)) (kept_then n (Some t) e)

  -- what was read is handed out, where what is kept answers
  pub hit_of : (n : ℕ) (f : FoundTile) (new : State) → FindsIn s a (Some f) → IsSome (answering (asked_at n s) a) → new ≡ with_entry (asked_at n s) (entry.Used (block_of s.catalogue a)) → IsHit (asked_at n s) a f.number f.text new
  hit_of n f new x some is =
      let b = x.2.0 in
      let kept = kept_is x.0 (Some b) x.1 x.2.1 in
      let at = answers n b.kept kept in
      let long : AllByRecursion (IsLong s.catalogue) x.0 = subst (λ (o : Option (List KeptBlob)). IfSome o (λ blobs. AllByRecursion (IsLong s.catalogue) blobs)) x.1 k.lengths in
      record {
        kept = b.kept;
        is_kept = at ∙ itself_if _ b.kept (subst IsSome at some);
        number = x.2.2;
        blob = b.text;
        long = found_long s.catalogue x.0 (block_of s.catalogue a) b long x.2.1;
        told = rw (x.1, x.2.1) refl;
        part = x.2.4;
        state = is;
      }

  -- and is the encoded tile, where the cabinet is sound
  pub hit_true : (f : FoundTile) → FindsIn s a (Some f) → IsSound s → f.text ≡ tile_text s.catalogue f.number a
  hit_true f x sound =
      let b = x.2.0 in
      let pictured : AllByRecursion (IsPictured s.catalogue) x.0 = subst (λ (o : Option (List KeptBlob)). IsSomeAnd o (λ blobs. AllByRecursion (IsPictured s.catalogue) blobs)) x.1 sound in
      let g = found (λ (y : KeptBlob). is_of (block_of s.catalogue a) y.kept) (λ y. y.text ≡ block_text s.catalogue y.kept.number y.kept.meta) x.0 b pictured x.2.1 in
      let text : b.text ≡ block_text s.catalogue b.kept.number (block_of s.catalogue a) = g.1 ∙ ap (block_text s.catalogue b.kept.number) (same_meta_is b.kept.meta (block_of s.catalogue a) g.0) in
      x.2.5 f.number (text ∙ ap (λ (j : ℕ). block_text s.catalogue j (block_of s.catalogue a)) (sym x.2.2))

  -- where nothing is kept of the tile's metatile, nothing answers at any moment
  pub none_unkept : (n : ℕ) → FindsIn s a None → IsUnkept (asked_at n s) a
  none_unkept n x = ap (option_and_then (where_within (limit_for s.catalogue a) (now (asked_at n s)).moment)) (kept_then n None (kept_is x.0 None x.1 x.2))

  -- what was read of the tile is kept
  pub some_kept : (f : FoundTile) → FindsIn s a (Some f) → IsSome (kept_of (block_of s.catalogue a) (now s))
  some_kept f x = rw (kept_is x.0 (Some x.2.0) x.1 x.2.1) refl

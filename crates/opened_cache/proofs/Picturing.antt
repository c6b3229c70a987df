-- The saving of uses keeps every blob, and so what is the picture of its number.
use Rattle.std.proofs.Common.{◌≡◌, ℕ, zero, suc, List, [], ◌∷◌, Option, Some, None, sym, subst}
use Rattle.std.specs.Prelude.{IsSomeAnd}
use Rattle.std.specs.List.{AllByRecursion}
use Rattle.std.specs.Option.{option_map}
use Rattle.cabinet.specs.Counted.{uses}
use Rattle.cabinet.specs.declared.kept.KeptBlob.{KeptBlob}
use Rattle.cabinet.specs.State.{IsPictured, IsSound, State, blobs_counted}
use Rattle.cabinet.proofs.WithUses.{set_has}
use Rattle.catalog.specs.declared.catalogue.Catalogue.{Catalogue}
use Rattle.opened_cache.specs.Saving.{SavesMany}
use Rattle.metatile_plan.specs.declared.metatile.MetaKey.{MetaKey}
use Rattle.raster_field.specs.Blocks.{block_text}

module _ (c : Catalogue) (m : MetaKey) (n : ℕ) where
  all_counted : (bs : List KeptBlob) → AllByRecursion (IsPictured c) bs → AllByRecursion (IsPictured c) (blobs_counted m n bs)
  all_counted [] are = tt
  all_counted (b ∷ bs) are = (set_has m n (λ t. b.text ≡ block_text c t.number t.meta) (λ t is. is) b.kept are.0, all_counted bs are.1)

  counted_pictured : (blobs : Option (List KeptBlob)) → IsSomeAnd blobs (λ bs. AllByRecursion (IsPictured c) bs) → IsSomeAnd (option_map (blobs_counted m n) blobs) (λ bs. AllByRecursion (IsPictured c) bs)
  counted_pictured None are = are
  counted_pictured (Some bs) are = all_counted bs are

pub saves_sound : (n : ℕ) (s u : State) → SavesMany n s u → IsSound s → IsSound u
saves_sound zero s u same sound = subst IsSound (sym same) sound
saves_sound (suc n) s u (t, many, (m, row)) sound = subst IsSound (sym row.1) (counted_pictured t.catalogue m (uses t.history m) t.blobs (saves_sound n s t many sound))

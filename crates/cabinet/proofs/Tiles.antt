-- A tile in the block of its metatile, and its part of a blob.
use Rattle.std.proofs.Common.{ℕ, ◌≡◌, ◌<◌, List, [], Option, Some, sym, ap, subst, ◌∙◌}
use Rattle.std.specs.Option.{option_map_or}
use Rattle.catalog.specs.declared.catalogue.Catalogue.{Catalogue}
use Rattle.catalog.specs.LookUp.{IsTile, matrix_in}
use Rattle.matrix_geometry.specs.declared.address.Address.{Address}
use Rattle.matrix_geometry.specs.declared.matrix.Matrix.{Matrix}
use Rattle.metatile_plan.specs.declared.metatile.Factors.{Factors}
use Rattle.metatile_plan.specs.declared.metatile.MetaKey.{MetaKey}
use Rattle.metatile_plan.specs.Plan.{IsIn, IsPlan, meta_of, tiles_of}
use Rattle.metatile_plan.specs.Texts.{blob_len, span_of}
use Rattle.raster_field.proofs.Metas.{tile_within}
use Rattle.raster_field.specs.Blocks.{blob_size, block_of, factors_at, part_of, tile_part}

-- the tile lies in the block of its metatile, whose blob has these bytes, and its part of a blob is at its span
pub record Lies (c : Catalogue) (a : Address) (x : Matrix) (f : Factors) (m : MetaKey) : Type 0 where
  pub inside : IsIn (tiles_of f x m) a.row a.col
  pub size : blob_len f x m ≡ blob_size c (block_of c a)
  pub part : (blob : List ℕ) → part_of (span_of f x m a.row a.col) blob ≡ tile_part c a blob

-- a tile of a matrix lies in the block of its metatile
abbrev AllLie : Type 0
AllLie = (f : Factors) (x : Matrix) (a : Address) → IsPlan f x → a.row < x.rows → a.col < x.cols → IsIn (tiles_of f x (meta_of f a)) a.row a.col

lies_at : (c : Catalogue) (a : Address) (x : Matrix) → AllLie → IsTile c a → matrix_in c a.grid a.z ≡ Some x → IsPlan (factors_at c a.theme) x → Lies c a x (factors_at c a.theme) (block_of c a)
lies_at c a x all tile at plan =
    let within = tile_within c a x tile at in
    record {
      inside = all (factors_at c a.theme) x a plan within.0 within.1;
      size = ap (λ (o : Option Matrix). option_map_or (λ y. blob_len (factors_at c a.theme) y (block_of c a)) o 0) (sym at);
      part = λ blob. ap (λ (o : Option Matrix). option_map_or (λ y. part_of (span_of (factors_at c a.theme) y (block_of c a) a.row a.col) blob) o []) (sym at);
    }

pub lies : (c : Catalogue) (a : Address) (x : Matrix) (f : Factors) (m : MetaKey) → AllLie → IsTile c a → m ≡ block_of c a → f ≡ factors_at c m.theme → matrix_in c m.grid m.z ≡ Some x → IsPlan f x → Lies c a x f m
lies c a x f m all tile is factors at plan =
    let same : f ≡ factors_at c a.theme = factors ∙ ap (λ (k : MetaKey). factors_at c k.theme) is in
    let there : matrix_in c a.grid a.z ≡ Some x = subst (λ (k : MetaKey). matrix_in c k.grid k.z ≡ Some x) is at in
    subst (λ (p : Factors × MetaKey). Lies c a x p.0 p.1) (λ i. (sym same i, sym is i)) (lies_at c a x all tile there (subst (λ (g : Factors). IsPlan g x) same plan))

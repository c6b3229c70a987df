use Rattle.std.proofs.Common.{◌≡◌, drop, option_map}
use Rattle.serde_json.specs.View.{view}
use Rattle.catalog.specs.LookUp.{HasValues, dimensions_of}
use Rattle.dimension_key.specs.Draft.{draft_of}
use Rattle.layer_recipes.specs.Dimensions.{dimensions}
use Rattle.layer_recipes.proofs.dimensions.drafted.Given as goal

-- the dimensions that are left give the same as all of them, and each so far has its value, which is one of its values
abbrev pub invariant-loop-dimension : goal.invariant-loop-dimension
invariant-loop-dimension l = record {
  value : dimensions l.catalogue l.part (option_map (λ v. view v.now) l.object) (drop l.dimension-index l.dimension-items) l.draft ≡ dimensions l.catalogue l.part (option_map (λ v. view v.now) l.object) (dimensions_of l.catalogue l.fn.layer) (draft_of l.fn.layer l.style);
  layer : l.draft.theme.layer ≡ l.fn.layer;
  style : l.draft.theme.style ≡ l.style;
  values : HasValues l.catalogue l.draft.theme;
  count : l.draft.count ≡ l.dimension-index;
}

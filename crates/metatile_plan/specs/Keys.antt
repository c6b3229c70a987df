-- When two keys of metatiles are one.
use Rattle.std.specs.Prelude.{◌==◌, ◌&&◌, Bool, nat_eq}
use lib.Pointwise.{pointwise}
use Rattle.metatile_plan.specs.declared.metatile.MetaKey.{MetaKey}

-- the two keys are of one metatile
abbrev pub same_meta : MetaKey → MetaKey → Bool
same_meta a b =
    a.theme.layer == b.theme.layer && a.theme.style == b.theme.style && pointwise nat_eq a.theme.dims b.theme.dims && a.grid == b.grid && a.z == b.z && a.row == b.row && a.col == b.col

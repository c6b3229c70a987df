use Rattle.std.proofs.Common.{subst, sym}
use Rattle.std.specs.Str.{IsUtf8}
use Rattle.layer_recipes.proofs.Ascii.{utf8_name}
use Rattle.layer_recipes.proofs.names.name_of.Goals as goal

pub unreachable-requires : goal.unreachable-requires
unreachable-requires c = c.in-Err.ensures.cases.0 (subst IsUtf8 (sym c.bytes.ensures) (utf8_name c.args.dimension.now.id c.requires.id.bytes))

use Rattle.std.proofs.Common.{List, subst, sym}
use Rattle.std.specs.Prelude.{Contains, IfOk, IfSome}
use Rattle.durable_cabinet.specs.Hot.{HotTile, address_of, hot_tile}
use Rattle.durable_cabinet.proofs.Keying.{shared_tile}
use Rattle.durable_cabinet.proofs.hot.HotTier.text_at.Goals as goal

pub returns-in-Some : goal.returns-in-Some
returns-in-Some c =
    subst (λ (tier : List HotTile). IfOk c.text_of_render.result (λ found. IfSome found (λ text. Contains tier (hot_tile (address_of c.args.key.now) c.args.number text)))) c.self.view_is
    (shared_tile c.text_of_render.result c.self.inside.texts.entries c.args.key.now c.in-Some.found.now c.args.number (sym c.in-Some.ensures) c.text_of_render.ensures)

use Rattle.std.proofs.Common.{Contains, List, map, subst, sym}
use Rattle.std.specs.List.{AllByRecursion}
use Rattle.lru.specs.LruCache.{LruCache}
use Rattle.durable_cabinet.specs.Hot.{HotTile, tile_of}
use Rattle.durable_cabinet.specs.declared.texts.HotText.{HotText}
use Rattle.durable_cabinet.specs.declared.texts.TileKey.{TileKey}
use Rattle.durable_cabinet.proofs.Keying.{among_promoted, found_among}
use Rattle.durable_cabinet.proofs.hot.HotTier.text_of.Goals as goal

pub returns-clause-among : goal.returns-clause-among
returns-clause-among c =
    let es = c.self.inside.texts.entries in
    subst (λ (old : List HotTile). AllByRecursion (Contains old) (map tile_of c.promote.new.self.entries)) c.self.view_is
    (subst (λ (x : LruCache TileKey HotText). AllByRecursion (Contains (map tile_of es)) (map tile_of x.entries)) (sym c.promote.ensures.entries) (among_promoted c.key_of-key.result es))

pub returns-clause-found : goal.returns-clause-found
returns-clause-found c =
    let es = c.self.inside.texts.entries in
    let among : AllByRecursion (Contains (map tile_of es)) (map tile_of c.promote.new.self.entries) =
    subst (λ (x : LruCache TileKey HotText). AllByRecursion (Contains (map tile_of es)) (map tile_of x.entries)) (sym c.promote.ensures.entries) (among_promoted c.key_of-key.result es) in
    found_among c.text_at.result (map tile_of c.promote.new.self.entries) c.args.self.now c.args.number _ _ c.key_of-key.ensures (subst (λ (old : List HotTile). AllByRecursion (Contains old) (map tile_of c.promote.new.self.entries)) c.self.view_is among) c.text_at.ensures

use Rattle.std.proofs.Common.{◌≡◌, ◌⊎◌, Contains, List, inl, map, subst, sym}
use Rattle.std.specs.List.{AllByRecursion}
use Rattle.lru.specs.LruCache.{LruCache}
use Rattle.cabinet.proofs.Lists.{all_of}
use Rattle.durable_cabinet.specs.Hot.{HotTile, address_of, hot_tile, tile_of}
use Rattle.durable_cabinet.specs.declared.texts.HotText.{HotText}
use Rattle.durable_cabinet.specs.declared.texts.TileKey.{TileKey}
use Rattle.durable_cabinet.proofs.Keying.{among_put, put_there}
use Rattle.durable_cabinet.proofs.hot.HotTier.put.Goals as goal

-- each text of a tier was there before, or is this one
abbrev IsPutInto : HotTile → List HotTile → LruCache TileKey HotText → Type 0
IsPutInto y old texts = AllByRecursion (λ x. Contains old x ⊎ (x ≡ y)) (map tile_of texts.entries)

pub returns-in-Err-put-clause-among : goal.returns-in-Err-put-clause-among
returns-in-Err-put-clause-among c =
    let y = hot_tile c.args.address.now c.args.number c.args.text.now in
    let old = map tile_of c.self.inside.texts.entries in
    subst (λ (v : List HotTile). IsPutInto y v c.put.new.self) c.self.view_is
    (subst (IsPutInto y old) (sym c.in-Err-put.ensures.err) (all_of (λ x. Contains old x ⊎ (x ≡ y)) old (λ x has. inl has)))

pub returns-clause-among : goal.returns-clause-among
returns-clause-among c =
    let texts = c.self.inside.texts in
    let v : HotText = record { number = c.args.number; text = c.in-Ok.text } in
    let same : hot_tile (address_of c.key_of.result) c.args.number c.in-Ok.text ≡ hot_tile c.args.address.now c.args.number c.args.text.now = λ i. hot_tile (c.key_of.ensures i) c.args.number (c.in-Ok.ensures i) in
    subst (λ (old : List HotTile). IsPutInto (hot_tile c.args.address.now c.args.number c.args.text.now) old c.put.new.self) c.self.view_is
    (subst (λ (y : HotTile). IsPutInto y (map tile_of texts.entries) c.put.new.self) same
    (subst (IsPutInto (hot_tile (address_of c.key_of.result) c.args.number c.in-Ok.text) (map tile_of texts.entries)) (sym c.in-Ok-put.ensures.entries) (among_put texts c.key_of.result v)))

pub returns-clause-there : goal.returns-clause-there
returns-clause-there c =
    let texts = c.self.inside.texts in
    let v : HotText = record { number = c.args.number; text = c.in-Ok.text } in
    let same : hot_tile (address_of c.key_of.result) c.args.number c.in-Ok.text ≡ hot_tile c.args.address.now c.args.number c.args.text.now = λ i. hot_tile (c.key_of.ensures i) c.args.number (c.in-Ok.ensures i) in
    subst (λ (y : HotTile). Contains (map tile_of c.put.new.self.entries) y) same
    (subst (λ (x : LruCache TileKey HotText). Contains (map tile_of x.entries) (hot_tile (address_of c.key_of.result) c.args.number c.in-Ok.text)) (sym c.in-Ok-put.ensures.entries) (put_there texts c.key_of.result v))

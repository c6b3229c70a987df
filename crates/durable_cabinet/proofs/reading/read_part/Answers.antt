use Rattle.std.proofs.Common.{◌≡◌, ◌+◌, ◌≤◌, ◌++◌, IsTrue, List, ℕ, drop, length, subst, sym, take, arith, rules}
use Rattle.std.proofs.Math.Seq.{take-append_seam}
use Rattle.catalog.specs.declared.catalogue.Catalogue.{Catalogue}
use Rattle.durable_cabinet.specs.Filed.{IsFiled}
use Rattle.durable_cabinet.specs.Tiles.{IsTilePartOf}
use Rattle.durable_cabinet.proofs.ReadingTiles.{read_filed, read_part_of, read_rests, region_of}
use Rattle.raster_field.specs.Blocks.{blob_size, block_of, part_of, tile_part}
use Rattle.durable_cabinet.proofs.reading.read_part.Goals as goal

pub read-requires-clause-end : goal.read-requires-clause-end
read-requires-clause-end g c =
    let s = c.args.core.now.state in
    let span = c.tile_span-span.result in
    let a = c.args.address.now in
    let r = region_of s c.known.ensures a c.args.kept c.requires.kept in
    let inside = subst (λ (d : Catalogue). span.start + span.length ≤ blob_size d (block_of d a)) c.catalogue.ensures c.tile_span-span.ensures.inside in
    omega (arith, c.requires.filed.start_is, inside, r.within, r.size, c.known.ensures.valid.blob_bytes_most, c.known.ensures.valid.kept_limit_most, c.known.ensures.valid.cut_limit_most)

pub returns-in-Err-read-clause-filed : goal.returns-in-Err-read-clause-filed
returns-in-Err-read-clause-filed g c =
    let f = c.args.file.now in
    let n = c.read.new.self in
    let s = c.args.core.now.state in
    subst (λ b. IsFiled s b n.start n.journal (g.D.Disk.state n.disk)) (sym c.read.ensures.told)
    (read_filed (g.D.Disk.told f.disk) s c.known.ensures f.start f.journal (g.D.Disk.state f.disk) c.requires.filed (g.D.Disk.state n.disk) c.read.ensures.stays
    (λ is. (g.met.D.Disk.lawful n.disk (subst IsTrue (sym c.read.ensures.told) is)).reads_as) n.start n.journal c.read.ensures.start c.read.ensures.journal)

pub returns-in-Err-read-clause-rests : goal.returns-in-Err-read-clause-rests
returns-in-Err-read-clause-rests g c =
    let f = c.args.file.now in
    let n = c.read.new.self in
    read_rests (g.D.Disk.told f.disk) c.args.core.now.state c.known.ensures f.start f.journal (g.D.Disk.state f.disk) c.requires.filed (g.D.Disk.state n.disk) c.read.ensures.stays
    (λ is. (g.met.D.Disk.lawful n.disk (subst IsTrue (sym c.read.ensures.told) is)).reads_as)

pub returns-in-Ok-read-clause-filed : goal.returns-in-Ok-read-clause-filed
returns-in-Ok-read-clause-filed g c =
    let f = c.args.file.now in
    let n = c.read.new.self in
    let s = c.args.core.now.state in
    subst (λ b. IsFiled s b n.start n.journal (g.D.Disk.state n.disk)) (sym c.read.ensures.told)
    (read_filed (g.D.Disk.told f.disk) s c.known.ensures f.start f.journal (g.D.Disk.state f.disk) c.requires.filed (g.D.Disk.state n.disk) c.read.ensures.stays
    (λ is. (g.met.D.Disk.lawful n.disk (subst IsTrue (sym c.read.ensures.told) is)).reads_as) n.start n.journal c.read.ensures.start c.read.ensures.journal)

pub returns-in-Ok-read-clause-rests : goal.returns-in-Ok-read-clause-rests
returns-in-Ok-read-clause-rests g c =
    let f = c.args.file.now in
    let n = c.read.new.self in
    read_rests (g.D.Disk.told f.disk) c.args.core.now.state c.known.ensures f.start f.journal (g.D.Disk.state f.disk) c.requires.filed (g.D.Disk.state n.disk) c.read.ensures.stays
    (λ is. (g.met.D.Disk.lawful n.disk (subst IsTrue (sym c.read.ensures.told) is)).reads_as)

pub returns-in-Ok-read-clause-part : goal.returns-in-Ok-read-clause-part
returns-in-Ok-read-clause-part g c =
    let f = c.args.file.now in
    let s = c.args.core.now.state in
    let a = c.args.address.now in
    let span = c.tile_span-span.result in
    let into = c.read.new.into in
    let inside : span.start + span.length ≤ blob_size s.catalogue (block_of s.catalogue a) = subst (λ (d : Catalogue). span.start + span.length ≤ blob_size d (block_of d a)) c.catalogue.ensures c.tile_span-span.ensures.inside in
    let part : (blob : List ℕ) → part_of span blob ≡ tile_part s.catalogue a blob = subst (λ (d : Catalogue). (blob : List ℕ) → part_of span blob ≡ tile_part d a blob) c.catalogue.ensures c.tile_span-span.ensures.part in
    let long : length into ≡ span.length = search rules in
    let rest = drop (length into) c.in-Ok.bytes.items in
    let meets : length into ≡ c.in-Ok.bytes.len = search rules in
    let all : take c.in-Ok.bytes.len (into ++ rest) ≡ into = subst (λ (n : ℕ). take n (into ++ rest) ≡ into) meets (take-append_seam into rest) in
    subst (IsTilePartOf (g.D.Disk.told f.disk) s.catalogue (g.D.Disk.state f.disk).seen a c.args.kept) (sym all)
    (read_part_of s c.known.ensures a c.args.kept c.requires.kept span part inside (g.D.Disk.told f.disk) f.start (g.D.Disk.state f.disk) into c.requires.filed.start_is (λ is. (c.requires.filed.on is).holds) long c.in-Ok-read.ensures.part)

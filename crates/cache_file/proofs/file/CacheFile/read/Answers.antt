use Rattle.cache_file.proofs.Sparing.{stays_same}
use Rattle.cache_file.proofs.file.CacheFile.read.Goals as goal

pub returns-clause-stays : goal.returns-clause-stays
returns-clause-stays g c told =
    let f = c.args.self.now in
    stays_same f.start f.journal (g.D.Disk.state f.disk) (g.D.Disk.state c.read_tile.new.disk) f.behind (c.requires.sound told) (c.read_tile.ensures.steps told)

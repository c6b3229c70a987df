use Rattle.std.proofs.Common.{length}
use Rattle.cache_file.proofs.Sparing.{stays_put}
use Rattle.cache_file.proofs.file.CacheFile.put.Goals as goal

pub returns-clause-stays : goal.returns-clause-stays
returns-clause-stays g c told =
    let f = c.args.self.now in
    stays_put f.start c.args.place (length c.args.blob.now) f.journal (g.D.Disk.state f.disk) (g.D.Disk.state c.put.new.disk) f.behind c.requires.settled (c.requires.sound told)
    (g.met.D.Disk.lawful f.disk told).reads_as (c.put.ensures.changes told)

use Rattle.gate_journal.specs.Sound.{digest_of}
use Rattle.feed_words.proofs.Reached.{goes_to}
use Rattle.feed_words.proofs.line.make_change.Goals as goal

pub returns-in-Ok-clause-goes : goal.returns-in-Ok-clause-goes
returns-in-Ok-clause-goes g c =
    goes_to (g.D.Disk.told c.args.feed.now.file.disk) (digest_of c.args.feed.now.file.journal) _ _ _ _ c.args.change.now c.in-Ok.reply c.known.ensures c.requires.cover c.in-Ok.ensures.applies c.apply.ensures.later c.apply.ensures.cabinet_later c.apply.ensures.still_sound c.in-Ok.ensures.images

use Rattle.tile_command.proofs.upkeep.step.Goals as goal

pub truncate-requires-clause-ours : goal.truncate-requires-clause-ours
truncate-requires-clause-ours g c = rw c.in-Truncate.is at c.requires.fit

pub expire-requires-clause-ours : goal.expire-requires-clause-ours
expire-requires-clause-ours g c = rw c.in-Expire.is at c.requires.fit

pub usage-requires-clause-ours : goal.usage-requires-clause-ours
usage-requires-clause-ours g c = rw c.in-Usage.is at c.requires.fit

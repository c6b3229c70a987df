use Rattle.std.proofs.Common.{rules}
use Rattle.cabinet_records.proofs.Allowing.{newer_since, since_newer}
use Rattle.cabinet_records.proofs.replay.newer.is_newer_than.Goals as goal

pub returns : goal.returns
returns c =
    let cuts = c.args.cuts.now.book.cuts in (
      λ newer. since_newer c.args.m.now c.args.block.now c.args.number cuts (search rules),
      λ all. let none = newer_since c.args.m.now c.args.block.now c.args.number cuts all in search rules,
    )

use Rattle.std.proofs.Common.{◌/◌, ◌∙◌, ap}
use Rattle.byteorder.specs.Endian.{little_number}
use Rattle.disk_model.specs.Content.{bytes_at}
use Rattle.summed_disk.proofs.Keeping.{entry_read}
use Rattle.summed_disk.proofs.entries.read_sum.Goals as goal

pub returns-clause-sum : goal.returns-clause-sum
returns-clause-sum g c told =
    let seen = (g.S.Disk.state c.args.sums.now).seen in
    let there = c.entry_place.ensures.place in
    c.read_u64.ensures ∙ ap (little_number 8) (c.in_ok-read.ensures.bytes told ∙ (λ t. bytes_at seen (there t) 8)) ∙ entry_read seen (c.args.at / c.args.grain)

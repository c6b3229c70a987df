use Rattle.std.proofs.Common.{◌≡◌, ◌≤◌, ◌+◌, arith, rules, length, sym, ap, ◌∙◌}
use Rattle.std.proofs.lemmas.List.{length-take-le}
use Rattle.byteorder.specs.Endian.{big_bytes}
use Rattle.byteorder.specs.Numbers.{length-bytes_high_first}
use Rattle.record_text.proofs.Drafts.{kept_on}
use Rattle.record_text.proofs.draft.Draft.number.Goals as goal

pub invariant_of-result : goal.invariant_of-result
invariant_of-result c =
    let size : length c.self.inside.body ≡ 63 = search rules in
    let end : length c.args.self ≡ c.self.inside.end = ap length (sym c.self.view_is) ∙ length-take-le c.self.inside.end c.self.inside.body (omega (arith, size, c.self.invariant.0)) in
    let room : c.self.inside.end + c.args.width ≤ 63 = omega (arith, end, c.requires.room) in
    (room, kept_on c.self.inside.body c.write_uint.new.buf (big_bytes c.args.width c.args.value) c.self.inside.end c.args.width room size (length-bytes_high_first c.args.width c.args.value) c.self.invariant.1 c.write_uint.ensures)

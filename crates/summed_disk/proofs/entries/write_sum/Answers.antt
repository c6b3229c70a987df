use Rattle.std.proofs.Common.{rules, ◌≡◌, ℕ, ◌/◌, ◌∙◌, List, ap, length}
use Rattle.std.proofs.lemmas.Result.{on_ok_weaker}
use Rattle.disk_model.specs.Content.{Content, written}
use Rattle.summed_disk.specs.Entries.{entry_at}
use Rattle.summed_disk.proofs.Keeping.{entry_other, entry_written}
use Rattle.summed_disk.proofs.entries.write_sum.Goals as goal

pub returns-clause-sum : goal.returns-clause-sum
returns-clause-sum g c told =
    let old : Content = (g.S.Disk.state c.args.sums.now).seen in
    let entry : List ℕ = c.entry_of.result in
    let k : ℕ = c.args.at / c.args.grain in
    let long : length entry ≡ 8 = search rules in
    on_ok_weaker c.write_at.result (λ is. ap (λ (d : Content). entry_at d k) is ∙ ap (λ (p : ℕ). entry_at (written p entry old) k) c.entry_place.ensures.place ∙ entry_written k entry old long ∙ c.entry_of.ensures) (c.write_at.ensures.written told)

pub returns-clause-others : goal.returns-clause-others
returns-clause-others g c told =
    let old : Content = (g.S.Disk.state c.args.sums.now).seen in
    let entry : List ℕ = c.entry_of.result in
    let long : length entry ≡ 8 = search rules in
    on_ok_weaker c.write_at.result (λ is k not. ap (λ (d : Content). entry_at d k) is ∙ ap (λ (p : ℕ). entry_at (written p entry old) k) c.entry_place.ensures.place ∙ entry_other (c.args.at / c.args.grain) k entry old long not) (c.write_at.ensures.written told)

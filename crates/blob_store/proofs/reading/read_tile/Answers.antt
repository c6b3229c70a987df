use Rattle.std.proofs.Common.{◌≡◌, ℕ, ◌+◌, ◌∙◌}
use Rattle.std.proofs.lemmas.Result.{on_ok_weaker}
use Rattle.disk_model.specs.Content.{Content, bytes_at}
use Rattle.blob_store.proofs.Parts.{part_of_blob}
use Rattle.blob_store.proofs.reading.read_tile.Goals as goal

pub returns-clause-part : goal.returns-clause-part
returns-clause-part g c told blob held fits =
    let seen : Content = (g.D.Disk.state c.args.disk.now).seen in
    let place : ℕ = c.args.place in
    let span = c.args.span.now in
    let here : c.from-start.result ≡ span.start = c.from-start.ensures in
    on_ok_weaker c.read_of.result (λ is. is ∙ (λ k. bytes_at seen (place + here k) (c.requires.size k)) ∙ part_of_blob seen place span.start span.length blob held fits) (c.read_of.ensures.bytes told)

use Rattle.std.proofs.Common.{◌≡◌, ◌∙◌}
use Rattle.look_words.proofs.Telling.{told_so}
use Rattle.look_words.proofs.check.tell.Goals as goal
use Rattle.sessions.specs.Outside.{counts}

pub returns : goal.returns
returns g c =
    told_so c.args.catalogue.now c.args.document.now c.args.restored.now.opening c.args.restored.now.kept.items c.args.restored.now.cuts.book
    (record { writes = counts (g.O.ByteSink.faults c.args.output.now) (g.O.ByteSink.faults c.write_text.new.output); from = g.O.ByteSink.taken c.args.output.now; to = g.O.ByteSink.taken c.write_text.new.output })
    (c.write_text.new.output ≡ c.args.output.now) c.write_text.result c.files_lines-files.result.items c.as_slice.result.now
    (c.are_openings_spent.ensures.left c.if-are_openings_spent.false) c.files_lines-files.ensures.items (c.as_slice.ensures.value ∙ c.cache_line-cache.ensures) c.write_text.ensures

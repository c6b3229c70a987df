use Rattle.std.proofs.Common.{IsUtf8, sym, subst}
use Rattle.command_words.proofs.server_words.texts_of.Goals as goal

pub returns-in_default-clause-usage : goal.returns-in_default-clause-usage
returns-in_default-clause-usage c told all =
    let item : IsUtf8 c.word-item.result = subst IsUtf8 (sym c.word-item.is) (all c.loop-word.word-index c.word-item.result c.loop-word-test.true) in
    c.in_default.ensures.cases.0 (subst IsUtf8 (sym c.bytes.ensures) item)

use Rattle.std.proofs.Common.{◌∙◌, Ok, Err, map, ap}
use Rattle.std.proofs.lemmas.Result.{err_from_is_err_and}
use Rattle.command_words.proofs.PlainReads.{plain_from, read_plain, refused_plain, unread_plain, usage_from}
use Rattle.command_words.proofs.server_words.serve_words.Goals as goal

pub returns-in_err-texts-clause-plain : goal.returns-in_err-texts-clause-plain
returns-in_err-texts-clause-plain c =
    let told = err_from_is_err_and c.from_residual.result c.from_residual.ensures.1 in
    plain_from c.args.words.now c.from_residual.result
    (unread_plain c.args.words.now c.from_residual.result c.in_err-texts.field-0.0 (told.1 ∙ ap Err told.2) (λ usage. c.in_err-texts.ensures.usage (ap Err usage)))

pub returns-in_err-texts-clause-usage : goal.returns-in_err-texts-clause-usage
returns-in_err-texts-clause-usage c =
    let told = err_from_is_err_and c.from_residual.result c.from_residual.ensures.1 in
    usage_from c.args.words.now c.from_residual.result
    (unread_plain c.args.words.now c.from_residual.result c.in_err-texts.field-0.0 (told.1 ∙ ap Err told.2) (λ usage. c.in_err-texts.ensures.usage (ap Err usage)))

pub returns-in-Ok-clause-plain : goal.returns-in-Ok-clause-plain
returns-in-Ok-clause-plain c =
    let texts_are = ap (map (λ text. text.now)) c.as_slice.ensures.value ∙ c.in_ok-texts.ensures.texts in
    plain_from c.args.words.now (Ok c.numbers_of.result)
    (read_plain _ _ c.args.words.now c.in_ok-serve_command.ensures.app texts_are c.in-Ok.matches c.numbers_of.result c.in-Ok.ensures.matches c.numbers_of.ensures.port c.numbers_of.ensures.connections)

pub returns-clause-plain : goal.returns-clause-plain
returns-clause-plain c =
    let texts_are = ap (map (λ text. text.now)) c.as_slice.ensures.value ∙ c.in_ok-texts.ensures.texts in
    plain_from c.args.words.now (Err c.fault_of.result)
    (refused_plain _ _ c.args.words.now c.in_ok-serve_command.ensures.app texts_are c.in-Err.error c.fault_of.result c.in-Err.ensures.passes c.fault_of.ensures)

pub returns-clause-usage : goal.returns-clause-usage
returns-clause-usage c =
    let texts_are = ap (map (λ text. text.now)) c.as_slice.ensures.value ∙ c.in_ok-texts.ensures.texts in
    usage_from c.args.words.now (Err c.fault_of.result)
    (refused_plain _ _ c.args.words.now c.in_ok-serve_command.ensures.app texts_are c.in-Err.error c.fault_of.result c.in-Err.ensures.passes c.fault_of.ensures)

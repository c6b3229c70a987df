use Rattle.std.specs.Prelude.{⊤}
use Rattle.std.proofs.Common.{sym, ◌∙◌}
use Rattle.compose_words.proofs.Completing.{completed}
use Rattle.compose_words.proofs.word.run_compose.Goals as goal

pub returns-then-is_compose-clause-complete : goal.returns-then-is_compose-clause-complete
returns-then-is_compose-clause-complete g c = completed _ (record { catalogue = ⊤; input = _; output = _; source = _ }) _ _ _ (sym c.is_compose.ensures ∙ c.if-is_compose.true) c.compose.ensures.tells

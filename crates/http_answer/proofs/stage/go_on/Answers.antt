use Rattle.std.proofs.Common.{ℕ, List, subst, ◌∙◌}
use Rattle.http_answer.specs.declared.stage.ReadStage.{ReadStage}
use Rattle.http_answer.specs.Heads.{IsHeadFault}
use Rattle.http_answer.specs.Reading.{IsAt}
use Rattle.http_answer.proofs.Told.{head_fault}
use Rattle.http_answer.proofs.stage.go_on.Goals as goal

pub returns-in-Err : goal.returns-in-Err
returns-in-Err c came at =
    let same = subst (λ (s : ReadStage). IsAt c.args.bytes.items s came) c.in-Head.is at in
    head_fault c.args.limit came c.in-Err.fault (subst (λ (l : List ℕ). IsHeadFault l c.in-Err.fault) (c.as_slice.ensures.value ∙ same) c.in-Err.ensures)

use Rattle.std.proofs.Common.{refl, ap, ◌∙◌}
use Rattle.std.proofs.lemmas.Result.{err_from_is_err_and}
use Rattle.http_wire.proofs.AnswersFound.{good_outline}
use Rattle.http_wire.proofs.HeadAtFront.{no_message_none}
use Rattle.http_wire.proofs.TakesOn.{takes_more}
use Rattle.http_wire.proofs.Fetched.{handed_fault, no_memory, found_stop, refused, truncated, none_within, message_fetched, holds_head, holds_whole}
use Rattle.http_wire.proofs.next_message.next_of.Goals as goal

-- THE HEAD

pub returns-in_err-spans-clause-fetches : goal.returns-in_err-spans-clause-fetches
returns-in_err-spans-clause-fetches g c =
    let p = err_from_is_err_and c.from_residual.result c.from_residual.ensures.1 in handed_fault p.1 p.2 c.in_err-spans.ensures.takes (no_message_none _ c.in_err-spans.ensures.finds)

pub returns-in-Stopped-clause-fetches : goal.returns-in-Stopped-clause-fetches
returns-in-Stopped-clause-fetches g c = found_stop _ _ _ _ c.in_ok-spans.ensures.takes c.in_ok-spans.ensures.finds.0 c.in-Stopped.is c.answer_at.ensures

pub returns-in-Ok-Refused-clause-fetches : goal.returns-in-Ok-Refused-clause-fetches
returns-in-Ok-Refused-clause-fetches g c = refused _ _ _ c.in_ok-spans.ensures.takes c.in-Ok-Refused.ensures c.as_slice.ensures.value c.in-Ok-Refused.field-0-is

pub returns-in-Err-clause-fetches : goal.returns-in-Err-clause-fetches
returns-in-Err-clause-fetches g c = no_memory c.in_ok-spans.ensures.takes

-- THE BODY

pub returns-in_err-read_up_to-clause-fetches : goal.returns-in_err-read_up_to-clause-fetches
returns-in_err-read_up_to-clause-fetches g c =
    let p = err_from_is_err_and c.from_residual-in_err-read_up_to.result c.from_residual-in_err-read_up_to.ensures.1 in
    handed_fault p.1 p.2 (takes_more _ c.in_ok-spans.ensures.takes c.in_err-read_up_to.ensures.takes) (none_within _ _ _ _ _ c.as_slice.ensures.value c.in-Ok-Good.ensures c.in-Ok-Good.field-0-is c.read_up_to.ensures.gains.extends c.in_err-read_up_to.ensures.brings)

pub returns-then-not-branch-clause-fetches : goal.returns-then-not-branch-clause-fetches
returns-then-not-branch-clause-fetches g c =
    truncated c.in-Ok-Good.outline c.in_ok-spans.ensures.takes c.in_ok-read_up_to.ensures.takes (good_outline _ _ _ _ c.in-Ok-Good.ensures c.as_slice.ensures.value c.in-Ok-Good.field-0-is) c.read_up_to.ensures.gains.extends c.if-not-branch.true c.in_ok-read_up_to.ensures.brings

-- the bytes that were taken, and found no room as a body
pub returns-in_default-clause-fetches : goal.returns-in_default-clause-fetches
returns-in_default-clause-fetches g c = no_memory (takes_more _ c.in_ok-spans.ensures.takes c.in_ok-read_up_to.ensures.takes)

pub returns-clause-fetches : goal.returns-clause-fetches
returns-clause-fetches g c =
    message_fetched c.in-Ok-Good.outline _ c.in_ok-spans.ensures.takes c.in_ok-spans.ensures.finds.1 (good_outline _ _ _ _ c.in-Ok-Good.ensures c.as_slice.ensures.value c.in-Ok-Good.field-0-is) c.in_ok-read_up_to.ensures.takes c.if-not-branch.false c.in_ok-read_up_to.ensures.brings c.read_up_to.ensures.gains.few c.in-Ok.ensures.body c.in-Ok.ensures.rest refl refl refl

-- A WHOLE MESSAGE IS HELD ALREADY

pub returns-in_err-spans-clause-untouched : goal.returns-in_err-spans-clause-untouched
returns-in_err-spans-clause-untouched g c = λ holds. (c.in_err-spans.ensures.untouched (holds_head holds)).0

pub returns-in-Stopped-clause-untouched : goal.returns-in-Stopped-clause-untouched
returns-in-Stopped-clause-untouched g c = λ holds. (c.in_ok-spans.ensures.untouched (holds_head holds)).0

pub returns-in-Ok-Refused-clause-untouched : goal.returns-in-Ok-Refused-clause-untouched
returns-in-Ok-Refused-clause-untouched g c = λ holds. (c.in_ok-spans.ensures.untouched (holds_head holds)).0

pub returns-in-Err-clause-untouched : goal.returns-in-Err-clause-untouched
returns-in-Err-clause-untouched g c = λ holds. (c.in_ok-spans.ensures.untouched (holds_head holds)).0

pub returns-in_err-read_up_to-clause-untouched : goal.returns-in_err-read_up_to-clause-untouched
returns-in_err-read_up_to-clause-untouched g c =
    λ holds.
    let still = c.in_ok-spans.ensures.untouched (holds_head holds) in
    c.read_up_to.ensures.untouched (holds_whole _ _ _ _ _ (ap (λ v. v.items) still.1) c.in-Ok-Good.ensures c.as_slice.ensures.value c.in-Ok-Good.field-0-is holds) ∙ still.0

pub returns-then-not-branch-clause-untouched : goal.returns-then-not-branch-clause-untouched
returns-then-not-branch-clause-untouched g c =
    λ holds.
    let still = c.in_ok-spans.ensures.untouched (holds_head holds) in
    c.read_up_to.ensures.untouched (holds_whole _ _ _ _ _ (ap (λ v. v.items) still.1) c.in-Ok-Good.ensures c.as_slice.ensures.value c.in-Ok-Good.field-0-is holds) ∙ still.0

pub returns-in_default-clause-untouched : goal.returns-in_default-clause-untouched
returns-in_default-clause-untouched g c =
    λ holds.
    let still = c.in_ok-spans.ensures.untouched (holds_head holds) in
    c.read_up_to.ensures.untouched (holds_whole _ _ _ _ _ (ap (λ v. v.items) still.1) c.in-Ok-Good.ensures c.as_slice.ensures.value c.in-Ok-Good.field-0-is holds) ∙ still.0

pub returns-clause-untouched : goal.returns-clause-untouched
returns-clause-untouched g c =
    λ holds.
    let still = c.in_ok-spans.ensures.untouched (holds_head holds) in
    c.read_up_to.ensures.untouched (holds_whole _ _ _ _ _ (ap (λ v. v.items) still.1) c.in-Ok-Good.ensures c.as_slice.ensures.value c.in-Ok-Good.field-0-is holds) ∙ still.0

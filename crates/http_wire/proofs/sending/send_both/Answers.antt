use Rattle.http_wire.proofs.BothSent.{first_sent, second_sent}
use Rattle.http_wire.proofs.sending.send_both.Goals as goal

pub returns-in-Err-clause-err : goal.returns-in-Err-clause-err
returns-in-Err-clause-err g c = first_sent _ _ c.args.first.now c.args.second.now c.in-Err.sent.0 c.in-Err.ensures.err.0 c.in-Err.ensures.err.1

pub returns-in-Err-send-clause-err : goal.returns-in-Err-send-clause-err
returns-in-Err-send-clause-err g c =
    second_sent _ _ _ c.args.first.now c.args.second.now c.in-Err-send.field-0.0 c.in-Ok.ensures.ok c.in-Err-send.ensures.err.0 c.in-Err-send.ensures.err.1

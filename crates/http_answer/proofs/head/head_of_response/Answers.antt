use Rattle.std.proofs.Common.{sym, ◌∙◌, drop}
use Rattle.http_answer.proofs.Heads.{begins, framing_is, fits}
use Rattle.http_answer.proofs.head.head_of_response.Goals as goal

pub returns-then-spans-ne200 : goal.returns-then-spans-ne200
returns-then-spans-ne200 c =
    let is = c.requires.is in
    (is.0, drop c.args.spans.len c.args.bytes.now, begins c.args.bytes.now c.args.headers.now c.args.spans is.0 c.requires.room is.1 c.requires.within, sym is.1.code, c.if-spans-ne200.true)

pub returns-in-Ok : goal.returns-in-Ok
returns-in-Ok c =
    let is = c.requires.is in
    record {
      good = record {
        head = is.0;
        begins = begins c.args.bytes.now c.args.headers.now c.args.spans is.0 c.requires.room is.1 c.requires.within;
        status = sym is.1.code ∙ c.if-spans-ne200.false;
        framed = framing_is _ c.args.bytes.now _ c.args.headers.now c.args.spans is.0 _ c.front_of-first.ensures c.split_at.ensures.front is.1 c.in-Ok.ensures;
      };
      fits = fits c.args.bytes.now c.args.headers.now c.args.spans c.requires.within;
    }

pub returns-in-Err : goal.returns-in-Err
returns-in-Err c =
    let is = c.requires.is in (
      is.0,
      drop c.args.spans.len c.args.bytes.now,
      begins c.args.bytes.now c.args.headers.now c.args.spans is.0 c.requires.room is.1 c.requires.within,
      sym is.1.code ∙ c.if-spans-ne200.false,
      framing_is _ c.args.bytes.now _ c.args.headers.now c.args.spans is.0 _ c.front_of-first.ensures c.split_at.ensures.front is.1 c.in-Err.ensures,
    )

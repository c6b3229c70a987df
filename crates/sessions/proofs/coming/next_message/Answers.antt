use Rattle.std.proofs.Common.{◌≡◌, ◌∙◌, Err, Ok, ap, arith, rules, subst}
use Rattle.std.specs.Io.KnownBytes.{prepend_known}
use Rattle.http_wire.specs.Answers.{LeavesFault, stop_of}
use Rattle.http_wire.specs.declared.message.Stop.TheVariants as stop
use Rattle.sessions.proofs.Awaited.{stays, takes_it}
use Rattle.sessions.proofs.coming.next_message.Goals as goal

pub returns-in-Ok-Message-clause-ok : goal.returns-in-Ok-Message-clause-ok
returns-in-Ok-Message-clause-ok g c =
    record {
      takes = takes_it (prepend_known c.args.reader.now.held (g.L.ByteSource.left c.args.link.now)) (prepend_known c.next.new.self.held (g.L.ByteSource.left c.next.new.link)) c.in-Ok-Message.field-0-is (c.in-Ok-Message.ensures.answers c.requires.going);
      surplus = c.in-Ok-Message.ensures.surplus c.requires.going (c.in-Ok-Message.message, ap Ok c.in-Ok-Message.field-0-is) c.requires.surplus;
      going = c.in-Ok-Message.ensures.ends c.requires.going ∙ ap stop_of c.in-Ok-Message.field-0-is;
      unsent = c.next.ensures.taken;
      writes = c.next.ensures.put_faults;
    }

pub returns-in-Ok-End-clause-err : goal.returns-in-Ok-End-clause-err
returns-in-Ok-End-clause-err g c = (stays (prepend_known c.args.reader.now.held (g.L.ByteSource.left c.args.link.now)) (prepend_known c.next.new.self.held (g.L.ByteSource.left c.next.new.link)) stop.End c.in-Ok-End.field-0-is (c.in-Ok-End.ensures.leaves c.requires.going), c.next.ensures.taken)

pub returns-in-Ok-Truncated-clause-err : goal.returns-in-Ok-Truncated-clause-err
returns-in-Ok-Truncated-clause-err g c = (stays (prepend_known c.args.reader.now.held (g.L.ByteSource.left c.args.link.now)) (prepend_known c.next.new.self.held (g.L.ByteSource.left c.next.new.link)) stop.Truncated c.in-Ok-Truncated.field-0-is (c.in-Ok-Truncated.ensures.leaves c.requires.going), c.next.ensures.taken)

pub returns-in-Ok-clause-err : goal.returns-in-Ok-clause-err
returns-in-Ok-clause-err g c =
    let still : g.L.ByteSource.left c.write_refusal.new.sink ≡ g.L.ByteSource.left c.next.new.link = search rules in
    (rw still (stays (prepend_known c.args.reader.now.held (g.L.ByteSource.left c.args.link.now)) (prepend_known c.next.new.self.held (g.L.ByteSource.left c.next.new.link)) (stop.Bad c.in-Ok-Bad.status) c.in-Ok-Bad.field-0-is (c.in-Ok-Bad.ensures.leaves c.requires.going)), rw c.next.ensures.taken at c.in-Ok.ensures.ok)

pub returns-in-Err-clause-err : goal.returns-in-Err-clause-err
returns-in-Err-clause-err g c =
    let still : g.L.ByteSource.left c.write_refusal.new.sink ≡ g.L.ByteSource.left c.next.new.link = search rules in
    let rose = c.in-Err.ensures.cause.failed in
    let same = c.next.ensures.put_faults in
    (c.in-Ok-Bad.status, rw still (stays (prepend_known c.args.reader.now.held (g.L.ByteSource.left c.args.link.now)) (prepend_known c.next.new.self.held (g.L.ByteSource.left c.next.new.link)) (stop.Bad c.in-Ok-Bad.status) c.in-Ok-Bad.field-0-is (c.in-Ok-Bad.ensures.leaves c.requires.going)), rw c.next.ensures.taken at c.in-Err.ensures.err, omega (arith, rose, same))

pub returns-in-Err-ReadFault-clause-err : goal.returns-in-Err-ReadFault-clause-err
returns-in-Err-ReadFault-clause-err g c =
    let failed = ap Err c.in-Err-ReadFault.field-0-is in (
      subst (LeavesFault (prepend_known c.args.reader.now.held (g.L.ByteSource.left c.args.link.now)) c.next.new.self.held (g.L.ByteSource.left c.next.new.link)) c.in-Err-ReadFault.field-0-is (c.in-Err-ReadFault.ensures.leaves c.requires.going),
      c.in-Err-ReadFault.ensures.waits c.requires.going failed,
      (c.in-Err-ReadFault.ensures.cause c.requires.going).fault failed,
      c.next.ensures.taken,
    )

pub returns-in-Err-OutOfMemory-clause-err : goal.returns-in-Err-OutOfMemory-clause-err
returns-in-Err-OutOfMemory-clause-err g c = (subst (LeavesFault (prepend_known c.args.reader.now.held (g.L.ByteSource.left c.args.link.now)) c.next.new.self.held (g.L.ByteSource.left c.next.new.link)) c.in-Err-OutOfMemory.field-0-is (c.in-Err-OutOfMemory.ensures.leaves c.requires.going), c.next.ensures.taken)

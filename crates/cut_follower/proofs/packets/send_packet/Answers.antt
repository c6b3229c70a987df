use Rattle.std.proofs.Common.{[], ap, subst, sym, ◌∙◌}
use Rattle.http_wire.specs.Side.{Side}
use Rattle.cut_follower.proofs.Exchanging.{cut_at}
use Rattle.cut_follower.specs.Links.{IsCutShort}
use Rattle.cut_follower.proofs.packets.send_packet.Goals as goal

pub returns-in-Err : goal.returns-in-Err
returns-in-Err g c =
    let sent = c.in-Err.ensures.err in
    let kept = sym (g.met.L.Link.put_keeps c.send.new.sink) ∙ c.send.ensures.apart ∙ g.met.L.Link.put_keeps c.args.link.now in
    record {
      puts = record {
        goes = subst (IsCutShort _ _ []) c.write_packet.ensures (cut_at _ _ c.write_packet.result _ sent.0 sent.1 c.in-Err.ensures.cause.failed);
        same_left = ap (λ (x : Side). x.bytes) kept;
        same_faults = ap (λ (x : Side). x.faults) kept;
        later = c.send.ensures.cause.later;
      };
    }

use Rattle.std.proofs.Common.{sym, ◌∙◌}
use Rattle.cut_follower.proofs.Exchanging.{far_bad, far_next, far_truncated, far_unread, far_unsent}
use Rattle.cut_follower.proofs.leading.lead_link.Goals as goal

pub leading-preserved : goal.leading-preserved
leading-preserved g c =
    let e = c.exchange.ensures in
    record {
      so_far = far_next _ _ _ _ _ _ c.in-Some.post c.leading.invariant.so_far (sym c.in-Some.ensures.first) c.in-Heard.ensures.exchanges e.read_later e.write_later;
      catalogue = e.catalogue ∙ c.leading.invariant.catalogue;
      file = e.file ∙ c.leading.invariant.file;
    }

pub returns-in-Truncated-clause-leads : goal.returns-in-Truncated-clause-leads
returns-in-Truncated-clause-leads g c = far_truncated _ _ _ _ _ _ c.in-Some.post c.leading.invariant.so_far (sym c.in-Some.ensures.first) c.in-Truncated.ensures.exchanges

pub returns-in-BadPacket-clause-leads : goal.returns-in-BadPacket-clause-leads
returns-in-BadPacket-clause-leads g c = far_bad _ _ _ _ _ _ c.in-Some.post c.leading.invariant.so_far (sym c.in-Some.ensures.first) c.in-BadPacket.ensures.exchanges

pub returns-in-ReadFault-clause-leads : goal.returns-in-ReadFault-clause-leads
returns-in-ReadFault-clause-leads g c = far_unread _ _ _ _ _ _ c.in-Some.post c.leading.invariant.so_far (sym c.in-Some.ensures.first) c.in-ReadFault.ensures.exchanges

pub returns-in-WriteFault-clause-leads : goal.returns-in-WriteFault-clause-leads
returns-in-WriteFault-clause-leads g c = far_unsent _ _ _ _ _ _ c.in-Some.post c.leading.invariant.so_far (sym c.in-Some.ensures.first) c.in-WriteFault.ensures.exchanges

pub exchange-requires : goal.exchange-requires
exchange-requires g c = record { ranged = c.in-Some.ensures.ranged.0 }

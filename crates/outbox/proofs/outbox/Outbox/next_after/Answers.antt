use Rattle.std.proofs.Common.{◌≡◌, Option, sym, subst, arith, rules}
use Rattle.std.specs.Prelude.{IfSome}
use Rattle.outbox.specs.declared.packet.Packet.{Packet}
use Rattle.outbox.specs.Packets.{IsRanged}
use Rattle.outbox.specs.Posts.{IsChangeOf, next_behind}
use Rattle.outbox.proofs.Sending.{sendable}
use Rattle.outbox.proofs.outbox.Outbox.next_after.Goals as goal

pub returns-clause-ranged : goal.returns-clause-ranged
returns-clause-ranged g c =
    let i = c.self.inside in
    let m = c.self.invariant in
    let is : c.behind.result ≡ next_behind i.posts.items c.args.number = search rules in
    subst (λ v. IfSome c.behind.result (λ p. IsRanged p × IsChangeOf v.catalogue p)) c.self.view_is
    (subst (λ (o : Option Packet). IfSome o (λ p. IsRanged p × IsChangeOf i.catalogue.value p)) (sym is)
    (sendable i.catalogue.value i.posts.items c.args.number m.valid m.postable (omega (arith, m.fills))))

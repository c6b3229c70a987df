use Rattle.std.proofs.Common.{arith, ◌++◌, ◌≡◌, ◌∙◌, take, drop, subst, ap, sym, List, ℕ}
use Rattle.std.proofs.Math.Seq.{take-add}
use Rattle.std.proofs.KnownBytes.{Appends-trans}
use Rattle.std.specs.Io.KnownBytes.{Appends}
use Rattle.http_wire.proofs.sending.send.Goals as goal

-- the first bytes that went out, and those of the piece, are the first so many more
pub sending-preserved : goal.sending-preserved
sending-preserved g c =
    let count = c.in-Ok.count in
    let before = c.sending.at in
    let bytes = c.args.bytes.now in
    let piece : take count c.split_at.result.1.now ≡ take count (drop before bytes) = ap (λ (xs : List ℕ). take count xs) c.split_at.ensures.back in
    let grown = Appends-trans _ _ _ _ _ c.sending.invariant.grows c.in-Ok.ensures.bytes in
    record {
      fits = omega (arith, c.in-Ok.ensures.bound.1, c.split_at.ensures.back_len);
      grows = subst (λ (xs : List ℕ). Appends (g.O.ByteSink.taken c.args.sink.now) (g.O.ByteSink.taken c.put.new.self) xs) (ap (λ (xs : List ℕ). take before bytes ++ xs) piece ∙ sym (take-add before count bytes)) grown;
      later = omega (arith, c.sending.invariant.later, c.put.ensures.cause.later);
      apart = c.put.ensures.apart ∙ c.sending.invariant.apart;
    }

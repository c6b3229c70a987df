use Rattle.std.proofs.Common.{true, false, List, ℕ, arith, sym, ap, subst, refl, take, ◌∙◌}
use Rattle.std.specs.Io.KnownBytes.{Consumes}
use Rattle.http_wire.proofs.InputEnds.{appended}
use Rattle.http_wire.proofs.TakesOn.{takes_fails, takes_end, takes_piece, takes_no_room, brings_piece}
use Rattle.http_wire.proofs.filling.take_more.Goals as goal

-- the source failed
pub returns-in_default : goal.returns-in_default
returns-in_default g c =
    record {
      takes = takes_fails _ _ _ _ _ _ _ c.in_default.ensures.bytes c.in_default.ensures.cause.later c.in_default.ensures.cause.failed c.take.ensures.apart;
      brings = refl;
    }

-- the source is at its end
pub returns-then-count-eq0 : goal.returns-then-count-eq0
returns-then-count-eq0 g c =
    record {
      takes = takes_end _ c.take.new.into c.in-Ok.count _ _ _ _ _ _ false c.in-Ok.ensures.bytes.0 c.if-count-eq0.true c.in-Ok.ensures.cause.later c.take.ensures.apart;
      brings = (c.in-Ok.ensures.bytes.1 c.if-count-eq0.true (omega (arith, c.take.auto.into)), refl);
    }

-- the bytes that were taken, and found no room
pub returns-then-is_err-clause-takes : goal.returns-then-is_err-clause-takes
returns-then-is_err-clause-takes g c =
    takes_no_room c.args.held.now.items _ _ _ _ _ _ _ _ c.in-Ok.ensures.bytes.0 c.in-Ok.ensures.cause.later c.take.ensures.apart

-- the piece
pub returns : goal.returns
returns g c =
    let front = c.split_at.ensures.front ∙ ap (take c.in-Ok.count) c.as_slice.ensures in
    let text = appended _ _ c.args.held.now.items c.split_at.result.0.now _ c.is_err.ensures.value c.if-is_err.false c.extend_from_slice.ensures.items in
    record {
      takes = takes_piece _ _ _ _ _ _ _ _ _ true (subst (λ (l : List ℕ). Consumes (g.S.ByteSource.left c.args.source.now) (g.S.ByteSource.left c.take.new.self) l) (sym front) c.in-Ok.ensures.bytes.0) text c.in-Ok.ensures.cause.later c.take.ensures.apart;
      brings = brings_piece _ _ _ c.in-Ok.count (g.S.ByteSource.left c.take.new.self) text c.split_at.ensures.front_len (omega (arith, c.if-count-eq0.false)) (omega (arith, c.in-Ok.ensures.bound, c.take.auto.into));
    }

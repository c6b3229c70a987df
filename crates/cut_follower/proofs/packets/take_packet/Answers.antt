use Rattle.std.proofs.Common.{◌≡◌, ℕ, ◌+◌, ◌-◌, ◌≤◌, List, ◌++◌, length, take, ap, sym, subst, ◌∙◌, arith}
use borrow.Rule.Slice.PartMut.{put_mid, post_of, same_len_mid}
use Rattle.std.specs.Io.KnownBytes.{Consumes}
use Rattle.std.proofs.KnownBytes.{Consumes-trans}
use Rattle.std.proofs.Math.Seq.{take-append-add}
use Rattle.std.proofs.lemmas.List.{length-take, take-append-le}
use Rattle.http_wire.specs.Side.{Side}
use Rattle.cut_follower.proofs.packets.take_packet.Goals as goal

-- the first bytes, and behind them those that were put there
filled : (at k n : ℕ) (xs ys : List ℕ) → at ≤ length xs → n ≤ length ys → take (at + n) (put_mid at k xs ys) ≡ take at xs ++ take n ys
filled at k n xs ys within few =
    let size : length (take at xs) ≡ at = omega (arith, length-take at xs) in
    subst (λ (m : ℕ). take (m + n) (put_mid at k xs ys) ≡ take at xs ++ take n ys) size (take-append-add (take at xs) (ys ++ post_of at k xs) n ∙ ap (λ (l : List ℕ). take at xs ++ l) (take-append-le n ys (post_of at k xs) few))

pub taking-preserved : goal.taking-preserved
taking-preserved g c =
    let i = c.taking.invariant in
    let n = c.in-Ok.count in
    let more = Consumes-trans _ _ _ (take c.taking.at c.taking.bytes) (take n c.take.new.into) i.read c.in-Ok.ensures.bytes.0 in
    let kept = sym (g.met.L.Link.take_keeps c.take.new.self) ∙ c.in-Ok.ensures.apart ∙ g.met.L.Link.take_keeps c.taking.link in
    record {
      fits = omega (arith, c.in-Ok.ensures.bound, c.take.auto.into, i.fits, i.size);
      size = same_len_mid c.taking.at (64 - c.taking.at) c.taking.bytes c.take.new.into c.take.auto.into ∙ i.size;
      read = subst (Consumes (g.L.ByteSource.left c.args.link.now) (g.L.ByteSource.left c.take.new.self)) (sym (filled c.taking.at (64 - c.taking.at) n c.taking.bytes c.take.new.into (omega (arith, i.fits, i.size)) c.in-Ok.ensures.bound)) more;
      same_taken = ap (λ (x : Side). x.bytes) kept ∙ i.same_taken;
      same_faults = ap (λ (x : Side). x.faults) kept ∙ i.same_faults;
      later = omega (arith, i.later, c.in-Ok.ensures.cause.later);
    }

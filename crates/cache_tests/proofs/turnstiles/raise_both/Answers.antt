use Rattle.std.proofs.Common.{arith}
use Rattle.truncation_list.proofs.Answering.{seen_grows}
use Rattle.cache_tests.specs.declared.counter.Counter.{Counter}
use Rattle.cache_tests.specs.Counting.{counted}
use Rattle.turnstile.specs.Steps.{Found}
use Rattle.turnstile.specs.Passes.{known_by}
use Rattle.turnstile.proofs.Held.{popped}
use Rattle.cache_tests.proofs.turnstiles.raise_both.Goals as goal

pub returns : goal.returns
returns g c =
    let a = c.join-a.ensures.first in
    let b = c.join-a.ensures.second in
    let x = seen_grows _ _ c.meet.ensures.a.answers_theirs.book in
    let y = seen_grows _ _ c.meet.ensures.b.answers_theirs.book in
    let p = c.seen-seen_by_first.ensures in
    let q = c.seen-seen_by_second.ensures in
    let last = popped (λ p. Found (λ (k : Counter). 0) (λ (k : Counter). Unit {0}) (λ (k : Counter). counted k.number) (known_by p) c.in-Ok.counter) _ _ _ c.in_ok-push-2.ensures.items c.in-Ok.ensures.closed.1 in
    let z = seen_grows _ _ last.1.answers.book in
    (omega (arith, a.1), omega (arith, b.1), omega arith)

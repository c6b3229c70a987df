use Rattle.std.proofs.Common.{arith, ◌≤◌, ◌≡◌, ℕ, List, drop, length, ◌∙◌, ap}
use Rattle.http_wire.proofs.Pieces.{piece_at, nothing_left}
use Rattle.http_wire.proofs.memory_source.MemorySourceByteSource.take.Goals as goal

pub returns-clause-bytes : goal.returns-clause-bytes
returns-clause-bytes c =
    let bytes = c.self.inside.bytes.items in
    let left = c.split_at.result.1.now in
    let count = c.min-count.result in
    let from : left ≡ drop c.self.inside.at bytes = c.split_at.ensures.back ∙ ap (λ (xs : List ℕ). drop c.self.inside.at xs) c.as_slice-2.ensures.value in
    let fits : count ≤ length left = omega (arith, c.min-count.ensures) in (
      rw (← c.self.view_is) (piece_at bytes left c.copy_from_slice.new.self _ c.self.inside.at count from fits c.copy_from_slice.ensures.after),
      λ z l. nothing_left bytes left c.self.inside.at count from z (omega (arith, c.min-count.ensures, c.min.ensures, c.max.ensures)),
    )

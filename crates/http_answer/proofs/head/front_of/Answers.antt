use Rattle.std.proofs.Common.{arith, ◌≡◌, ◌∙◌, ap, ℕ, take, min, length}
use Rattle.std.proofs.lemmas.List.{take_min}
use Rattle.http_answer.proofs.head.front_of.Goals as goal

pub returns : goal.returns
returns c =
    let e : c.min.result ≡ min 16384 (length c.args.bytes.now) = omega (arith, c.min.ensures) in
    c.split_at.ensures.front ∙ ap (λ (n : ℕ). take n c.args.bytes.now) e ∙ take_min 16384 c.args.bytes.now

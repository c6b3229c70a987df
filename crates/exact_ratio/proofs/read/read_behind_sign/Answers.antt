use Rattle.std.proofs.Common.{◌≡◌, ℕ, ◌<◌, length, get_or, arith, inl, inr, subst}
use Rattle.std.specs.Char.{IsAsciiDigit}
use Rattle.exact_ratio.proofs.Left.{left_at_point, left_at_start, left_behind_point}
use Rattle.exact_ratio.proofs.read.read_behind_sign.Goals as goal

pub returns-then-point-start-clause-told : goal.returns-then-point-start-clause-told
returns-then-point-start-clause-told c =
    let stopped : c.digits_end-point.result ≡ c.args.start = c.if-point-start.true in
    let some : c.digits_end-point.result < length c.args.text.now = omega (arith, c.requires.some) in
    left_at_start c.args.text.now c.args.start c.requires.start c.requires.some
    (subst (λ (k : ℕ). ¬ IsAsciiDigit (get_or c.args.text.now k 0)) stopped (c.digits_end-point.ensures.stops some))

pub returns-then-text-point-ne46-clause-told : goal.returns-then-text-point-ne46-clause-told
returns-then-text-point-ne46-clause-told c =
    let more : c.digits_end-point.result < length c.args.text.now = omega arith in
    left_at_point c.args.text.now c.args.start c.digits_end-point.result c.requires.start (omega arith) more c.digits_end-point.ensures.digits (c.digits_end-point.ensures.stops more) c.if-text-point-ne46.true

pub returns-then-end-point-clause-told : goal.returns-then-end-point-clause-told
returns-then-end-point-clause-told c =
    left_behind_point c.args.text.now c.args.start c.digits_end-point.result c.digits_end-end.result c.requires.start (omega arith) (omega arith) c.digits_end-point.ensures.digits c.if-text-point-ne46.false c.digits_end-end.ensures.behind c.digits_end-end.ensures.within c.digits_end-end.ensures.digits c.digits_end-end.ensures.stops (inl c.if-end-point.true)

pub returns-then-end-text-clause-told : goal.returns-then-end-text-clause-told
returns-then-end-text-clause-told c =
    left_behind_point c.args.text.now c.args.start c.digits_end-point.result c.digits_end-end.result c.requires.start (omega arith) (omega arith) c.digits_end-point.ensures.digits c.if-text-point-ne46.false c.digits_end-end.ensures.behind c.digits_end-end.ensures.within c.digits_end-end.ensures.digits c.digits_end-end.ensures.stops (inr c.if-end-text.true)

use Rattle.std.proofs.Common.{◌+◌, ◌%◌, ◌^◌, ℕ, sym, ◌∙◌, ap, subst}
use Rattle.gate_journal.specs.declared.half.Half.TheVariants.{First, Second}
use Rattle.gate_journal.specs.Reading.{Says}
use Rattle.gate_journal.proofs.Headers.{alone, neither, both_second, both_first}
use Rattle.gate_journal.proofs.reading.half_of_headers.Goals as goal

pub returns-in-None-None : goal.returns-in-None-None
returns-in-None-None c d one two = neither d (subst (λ o. Says o d 0) c.in-None-None.is-0 one) (subst (λ o. Says o d 64) c.in-None-None.is-1 two)

pub returns-in-None-Some : goal.returns-in-None-Some
returns-in-None-Some c d one two =
    let none = subst (λ o. Says o d 0) c.in-None-Some.is-0 one in
    let says = subst (λ o. Says o d 64) c.in-None-Some.is-1 two in
    (alone d Second says.0 none, says.1, says.2, says.3)

pub returns-in-Some-None : goal.returns-in-Some-None
returns-in-Some-None c d one two =
    let says = subst (λ o. Says o d 0) c.in-Some-None.is-0 one in
    let none = subst (λ o. Says o d 64) c.in-Some-None.is-1 two in
    (alone d First says.0 none, says.1, says.2, says.3)

pub returns-then-two-one : goal.returns-then-two-one
returns-then-two-one c d one two =
    let first = subst (λ o. Says o d 0) c.in-Some-Some.is-0 one in
    let second = subst (λ o. Says o d 64) c.in-Some-Some.is-1 two in
    (both_second d first.0 second.0 (sym second.1 ∙ c.if-two-one.true ∙ ap (λ (n : ℕ). (n + 1) % 2 ^ 64) first.1), second.1, second.2, second.3)

pub returns-else-two-one : goal.returns-else-two-one
returns-else-two-one c d one two =
    let first = subst (λ o. Says o d 0) c.in-Some-Some.is-0 one in
    let second = subst (λ o. Says o d 64) c.in-Some-Some.is-1 two in
    (both_first d first.0 second.0 (λ is. c.if-two-one.false (second.1 ∙ is ∙ sym (ap (λ (n : ℕ). (n + 1) % 2 ^ 64) first.1))), first.1, first.2, first.3)

use Rattle.std.proofs.Common.{◌≡◌, ◌∙◌, ap, arith, length, sym, List, []}
use Rattle.std.specs.List.{sum_by}
use Rattle.quota_ledger.specs.declared.account.Account.{Account}
use Rattle.quota_ledger.specs.Accounts.{accounts}
use Rattle.quota_ledger.proofs.Balance.{balanced_parts}
use Rattle.quota_ledger.proofs.Counting.{same_layers, unused_layers}
use Rattle.quota_ledger.proofs.ledger.Ledger.new.Goals as goal

layers_are : (c : goal.After-result-2-1) → c.in_ok-unused.field-0.items ≡ (accounts c.args.catalogue.now []).layers
layers_are c = rw (← c.as_slice.ensures) (c.in_ok-unused.ensures ∙ unused_layers 0 c.as_slice.result.now)

pub invariant_of-result : goal.invariant_of-result
invariant_of-result c =
    let layers = ap length (layers_are c) ∙ same_layers c.args.catalogue.now [] in
    (balanced_parts c.args.catalogue.now [] tt ∙ ap (λ (xs : List Account). sum_by (λ x. x.used) xs) (sym (layers_are c)), omega (arith, layers, c.len.ensures, c.if-len.false, c.in_ok-unused.field-0.ok.0))

pub returns : goal.returns
returns c = ap (λ (xs : List Account). record { layers = xs; whole = (accounts c.args.catalogue.now []).whole }) (layers_are c)

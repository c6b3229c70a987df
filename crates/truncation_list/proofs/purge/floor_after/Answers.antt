use Rattle.std.proofs.Common.{◌∙◌, ap, arith, sym}
use Rattle.truncation_list.specs.declared.book.Cut.{Cut}
use Rattle.truncation_list.specs.Purge.{is_old}
use Rattle.truncation_list.specs.Slots.{no_cut}
use Rattle.truncation_list.proofs.Outermost.{none_raise_from}
use Rattle.truncation_list.proofs.purge.floor_after.Goals as goal

pub returns-then-not-is_old-clause-floor : goal.returns-then-not-is_old-clause-floor
returns-then-not-is_old-clause-floor c =
    sym (none_raise_from c.args.least c.args.cuts.now.cuts c.rising.i no_cut c.rising.top (omega arith) c.len-i-end.ensures.order.by_number (ap (λ (cut : Cut). is_old c.args.least cut) (sym c.cut-cut.ensures) ∙ sym c.is_old.ensures ∙ c.if-not-is_old.true))
    ∙ c.rising.invariant.floor

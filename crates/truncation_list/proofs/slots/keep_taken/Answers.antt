use Rattle.std.proofs.Common.{is_some, rules}
use Rattle.std.proofs.lemmas.Fn.{filter_same}
use Rattle.slab.specs.Slab.{get}
use Rattle.truncation_list.proofs.slots.keep_taken.Goals as goal

pub returns-clause-slots : goal.returns-clause-slots
returns-clause-slots c =
    filter_same _ (λ slot. is_some (get c.args.slots.now slot)) _ (λ x b f' k. search rules) _ _ c.retain.ensures.filtered

use Rattle.std.proofs.Common.{ℕ, ◌++◌, Option, subst, ap, length, ◌∙◌}
use Rattle.cabinet_chest.specs.declared.command.Command.TheVariants as command
use Rattle.cabinet_chest.specs.declared.command.Reply.TheVariants as reply
use Rattle.cache_access.specs.Turned.{GainsOne}
use Rattle.tile_requests.specs.Texts.{totals_text}
use Rattle.tile_requests.proofs.Counts.{usage_told, usage_untold}
use Rattle.cache_access.proofs.Going.{goes_on}
use Rattle.tile_requests.proofs.usage.usage_text.Goals as goal

pub returns-in-Err-add_totals-clause-vain : goal.returns-in-Err-add_totals-clause-vain
returns-in-Err-add_totals-clause-vain g c =
    let A = g.A.Access in
    let way = c.args.access.now in
    let x = c.args.cache.now in
    let y = c.layer_lines.new.cache in
    let z = c.usage-all.new.cache in
    let w = c.usage-cuts.new.cache in
    let many = c.len-layers.ensures ∙ ap (λ d. length d.layers) (c.catalogue.ensures ∙ c.layer_lines.ensures.goes.same) in
    let one = subst (λ (n : ℕ). GainsOne (A.gains way) y z (command.Usage n) (reply.Usage c.usage-all.result)) many c.usage-all.ensures.done in
    let two = subst (λ (n : ℕ). GainsOne (A.gains way) z w (command.Usage n) (reply.Usage c.usage-cuts.result)) many c.usage-cuts.ensures.done in
    usage_untold (A.gains way) (A.catalogue way x) x y z w (A.gains_on way x y z) (A.gains_on way x z w) _ _ _ c.in-Ok.ensures.told one two

pub returns-in-Err-add_totals-clause-goes : goal.returns-in-Err-add_totals-clause-goes
returns-in-Err-add_totals-clause-goes g c =
    let A = g.A.Access in
    let way = c.args.access.now in
    let x = c.args.cache.now in
    let y = c.layer_lines.new.cache in
    let z = c.usage-all.new.cache in
    let w = c.usage-cuts.new.cache in
    let first = goes_on (A.catalogue way) (A.reaches way) (A.owes way) (A.lasts way) x y z (A.lasts_on way x y z) c.layer_lines.ensures.goes c.usage-all.ensures.goes in
    goes_on (A.catalogue way) (A.reaches way) (A.owes way) (A.lasts way) x z w (A.lasts_on way x z w) first c.usage-cuts.ensures.goes

pub returns-in-Ok-add_totals-clause-told : goal.returns-in-Ok-add_totals-clause-told
returns-in-Ok-add_totals-clause-told g c =
    let A = g.A.Access in
    let way = c.args.access.now in
    let x = c.args.cache.now in
    let y = c.layer_lines.new.cache in
    let z = c.usage-all.new.cache in
    let w = c.usage-cuts.new.cache in
    let many = c.len-layers.ensures ∙ ap (λ d. length d.layers) (c.catalogue.ensures ∙ c.layer_lines.ensures.goes.same) in
    let one = subst (λ (n : ℕ). GainsOne (A.gains way) y z (command.Usage n) (reply.Usage c.usage-all.result)) many c.usage-all.ensures.done in
    let two = subst (λ (n : ℕ). GainsOne (A.gains way) z w (command.Usage n) (reply.Usage c.usage-cuts.result)) many c.usage-cuts.ensures.done in
    let quota = ap (λ d. d.quota) (c.catalogue-2.ensures ∙ c.usage-cuts.ensures.goes.same ∙ c.usage-all.ensures.goes.same ∙ c.layer_lines.ensures.goes.same) in
    let text = c.of.ensures ∙ c.in-Ok-add_totals.ensures ∙ ap (λ (q : Option ℕ). c.in-Ok.text.items ++ totals_text q c.usage-all.result c.usage-cuts.result) quota in
    usage_told (A.gains way) (A.catalogue way x) x y z w (A.gains_on way x y z) (A.gains_on way x z w) _ _ _ c.in-Ok.ensures.told one two _ text

pub returns-in-Ok-add_totals-clause-goes : goal.returns-in-Ok-add_totals-clause-goes
returns-in-Ok-add_totals-clause-goes g c =
    let A = g.A.Access in
    let way = c.args.access.now in
    let x = c.args.cache.now in
    let y = c.layer_lines.new.cache in
    let z = c.usage-all.new.cache in
    let w = c.usage-cuts.new.cache in
    let first = goes_on (A.catalogue way) (A.reaches way) (A.owes way) (A.lasts way) x y z (A.lasts_on way x y z) c.layer_lines.ensures.goes c.usage-all.ensures.goes in
    goes_on (A.catalogue way) (A.reaches way) (A.owes way) (A.lasts way) x z w (A.lasts_on way x z w) first c.usage-cuts.ensures.goes

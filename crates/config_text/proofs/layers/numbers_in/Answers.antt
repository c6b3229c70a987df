use Rattle.std.proofs.Common.{ℕ, ◌≡◌, ◌∙◌, ap, length, subst, sym, true}
use Rattle.std.proofs.lemmas.Result.{IfOk-weaker}
use Rattle.catalog.specs.Names.{within}
use Rattle.config_text.proofs.Valid.{names_within}
use Rattle.config_text.proofs.layers.numbers_in.Goals as goal

pub returns-clause-within : goal.returns-clause-within
returns-clause-within c =
    let few = names_within 1 16 _ _ c.in_ok-names.names.items c.in_ok-names.ensures.met in
    IfOk-weaker c.numbers_of.result _ _ (λ v count. subst (λ (n : ℕ). within 1 16 n ≡ true) (sym (count ∙ ap length c.as_slice.ensures.value)) few) c.numbers_of.ensures.count

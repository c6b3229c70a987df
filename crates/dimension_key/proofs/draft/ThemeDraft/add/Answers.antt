use Rattle.std.proofs.Common.{◌≡◌, Ok, option_copied, rules}
use Rattle.dimension_key.specs.Draft.{number_in}
use Rattle.dimension_key.proofs.Values.{number_values}
use Rattle.dimension_key.proofs.draft.ThemeDraft.add.Goals.{in-None+in_ok-number-in-None, in-Some+in_ok-number-in-Some}
use Rattle.dimension_key.proofs.draft.ThemeDraft.add.Goals as goal

pub returns-clause-values : goal.returns-clause-values
returns-clause-values c =
    let t = c.args.self.now in
    let e : number_in c.args.catalogue.now t.theme.layer t.count (option_copied c.args.value) ≡ Ok c.match-value.number =
    elim c.match-value.branch [ in-None+in_ok-number-in-None w ↦ search rules | in-Some+in_ok-number-in-Some w ↦ search rules ] in
    number_values c.args.catalogue.now (option_copied c.args.value) t c.match-value.number c.requires.valid e

use Rattle.std.proofs.Common.{rules, ◌≡◌, [], ◌∷◌}
use Rattle.record_text.specs.Spelling.{spelling}
use Rattle.record_text.specs.declared.entries.Record.TheVariants as record_of
use Rattle.carry_over.proofs.Bodied.{all_bodies, all_fit}
use Rattle.carry_over.proofs.bodies.bodies_of.Goals as goal

pub returns : goal.returns
returns c = record {
  bodies =
      let first : c.push.new.self.items ≡ spelling (record_of.Opened c.args.number c.args.floor) ∷ [] = search rules in
      all_bodies c.args.number c.args.floor c.args.cuts.now c.args.kept.now c.push.new.self.items c.put_cuts.new.bodies.items c.put_kept.new.bodies.items first (search rules) (search rules);
  fits = all_fit c.args.number c.args.floor c.args.cuts.now c.args.kept.now (search rules) (search rules) (search rules);
}

use Rattle.std.proofs.Common.{rules, ◌≡◌}
use Rattle.gate_journal.specs.Sound.{slots_of}
use Rattle.carry_over.specs.Taken.{opening_with}
use Rattle.carry_over.proofs.TakenImages.{bodies_few, bodies_for, images_taken}
use Rattle.carry_over.proofs.writing.write_down.Goals as goal

pub replace-requires-clause-fits : goal.replace-requires-clause-fits
replace-requires-clause-fits g c =
    let o = opening_with c.args.number c.args.floor c.args.cuts.now c.args.kept.now in
    bodies_few c.args.to.now o c.as_slice.result.now (slots_of c.args.file.now.journal) c.requires.begins (search rules) c.requires.slots

pub returns-clause-images : goal.returns-clause-images
returns-clause-images g c from seen told copies =
    let o = opening_with c.args.number c.args.floor c.args.cuts.now c.args.kept.now in
    let did = c.replace.ensures in
    let j = c.replace.new.self.journal in
    let brings = did.brings told in
    let bodies_are : c.as_slice.result.now ≡ bodies_for o = search rules in
    images_taken c.args.to.now o from seen c.args.file.now.start j (g.E.Disk.state c.args.file.now.disk) (g.E.Disk.state c.replace.new.self.disk) c.as_slice.result.now
    c.requires.valid c.requires.number c.requires.begins (search rules) bodies_are (search rules) (search rules) c.requires.start
    (search rules) (c.laws_of_files.ensures.settled c.replace.new.self (search rules) brings.sound) brings.keeps copies

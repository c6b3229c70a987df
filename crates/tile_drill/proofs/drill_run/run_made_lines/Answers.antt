use Rattle.std.proofs.Common.{◌≡◌, ◌∙◌, length, ap, subst, sym, refl, arith}
use Rattle.std.proofs.lemmas.List.{length-replicate}
use Rattle.catalog.specs.Valid.{IsValid}
use Rattle.tile_service.specs.declared.seats.ActorPlace.TheVariants as seat
use Rattle.tile_service.specs.declared.seats.TheConstants.{ACTORS}
use Rattle.tile_drill.specs.Drill.{line_count}
use Rattle.tile_drill.proofs.Making.{drilled_start, drilled_next, drilled_accepted, drilled_short, drilled_done}
use Rattle.tile_drill.proofs.drill_run.run_made_lines.Goals as goal

pub making-init : goal.making-init
making-init g c =
    record {
      so_far = rw (c.from.ensures, c.new-output.ensures) (drilled_start c.requires.free refl);
      valid = refl;
      capabilities = refl;
      few = omega arith;
      long = ap length c.requires.free ∙ length-replicate ACTORS seat.Free;
    }

pub making-preserved : goal.making-preserved
making-preserved g c =
    let i = c.making.invariant in
    let line = c.run_made_line.ensures in
    record {
      so_far = rw c.count.ensures (drilled_next i.so_far (record { told = line.told; document = line.capabilities; makes = c.in-Ok-Done.ensures.makes }) c.in-Ok-Done.field-0-is);
      valid = line.catalogue ∙ i.valid;
      capabilities = line.capabilities ∙ i.capabilities;
      few = omega (arith, c.making-test.true);
      long = c.run_made_line.auto.seats ∙ i.long;
    }

pub unreachable-requires : goal.unreachable-requires
unreachable-requires g c =
    let i = c.making.invariant in
    let line = c.run_made_line.ensures in
    drilled_accepted i.so_far (record { told = line.told; document = line.capabilities; makes = c.in-Ok-Refused.ensures.makes }) c.in-Ok-Refused.field-0-is (subst IsValid (sym i.valid) c.requires.valid) i.long

pub returns-in-Err-clause-made : goal.returns-in-Err-clause-made
returns-in-Err-clause-made g c =
    let i = c.making.invariant in
    let same = c.in-Err.ensures.err in
    rw (same.0, same.1, same.2) (drilled_short i.so_far i.few)

pub returns-clause-made : goal.returns-clause-made
returns-clause-made g c =
    let i = c.making.invariant in
    let whole : c.making.lines ≡ line_count = omega (arith, i.few, c.making-test.false) in
    rw c.digest.ensures (drilled_done i.so_far whole)

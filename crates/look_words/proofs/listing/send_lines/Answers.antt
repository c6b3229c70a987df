use Rattle.std.proofs.Common.{◌^◌, ◌-◌, flat_map, take, drop, suc, arith}
use Rattle.http_wire.proofs.TakesOn.{rose_before}
use Rattle.look_words.proofs.Writing.{begun_behind, front_behind, split_at_place}
use Rattle.look_words.specs.Texts.{listed_line}
use Rattle.look_words.proofs.listing.send_lines.Goals as goal

pub returns-in-WriteFault : goal.returns-in-WriteFault
returns-in-WriteFault g c =
    let i = c.loop-one.invariant in
    let r = c.in-WriteFault.ensures in
    let f = listed_line c.args.catalogue.now c.args.layer in
    let xs = c.args.kept.now in
    record {
      written = (
        front_behind _ _ _ (flat_map f (take c.loop-one.one-index xs)) _ (flat_map f (drop (suc c.loop-one.one-index) xs)) _ (split_at_place f xs c.loop-one.one-index _ c.loop-one-test.true) i.written r.written.0,
        rose_before (2 ^ 64 - 1) _ _ _ i.later r.written.1,
      );
      later = omega (arith, i.later, r.later);
    }

pub returns-in-OutOfMemory : goal.returns-in-OutOfMemory
returns-in-OutOfMemory g c =
    let i = c.loop-one.invariant in
    let r = c.in-OutOfMemory.ensures in
    let f = listed_line c.args.catalogue.now c.args.layer in
    let xs = c.args.kept.now in
    record {
      written = begun_behind _ _ _ _ _ (flat_map f (take c.loop-one.one-index xs)) _ (flat_map f (drop (suc c.loop-one.one-index) xs)) _ (split_at_place f xs c.loop-one.one-index _ c.loop-one-test.true) i.written r.written;
      later = omega (arith, i.later, r.later);
    }

use Rattle.std.proofs.Common.{arith, ◌+◌, ◌≤◌, ◌++◌, ◌∙◌, refl, sym, ap, subst, length, List, ℕ, take}
use Rattle.std.specs.Io.KnownBytes.{Consumes}
use Rattle.std.proofs.KnownBytes.{Consumes-nil, Consumes-kept}
use Rattle.http_wire.proofs.TakesOn.{rose_before}
use Rattle.http_wire.proofs.InputEnds.{not_end, fault_not_long, fault_not_memory, long_not_fault, long_not_memory, memory_not_fault, memory_not_long, read_whole, read_more, appended}
use Rattle.http_wire.proofs.inputs.read_all.Goals as goal

-- the text is whole
pub returns-then-count-eq0 : goal.returns-then-count-eq0
returns-then-count-eq0 g c =
    record {
      whole = (read_whole _ _ _ _ _ _ c.reading.invariant.read c.in-Ok.ensures.bytes.0 c.if-count-eq0.true, c.in-Ok.ensures.bytes.1 c.if-count-eq0.true (omega (arith, c.take.auto.into, c.split_at_mut-piece.ensures.front_len)), omega (arith, c.reading.text.ok.0, c.len.ensures, c.reading-test.true));
      fault = not_end;
      long = not_end;
      short = not_end;
      memory = not_end;
      later = omega (arith, c.reading.invariant.later, c.in-Ok.ensures.cause.later);
      apart = c.take.ensures.apart ∙ c.reading.invariant.apart;
    }

-- a take fails
pub returns-in_default : goal.returns-in_default
returns-in_default g c =
    record {
      whole = tt;
      fault = λ _. rose_before _ _ _ _ c.reading.invariant.later c.in_default.ensures.cause.failed;
      long = fault_not_long;
      short = λ _. (c.reading.text.items, Consumes-kept _ _ _ _ c.reading.invariant.read c.in_default.ensures.bytes, omega (arith, c.reading.text.ok.0, c.len.ensures, c.reading-test.true));
      memory = fault_not_memory;
      later = omega (arith, c.reading.invariant.later, c.in_default.ensures.cause.later);
      apart = c.take.ensures.apart ∙ c.reading.invariant.apart;
    }

-- the bytes so far, and those of the piece for which memory ran out
pub returns-then-is_err : goal.returns-then-is_err
returns-then-is_err g c =
    let room : length c.reading.text.items + length c.take.new.into ≤ c.args.limit + 1 =
    omega (arith, c.reading.text.ok.0, c.take.auto.into, c.split_at_mut-piece.ensures.front_len, c.min-room.ensures, c.len-in-reading.ensures, c.len.ensures, c.reading-test.true) in
    let all = read_more _ _ _ c.reading.text.items c.take.new.into c.in-Ok.count _ c.reading.invariant.read c.in-Ok.ensures.bytes.0 c.in-Ok.ensures.bound room in
    record {
      whole = tt;
      fault = memory_not_fault;
      long = memory_not_long;
      short = memory_not_fault;
      memory = λ _. (c.reading.text.items ++ take c.in-Ok.count c.take.new.into, all.0, all.1);
      later = omega (arith, c.reading.invariant.later, c.in-Ok.ensures.cause.later);
      apart = c.take.ensures.apart ∙ c.reading.invariant.apart;
    }

-- one byte more than the limit
pub returns : goal.returns
returns g c =
    record {
      whole = tt;
      fault = long_not_fault;
      long = λ _. (c.reading.text.items, c.reading.invariant.read, omega (arith, c.reading.text.ok.0, c.len.ensures, c.reading-test.false, c.reading.invariant.fits));
      short = long_not_fault;
      memory = long_not_memory;
      later = c.reading.invariant.later;
      apart = c.reading.invariant.apart;
    }

pub reading-preserved : goal.reading-preserved
reading-preserved g c =
    let room : length c.reading.text.items + length c.take.new.into ≤ c.args.limit + 1 =
    omega (arith, c.reading.text.ok.0, c.take.auto.into, c.split_at_mut-piece.ensures.front_len, c.min-room.ensures, c.len-in-reading.ensures, c.len.ensures, c.reading-test.true) in
    let all = read_more _ _ _ c.reading.text.items c.take.new.into c.in-Ok.count _ c.reading.invariant.read c.in-Ok.ensures.bytes.0 c.in-Ok.ensures.bound room in
    let text = appended _ _ c.reading.text.items (take c.in-Ok.count c.take.new.into) _ c.is_err.ensures.value c.if-is_err.false c.extend_from_slice.ensures.items in
    record {
      read = subst (Consumes (g.I.ByteSource.left c.args.input.now) (g.I.ByteSource.left c.take.new.self)) (sym text) all.0;
      later = omega (arith, c.reading.invariant.later, c.in-Ok.ensures.cause.later);
      apart = c.take.ensures.apart ∙ c.reading.invariant.apart;
      fits = subst (λ (l : List ℕ). length l ≤ c.args.limit + 1) (sym text) all.1;
    }

pub reading-smaller : goal.reading-smaller
reading-smaller g c =
    let room : length c.reading.text.items + length c.take.new.into ≤ c.args.limit + 1 =
    omega (arith, c.reading.text.ok.0, c.take.auto.into, c.split_at_mut-piece.ensures.front_len, c.min-room.ensures, c.len-in-reading.ensures, c.len.ensures, c.reading-test.true) in
    let all = read_more _ _ _ c.reading.text.items c.take.new.into c.in-Ok.count _ c.reading.invariant.read c.in-Ok.ensures.bytes.0 c.in-Ok.ensures.bound room in
    let text = appended _ _ c.reading.text.items (take c.in-Ok.count c.take.new.into) _ c.is_err.ensures.value c.if-is_err.false c.extend_from_slice.ensures.items in
    omega (arith, all.1, all.2, ap (λ (l : List ℕ). length l) text, c.if-count-eq0.false)

pub reading-init : goal.reading-init
reading-init g c =
    record {
      read = subst (Consumes (g.I.ByteSource.left c.args.input.now) (g.I.ByteSource.left c.args.input.now)) (sym c.new-text.ensures.items) (Consumes-nil _);
      later = omega arith;
      apart = refl;
      fits = omega (arith, ap (λ (l : List ℕ). length l) c.new-text.ensures.items);
    }

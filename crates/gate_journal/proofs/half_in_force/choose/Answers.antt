use Rattle.std.proofs.Common.{◌≡◌, ◌∙◌, ap, false, nat_eq, List, ℕ, arith, refl, sym, subst, IsTrue}
use Rattle.std.specs.Cmp.Lexicographic.{pointwise}
use Rattle.disk_model.specs.Content.{Content}
use Rattle.gate_journal.specs.Opened.{differs}
use Rattle.gate_journal.specs.Reading.{Says}
use Rattle.gate_journal.proofs.Choosing.{opened_none, opened_differs, from_not_true, from_not_false, same_lists_of}
use Rattle.gate_journal.proofs.Steps.{quiet_then}
use Rattle.gate_journal.proofs.half_in_force.choose.Goals as goal

pub returns-in_default : goal.returns-in_default
returns-in_default g c =
    let seen : Content = (g.D.Disk.state c.args.disk.now).seen in
    record {
      same_told = c.read_header-2.ensures.told ∙ c.read_header.ensures.told;
      choice = λ told slots.
          let told1 = subst IsTrue (sym c.read_header.ensures.told) told in
          let second = subst (λ (d : Content). Says c.in_ok-second.second d 64) (c.read_header.ensures.quiet told).reads (c.in_ok-second.ensures.header told1) in
          opened_none c.args.digest.now slots seen (c.in_default.ensures seen (c.in_ok-first.ensures.header told) second);
      quiet = λ told. quiet_then (g.D.Disk.state c.args.disk.now) (g.D.Disk.state c.read_header.new.disk) (g.D.Disk.state c.read_header-2.new.disk) (c.read_header.ensures.quiet told) (c.read_header-2.ensures.quiet (subst IsTrue (sym c.read_header.ensures.told) told));
      cause = record { later = omega (arith, c.read_header.ensures.cause.later, c.read_header-2.ensures.cause.later); failed = tt };
    }

pub returns-then-ne : goal.returns-then-ne
returns-then-ne g c =
    let seen : Content = (g.D.Disk.state c.args.disk.now).seen in
    let asked : List ℕ = c.args.digest.now in
    record {
      same_told = c.read_header-2.ensures.told ∙ c.read_header.ensures.told;
      choice = λ told.
          let told1 = subst IsTrue (sym c.read_header.ensures.told) told in
          let second = subst (λ (d : Content). Says c.in_ok-second.second d 64) (c.read_header.ensures.quiet told).reads (c.in_ok-second.ensures.header told1) in
          let chosen = c.in-Some.ensures seen (c.in_ok-first.ensures.header told) second in
          let other : pointwise nat_eq c.in-Some.header.digest asked ≡ false = from_not_true (pointwise nat_eq c.in-Some.header.digest asked) (sym c.if-ne.true ∙ c.ne.ensures) in
          λ slots. (opened_differs asked slots seen c.in-Some.half chosen.0 (ap (λ (l : List ℕ). pointwise nat_eq l asked) (sym chosen.2) ∙ other) ∙ ap differs (sym chosen.2), refl);
      quiet = λ told. quiet_then (g.D.Disk.state c.args.disk.now) (g.D.Disk.state c.read_header.new.disk) (g.D.Disk.state c.read_header-2.new.disk) (c.read_header.ensures.quiet told) (c.read_header-2.ensures.quiet (subst IsTrue (sym c.read_header.ensures.told) told));
      cause = record { later = omega (arith, c.read_header.ensures.cause.later, c.read_header-2.ensures.cause.later); failed = tt };
    }

pub returns : goal.returns
returns g c =
    let seen : Content = (g.D.Disk.state c.args.disk.now).seen in
    record {
      same_told = c.read_header-2.ensures.told ∙ c.read_header.ensures.told;
      choice = λ told.
          let told1 = subst IsTrue (sym c.read_header.ensures.told) told in
          let second = subst (λ (d : Content). Says c.in_ok-second.second d 64) (c.read_header.ensures.quiet told).reads (c.in_ok-second.ensures.header told1) in
          let chosen = c.in-Some.ensures seen (c.in_ok-first.ensures.header told) second in
          (chosen.0, chosen.1, sym (same_lists_of c.in-Some.header.digest c.args.digest.now (from_not_false (pointwise nat_eq c.in-Some.header.digest c.args.digest.now) (sym c.if-ne.false ∙ c.ne.ensures))) ∙ chosen.2, chosen.3);
      quiet = λ told. quiet_then (g.D.Disk.state c.args.disk.now) (g.D.Disk.state c.read_header.new.disk) (g.D.Disk.state c.read_header-2.new.disk) (c.read_header.ensures.quiet told) (c.read_header-2.ensures.quiet (subst IsTrue (sym c.read_header.ensures.told) told));
      cause = record { later = omega (arith, c.read_header.ensures.cause.later, c.read_header-2.ensures.cause.later); failed = tt };
    }

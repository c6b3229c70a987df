use Rattle.std.proofs.Common.{◌≡◌, List, ℕ, refl, sym, ◌∙◌, ap, subst, arith, IsTrue}
use Rattle.disk_model.specs.Content.{Content}
use Rattle.gate_journal.specs.Layout.{Layout, half_at}
use Rattle.gate_journal.specs.Opened.{bodies_at, records}
use Rattle.gate_journal.specs.Reading.{HasRead}
use Rattle.gate_journal.specs.Sound.{IsLaidOut}
use Rattle.gate_journal.specs.Visiting.{IsCutShort}
use Rattle.gate_journal.proofs.Choosing.{laid_out_of}
use Rattle.gate_journal.proofs.Gates.{laid_out_opens}
use Rattle.gate_journal.proofs.Leading.{visits_none, visits_some}
use Rattle.gate_journal.proofs.Steps.{quiet_then, sound_as_read}
use Rattle.gate_journal.proofs.journal.Journal.open_in_pieces.Goals as goal

pub returns-in-Err-clause-refused : goal.returns-in-Err-clause-refused
returns-in-Err-clause-refused g c =
    visits_none g.V.Visit.visits g.V.Visit.leaves (g.D.Disk.told c.args.disk.now) c.args.digest.now c.args.slots (g.D.Disk.state c.args.disk.now).seen c.args.visit.now c.args.visit.now c.in-Err.fault
    refl (λ told. c.in-Err.ensures.choice told c.args.slots)

pub returns-in-Ok-visit_records-clause-opened : goal.returns-in-Ok-visit_records-clause-opened
returns-in-Ok-visit_records-clause-opened g c =
    let told = g.D.Disk.told c.args.disk.now in
    let old = g.D.Disk.state c.args.disk.now in
    let mid = g.D.Disk.state c.choose.new.disk in
    let new = g.D.Disk.state c.visit_records.new.disk in
    let slots : ℕ = c.args.slots in
    let digest : List ℕ = c.args.digest.now in
    let half = c.in-Ok.chosen.0 in
    let header = c.in-Ok.chosen.1 in
    let first = c.in-Ok-visit_records.ensures.comes in
    let bodies : List (List ℕ) = first.bodies in
    let later : IsTrue told → IsTrue (g.D.Disk.told c.choose.new.disk) = λ t. subst IsTrue (sym c.choose.ensures.same_told) t in
    let layout : ℕ → Layout = λ n. record { slots = slots; half = half; count = n; version = header.version; generation = header.generation; digest = digest } in
    let has : IsTrue told → HasRead old.seen (half_at slots half) slots bodies = λ t.
    subst (λ (p : ℕ). HasRead old.seen p slots bodies) c.start.ensures (subst (λ (d : Content). HasRead d c.start.result slots bodies) (c.choose.ensures.quiet t).reads (first.has (later t))) in
    let out : IsTrue told → IsLaidOut (layout c.in-Ok-visit_records.count) old.seen = λ t.
    let chosen = c.in-Ok.ensures.choice t in
    subst (λ (n : ℕ). IsLaidOut (layout n) old.seen) (sym first.size) (laid_out_of slots half header.version header.generation digest old.seen bodies chosen.0 chosen.3 chosen.1 chosen.2 (has t)) in
    let kept_are : IsTrue told → bodies_at old.seen (half_at slots half) c.in-Ok-visit_records.count ≡ bodies = λ t. ap (bodies_at old.seen (half_at slots half)) first.size ∙ (has t).bodies_are in
    record {
      settled = refl;
      same_slots = refl;
      same_digest = refl;
      bodies = bodies;
      reaches = first.reaches;
      fills = let few = first.few in let size = first.size in omega arith;
      opens = λ t. (laid_out_opens (layout c.in-Ok-visit_records.count) old.seen first.few (out t) ∙ ap (records header.version) (kept_are t), kept_are t);
      sound = λ t whole. sound_as_read (layout c.in-Ok-visit_records.count) old new (c.requires.clean t) (quiet_then old mid new (c.choose.ensures.quiet t) (c.visit_records.ensures.reads.quiet (later t))) whole (out t);
    }

pub returns-in-Err-visit_records-clause-refused : goal.returns-in-Err-visit_records-clause-refused
returns-in-Err-visit_records-clause-refused g c =
    let told = g.D.Disk.told c.args.disk.now in
    let seen : Content = (g.D.Disk.state c.args.disk.now).seen in
    let slots : ℕ = c.args.slots in
    let half = c.in-Ok.chosen.0 in
    let fault = c.in-Err-visit_records.fault in
    let stopped = c.in-Err-visit_records.ensures.comes in
    visits_some g.V.Visit.visits g.V.Visit.leaves told c.args.digest.now slots seen c.args.visit.now c.visit_records.new.visit fault half
    (λ t. (c.in-Ok.ensures.choice t).0) (λ t. sym (c.in-Ok.ensures.choice t).2)
    (record {
      bodies = stopped.bodies;
      stops = stopped.stops;
      short = λ t. subst (λ (p : ℕ). IsCutShort seen p slots stopped.bodies fault) c.start.ensures (subst (λ (d : Content). IsCutShort d c.start.result slots stopped.bodies fault) (c.choose.ensures.quiet t).reads
          (stopped.short (subst IsTrue (sym c.choose.ensures.same_told) t)));
    })

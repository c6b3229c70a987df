use Rattle.std.proofs.Common.{ℕ, List, Option, ◌+◌, ◌++◌, ◌∷◌, [], sym, subst, arith, length-append}
use Rattle.record_text.specs.declared.entries.Record.{Record}
use Rattle.cabinet_records.specs.Shows.{IsShown}
use Rattle.cabinet_records.proofs.Judged.{read_record, records_push}
use Rattle.cabinet_records.proofs.replay.ReplayVisit.body.Goals as goal

pub invariant_of-self-2 : goal.invariant_of-self-2
invariant_of-self-2 c =
    let i = c.self.inside in
    let s = c.self.invariant in
    let cat = i.catalogue.now in
    let records = i.records.entries in
    let body = c.args.body.now in
    let x = c.decode-entry.result in
    let shown : IsShown cat (i.bodies.entries ++ body ∷ []) (records ++ x ∷ []) c.judge.new.progress (i.count + 1) c.in-Ok.bad c.late_after-self-inside.result c.cut_after-self-inside.result = record {
      valid = s.valid;
      bodies_are = records_push 2 i.bodies.entries records body x s.bodies_are (read_record body x c.decode-entry.ensures);
      counted = let n = length-append records (x ∷ []) in omega (arith, n, s.counted);
      stands = c.in-Ok.ensures.more records s.counted s.stands;
      late = c.late_after-self-inside.ensures records s.counted s.late;
      cut = c.cut_after-self-inside.ensures records s.counted s.cut;
    } in
    subst (λ (z : List (List ℕ) × List (Option Record)). IsShown cat z.0 z.1 c.judge.new.progress (i.count + 1) c.in-Ok.bad c.late_after-self-inside.result c.cut_after-self-inside.result)
    (λ j. (sym c.and-self-inside.ensures j, sym c.and-self-inside-2.ensures j)) shown

use Rattle.std.proofs.Common.{◌∙◌, ap, List, [], ◌∷◌, ◌++◌}
use Rattle.disk_model.specs.declared.log.Call.{Call}
use Rattle.disk_model.proofs.Calls.{still_replayed}
use Rattle.disk_model.proofs.log.Log.make.Goals as goal

pub invariant_of-self-2 : goal.invariant_of-self-2
invariant_of-self-2 c =
    let log = c.remember.new.self in
    record {
      replayed = still_replayed log.first log.bytes.items c.redo.new.bytes.items log.calls.items c.push_ready.new.calls.items c.args.call c.in_ok-remember.ensures.some log.replayed c.in_ok-redo.ensures.ok (c.push_ready.ensures ∙ ap (λ (l : List Call). l ++ c.args.call ∷ []) c.reserve.ensures.items);
    }

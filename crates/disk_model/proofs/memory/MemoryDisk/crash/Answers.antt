use Rattle.std.proofs.Common.{◌≡◌, refl, rules, sym, subst}
use Rattle.disk_model.specs.Content.{Content, Same}
use Rattle.disk_model.specs.Memory.{memory_state, crash_by}
use Rattle.disk_model.specs.Replay.{first_of, Left}
use Rattle.disk_model.proofs.Crashed.{crashed_image}
use Rattle.disk_model.proofs.memory.MemoryDisk.crash.Goals as goal

pub returns-clause-image : goal.returns-clause-image
returns-clause-image c =
    let log = c.args.self.log in
    let first : Content = first_of log.first log.bytes.items in
    let picked : (memory_state c.new-2.result).seen ≡ crash_by c.args.pick c.args.self = search rules in
    subst (λ (image : Content). Left first log.calls.items image) (sym picked) (crashed_image c.args.pick log.calls.items first first (Same first) refl)

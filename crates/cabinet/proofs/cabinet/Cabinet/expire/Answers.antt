use Rattle.std.proofs.Common.{subst, sym}
use Rattle.cabinet.specs.State.{IsSound, State}
use Rattle.cabinet.proofs.Answered.{sound_dropped}
use Rattle.cabinet.proofs.cabinet.Cabinet.expire.Goals as goal

pub returns-in-Some-clause-sound : goal.returns-in-Some-clause-sound
returns-in-Some-clause-sound c = λ sound. sound_dropped c.self.inside.core.state c.in-Some.kept.meta _ (subst (λ (v : State). IsSound v) (sym c.self.view_is) sound) c.drop_kept.ensures

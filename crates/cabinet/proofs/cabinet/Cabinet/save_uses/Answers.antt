use Rattle.std.proofs.Common.{subst, sym}
use Rattle.cabinet.specs.State.{IsSound, State}
use Rattle.cabinet.proofs.Answered.{sound_counted}
use Rattle.cabinet.proofs.cabinet.Cabinet.save_uses.Goals as goal

pub returns-in-Some-clause-sound : goal.returns-in-Some-clause-sound
returns-in-Some-clause-sound c = λ sound. sound_counted c.self.inside.core.state c.in-Some.unsaved.kept.meta _ _ (subst (λ (v : State). IsSound v) (sym c.self.view_is) sound) c.save.ensures

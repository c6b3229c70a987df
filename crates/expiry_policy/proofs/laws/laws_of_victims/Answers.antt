use Rattle.expiry_policy.proofs.Choices.{victim_held, victim_in_scope, victim_none, victim_of_nothing}
use Rattle.expiry_policy.proofs.OneVictim.{one_victim}
use Rattle.expiry_policy.proofs.laws.laws_of_victims.Goals as goal

pub returns : goal.returns
returns c = record { held = victim_held; scoped = victim_in_scope; none = victim_none; only = one_victim; empty = victim_of_nothing }

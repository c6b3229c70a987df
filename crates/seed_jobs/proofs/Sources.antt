-- What contracts see of idle members' sources is what these have done.
use Rattle.std.proofs.Common.{ℕ, List, [], ◌∷◌, Option, refl}
use Rattle.std.proofs.lemmas.List.Elements.{All-cons, All-nil}
use Rattle.seed_jobs.specs.declared.runner.IdleMember.{IdleMember}
use Rattle.seed_jobs.specs.Idles.{AreOfSources, IsOfSource, all_idle, idle_of}
use Rattle.source_render.specs.Renders.{GivenImage}

pub all_of_sources : {K S G : Type 0} (tells : S → Option ℕ) (faults : S → ℕ) (gave : S → List GivenImage) (ms : List (IdleMember K S G)) → AreOfSources faults gave (all_idle tells faults gave ms)
all_of_sources tells faults gave [] = All-nil (IsOfSource faults gave)
all_of_sources tells faults gave (m ∷ ms) =
    All-cons (IsOfSource faults gave) (idle_of tells faults gave m) (all_idle tells faults gave ms) (record { source = m.source; has_done = refl }) (all_of_sources tells faults gave ms)

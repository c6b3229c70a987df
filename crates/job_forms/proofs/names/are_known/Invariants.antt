use Rattle.std.proofs.Common.{◌≡◌}
use Rattle.serde_json.specs.View.{members_view}
use Rattle.job_forms.specs.Values.{are_known, names_in}
use Rattle.job_forms.proofs.names.are_known.Given as goal

-- the names so far are known
abbrev pub invariant-loop-name : goal.invariant-loop-name
invariant-loop-name l =
    are_known l.dims (names_in (members_view l.name-iterator)) ≡ are_known l.dims (names_in (members_view l.members.entries))

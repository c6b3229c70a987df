-- Where the disk's count of faults stays at 0, no chance of a run names one.
use Rattle.std.proofs.Common.{◌≡◌, ◌+◌, Bool, true, false, List, [], ◌∷◌, refl, arith}
use Rattle.std.specs.List.{AllByRecursion}
use Rattle.std.proofs.lemmas.List.Sums.{sum_by-cons}
use Rattle.cache_core.specs.Steps.{one_where}
use Rattle.base.specs.Causes.{RoseBy}
use Rattle.tile_requests.specs.Requests.{Chance, disk_faults_in}
use Rattle.tile_service.specs.Run.{IsFaultless, disk_faults}

none_where : (b : Bool) → one_where b ≡ 0 → b ≡ false
none_where true e = absurd (omega arith)
none_where false e = refl

all_faultless : (chances : List Chance) → disk_faults chances ≡ 0 → AllByRecursion IsFaultless chances
all_faultless [] e = tt
all_faultless (c ∷ chances) e =
    let both : disk_faults (c ∷ chances) ≡ disk_faults_in c + disk_faults chances = sum_by-cons disk_faults_in c chances in
    ((none_where c.unread (omega arith), none_where c.unwritten (omega arith)), all_faultless chances (omega arith))

pub none_named : (chances : List Chance) → RoseBy (disk_faults chances) 0 0 → AllByRecursion IsFaultless chances
none_named chances rose = all_faultless chances (omega arith)

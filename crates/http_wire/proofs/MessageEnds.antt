-- A reader that has ended or not, and the other side of its link.
use Rattle.std.proofs.Common.{◌≡◌, ℕ, List, Option, Some, None, IfSome, sym, ap, ◌∙◌}
use Rattle.http_wire.specs.Side.{Side, side}

-- what has ended has not gone on
pub never : {A B : Type 0} {ended : Option A} {how : A} → ended ≡ Some how → ended ≡ None → B
never is none = absurd (let e = sym is ∙ none in cc)

pub had_ended : {A : Type 0} {ended : Option A} {how : A} (P : A → Type 0) → ended ≡ Some how → P how → IfSome ended P
had_ended P is here = rw is here

pub goes_on : {A : Type 0} {ended : Option A} (P : A → Type 0) → ended ≡ None → IfSome ended P
goes_on P none = rw none tt

-- the other side of a link stays
pub side_stays : {before now : Side} {bytes more : Option (List ℕ)} {faults count : ℕ} → before ≡ side bytes faults → now ≡ side more count → now ≡ before → (more ≡ bytes) × (count ≡ faults)
side_stays {bytes = bytes} {more} {faults} {count} was is stays =
    let e : side more count ≡ side bytes faults = sym is ∙ stays ∙ was in (ap (λ (s : Side). s.bytes) e, ap (λ (s : Side). s.faults) e)

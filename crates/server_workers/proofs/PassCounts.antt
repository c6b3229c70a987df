-- The passes of a hall that was just made.
use Rattle.std.proofs.Common.{◌≡◌, Bool, List, All}
use Rattle.atomic_table.specs.Seated.{TableId}
use Rattle.cabinet.specs.State.{State, fronted, now}
use Rattle.cache_hall.specs.Opened.{IsFirstPass}
use Rattle.cache_hall.specs.Turned.{HallPass, IsPassOf}
use Rattle.catalog.specs.declared.catalogue.Catalogue.{Catalogue}
use Rattle.server_workers.specs.First.{first_pass}

first_is : (table : TableId) (c : Catalogue) (told : Bool) (s : State) (p : HallPass) → IsPassOf table c p → IsFirstPass told (fronted (now s)) p → p ≡ first_pass table c told s
first_is table c told s p of first i = record { table = of.same_table i; charter = of.charter i; told = first.same_mark i; book = first.seen i; made = first.nothing i }

pub all_first : (table : TableId) (c : Catalogue) (told : Bool) (s : State) (ps : List HallPass) → All (IsPassOf table c) ps → All (IsFirstPass told (fronted (now s))) ps → All (λ p. p ≡ first_pass table c told s) ps
all_first table c told s ps of first k d lt = first_is table c told s _ (of k d lt) (first k d lt)

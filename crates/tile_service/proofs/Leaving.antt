-- Actors give up one after another, from the end of the reversed list.
use Rattle.std.proofs.Common.{◌≡◌, List, [], ◌∷◌, ◌++◌, length, reverse, refl, ap, ◌∙◌, arith}
use Rattle.std.proofs.lemmas.List.{reverse-append, reverse-reverse}
use Rattle.cabinet.specs.State.{State}
use Rattle.tile_service.specs.declared.seats.ActorPlace.{ActorPlace}
use Rattle.tile_service.specs.Seats.{left_at, all_left}

pub last_left : (s : State) (front : List ActorPlace) (last : ActorPlace) (seats : List ActorPlace) → seats ≡ front ++ last ∷ [] → all_left s (reverse seats) ≡ all_left (left_at s last) (reverse front)
last_left s front last seats e = ap (λ xs. all_left s (reverse xs)) e ∙ ap (all_left s) (reverse-append front (last ∷ []))

pub none_left : (s : State) (seats : List ActorPlace) → length seats ≡ 0 → all_left s (reverse seats) ≡ s
none_left s [] e = refl
none_left s (seat ∷ seats) e = absurd (omega arith)

pub twice_reversed : (s : State) (seats : List ActorPlace) → all_left s (reverse (reverse seats)) ≡ all_left s seats
twice_reversed s seats = ap (all_left s) (reverse-reverse seats)

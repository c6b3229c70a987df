-- What a body spells that was written for a mark.
use Rattle.std.proofs.Common.{◌≡◌, ℕ, ◌<◌, ◌^◌, ◌++◌, List, replicate, take, drop, nat_eq, if◌then◌else◌, true, false, Option, Some, None, sym}
use Rattle.std.proofs.lemmas.Nat.{from_be_bytes-to_be_bytes_8}
use Rattle.std.specs.Cmp.Lexicographic.{pointwise}
use Rattle.std.specs.Int.{w64, to_be_bytes}
use Rattle.change_feed.specs.declared.mark.Mark.{Mark}
use Rattle.change_feed.specs.Marks.{mark_of, number_at}

pub spelled : (number cut : ℕ) → number < 2 ^ 64 → cut < 2 ^ 64 → mark_of (to_be_bytes w64 number ++ to_be_bytes w64 cut ++ replicate 47 0) ≡ Some (record { number = number; cut = cut })
unfolding mark_of
spelled number cut fits fits_cut = λ k. Some (record { number = from_be_bytes-to_be_bytes_8 number fits k; cut = from_be_bytes-to_be_bytes_8 cut fits_cut k })

-- what a body spells, by its last 47 bytes
pub spells_none : (body : List ℕ) → pointwise nat_eq (take 47 (drop 16 body)) (replicate 47 0) ≡ false → None ≡ mark_of body
unfolding mark_of
spells_none body is = λ k. if sym is k then Some (record { number = number_at 0 body; cut = number_at 8 body }) else None

pub spells_some : (body : List ℕ) → pointwise nat_eq (take 47 (drop 16 body)) (replicate 47 0) ≡ true → Some (record { number = number_at 0 body; cut = number_at 8 body }) ≡ mark_of body
unfolding mark_of
spells_some body is = λ k. if sym is k then Some (record { number = number_at 0 body; cut = number_at 8 body }) else None

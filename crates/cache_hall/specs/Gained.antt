-- What a pass makes by several calls, one after the other.
-- A tie between the code and its definitions: the promise can be read without it.
use Rattle.std.specs.Prelude.{◌≡◌, Bool, false, List, [], ◌++◌}
use Rattle.std.proofs.Common.{sym, ap, subst, ◌∙◌, append_assoc, append-nil}
use Rattle.cabinet_chest.specs.declared.shown.Note.{Note}
use Rattle.cache_access.specs.Turned.{AreTurns}
use Rattle.cache_access.proofs.Turning.{turns_more, unsure_turns}
use Rattle.catalog.specs.declared.catalogue.Catalogue.{Catalogue}
use Rattle.truncation_list.specs.declared.book.FrontedBook.{FrontedBook}
use Rattle.truncation_list.proofs.Answering.{fronted_itself}
use Rattle.turnstile.specs.declared.view.Made.{Made}
use Rattle.turnstile.specs.Passes.{seen_by}
use Rattle.cache_hall.specs.Turned.{GainsTurns, HallPass}

-- by none
pub gains_none : (c : Catalogue) (pass : HallPass) → GainsTurns c pass pass []
gains_none c pass = record { is = ap (λ ms. record { table = pass.table; charter = pass.charter; told = pass.told; book = pass.book; made = ms }) (sym (append-nil pass.made)); turns = fronted_itself pass.book }

-- the mark stays
pub same_told : (c : Catalogue) (before after : HallPass) (ms : List (Made Note)) → GainsTurns c before after ms → after.told ≡ before.told
same_told c before after ms gains = ap (λ (p : HallPass). p.told) gains.is

seen_twice : (a : HallPass) (b1 b2 : FrontedBook) (xs ys : List (Made Note)) → seen_by (seen_by a b1 xs) b2 ys ≡ seen_by a b2 (xs ++ ys)
seen_twice a b1 b2 xs ys = ap (λ ms. record { table = a.table; charter = a.charter; told = a.told; book = b2; made = ms }) (append_assoc a.made xs ys)

-- by two
pub gains_more : (c : Catalogue) (a b d : HallPass) (xs ys : List (Made Note)) → GainsTurns c a b xs → GainsTurns c b d ys → GainsTurns c a d (xs ++ ys)
gains_more c a b d xs ys first then = record {
  is = then.is ∙ ap (λ (p : HallPass). seen_by p d.book ys) first.is ∙ seen_twice a b.book d.book xs ys;
  turns = turns_more c a.told a.book b.book d.book xs ys first.turns (subst (λ (t : Bool). AreTurns c t b.book ys d.book) (same_told c a b xs first) then.turns);
}

-- the turns, to who need not know whether the cabinet is sound
pub gained_turns : (c : Catalogue) (before after : HallPass) (ms : List (Made Note)) → GainsTurns c before after ms → AreTurns c false before.book ms after.book
gained_turns c before after ms gains = unsure_turns c before.told before.book after.book ms gains.turns

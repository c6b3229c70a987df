use Rattle.std.proofs.Common.{ℕ, ◌≡◌, ◌<◌, ◌∙◌, ap, false, sym, subst, List, [], length, take, IsTrue, Vec}
use Rattle.std.specs.List.{All, HoldsAt}
use Rattle.std.specs.declared.alloc.Global.{Global}
use Rattle.truncation_list.specs.declared.index.Shelf.{Shelf}
use Rattle.truncation_list.specs.Index.{is_of, slots_in}
use Rattle.truncation_list.proofs.Indexing.{listed_at}
use Rattle.truncation_list.proofs.Shelves.{found_none}
use Rattle.truncation_list.proofs.index.Index.lists.Goals as goal

pub returns-in-None : goal.returns-in-None
returns-in-None c =
    λ k. sym (found_none (λ shelf. slots_in shelf.lists.items k) [] c.args.self.now.shelves.items c.args.layer c.args.grid (subst (λ (shelves : List Shelf). All (λ shelf. is_of c.args.layer c.args.grid shelf ≡ false) shelves) c.deref.ensures.value c.in-None.ensures))

pub returns-in-Some : goal.returns-in-Some
returns-in-Some c =
    let shelf = c.index.result.now in
    let first = subst (λ (shelves : List Shelf). (c.in-Some.s < length shelves) × All (λ shelf. is_of c.args.layer c.args.grid shelf ≡ false) (take c.in-Some.s shelves) × HoldsAt (λ shelf. IsTrue (is_of c.args.layer c.args.grid shelf)) shelves c.in-Some.s) c.deref.ensures.value c.in-Some.ensures in
    λ k. ap (λ (lists : List (Vec ℕ Global)). slots_in lists k) c.deref-in-Some.ensures.value
    ∙ sym (listed_at c.args.self.now.shelves.items c.in-Some.s shelf shelf c.args.layer c.args.grid first.0 first.1 (first.2 shelf) c.index.ensures k)

use Rattle.std.proofs.Common.{ℕ, ◌∙◌, ap, List, []}
use Rattle.std.specs.Prelude.{Vec}
use Rattle.std.specs.declared.alloc.Global.{Global}
use Rattle.truncation_list.specs.declared.index.Shelf.{Shelf}
use Rattle.truncation_list.specs.Index.{listed, slots_in}
use Rattle.truncation_list.proofs.Shelves.{found_push}
use Rattle.truncation_list.proofs.index.Index.shelf_of.Goals as goal

pub returns-in_ok-push-in-None-clause-listed : goal.returns-in_ok-push-in-None-clause-listed
returns-in_ok-push-in-None-clause-listed c =
    let new : Shelf = record { layer = c.args.layer; grid = c.args.grid; lists = c.new.result } in
    λ l g k. ap (λ (shelves : List Shelf). listed shelves l g k) c.in_ok-push-in-None.ensures.items
    ∙ found_push (λ shelf. slots_in shelf.lists.items k) [] c.args.self.now.shelves.items new l g (ap (λ (ls : List (Vec ℕ Global)). slots_in ls k) c.new.ensures.items)

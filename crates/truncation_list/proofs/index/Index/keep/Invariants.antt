use Rattle.std.proofs.Common.{ℕ, ◌≡◌, ◌≤◌, length, take, get_or}
use Rattle.std.specs.List.{AllZip}
use Rattle.truncation_list.specs.declared.index.Shelf.{Shelf}
use Rattle.truncation_list.specs.Index.{capacity}
use Rattle.truncation_list.specs.Slots.{taken}
use Rattle.truncation_list.proofs.Shelves.{Edited}
use Rattle.truncation_list.proofs.index.Index.keep.Given as goal

abbrev pub invariant-keeping : goal.invariant-keeping
invariant-keeping l = record {
  long : length l.self.shelves.items ≡ length l.fn.self.shelves.items;
  done : AllZip (Edited (taken l.slots)) (take l.s l.fn.self.shelves.items) (take l.s l.self.shelves.items);
  after : (i : ℕ) (d : Shelf) → l.s ≤ i → get_or l.self.shelves.items i d ≡ get_or l.fn.self.shelves.items i d;
  capacity : (layer grid k : ℕ) → capacity l.self.shelves.items layer grid k ≡ capacity l.fn.self.shelves.items layer grid k;
}

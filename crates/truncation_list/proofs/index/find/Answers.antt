use Rattle.std.proofs.Common.{ℕ, ◌≡◌, ◌+◌, ◌<◌, ◌==◌, ◌&&◌, arith, refl, subst, Bool, true, false, IsTrue, List, length, take, get_or}
use Rattle.std.specs.List.{All}
use Rattle.std.proofs.lemmas.List.{take_all}
use Rattle.std.proofs.lemmas.List.Elements.{All-more}
use Rattle.truncation_list.specs.declared.index.Shelf.{Shelf}
use Rattle.truncation_list.specs.Index.{is_of}
use Rattle.truncation_list.proofs.Decided.{eq_is}
use Rattle.truncation_list.proofs.index.find.Goals as goal
use Rattle.truncation_list.proofs.index.find.Goals.{else-shelf-layer-via-else-shelf-layer, else-shelf-layer-via-then-shelf-layer+else-shelf-grid}

not_both : (s t : Bool) → (IsTrue s → IsTrue t → ⊥) → (s && t) ≡ false
not_both true true h = absurd (h refl refl)
not_both true false h = refl
not_both false t h = refl

others_more : (shelves : List Shelf) (s l g : ℕ) (shelf : Shelf) → s < length shelves → shelf ≡ get_or shelves s shelf → All (λ shelf. is_of l g shelf ≡ false) (take s shelves) → (shelf.layer ≡ l → shelf.grid ≡ g → ⊥) → All (λ shelf. is_of l g shelf ≡ false) (take (s + 1) shelves)
others_more shelves s l g shelf b is h other =
    All-more (λ shelf. is_of l g shelf ≡ false) shelves s shelf b h
    (subst (λ (x : Shelf). is_of l g x ≡ false) is (not_both (shelf.layer == l) (shelf.grid == g) (λ e f. other (eq_is shelf.layer l e) (eq_is shelf.grid g f))))

pub finding-preserved : goal.finding-preserved
finding-preserved c =
    let shelf = c.index-shelves-s.result in
    elim c.else-shelf-layer.branch [
      | else-shelf-layer-via-then-shelf-layer+else-shelf-grid w ↦ record { others = others_more c.args.shelves.now c.finding.s c.args.layer c.args.grid shelf (omega arith) c.index-shelves-s.is c.finding.invariant.others (λ e f. w.if-shelf-grid.false f) }
      | else-shelf-layer-via-else-shelf-layer w ↦ record { others = others_more c.args.shelves.now c.finding.s c.args.layer c.args.grid shelf (omega arith) c.index-shelves-s.is c.finding.invariant.others (λ e f. w.if-shelf-layer.false e) }
    ]

pub returns : goal.returns
returns c =
    subst (λ (shelves : List Shelf). All (λ shelf. is_of c.args.layer c.args.grid shelf ≡ false) shelves) (take_all c.finding.s c.args.shelves.now (omega arith)) c.finding.invariant.others

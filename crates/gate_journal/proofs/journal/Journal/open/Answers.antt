use Rattle.std.proofs.Common.{◌≡◌, ◌+◌, List, ℕ, ◌++◌, length, refl, sym, ◌∙◌, ap}
use Rattle.gate_journal.specs.Opened.{records}
use Rattle.gate_journal.specs.Sound.{room_of}
use Rattle.gate_journal.proofs.Leading.{collected}
use Rattle.gate_journal.proofs.journal.Journal.open.Goals as goal

pub returns-in-Ok-clause-journal : goal.returns-in-Ok-clause-journal
returns-in-Ok-clause-journal g c =
    let all = c.in-Ok.ensures.opened in
    let are : c.open_in_pieces.new.visit.items ≡ all.bodies = collected (λ v. v.items) 0 all.bodies c.new-bodies.result c.open_in_pieces.new.visit all.reaches ∙ ap (λ (l : List (List ℕ)). l ++ all.bodies) c.new-bodies.ensures.items in (
      all.settled,
      all.same_slots,
      all.same_digest,
      refl,
      ap (λ (l : List (List ℕ)). room_of c.in-Ok.journal + length l) are ∙ all.fills,
    )

pub returns-in-Ok-clause-opens : goal.returns-in-Ok-clause-opens
returns-in-Ok-clause-opens g c told =
    let all = c.in-Ok.ensures.opened in
    let are : c.open_in_pieces.new.visit.items ≡ all.bodies = collected (λ v. v.items) 0 all.bodies c.new-bodies.result c.open_in_pieces.new.visit all.reaches ∙ ap (λ (l : List (List ℕ)). l ++ all.bodies) c.new-bodies.ensures.items in
    let opens = all.opens told in
    (opens.0 ∙ ap (records c.in-Ok.journal.version) (sym are), opens.1 ∙ sym are)

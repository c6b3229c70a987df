use Rattle.std.proofs.Common.{ℕ, ◌≡◌, ◌<◌, ◌≤◌, None, Some, subst, ◌∙◌}
use Rattle.cabinet.specs.declared.judged.Judged.TheVariants as judged
use Rattle.cabinet.specs.Gaps.{gap_for}
use Rattle.cabinet.specs.Shelved.{JudgesOn, Shelved, listed}
use Rattle.cabinet.proofs.OnShelf.{gap_free, gap_nowhere, others_are}
use Rattle.cabinet.proofs.shelf.KeptShelf.judge.Goals as goal

pub returns-then-count_others-self : goal.returns-then-count_others-self
returns-then-count_others-self c =
    let i = c.self.inside in
    let others = c.count_others.ensures ∙ others_are i.catalogue i.store.blobs i.tally.extents i.tally.ledger i.tally.uses c.self.invariant c.args.meta.now in
    subst (λ (v : Shelved). JudgesOn v (record { number = c.args.number; meta = c.args.meta.now }) c.args.moment judged.Full) c.self.view_is (subst (λ (n : ℕ). i.catalogue.kept_limit ≤ n) others c.if-count_others-self.true)

pub returns-in-None : goal.returns-in-None
returns-in-None c =
    let i = c.self.inside in
    let others = c.count_others.ensures ∙ others_are i.catalogue i.store.blobs i.tally.extents i.tally.ledger i.tally.uses c.self.invariant c.args.meta.now in
    let gap = gap_nowhere i.catalogue i.store.blobs i.tally.extents i.tally.ledger i.tally.uses c.self.invariant c.blob_bytes-length.result c.in-None.ensures.none in
    subst (λ (v : Shelved). JudgesOn v (record { number = c.args.number; meta = c.args.meta.now }) c.args.moment judged.NoRoom) c.self.view_is (
      subst (λ (n : ℕ). n < i.catalogue.kept_limit) others c.if-count_others-self.false,
      subst (λ (n : ℕ). gap_for i.catalogue (listed i.store.blobs) n ≡ None) c.blob_bytes-length.ensures.size gap,
    )

pub returns-in-Some : goal.returns-in-Some
returns-in-Some c =
    let i = c.self.inside in
    let others = c.count_others.ensures ∙ others_are i.catalogue i.store.blobs i.tally.extents i.tally.ledger i.tally.uses c.self.invariant c.args.meta.now in
    let place = c.in-Some.place in
    let size = c.blob_bytes-length.ensures.size in
    let gap = gap_free i.catalogue i.store.blobs i.tally.extents i.tally.ledger i.tally.uses c.self.invariant c.blob_bytes-length.result place c.in-Some.ensures.free c.in-Some.ensures.lowest in
    subst
    (λ (v : Shelved). JudgesOn v (record { number = c.args.number; meta = c.args.meta.now }) c.args.moment
    (judged.Fits (record { number = c.args.number; meta = c.args.meta.now; place = place; length = c.blob_bytes-length.result; moment = c.args.moment; uses = 0 })))
    c.self.view_is (
      subst (λ (n : ℕ). n < i.catalogue.kept_limit) others c.if-count_others-self.false,
      subst (λ (n : ℕ). gap_for i.catalogue (listed i.store.blobs) n ≡ Some place) size gap,
      (λ j. record { number = c.args.number; meta = c.args.meta.now; place = place; length = size j; moment = c.args.moment; uses = 0 }),
    )

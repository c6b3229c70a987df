use Rattle.std.proofs.Common.{ℕ, ◌≡◌, ◌<◌, List, None, Some, length, ap, sym, subst, ◌∙◌}
use Rattle.raster_field.specs.Blocks.{IsMeta, blob_size}
use Rattle.cabinet.specs.declared.kept.Kept.{Kept}
use Rattle.cabinet.specs.declared.kept.KeptBlob.{KeptBlob}
use Rattle.cabinet.specs.Gaps.{gap_for}
use Rattle.cabinet.specs.History.{but}
use Rattle.cabinet.specs.Shelved.{IsShelved, Shelved, listed}
use Rattle.cabinet.proofs.Bytes.{layer_within}
use Rattle.cabinet.proofs.OnShelf.{fits_beside, gap_nowhere, kept_shelved, older_in, older_taken, taken_there, within_layers}
use Rattle.cabinet.proofs.shelf.KeptShelf.keep.Goals as goal

pub unreachable-requires : goal.unreachable-requires
unreachable-requires c =
    let i = c.self.inside in
    let t = c.args.kept in
    let gap = subst (λ (v : Shelved). gap_for v.catalogue (listed v.blobs) (blob_size v.catalogue t.meta) ≡ Some t.place) (sym c.self.view_is) c.requires.fits.1 in
    let size : t.length ≡ blob_size i.catalogue t.meta = ap (λ (x : Kept). x.length) c.requires.fits.2 ∙ ap (λ (v : Shelved). blob_size v.catalogue t.meta) (sym c.self.view_is) in
    let none = subst (λ (n : ℕ). gap_for i.catalogue (listed i.store.blobs) n ≡ None) size (gap_nowhere i.catalogue i.store.blobs i.tally.extents i.tally.ledger i.tally.uses c.self.invariant t.length c.in_default.ensures.none) in
    let both : Some t.place ≡ None = sym gap ∙ none in
    cc

pub keep-requires-clause-layer : goal.keep-requires-clause-layer
keep-requires-clause-layer c =
    let i = c.self.inside in
    let meta = subst (λ (v : Shelved). IsMeta v.catalogue c.args.kept.meta) (sym c.self.view_is) c.requires.meta in
    (within_layers i.catalogue i.store.blobs i.tally.extents i.tally.ledger i.tally.uses c.self.invariant c.args.kept.meta (layer_within i.catalogue c.args.kept.meta meta)).0

pub keep-requires-clause-key : goal.keep-requires-clause-key
keep-requires-clause-key c =
    let i = c.self.inside in
    let meta = subst (λ (v : Shelved). IsMeta v.catalogue c.args.kept.meta) (sym c.self.view_is) c.requires.meta in
    (within_layers i.catalogue i.store.blobs i.tally.extents i.tally.ledger i.tally.uses c.self.invariant c.args.kept.meta (layer_within i.catalogue c.args.kept.meta meta)).1

pub keep-requires-clause-region : goal.keep-requires-clause-region
keep-requires-clause-region c =
    let i = c.self.inside in
    let t = c.args.kept in
    let gap = subst (λ (v : Shelved). gap_for v.catalogue (listed v.blobs) (blob_size v.catalogue t.meta) ≡ Some t.place) (sym c.self.view_is) c.requires.fits.1 in
    let size : t.length ≡ blob_size i.catalogue t.meta = ap (λ (x : Kept). x.length) c.requires.fits.2 ∙ ap (λ (v : Shelved). blob_size v.catalogue t.meta) (sym c.self.view_is) in
    let took = taken_there i.catalogue i.store.blobs i.tally.extents i.tally.ledger i.tally.uses c.self.invariant t c.in-Some._place c.take.new.self (subst (λ (n : ℕ). gap_for i.catalogue (listed i.store.blobs) n ≡ Some t.place) (sym size) gap) c.in-Some.ensures.free c.in-Some.ensures.lowest c.in-Some.ensures.taken in
    older_taken i.catalogue i.store.blobs i.tally.extents i.tally.ledger i.tally.uses c.self.invariant t c.kept_of.result c.kept_of.ensures c.take.new.self took c.take.ensures.sound

pub keep-requires-clause-counted : goal.keep-requires-clause-counted
keep-requires-clause-counted c =
    let i = c.self.inside in
    older_in i.catalogue i.store.blobs i.tally.extents i.tally.ledger i.tally.uses c.self.invariant c.args.kept.meta c.kept_of.result c.kept_of.ensures

pub keep-requires-clause-fits : goal.keep-requires-clause-fits
keep-requires-clause-fits c =
    let i = c.self.inside in
    let t = c.args.kept in
    let gap = subst (λ (v : Shelved). gap_for v.catalogue (listed v.blobs) (blob_size v.catalogue t.meta) ≡ Some t.place) (sym c.self.view_is) c.requires.fits.1 in
    let size : t.length ≡ blob_size i.catalogue t.meta = ap (λ (x : Kept). x.length) c.requires.fits.2 ∙ ap (λ (v : Shelved). blob_size v.catalogue t.meta) (sym c.self.view_is) in
    let took = taken_there i.catalogue i.store.blobs i.tally.extents i.tally.ledger i.tally.uses c.self.invariant t c.in-Some._place c.take.new.self (subst (λ (n : ℕ). gap_for i.catalogue (listed i.store.blobs) n ≡ Some t.place) (sym size) gap) c.in-Some.ensures.free c.in-Some.ensures.lowest c.in-Some.ensures.taken in
    fits_beside i.catalogue i.store.blobs i.tally.extents i.tally.ledger i.tally.uses c.self.invariant t c.kept_of.result c.kept_of.ensures c.take.new.self took c.take.ensures.sound

pub invariant_of-self : goal.invariant_of-self
invariant_of-self c =
    let i = c.self.inside in
    let t = c.args.kept in
    let gap = subst (λ (v : Shelved). gap_for v.catalogue (listed v.blobs) (blob_size v.catalogue t.meta) ≡ Some t.place) (sym c.self.view_is) c.requires.fits.1 in
    let size : t.length ≡ blob_size i.catalogue t.meta = ap (λ (x : Kept). x.length) c.requires.fits.2 ∙ ap (λ (v : Shelved). blob_size v.catalogue t.meta) (sym c.self.view_is) in
    let took = taken_there i.catalogue i.store.blobs i.tally.extents i.tally.ledger i.tally.uses c.self.invariant t c.in-Some._place c.take.new.self (subst (λ (n : ℕ). gap_for i.catalogue (listed i.store.blobs) n ≡ Some t.place) (sym size) gap) c.in-Some.ensures.free c.in-Some.ensures.lowest c.in-Some.ensures.taken in
    let left = c.keep.new.self in
    let meta = subst (λ (v : Shelved). IsMeta v.catalogue t.meta) (sym c.self.view_is) c.requires.meta in
    let others = subst (λ (v : Shelved). length (but t.meta (listed v.blobs)) < v.catalogue.kept_limit) (sym c.self.view_is) c.requires.fits.0 in
    subst (λ (bs : List KeptBlob). IsShelved i.catalogue bs left.extents left.ledger left.uses) (sym c.put.ensures.blobs)
    (kept_shelved i.catalogue i.store.blobs i.tally.extents i.tally.ledger i.tally.uses c.self.invariant t c.kept_of.result c.kept_of.ensures c.take.new.self took c.take.ensures.sound left.extents c.keep.ensures.given c.keep.ensures.left
    c.keep.ensures.sound c.args.text _ left.ledger left.uses c.requires.text size (layer_within i.catalogue t.meta meta) others c.keep.ensures.bytes c.keep.ensures.uses)

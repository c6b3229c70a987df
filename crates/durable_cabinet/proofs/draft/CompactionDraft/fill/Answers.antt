use Rattle.std.proofs.Common.{◌≤◌, ◌+◌, ◌++◌, map, vec_capacity, refl, length, sym, subst, ap, ◌∙◌, arith, rules}
use Rattle.std.specs.List.{AllByRecursion}
use Rattle.std.proofs.lemmas.List.Sorted.{length_permutation}
use Rattle.cabinet.specs.State.{now}
use Rattle.cabinet_records.specs.Recorded.{stored_record}
use Rattle.record_text.specs.Spelling.{spelling}
use Rattle.catalog.specs.declared.catalogue.Catalogue.{Catalogue}
use Rattle.raster_field.specs.Blocks.{IsMeta}
use Rattle.served_covers.specs.OfCatalogue.{IsCoverOf}
use Rattle.truncation_list.specs.declared.book.Book.{Book}
use Rattle.durable_cabinet.proofs.DraftingLists.{compaction_is, covers_now, cuts_long, metas_now}
use Rattle.durable_cabinet.proofs.draft.CompactionDraft.fill.Goals as goal

pub put_cuts-requires-clause-covers : goal.put_cuts-requires-clause-covers
put_cuts-requires-clause-covers c =
    let s = c.args.core.now.state in
    subst (λ (b : Book). AllByRecursion (λ k. IsCoverOf c.catalogue.result.now k.cover) b.cuts) (sym c.cuts-2.ensures)
    (subst (λ (d : Catalogue). AllByRecursion (λ k. IsCoverOf d k.cover) (now s).book.cuts) (sym c.catalogue.ensures) (covers_now s c.known.ensures))

pub put_kept-requires-clause-metas : goal.put_kept-requires-clause-metas
put_kept-requires-clause-metas c =
    let s = c.args.core.now.state in
    let kept = c.list_kept.new.list.kept in
    subst (λ (d : Catalogue). AllByRecursion (λ t. IsMeta d t.meta) kept) (sym c.catalogue-2.ensures) (metas_now s kept c.known.ensures c.list_kept.ensures.all)

pub put_kept-requires-clause-room : goal.put_kept-requires-clause-room
put_kept-requires-clause-room c =
    let s = c.args.core.now.state in
    let kept = c.list_kept.new.list.kept in
    let cut = c.put_cuts.new.bodies.items in
    let long = cuts_long s kept c.cuts-2.result.now.book.cuts c.opening.result c.floor.result c.opened_body.result c.truncate.new.self.items c.push_reserved.new.self.items cut (cut ++ map spelling (map stored_record kept))
    c.opening.ensures (c.floor.ensures ∙ ap (λ (b : Book). b.floor) c.cuts.ensures) (ap (λ (b : Book). b.cuts) c.cuts-2.ensures) c.opened_body.ensures.body c.truncate.ensures.items c.push_reserved.ensures.items c.put_cuts.ensures.bodies refl in
    let same = length_permutation kept (now s).kept c.list_kept.ensures.all in
    let room : 1 + length (now s).book.cuts + length (now s).kept ≤ vec_capacity c.self.inside.bodies = search rules in
    omega (arith, long, same, room, c.truncate.ensures.capacity, c.push_reserved.ensures.capacity, c.put_cuts.ensures.room)

pub returns-clause-bodies : goal.returns-clause-bodies
returns-clause-bodies c =
    let s = c.args.core.now.state in
    let kept = c.list_kept.new.list.kept in
    compaction_is s kept c.cuts-2.result.now.book.cuts c.opening.result c.floor.result c.opened_body.result c.truncate.new.self.items c.push_reserved.new.self.items c.put_cuts.new.bodies.items c.put_kept.new.bodies.items
    c.opening.ensures (c.floor.ensures ∙ ap (λ (b : Book). b.floor) c.cuts.ensures) (ap (λ (b : Book). b.cuts) c.cuts-2.ensures) c.opened_body.ensures.body c.truncate.ensures.items c.push_reserved.ensures.items c.put_cuts.ensures.bodies c.put_kept.ensures.bodies
    c.list_kept.ensures.all c.list_kept.ensures.order c.opened_body.ensures.fits c.put_cuts.ensures.fits c.put_kept.ensures.fits

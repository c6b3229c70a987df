use Rattle.std.proofs.Common.{◌++◌, ◌∷◌, [], ◌∙◌, ap, arith, List, subst, ℕ}
use Rattle.std.proofs.lemmas.Option.{slice_get_within}
use Rattle.record_text.specs.Fits.{Fits}
use Rattle.record_text.specs.Spelling.{spelling}
use Rattle.truncation_list.specs.declared.book.Cut.{Cut}
use Rattle.durable_cabinet.specs.Drafts.{cut_record}
use Rattle.durable_cabinet.proofs.DraftingLists.{fit_more, put_more}
use Rattle.durable_cabinet.proofs.draft.put_cuts.Goals as goal

pub putting-preserved : goal.putting-preserved
putting-preserved c =
    let xs = c.args.cuts.now.book.cuts in
    let at = c.putting.at in
    let k : Cut = record { number = c.cut_at-number.result.0; cover = c.cut_at-number.result.1 } in
    let body = c.encode.result in
    let within = slice_get_within xs at k c.cut_at-number.ensures in
    record {
      bodies = c.push_reserved.ensures.items ∙ ap (λ (l : List (List ℕ)). l ++ body ∷ []) c.putting.invariant.bodies
          ∙ put_more cut_record spelling c.args.bodies.now.items xs at k body c.cut_at-number.ensures (c.encode.ensures ∙ ap spelling c.record_of_cut-entry.ensures.is);
      fits = fit_more cut_record Fits xs at k c.cut_at-number.ensures (subst Fits c.record_of_cut-entry.ensures.is c.record_of_cut-entry.ensures.fits) c.putting.invariant.fits;
      within = omega (arith, within);
      room = c.push_reserved.ensures.capacity ∙ c.putting.invariant.room;
    }

use Rattle.std.proofs.Common.{rules, ◌++◌, ◌∷◌, ◌≡◌, [], ◌∙◌, ap, arith, List, subst, ℕ}
use Rattle.std.proofs.lemmas.Option.{slice_get_within}
use Rattle.record_text.specs.Fits.{Fits}
use Rattle.record_text.specs.Spelling.{spelling}
use Rattle.durable_cabinet.specs.Drafts.{cut_record}
use Rattle.durable_cabinet.proofs.DraftingLists.{fit_more, put_more}
use Rattle.carry_over.proofs.bodies.put_cuts.Goals as goal

pub putting-preserved : goal.putting-preserved
putting-preserved c =
    let xs = c.args.cuts.now in
    let at = c.putting.at in
    let k = c.cut_at-cut.result in
    let body = c.encode.result in
    let within = slice_get_within xs at k c.cut_at-cut.ensures in
    let pushed : c.push.new.self.items ≡ c.putting.bodies.items ++ body ∷ [] = search rules in
    record {
      bodies = pushed ∙ ap (λ (l : List (List ℕ)). l ++ body ∷ []) c.putting.invariant.bodies
          ∙ put_more cut_record spelling c.args.bodies.now.items xs at k body c.cut_at-cut.ensures (c.encode.ensures ∙ ap spelling c.record_of_cut-entry.ensures.is);
      fits = fit_more cut_record Fits xs at k c.cut_at-cut.ensures (subst Fits c.record_of_cut-entry.ensures.is c.record_of_cut-entry.ensures.fits) c.putting.invariant.fits;
      within = omega (arith, within);
    }

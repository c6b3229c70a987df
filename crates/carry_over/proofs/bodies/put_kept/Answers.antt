use Rattle.std.proofs.Common.{rules, ◌++◌, ◌∷◌, ◌≡◌, [], ◌∙◌, ap, arith, List, subst, ℕ}
use Rattle.std.proofs.lemmas.Option.{slice_get_within}
use Rattle.record_text.specs.Fits.{Fits}
use Rattle.record_text.specs.Spelling.{spelling}
use Rattle.cabinet_records.specs.Recorded.{stored_record}
use Rattle.durable_cabinet.proofs.DraftingLists.{fit_more, put_more}
use Rattle.carry_over.proofs.bodies.put_kept.Goals as goal

pub putting-preserved : goal.putting-preserved
putting-preserved c =
    let xs = c.args.kept.now in
    let at = c.putting.at in
    let t = c.kept_at.result in
    let body = c.encode.result in
    let within = slice_get_within xs at t c.kept_at.ensures in
    let pushed : c.push.new.self.items ≡ c.putting.bodies.items ++ body ∷ [] = search rules in
    record {
      bodies = pushed ∙ ap (λ (l : List (List ℕ)). l ++ body ∷ []) c.putting.invariant.bodies
          ∙ put_more stored_record spelling c.args.bodies.now.items xs at t body c.kept_at.ensures (c.encode.ensures ∙ ap spelling c.record_of_keep-entry.ensures.is);
      fits = fit_more stored_record Fits xs at t c.kept_at.ensures (subst Fits c.record_of_keep-entry.ensures.is c.record_of_keep-entry.ensures.fits) c.putting.invariant.fits;
      within = omega (arith, within);
    }

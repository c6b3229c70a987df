use Rattle.std.proofs.Common.{◌≡◌, ◌+◌, ◌++◌, ◌∷◌, [], arith, ap, map, sym, take, ◌∙◌}
use Rattle.std.proofs.lemmas.List.{map-append}
use Rattle.expiry_policy.specs.Victims.{use_of}
use Rattle.cabinet.specs.declared.kept.KeptBlob.{KeptBlob}
use Rattle.cabinet.specs.Shelved.{UsesByKey, listed}
use Rattle.cabinet.specs.Writing.{ranked_by}
use Rattle.cabinet.proofs.Lookups.{taken_next}
use Rattle.cabinet.proofs.ranking.rank.Goals as goal

pub ranking-preserved : goal.ranking-preserved
ranking-preserved c =
    let i = c.ranking.invariant in
    let e = c.kept_at-kept.ensures.at in
    let held = c.args.store.now.held in
    let uses : UsesByKey = λ m. use_of c.args.uses.now m in
    let more : listed (take (c.ranking.at + 1) held) ≡ listed (take c.ranking.at held) ++ e.0.kept ∷ [] =
    ap listed (taken_next held c.ranking.at e.0 e.2) ∙ map-append (λ (b : KeptBlob). b.kept) (take c.ranking.at held) (e.0 ∷ []) in
    let one : record { last = c.last_use-last.result; kept = c.kept_at-kept.result } ≡ ranked_by uses e.0.kept =
    (λ j. record { last = c.last_use-last.ensures j; kept = c.kept_at-kept.result }) ∙ ap (ranked_by uses) e.1 in
    record {
      ranked = c.push.ensures.ranked ∙ (λ j. i.ranked j ++ one j ∷ []) ∙ sym (map-append (ranked_by uses) (listed (take c.ranking.at held)) (e.0.kept ∷ [])) ∙ ap (map (ranked_by uses)) (sym more);
      room = omega (arith, i.room, c.push.ensures.room);
      same = c.push.ensures.room ∙ i.same;
    }

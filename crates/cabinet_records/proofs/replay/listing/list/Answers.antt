use Rattle.std.proofs.Common.{◌≡◌, ◌+◌, ◌++◌, ◌∷◌, [], take, sym, ap, ◌∙◌, arith}
use Rattle.std.proofs.lemmas.List.{map-append}
use Rattle.cabinet.specs.declared.kept.KeptBlob.{KeptBlob}
use Rattle.cabinet.specs.Shelved.{listed}
use Rattle.cabinet.proofs.Lookups.{taken_next}
use Rattle.cabinet_records.proofs.replay.listing.list.Goals as goal

pub listing-preserved : goal.listing-preserved
listing-preserved c =
    let i = c.listing.invariant in
    let e = c.kept_at.ensures.at in
    let held = c.args.store.now.held in
    let last : listed (take (c.listing.at + 1) held) ≡ listed (take c.listing.at held) ++ e.0.kept ∷ [] = ap listed (taken_next held c.listing.at e.0 e.2) ∙ map-append (λ (b : KeptBlob). b.kept) (take c.listing.at held) (e.0 ∷ []) in
    record {
      items = c.push_reserved.ensures.items ∙ (λ j. i.items j ++ e.1 j ∷ []) ∙ sym last;
      len = omega (arith, i.len, c.push_reserved.ensures.len);
      room = omega (arith, i.room, c.push_reserved.ensures.capacity);
    }

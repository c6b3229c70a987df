use Rattle.std.proofs.Common.{ℕ, ◌≡◌, ◌≤◌, List, ap, arith, length, subst, sym}
use Rattle.std.specs.List.{insert}
use Rattle.kept_areas.specs.declared.spot.KeptSpot.{KeptSpot}
use Rattle.kept_areas.specs.Bounds.{AreBounded}
use Rattle.kept_areas.specs.Kept.{IsEntered}
use Rattle.kept_areas.proofs.Bounded.{entered_bounded}
use Rattle.kept_areas.proofs.InChunks.{entered_length, inserted}
use Rattle.kept_areas.proofs.area.Area.enter.Goals as goal

entered : (s : KeptSpot) (old new : List KeptSpot) (index : ℕ) → index ≤ length old → new ≡ insert old index s → IsEntered s old new
entered s old new index l e = subst (IsEntered s old) (sym e) (inserted s old index l)

pub invariant_of-self : goal.invariant_of-self
invariant_of-self c =
    let old = c.self.inside.spots.items in
    let within : c.place_in-index.result ≤ length old = subst (λ (zs : List KeptSpot). c.place_in-index.result ≤ length zs) c.as_slice.ensures.value c.place_in-index.ensures in
    let e = entered c.args.spot.now old c.insert_at.new.spots.items c.place_in-index.result within c.insert_at.ensures.items in
    let long = entered_length c.args.spot.now old c.insert_at.new.spots.items e in
    let room = ap (λ (zs : List KeptSpot). length zs) c.self.view_is in
    let few = c.requires.room in
    let capacity = c.insert_at.ensures.capacity in
    let was = c.self.invariant.0 in (
      omega arith,
      omega arith,
      subst (AreBounded c.insert_at.new.spots.items) (sym c.widened-self-inside.ensures) (entered_bounded c.args.spot.now old c.insert_at.new.spots.items c.self.inside.bounds e c.self.invariant.2),
    )

pub returns : goal.returns
returns c =
    let old = c.self.inside.spots.items in
    let within : c.place_in-index.result ≤ length old = subst (λ (zs : List KeptSpot). c.place_in-index.result ≤ length zs) c.as_slice.ensures.value c.place_in-index.ensures in
    subst (λ (zs : List KeptSpot). IsEntered c.args.spot.now zs c.insert_at.new.spots.items) c.self.view_is (entered c.args.spot.now old c.insert_at.new.spots.items c.place_in-index.result within c.insert_at.ensures.items)

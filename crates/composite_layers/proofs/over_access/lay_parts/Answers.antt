use Rattle.std.proofs.Common.{◌≡◌, ℕ, Option, [], arith, drop, get_or, length, refl, suc, sym, subst, take, ◌+◌, ◌<◌, ◌∙◌}
use Rattle.std.specs.Prelude.{Some}
use Rattle.std.proofs.lemmas.List.{take_more}
use Rattle.catalog.specs.declared.catalogue.Catalogue.{Catalogue}
use Rattle.catalog.specs.Valid.{IsValid}
use Rattle.cache_access.proofs.Going.{goes_here, goes_on}
use Rattle.layer_recipes.specs.declared.recipe.Part.{Part}
use Rattle.layer_recipes.specs.OfCatalogue.{IsPartOf, IsPlaceIn}
use Rattle.source_render.specs.Renders.{renders}
use Rattle.source_render.proofs.Staying.{stays_itself, stays_on}
use Rattle.composite_layers.specs.OverAccess.{GetsAt, IsLaid, Stops, moment_of}
use Rattle.composite_layers.proofs.Chaining.{more_laid, none_laid, part_at, parted_at, stopped_at}
use Rattle.composite_layers.proofs.over_access.lay_parts.Goals as goal

-- what a read past the end would give
abbrev none : Part
none = record { theme = record { layer = 0; style = 0; dims = [] }; key = record { r = 0; g = 0; b = 0 } }

pub loop-part-init : goal.loop-part-init
loop-part-init g c =
    let A = g.A.Access in
    let S = g.S.Source in
    let way = c.args.access.now in
    let x = c.args.cache.now in
    let first = moment_of x (renders (S.faults c.args.source.now) (S.gave c.args.source.now)) in
    record {
      laid = none_laid (GetsAt (A.gains way) (A.sound way) (A.seen way) (S.told c.args.source.now) (A.catalogue way x)) c.args.place.now first c.args.overlay.now c.args.numbers.now.items c.requires.none c.requires.no_number;
      goes = goes_here (A.catalogue way) (A.reaches way) (A.owes way) (A.lasts way) x c.requires.reaches (A.lasts_itself way x);
      still = λ tells s. s;
      rests = c.requires.rests;
      later = omega arith;
      told = refl;
      grows = stays_itself (S.gave c.args.source.now);
    }

pub lay_part-requires-clause-valid : goal.lay_part-requires-clause-valid
lay_part-requires-clause-valid g c = subst (λ (x : Catalogue). IsValid x) (sym c.loop-part.invariant.goes.same) c.requires.valid

pub lay_part-requires-clause-part : goal.lay_part-requires-clause-part
lay_part-requires-clause-part g c =
    let within : c.loop-part.part-index < length c.args.parts.now = omega arith in
    subst (λ (x : Catalogue). IsPartOf x c.args.place.now.grid (get_or c.args.parts.now c.loop-part.part-index none)) (sym c.loop-part.invariant.goes.same)
    (part_at (IsPartOf (g.A.Access.catalogue c.args.access.now c.args.cache.now) c.args.place.now.grid) c.args.parts.now c.loop-part.part-index none c.requires.parts within)

pub lay_part-requires-clause-place : goal.lay_part-requires-clause-place
lay_part-requires-clause-place g c = subst (λ (x : Catalogue). IsPlaceIn x c.args.place.now) (sym c.loop-part.invariant.goes.same) c.requires.place

pub lay_part-requires-clause-source : goal.lay_part-requires-clause-source
lay_part-requires-clause-source g c = λ owes.
    let i = c.loop-part.invariant in
    subst (λ (x : Catalogue). g.S.Source.told c.loop-part.source ≡ Some x.source) (sym i.goes.same) (i.told ∙ c.requires.source (i.goes.owes owes))

pub returns-in-Err-clause-lays : goal.returns-in-Err-clause-lays
returns-in-Err-clause-lays g c =
    let A = g.A.Access in
    let S = g.S.Source in
    let way = c.args.access.now in
    let i = c.loop-part.invariant in
    let parts = c.args.parts.now in
    let at = c.loop-part.part-index in
    let within : at < length parts = omega arith in
    let first = moment_of c.args.cache.now (renders (S.faults c.args.source.now) (S.gave c.args.source.now)) in
    let mid = moment_of c.loop-part.cache (renders (S.faults c.loop-part.source) (S.gave c.loop-part.source)) in
    let last = moment_of c.lay_part.new.cache (renders (S.faults c.lay_part.new.source) (S.gave c.lay_part.new.source)) in
    let stops = λ (t : Option ℕ) (d : Catalogue). Stops (GetsAt (A.gains way) (A.sound way) (A.seen way) t d) c.args.place.now mid (get_or parts at none) c.in-Err.stop last in
    let here = subst (λ (t : Option ℕ). stops t (A.catalogue way c.args.cache.now)) i.told (subst (λ (d : Catalogue). stops (S.told c.loop-part.source) d) i.goes.same c.in-Err.ensures.lays) in
    stopped_at (GetsAt (A.gains way) (A.sound way) (A.seen way) (S.told c.args.source.now) (A.catalogue way c.args.cache.now)) c.args.place.now first mid last parts (take at parts) (drop (suc at) parts) (get_or parts at none)
    c.args.overlay.now c.loop-part.overlay c.loop-part.numbers.items c.in-Err.stop (parted_at parts at none within) i.laid here

pub returns-in-Err-clause-cause : goal.returns-in-Err-clause-cause
returns-in-Err-clause-cause g c = λ is. let rose = c.in-Err.ensures.cause is in let later = c.loop-part.invariant.later in omega (arith, rose, later)

pub returns-in-Err-clause-grows : goal.returns-in-Err-clause-grows
returns-in-Err-clause-grows g c = let S = g.S.Source in stays_on (S.gave c.args.source.now) (S.gave c.loop-part.source) (S.gave c.lay_part.new.source) c.loop-part.invariant.grows c.lay_part.ensures.grows

pub returns-in-Err-clause-goes : goal.returns-in-Err-clause-goes
returns-in-Err-clause-goes g c =
    let A = g.A.Access in
    let way = c.args.access.now in
    let x = c.args.cache.now in
    let y = c.loop-part.cache in
    let z = c.lay_part.new.cache in
    goes_on (A.catalogue way) (A.reaches way) (A.owes way) (A.lasts way) x y z (A.lasts_on way x y z) c.loop-part.invariant.goes c.lay_part.ensures.goes

pub loop-part-preserved : goal.loop-part-preserved
loop-part-preserved g c =
    let A = g.A.Access in
    let S = g.S.Source in
    let way = c.args.access.now in
    let i = c.loop-part.invariant in
    let e = c.lay_part.ensures in
    let parts = c.args.parts.now in
    let at = c.loop-part.part-index in
    let within : at < length parts = omega arith in
    let x = c.args.cache.now in
    let y = c.loop-part.cache in
    let z = c.lay_part.new.cache in
    let first = moment_of x (renders (S.faults c.args.source.now) (S.gave c.args.source.now)) in
    let mid = moment_of y (renders (S.faults c.loop-part.source) (S.gave c.loop-part.source)) in
    let last = moment_of z (renders (S.faults c.lay_part.new.source) (S.gave c.lay_part.new.source)) in
    let laid = λ (t : Option ℕ) (d : Catalogue). IsLaid (GetsAt (A.gains way) (A.sound way) (A.seen way) t d) c.args.place.now mid (get_or parts at none) c.loop-part.overlay c.lay_part.new.overlay c.loop-part.numbers.items c.lay_part.new.numbers.items last in
    let here = subst (λ (t : Option ℕ). laid t (A.catalogue way x)) i.told (subst (λ (d : Catalogue). laid (S.told c.loop-part.source) d) i.goes.same c.in-Ok.ensures.lays) in
    record {
      laid = more_laid (GetsAt (A.gains way) (A.sound way) (A.seen way) (S.told c.args.source.now) (A.catalogue way x)) c.args.place.now first mid last (take at parts) (take (at + 1) parts) (get_or parts at none)
          c.args.overlay.now c.loop-part.overlay c.lay_part.new.overlay c.loop-part.numbers.items c.lay_part.new.numbers.items (take_more parts at none within) i.laid here;
      goes = goes_on (A.catalogue way) (A.reaches way) (A.owes way) (A.lasts way) x y z (A.lasts_on way x y z) i.goes e.goes;
      still = λ tells s. e.still (i.told ∙ subst (λ (d : Catalogue). S.told c.args.source.now ≡ Some d.source) (sym i.goes.same) tells) (i.still tells s);
      rests = e.rests;
      later = omega (arith, e.later, i.later);
      told = e.told ∙ i.told;
      grows = stays_on (S.gave c.args.source.now) (S.gave c.loop-part.source) (S.gave c.lay_part.new.source) i.grows e.grows;
    }

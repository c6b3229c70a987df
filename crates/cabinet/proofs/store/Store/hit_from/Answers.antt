use Rattle.std.proofs.Common.{◌≡◌, Bool, false, find, ap, sym, subst, ◌∙◌}
use Rattle.std.specs.List.{AllByRecursion}
use Rattle.kept_areas.specs.Areas.{IsClear}
use Rattle.metatile_locks.specs.Running.{hits_in}
use Rattle.metatile_plan.specs.declared.metatile.MetaKey.{MetaKey}
use Rattle.cabinet.specs.declared.kept.KeptBlob.{KeptBlob}
use Rattle.cabinet.specs.History.{is_of}
use Rattle.cabinet.specs.Hits.{hits_of}
use Rattle.cabinet.specs.Ordered.{held_of, in_order, order_of}
use Rattle.cabinet.specs.Shelved.{Stored, listed}
use Rattle.cabinet.proofs.Indexed.{at_own_key, found_there, none_hit, number_there}
use Rattle.cabinet.proofs.store.Store.hit_from.Goals as goal

pub unreachable-requires : goal.unreachable-requires
unreachable-requires c =
    let i = c.self.inside in
    let blobs = in_order (order_of i.puts.entries) (held_of i.held.entries) in
    found_there i.areas blobs (held_of i.held.entries) c.in-Some.hit.meta c.self.invariant c.in-Some.ensures.kept (ap (λ (v : Stored). find (is_of c.in-Some.hit.meta) (listed v.blobs)) c.self.view_is ∙ sym c.kept_of.ensures ∙ c.in_default.is)

pub returns-clause-kept : goal.returns-clause-kept
returns-clause-kept c = (at_own_key c.in-Some.hit.meta (listed c.args.self.now.blobs) c.in-Some-kept_of.kept (sym c.kept_of.ensures ∙ c.in-Some-kept_of.is)).1

pub returns-clause-hit : goal.returns-clause-hit
returns-clause-hit c =
    let hits = hits_of c.args.catalogue.now c.args.cover.now in
    let key = (at_own_key c.in-Some.hit.meta (listed c.args.self.now.blobs) c.in-Some-kept_of.kept (sym c.kept_of.ensures ∙ c.in-Some-kept_of.is)).0 in
    ap hits key ∙ sym (c.factors_of-factors.ensures.hits c.in-Some.hit.meta) ∙ c.in-Some.ensures.hit

pub returns-clause-clear : goal.returns-clause-clear
returns-clause-clear c =
    let i = c.self.inside in
    let same : hits_in c.factors_of-factors.result c.grid_of-grid.result.now c.args.cover.now ≡ hits_of c.args.catalogue.now c.args.cover.now = λ j m. c.factors_of-factors.ensures.hits m j in
    subst (λ (v : Stored). IsClear (hits_of c.args.catalogue.now c.args.cover.now) c.args.from v.chunks → IsClear (hits_of c.args.catalogue.now c.args.cover.now) c.in-Some.hit.at v.chunks) c.self.view_is
    (subst (λ (is_hit : MetaKey → Bool). IsClear is_hit c.args.from i.areas.chunks → IsClear is_hit c.in-Some.hit.at i.areas.chunks) same c.in-Some.ensures.clear)

pub returns-in-None-clause-none : goal.returns-in-None-clause-none
returns-in-None-clause-none c = λ clear.
    let i = c.self.inside in
    let blobs = in_order (order_of i.puts.entries) (held_of i.held.entries) in
    let hits = hits_of c.args.catalogue.now c.args.cover.now in
    let same : hits_in c.factors_of-factors.result c.grid_of-grid.result.now c.args.cover.now ≡ hits = λ j m. c.factors_of-factors.ensures.hits m j in
    let there = subst (λ (v : Stored). IsClear hits c.args.from v.chunks) (sym c.self.view_is) clear in
    let none = c.in-None.ensures.none (subst (λ (is_hit : MetaKey → Bool). IsClear is_hit c.args.from i.areas.chunks) (sym same) there) in
    subst (λ (v : Stored). AllByRecursion (λ (b : KeptBlob). hits b.kept.meta ≡ false) v.blobs) c.self.view_is
    (none_hit hits blobs (λ m some. sym (c.factors_of-factors.ensures.hits m) ∙ none m (number_there i.areas blobs (held_of i.held.entries) m c.self.invariant some)))

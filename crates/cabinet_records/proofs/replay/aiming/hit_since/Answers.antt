use Rattle.std.proofs.Common.{◌∙◌, List, drop, sym, ap, subst}
use Rattle.cabinet_records.specs.declared.replay.aimed.AimedCut.{AimedCut}
use Rattle.cabinet_records.specs.Aiming.{NumbersFall, is_aimed_since}
use Rattle.cabinet_records.proofs.AimedCuts.{aimed_is, falls, in_order_from}
use Rattle.cabinet_records.proofs.replay.aiming.hit_since.Goals as goal

pub is_aimed_since-requires : goal.is_aimed_since-requires
is_aimed_since-requires c =
    let a = c.args.aims.now in
    let cuts = c.args.cuts.now.book.cuts in
    subst NumbersFall (sym (c.deref.ensures.value ∙ c.requires.aimed.cuts_are)) (falls a.zoom (drop a.left cuts) (in_order_from cuts a.left c.count-count.ensures.order.by_number))

pub returns : goal.returns
returns c =
    let a = c.args.aims.now in
    let number = c.args.number in
    let m = c.args.meta.now in
    c.is_aimed_since.ensures ∙ ap (λ (xs : List AimedCut). is_aimed_since xs number m) c.deref.ensures.value
    ∙ aimed_is c.args.zoom.now m number c.requires.meta a c.args.cuts.now.book.cuts (c.is_same.ensures (cc (c.if-not-is_same.false))) c.requires.aimed (c.goes_down_to.ensures (cc (c.if-not-goes_down_to.false)))

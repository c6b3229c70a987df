use Rattle.std.proofs.Common.{◌≡◌, List, None, Option, Some, ℕ, rules, subst, sym}
use Rattle.cabinet.specs.declared.replies.Forced.{Forced}
use Rattle.cabinet.specs.State.{now}
use Rattle.cabinet.specs.Steps.{AsksKept}
use Rattle.durable_cabinet.specs.Hot.{IsHotTile, hot_tile}
use Rattle.durable_cabinet.specs.Tiles.{IsTilePartOf}
use Rattle.durable_cabinet.proofs.AskingTiles.{hit_on}
use Rattle.durable_cabinet.proofs.Heating.{hit_hot, hot_put, hot_stays, part_hot, unhit_hot}
use Rattle.durable_cabinet.proofs.asking.ask_warming.Goals as goal

pub returns-in-None-clause-asked : goal.returns-in-None-clause-asked
returns-in-None-clause-asked c told seen before after part =
    let s = c.args.core.now.state in
    let u = c.ask_kept.new.self.state in
    let a = c.args.address.now in
    let row : AsksKept s a None u = subst (λ (o : Option Forced). AsksKept s a o u) c.in-None.is c.in-Ok-ask_kept.ensures.asks in
    let same : c.in-Ok.text ≡ c.args.bytes.items = search rules in
    let shared = subst (IsTilePartOf told s.catalogue seen a c.args.kept) (sym same) part in
    hit_on s a told seen u u.clock.moment c.args.kept c.in-Ok.text c.requires.kept shared row.0 row.1

pub returns-in-None-clause-hot : goal.returns-in-None-clause-hot
returns-in-None-clause-hot c told seen part hot =
    let s = c.args.core.now.state in
    let u = c.ask_kept.new.self.state in
    let a = c.args.address.now in
    let n = c.args.kept.number in
    let row : AsksKept s a None u = subst (λ (o : Option Forced). AsksKept s a o u) c.in-None.is c.in-Ok-ask_kept.ensures.asks in
    let same : c.in-Ok.text ≡ c.args.bytes.items = search rules in
    let one = subst (λ (bytes : List ℕ). IsHotTile told s.catalogue (now s) seen (hot_tile a n bytes)) (sym same) (part_hot told s c.known.ensures seen a c.args.kept c.args.bytes.items c.requires.kept part) in
    hot_stays told s u seen c.put.new.self (hit_hot s u a row) (hot_put told s seen c.args.hot.now c.put.new.self (hot_tile a n c.in-Ok.text) c.put.ensures.among one hot)

pub returns-in-Some-clause-hot : goal.returns-in-Some-clause-hot
returns-in-Some-clause-hot c told seen part hot =
    let s = c.args.core.now.state in
    let u = c.ask_kept.new.self.state in
    let a = c.args.address.now in
    let row : AsksKept s a (Some c.in-Some.forced) u = subst (λ (o : Option Forced). AsksKept s a o u) c.in-Some.is c.in-Ok-ask_kept.ensures.asks in
    hot_stays told s u seen c.args.hot.now (unhit_hot s u a c.in-Some.forced row) hot

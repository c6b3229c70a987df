use Rattle.std.proofs.Common.{List, [], ◌∷◌, ◌++◌, ap, sym, subst, ◌∙◌, arith}
use Rattle.metatile_plan.specs.declared.metatile.MetaKey.{MetaKey}
use Rattle.cabinet.specs.declared.kept.KeptBlob.{KeptBlob}
use Rattle.cabinet.specs.Ordered.{IsOrderOf, held_of, in_order, order_of}
use Rattle.cabinet.specs.Shelved.{Stored}
use Rattle.cabinet.proofs.Indexed.{index_put, not_there}
use Rattle.cabinet.proofs.Orders.{others, put_last, put_order}
use Rattle.cabinet.proofs.store.Store.put.Goals as goal

pub note-requires-clause-room : goal.note-requires-clause-room
note-requires-clause-room c = let room = ap (λ (v : Stored). v.spare) c.self.view_is in omega (arith, room, c.requires)

pub note-requires-clause-fresh : goal.note-requires-clause-fresh
note-requires-clause-fresh c = λ off. not_there c.self.inside.areas (held_of c.self.inside.held.entries) c.args.kept.meta c.self.invariant.indexed (sym c.put-was_held.ensures.older ∙ off)

pub invariant_of-self : goal.invariant_of-self
invariant_of-self c =
    let i = c.self.inside in
    let held = held_of i.held.entries in
    let later = held_of c.put-was_held.new.held.entries in
    let b : KeptBlob = record { kept = c.args.kept; text = c.args.text } in
    let are = ap (λ (ps : List MetaKey). in_order (order_of ps) later) c.and-self-inside.ensures ∙ put_last b i.puts.entries held later c.put-was_held.ensures.held in
    record {
      order = subst (λ (bs : List KeptBlob). IsOrderOf bs later) (sym are) (put_order b (in_order (order_of i.puts.entries) held) held later c.self.invariant.order c.put-was_held.ensures.once c.put-was_held.ensures.held);
      indexed = index_put b i.areas c.note.new.areas held later c.self.invariant.indexed c.note.ensures.numbers c.put-was_held.ensures.held;
    }

pub returns-clause-blobs : goal.returns-clause-blobs
returns-clause-blobs c =
    let i = c.self.inside in
    let held = held_of i.held.entries in
    let later = held_of c.put-was_held.new.held.entries in
    let b : KeptBlob = record { kept = c.args.kept; text = c.args.text } in
    ap (λ (ps : List MetaKey). in_order (order_of ps) later) c.and-self-inside.ensures ∙ put_last b i.puts.entries held later c.put-was_held.ensures.held
    ∙ ap (λ (v : Stored). others c.args.kept.meta v.blobs ++ b ∷ []) c.self.view_is

use Rattle.std.proofs.Common.{ℕ, List, Option, None, ◌≡◌, refl, sym, subst, ◌∙◌, inl, inr}
use Rattle.std.specs.Prelude.{IfErr, IfOk, Result}
use Rattle.std.specs.declared.result.Result.TheVariants.{Ok, Err}
use Rattle.catalog.specs.declared.catalogue.Catalogue.{Catalogue}
use Rattle.record_text.specs.declared.entries.Record.{Record}
use Rattle.cabinet_records.specs.declared.replay.progress.ReplayProgress.{ReplayProgress}
use Rattle.cabinet_records.specs.declared.restored.Restored.{Restored}
use Rattle.cabinet_records.specs.Replay.{AreRecordsOf, AreTooMany, IsLastCut, IsRefusedAt, IsRestored, ShownReplay}
use Rattle.cabinet_records.specs.Shows.{IsReplayFinished, IsShown, first_bad, of_version}
use Rattle.cabinet_records.proofs.Judged.{is_first_bad, none_bad, of_bodies}
use Rattle.cabinet_records.proofs.replay.Replay.restore.Goals as goal

if_ok_so : {X Y : Type 0} (P Q : X → Type 0) → ((x : X) → P x → Q x) → (r : Result X Y) → IfOk r P → IfOk r Q
if_ok_so P Q f (Ok x) h = f x h
if_ok_so P Q f (Err y) h = tt

if_err_so : {X Y : Type 0} (P Q : Y → Type 0) → ((y : Y) → P y → Q y) → (r : Result X Y) → IfErr r P → IfErr r Q
if_err_so P Q f (Ok x) h = tt
if_err_so P Q f (Err y) h = f y h

pub returns-in-Some-clause-err : goal.returns-in-Some-clause-err
returns-in-Some-clause-err c =
    let i = c.self.inside in
    let s = c.self.invariant in
    let version = c.args.version in
    let records = i.records.entries in
    subst (λ (v : ShownReplay). (x : List (Option Record)) × AreRecordsOf version v.bodies x × IsRefusedAt v.catalogue x c.in-Some.slot) c.self.view_is (
      of_version version records,
      of_bodies version i.bodies.entries records s.bodies_are,
      inl (is_first_bad i.catalogue.now version records i.progress i.bad i.later c.in-Some.slot s.stands s.late (sym c.first_bad.ensures ∙ c.in-Some.is)),
    )

-- where none is bad, all records are of the version, and they come to what is held
ended : (cat : Catalogue) (version : ℕ) (bodies : List (List ℕ)) (records : List (Option Record)) (p : ReplayProgress) (count : ℕ) (bad later last found : Option ℕ) → IsShown cat bodies records p count bad later last → found ≡ first_bad version bad later → found ≡ None
    → AreRecordsOf version bodies records × IsReplayFinished cat records p cat.cut_limit last
ended cat version bodies records p count bad later last found s is none =
    let w = none_bad cat version records p bad later s.stands s.late (sym is ∙ none) in
    (subst (AreRecordsOf version bodies) w.version_is (of_bodies version bodies records s.bodies_are), record { replays = w.replays; played = w.played; cut = s.cut; limit_is = refl })

pub finish-requires : goal.finish-requires
finish-requires c =
    let i = c.self.inside in
    let e = ended i.catalogue.now c.args.version i.bodies.entries i.records.entries i.progress i.count i.bad i.later i.last_cut c.first_bad.result c.self.invariant c.first_bad.ensures c.in-None.is in
    (i.catalogue.now, i.records.entries, e.1)

pub returns-in-None-clause-ok : goal.returns-in-None-clause-ok
returns-in-None-clause-ok c =
    let i = c.self.inside in
    let cat = i.catalogue.now in
    let version = c.args.version in
    let records = i.records.entries in
    let e = ended cat version i.bodies.entries records i.progress i.count i.bad i.later i.last_cut c.first_bad.result c.self.invariant c.first_bad.ensures c.in-None.is in
    subst (λ (v : ShownReplay). IfOk c.finish.result (λ r. (x : List (Option Record)) × AreRecordsOf version v.bodies x × IsRestored v.catalogue x r.opening r.kept.items r.cuts.book)) c.self.view_is
    (if_ok_so (λ (r : Restored). IsRestored cat records r.opening r.kept.items r.cuts.book) (λ r. (x : List (Option Record)) × AreRecordsOf version i.bodies.entries x × IsRestored cat x r.opening r.kept.items r.cuts.book)
    (λ r is. (records, e.0, is)) c.finish.result (c.finish.ensures.ok cat records e.1))

pub returns-in-None-clause-err : goal.returns-in-None-clause-err
returns-in-None-clause-err c =
    let i = c.self.inside in
    let cat = i.catalogue.now in
    let version = c.args.version in
    let records = i.records.entries in
    let e = ended cat version i.bodies.entries records i.progress i.count i.bad i.later i.last_cut c.first_bad.result c.self.invariant c.first_bad.ensures c.in-None.is in
    subst (λ (v : ShownReplay). IfErr c.finish.result (λ slot. (x : List (Option Record)) × AreRecordsOf version v.bodies x × IsRefusedAt v.catalogue x slot)) c.self.view_is
    (if_err_so (λ slot. AreTooMany cat records × IsLastCut records slot) (λ slot. (x : List (Option Record)) × AreRecordsOf version i.bodies.entries x × IsRefusedAt cat x slot)
    (λ slot is. (records, e.0, inr is)) c.finish.result (c.finish.ensures.err cat records e.1))

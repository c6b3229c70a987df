use Rattle.std.proofs.Common.{◌≡◌, List, ℕ, OnOk, sym, subst, inl, inr}
use Rattle.disk_model.specs.Crash.{write_left, call_left}
use Rattle.disk_model.specs.declared.log.Call.{Call}
use Rattle.disk_model.proofs.memory.leave.Goals as goal

pub returns-in-Written : goal.returns-in-Written
returns-in-Written c =
    let left = subst (λ (bytes : List ℕ). OnOk c.leave_write.result (c.leave_write.new.image.items ≡ write_left c.args.pick c.in-Written.at bytes c.args.image.now.items)) c.deref.ensures.value c.leave_write.ensures in
    let P : Call → Type 0 = λ call. OnOk c.leave_write.result (c.leave_write.new.image.items ≡ call_left c.args.pick call c.args.seen.now c.args.image.now.items) in
    elim c.in-Written.is [ inl is ↦ subst P (sym is) left | inr is ↦ subst P (sym is) left ]

pub returns-in-Resized : goal.returns-in-Resized
returns-in-Resized c =
    let P : Call → Type 0 = λ call. OnOk c.leave_cut.result (c.leave_cut.new.image.items ≡ call_left c.args.pick call c.args.seen.now c.args.image.now.items) in
    elim c.in-Resized.is [ inl is ↦ subst P (sym is) c.leave_cut.ensures | inr is ↦ subst P (sym is) c.leave_cut.ensures ]

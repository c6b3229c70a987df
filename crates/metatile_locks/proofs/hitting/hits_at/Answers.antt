use Rattle.std.proofs.Common.{true, false, ◌≡◌, sym, ◌∙◌}
use Rattle.metatile_locks.proofs.Blocks.{hits_none}
use Rattle.metatile_locks.proofs.hitting.hits_at.Goals as goal

pub returns : goal.returns
returns c =
    sym (hits_none c.args.cover.now c.args.f.now c.args.m.now c.args.meta.now c.requires.limits (λ x. let t : true ≡ false = sym (c.lies_in.ensures.1 x) ∙ c.if-lies_in.false in cc))

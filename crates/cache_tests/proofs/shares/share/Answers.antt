use Rattle.std.proofs.Common.{◌≡◌, ◌∙◌, IfSome, subst}
use Rattle.cache_tests.specs.declared.pair.Pair.{Pair}
use Rattle.cache_tests.proofs.Sharing.{shared_out}
use Rattle.cache_tests.proofs.shares.share.Goals as goal

pub returns : goal.returns
returns g c =
    let size : (c.in-Some.pair.sheet.places ≡ c.args.places) × (c.in-Some.pair.sheet.hands ≡ 2)
    = subst (λ o. IfSome o (λ (p : Pair). (p.sheet.places ≡ c.args.places) × (p.sheet.hands ≡ 2))) c.in-Some.is c.in_ok-pair.ensures.size in
    shared_out c.in-Some.pair.sheet c.join-first.result.0.0 c.join-first.result.1.0 c.gather.new.into c.progress.new.hand c.join-first.result.0.1 c.join-first.result.1.1 c.progress.result size.1
    c.join-first.ensures.first c.join-first.ensures.second c.gather.ensures.gathered c.progress.ensures.tells c.if-progress.false c.all_claimed.ensures.all ∙ size.0

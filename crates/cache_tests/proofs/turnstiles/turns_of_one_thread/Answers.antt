use Rattle.std.proofs.Common.{◌≡◌, All, subst, sym}
use Rattle.turnstile.proofs.Held.{popped}
use Rattle.cache_tests.proofs.turnstiles.turns_of_one_thread.Goals as goal

pub close-requires : goal.close-requires
close-requires g c =
    let all = subst (All (λ p. p.table ≡ c.in_ok-turnstile.field-0.turnstile.table)) (sym c.into_vec-passes.ensures) c.in_ok-turnstile.ensures.own in
    record { own = (popped (λ p. p.table ≡ c.in_ok-turnstile.field-0.turnstile.table) c.into_vec-passes.result.items c.pop.new.self.items c.in-Some.pass c.in-Some.ensures.items all).0 }

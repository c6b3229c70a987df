use Rattle.std.proofs.Common.{◌≡◌, ◌+◌, Bool, true, All, Some, length, vec_len}
use Rattle.atomic_table.specs.Seated.{TableId}
use Rattle.cache_hall.specs.Turned.{HallPass, IsPassOf}
use Rattle.catalog.specs.declared.catalogue.Catalogue.{Catalogue}
use Rattle.seed_jobs.specs.Idles.{all_idle}
use Rattle.seed_jobs.proofs.Pairing.{AreOf}
use Rattle.seed_jobs.proofs.members.idle_members.Given as goal

abbrev pub invariant-pairing : goal.invariant-pairing
invariant-pairing g l = record {
  sources : length l.sources.items ≡ length l.passes.items;
  gates : length l.gates.items ≡ length l.passes.items;
  some : length l.members.items + length l.passes.items ≡ length l.fn.passes.items;
  first : (p : HallPass) → All (λ q. q ≡ p) l.fn.passes.items → All (λ q. q ≡ p) l.passes.items × All (λ i. i.pass ≡ p) (all_idle g.S.Source.told g.S.Source.faults g.S.Source.gave l.members.items);
  of : (table : TableId) (c : Catalogue) (told : Bool) → All (IsPassOf table c) l.fn.passes.items → All (λ p. p.told ≡ told) l.fn.passes.items → All (λ s. told ≡ true → g.S.Source.told s ≡ Some c.source) l.fn.sources.items
      → AreOf g.S.Source.told g.S.Source.faults g.S.Source.gave table c told l.passes.items l.sources.items l.members.items;
}

abbrev pub decreases-pairing : goal.decreases-pairing
decreases-pairing g l = vec_len l.passes

use Rattle.std.proofs.Common.{◌≡◌, ◌+◌, drop}
use Rattle.std.specs.Prelude.{◌==◌}
use Rattle.std.specs.List.{position_or_len}
use Rattle.http_source.proofs.config.RendererConfig.own_place.Given as goal

abbrev pub invariant-loop-place : goal.invariant-loop-place
invariant-loop-place l = l.place + position_or_len (λ t. t.layer == l.layer) (drop l.place l.self.layers.items) ≡ position_or_len (λ t. t.layer == l.layer) l.self.layers.items

use Rattle.std.proofs.Common.{◌≤◌, sym, subst, ℕ}
use Rattle.cache_seal.proofs.Blobs.{long_matrix}
use Rattle.cache_seal.proofs.sealing_kept.tile_length.Goals as goal

pub returns-clause-long : goal.returns-clause-long
returns-clause-long c least long =
    let meta = c.args.meta.now in
    subst (λ (n : ℕ). least ≤ n) (sym c.tile_len.ensures.value) (long_matrix least c.args.catalogue.now meta.grid meta.z c.matrix.result.now long c.matrix.ensures.matrix)

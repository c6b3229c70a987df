use Rattle.std.proofs.Common.{◌≡◌, ap, subst, sym, ◌∙◌}
use Rattle.std.specs.Prelude.{option_copied}
use Rattle.std.specs.Map.{lookup}
use Rattle.std.specs.Option.{option_map}
use Rattle.expiry_policy.proofs.Lookups.{derived_is}
use Rattle.cabinet.specs.declared.kept.Blob.{Blob}
use Rattle.cabinet.specs.Ordered.{as_kept}
use Rattle.cabinet.proofs.Lookups.{held_lookup}
use Rattle.cabinet.proofs.held.blob_of.Goals as goal

pub returns : goal.returns
returns c =
    let es = c.args.held.now.entries in
    let m = c.args.meta.now in
    ap (option_map (λ (b : Blob). as_kept (m, b))) (subst (λ eq. option_copied c.get.result ≡ lookup (eq m) es) derived_is c.get.ensures.value) ∙ sym (held_lookup m es)

use Rattle.std.proofs.Common.{rules}
use Rattle.std.proofs.lemmas.Iterator.{YieldsList-from_map, YieldsList-from_slice, items_from_collect}
use Rattle.catalog.specs.declared.layer as layers
use Rattle.quota_ledger.specs.declared.account.Account.{Account}
use Rattle.quota_ledger.proofs.ledger.unused.Goals as goal

abbrev account : layers.Layer.Layer → Account
account layer = record { quota = layer.quota; used = 0 }

pub returns : goal.returns
returns c =
    items_from_collect _ c.collect.ensures.ran (YieldsList-from_map _ account (YieldsList-from_slice c.args.layers.now (cc)) (cc) (λ x r q k. search rules))

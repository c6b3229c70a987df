-- What an outbox sends can be written and read, and is of its catalogue.
use Rattle.std.proofs.Common.{◌≡◌, ℕ, ◌+◌, ◌≤◌, List, length, slice_get, Option, Some, None, refl, arith}
use Rattle.std.specs.Prelude.{IfSome}
use Rattle.std.specs.List.{AllByRecursion}
use Rattle.std.specs.Option.{option_map}
use Rattle.catalog.specs.declared.catalogue.Catalogue.{Catalogue}
use Rattle.catalog.specs.Valid.{IsValid}
use Rattle.truncation_list.specs.declared.cover.Cover.{Cover}
use Rattle.outbox.specs.declared.packet.Packet.TheVariants as packet
use Rattle.outbox.specs.Files.{IsPostable}
use Rattle.outbox.specs.Packets.{IsRanged}
use Rattle.outbox.specs.Posts.{IsChangeOf, next_behind, post_slots}
use Rattle.outbox.proofs.Ranging.{cover_ranged, there, within}

pub sendable : (c : Catalogue) (posts : List Cover) (n : ℕ) → IsValid c → AllByRecursion (IsPostable c) posts → length posts ≤ post_slots → IfSome (next_behind posts n) (λ p. IsRanged p × IsChangeOf c p)
sendable c posts n valid all few = by (slice_get posts n) refl
  where
    by : (o : Option Cover) → slice_get posts n ≡ o → IfSome (option_map (λ cover. packet.Change (n + 1) cover) o) (λ p. IsRanged p × IsChangeOf c p)
    by None e = tt
    by (Some cover) e =
        let one = there (IsPostable c) posts n cover all e in
        let place = within posts n cover e in
        ((omega arith, omega (arith, place, few), cover_ranged c cover valid one.served one.fits.filter.four), one.served)

-- The requests that are answered without a render hand nothing in.
use Rattle.std.proofs.Common.{ℕ, ◌≡◌, ◌+◌, List, [], ◌∷◌, inl, inr, sym, subst}
use Rattle.cabinet_chest.specs.declared.command.Command.{Command}
use Rattle.cabinet_chest.specs.declared.command.Counts.{Counts}
use Rattle.cabinet_chest.specs.declared.command.Reply.{Reply}
use Rattle.cabinet_chest.specs.declared.command.Command.TheVariants as command
use Rattle.cabinet_chest.specs.declared.shown.Note.{Note}
use Rattle.cache_access.specs.Sourced.{AreFromSource, IsFromSource}
use Rattle.cache_access.specs.Turned.{IsOf}
use Rattle.cache_access.proofs.Sourcing.{sourced_more}
use Rattle.catalog.specs.declared.catalogue.Catalogue.{Catalogue}
use Rattle.source_render.specs.Renders.{GivenImage}
use Rattle.truncation_list.specs.declared.cover.Cover.{Cover}
use Rattle.turnstile.specs.declared.view.Made.{Made}
use Rattle.tile_requests.specs.Counted.{AreAllCounts, AreCounts, IsCount, IsCounted}
use Rattle.tile_requests.specs.Served.{IsCutServed, IsExpiryServed, IsServedAtOnce, IsUsageServed}
use Rattle.tile_requests.specs.declared.outcome.Outcome.{Outcome}
use Rattle.tile_requests.specs.declared.request.Request.{Request}
use Rattle.tile_requests.specs.declared.request.Request.TheVariants as request

module _ (c : Catalogue) (gave : List GivenImage) where
  -- ONE TURN of such a request

  by_other : (does : Command) (r : Reply) (m : Made Note) → IsFromSource c gave does → IsOf does r m → IsFromSource c gave m.note.command
  by_other does r m from is = subst (λ (d : Command). IsFromSource c gave d) (sym is.command) from

  by_count : (layer : ℕ) (n : Counts) (m : Made Note) → IsCount layer n m → IsFromSource c gave m.note.command
  by_count layer n m is = by_other (command.Usage layer) _ m tt is

  one_alone : (gained : List (Made Note)) (m : Made Note) → gained ≡ m ∷ [] → IsFromSource c gave m.note.command → AreFromSource c gave gained
  one_alone gained m one from = subst (λ (ms : List (Made Note)). AreFromSource c gave ms) (sym one) (from, tt)

  none_at_all : (gained : List (Made Note)) → gained ≡ [] → AreFromSource c gave gained
  none_at_all gained none = subst (λ (ms : List (Made Note)). AreFromSource c gave ms) (sym none) tt

  -- COUNTS

  all_counts_sourced : (ms : List (Made Note)) → AreAllCounts ms → AreFromSource c gave ms
  all_counts_sourced [] all = tt
  all_counts_sourced (m ∷ ms) ((layer, n, is), all) = (by_count layer n m is, all_counts_sourced ms all)

  counts_sourced : (layer : ℕ) (ns : List Counts) (ms : List (Made Note)) → AreCounts layer ns ms → AreFromSource c gave ms
  counts_sourced layer [] [] are = tt
  counts_sourced layer [] (m ∷ ms) are = absurd are
  counts_sourced layer (n ∷ ns) [] are = absurd are
  counts_sourced layer (n ∷ ns) (m ∷ ms) are = (by_count layer n m are.0, counts_sourced (layer + 1) ns ms are.1)

  counted_sourced : (gained : List (Made Note)) (text : List ℕ) → IsCounted c gained text → AreFromSource c gave gained
  counted_sourced gained text k =
      let totals : AreFromSource c gave (k.all_turn ∷ k.cuts_turn ∷ []) = (by_count _ k.all k.all_turn k.of_all, (by_count _ k.cuts k.cuts_turn k.of_cuts, tt)) in
      subst (λ (ms : List (Made Note)). AreFromSource c gave ms) (sym k.made) (sourced_more c gave k.turns (k.all_turn ∷ k.cuts_turn ∷ []) (counts_sourced 0 k.counts k.turns k.layers) totals)

  usage_sourced : (gained : List (Made Note)) (o : Outcome) → IsUsageServed c gained o → AreFromSource c gave gained
  usage_sourced gained o (inl (text, k, is)) = counted_sourced gained text k
  usage_sourced gained o (inr (all, is)) = all_counts_sourced gained all

  -- A TRUNCATION AND AN EXPIRY

  cut_sourced : (cover : Cover) (gained : List (Made Note)) (o : Outcome) → IsCutServed cover gained o → AreFromSource c gave gained
  cut_sourced cover gained o (inl (m, r, one, of, is)) = one_alone gained m one (by_other (command.Cut cover) _ m tt of)
  cut_sourced cover gained o (inr (none, is)) = none_at_all gained none

  expiry_sourced : (gained : List (Made Note)) (o : Outcome) → IsExpiryServed c gained o → AreFromSource c gave gained
  expiry_sourced gained o (m, r, left, one, of, is) = one_alone gained m one (by_other command.Expire _ m tt of)

  -- ANY of them, whatever the source gave
  pub at_once_sourced : (r : Request) (gained : List (Made Note)) (o : Outcome) → IsServedAtOnce c r gained o → AreFromSource c gave gained
  at_once_sourced (request.Tile a) gained o h = absurd h
  at_once_sourced request.Usage gained o h = usage_sourced gained o h
  at_once_sourced (request.Truncation cover) gained o h = cut_sourced cover gained o h
  at_once_sourced request.Expiry gained o h = expiry_sourced gained o h
  at_once_sourced r gained o h = none_at_all gained h.0

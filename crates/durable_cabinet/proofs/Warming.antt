-- What is in the hot tier stays true while entries come.
use Rattle.std.proofs.Common.{ℕ, ◌≡◌, ◌≢◌, ◌+◌, ◌<◌, ◌≤◌, Bool, true, false, cond, not, List, Option, Some, None, refl, sym, ap, subst, ◌∙◌, arith}
use Rattle.std.specs.List.{AllByRecursion}
use Rattle.std.specs.Option.{option_map}
use Rattle.catalog.specs.declared.catalogue.Catalogue.{Catalogue}
use Rattle.disk_model.specs.Content.{Content, bytes_at}
use Rattle.matrix_geometry.specs.declared.address.Address.{Address}
use Rattle.metatile_locks.specs.declared.render.Render.{Render}
use Rattle.metatile_locks.specs.Running.{has_number, is_render_of, marked, render_of, unmarked}
use Rattle.metatile_locks.proofs.Lists.{all_filter, all_map, all_weaker, found}
use Rattle.metatile_locks.proofs.Runs.{marked_is}
use Rattle.metatile_plan.specs.declared.metatile.MetaKey.{MetaKey}
use Rattle.metatile_plan.specs.Keys.{same_meta}
use Rattle.raster_field.specs.Blocks.{block_of}
use Rattle.cabinet.specs.declared.entry.HistoryEntry.{HistoryEntry}
use Rattle.cabinet.specs.declared.entry.HistoryEntry.TheVariants as entry
use Rattle.cabinet.specs.declared.kept.Kept.{Kept}
use Rattle.cabinet.specs.declared.kept.KeptBlob.{KeptBlob}
use Rattle.cabinet.specs.Hits.{hits_of}
use Rattle.cabinet.specs.History.{CabinetStanding, after, kept_after, kept_of, with_uses}
use Rattle.cabinet.specs.State.{State, asked_at, grown, now}
use Rattle.cabinet.proofs.Lists.{all_push}
use Rattle.cabinet.proofs.Rows.{now_asked, now_more}
use Rattle.cabinet.proofs.Sentences.{kept_step}
use Rattle.cabinet.proofs.WithUses.{set_same}
use Rattle.durable_cabinet.specs.Hot.{HotTile, IsHotTile, StaysHot}
use Rattle.durable_cabinet.specs.Images.{blobs_start}
use Rattle.durable_cabinet.specs.Tiles.{IsTilePartOf}

-- A PART of what is kept is one of what is kept in the same region
pub same_region : (told : Bool) (c : Catalogue) (seen : Content) (a : Address) (t u : Kept) (bytes : List ℕ) → t.place ≡ u.place → t.length ≡ u.length → IsTilePartOf told c seen a t bytes → IsTilePartOf told c seen a u bytes
same_region told c seen a t u bytes place long p = record {
  blob = p.blob;
  long = p.long;
  there = λ is. p.there is ∙ (λ i. bytes_at seen (blobs_start c + place i) (long i));
  part = p.part;
}

-- ONE ENTRY

-- it begins no render under a number of before, and keeps only one that runs
abbrev pub Goes : CabinetStanding → HistoryEntry → Type 0
Goes s (entry.At n) = Unit {0}
Goes s (entry.Started k m) = s.front < k
Goes s (entry.Cut t cover) = Unit {0}
Goes s (entry.Missed t) = Unit {0}
Goes s (entry.Stored k m place length n uses) = (r : Render) × (render_of (record { number = k; meta = m }) s.out ≡ Some r) × (r.number ≡ k)
Goes s (entry.Counted m u) = Unit {0}
Goes s (entry.Ended k) = Unit {0}
Goes s (entry.Used m) = Unit {0}
Goes s (entry.Dropped m) = Unit {0}

module _ (told : Bool) (c : Catalogue) (s : CabinetStanding) (seen : Content) (x : HotTile) (h : IsHotTile told c s seen x) where
  abbrev m : MetaKey
  m = block_of c x.address

  abbrev IsPart : Kept → Type 0
  IsPart t = IsTilePartOf told c seen x.address t x.bytes

  abbrev HasEnded : Render → Type 0
  HasEnded r = r.number ≢ x.number

  given_after : (e : HistoryEntry) → x.number ≤ (after c s e).front
  given_after (entry.At n) = h.given
  given_after (entry.Started k n) = omega (arith, h.given)
  given_after (entry.Cut t cover) = omega (arith, h.given)
  given_after (entry.Missed t) = omega (arith, h.given)
  given_after (entry.Stored k n place length b uses) = h.given
  given_after (entry.Counted n u) = h.given
  given_after (entry.Ended k) = h.given
  given_after (entry.Used n) = h.given
  given_after (entry.Dropped n) = h.given

  ended_after : (e : HistoryEntry) → Goes s e → AllByRecursion HasEnded (after c s e).out
  ended_after (entry.At n) goes = h.ended
  ended_after (entry.Started k n) goes = all_push HasEnded s.out (unmarked k n s.moment) h.ended (λ same. let g = h.given in absurd (omega (arith, same, g, goes)))
  ended_after (entry.Cut t cover) goes =
      all_map (marked (hits_of c cover) t) HasEnded s.out
      (all_weaker HasEnded (λ r. HasEnded (marked (hits_of c cover) t r)) (λ r off same. off (sym (marked_is (hits_of c cover) t r).number ∙ same)) s.out h.ended)
  ended_after (entry.Missed t) goes = h.ended
  ended_after (entry.Stored k n place length b uses) goes = all_filter HasEnded (λ r. not (has_number k r)) s.out h.ended
  ended_after (entry.Counted n u) goes = h.ended
  ended_after (entry.Ended k) goes = all_filter HasEnded (λ r. not (has_number k r)) s.out h.ended
  ended_after (entry.Used n) goes = h.ended
  ended_after (entry.Dropped n) goes = h.ended

  -- what was kept and isn't taken away
  spared_part : (v : Bool) (t : Kept) → cond v None (kept_of m s) ≡ Some t → t.number ≡ x.number → IsPart t
  spared_part true t is number = absurd (cc)
  spared_part false t is number = h.part t is number

  -- what is kept anew has a number of its own
  stored_part : (v : Bool) (new t : Kept) (r : Render) → render_of (record { number = new.number; meta = new.meta }) s.out ≡ Some r → r.number ≡ new.number → cond v (Some new) (kept_of m s) ≡ Some t → t.number ≡ x.number → IsPart t
  stored_part true new t r runs is_new is number =
      let same : new ≡ t = cc in
      let off = (found (is_render_of (record { number = new.number; meta = new.meta })) HasEnded s.out r h.ended runs).1 in
      absurd (off (is_new ∙ ap (λ (y : Kept). y.number) same ∙ number))
  stored_part false new t r runs is_new is number = h.part t is number

  -- what has other uses
  counted_part : (n : MetaKey) (u : ℕ) (o : Option Kept) (t : Kept) → kept_of m s ≡ o → option_map (with_uses n u) o ≡ Some t → t.number ≡ x.number → IsPart t
  counted_part n u None t at is number = absurd (cc)
  counted_part n u (Some y) t at is number =
      let same : with_uses n u y ≡ t = cc in
      let was : y.number ≡ x.number = sym (set_same n u (λ (z : Kept). z.number) (λ z. refl) y) ∙ ap (λ (z : Kept). z.number) same ∙ number in
      same_region told c seen x.address y t x.bytes
      (sym (set_same n u (λ (z : Kept). z.place) (λ z. refl) y) ∙ ap (λ (z : Kept). z.place) same)
      (sym (set_same n u (λ (z : Kept). z.length) (λ z. refl) y) ∙ ap (λ (z : Kept). z.length) same)
      (h.part y at was)

  part_after : (e : HistoryEntry) → Goes s e → (t : Kept) → kept_after c m (kept_of m s) e ≡ Some t → t.number ≡ x.number → IsPart t
  part_after (entry.At n) goes t is number = h.part t is number
  part_after (entry.Started k n) goes t is number = h.part t is number
  part_after (entry.Cut k cover) goes t is number = spared_part (hits_of c cover m) t is number
  part_after (entry.Missed k) goes t is number = h.part t is number
  part_after (entry.Stored k n place length b uses) goes t is number =
      stored_part (same_meta n m) (record { number = k; meta = n; place = place; length = length; moment = b; uses = uses }) t goes.0 goes.1 goes.2 is number
  part_after (entry.Counted n u) goes t is number = counted_part n u (kept_of m s) t refl is number
  part_after (entry.Ended k) goes t is number = h.part t is number
  part_after (entry.Used n) goes t is number = h.part t is number
  part_after (entry.Dropped n) goes t is number = spared_part (same_meta n m) t is number

  pub tile_after : (e : HistoryEntry) → Goes s e → IsHotTile told c (after c s e) seen x
  tile_after e goes = record { given = given_after e; ended = ended_after e goes; part = λ t is number. part_after e goes t (sym (kept_step c m s e) ∙ is) number }

-- ENTRIES OF A CABINET

pub grown_hot : (s : State) (e : HistoryEntry) (blobs : Option (List KeptBlob)) → Goes (now s) e → StaysHot s (grown s e blobs)
grown_hot s e blobs goes told seen x h = subst (λ (n : CabinetStanding). IsHotTile told s.catalogue n seen x) (sym (now_more s e blobs)) (tile_after told s.catalogue (now s) seen x h e goes)

pub asked_hot : (s : State) (n : ℕ) → StaysHot s (asked_at n s)
asked_hot s n told seen x h = subst (λ (y : CabinetStanding). IsHotTile told s.catalogue y seen x) (sym (now_asked s n)) (tile_after told s.catalogue (now s) seen x h (entry.At n) tt)

pub hot_itself : (s : State) → StaysHot s s
hot_itself s told seen x h = h

pub hot_then : (s t u : State) → StaysHot s t → StaysHot t u → StaysHot s u
hot_then s t u first next told seen x h = next told seen x (first told seen x h)

pub hot_as : (s t u : State) → u ≡ t → StaysHot s t → StaysHot s u
hot_as s t u is stays = subst (StaysHot s) (sym is) stays

-- What is in the hot tier stays true at each command, and while the disk is read and written.
use Rattle.std.proofs.Common.{ℕ, ◌≡◌, ◌≢◌, ◌⊎◌, ◌+◌, ◌<◌, Bool, true, false, List, map, find, Contains, Some, None, Result, Ok, Err, OnErr, inl, inr, refl, sym, ap, subst, ◌∙◌, arith}
use Rattle.std.specs.Prelude.{IfOk}
use Rattle.std.specs.List.{AllByRecursion}
use Rattle.std.specs.Option.{option_map}
use Rattle.disk_model.specs.Content.{Content, bytes_at}
use Rattle.matrix_geometry.specs.declared.address.Address.{Address}
use Rattle.metatile_locks.specs.declared.render.Render.{Render}
use Rattle.metatile_locks.specs.Tickets.{Ticketed}
use Rattle.metatile_locks.proofs.Lists.{all_weaker, found}
use Rattle.metatile_plan.specs.declared.metatile.MetaKey.{MetaKey}
use Rattle.raster_field.specs.Blocks.{block_of}
use Rattle.truncation_list.specs.declared.cover.Cover.{Cover}
use Rattle.cabinet.specs.declared.entry.HistoryEntry.TheVariants as entry
use Rattle.cabinet.specs.declared.judged.Judged.TheVariants as judged
use Rattle.cabinet.specs.declared.kept.Kept.{Kept}
use Rattle.cabinet.specs.declared.kept.KeptBlob.{KeptBlob}
use Rattle.cabinet.specs.declared.replies.Forced.{Forced}
use Rattle.cabinet.specs.declared.replies.Forced.TheVariants as forced
use Rattle.cabinet.specs.Commands.{Abandons, Forces, IsForcedOf}
use Rattle.cabinet.specs.Fresh.{HoldsOfKept, cuts_of}
use Rattle.cabinet.specs.History.{is_of, kept_of, stored_entry, whole}
use Rattle.cabinet.specs.State.{IsKnown, State, asked_at, blobs_counted, blobs_spared, blobs_with, blobs_without, now, with_blob, with_counted, with_cut, with_dropped, with_entry}
use Rattle.cabinet.specs.Steps.{AsksKept, Judges}
use Rattle.cabinet.proofs.Holding.{holds_of}
use Rattle.cabinet.proofs.Lists.{all_contained, find_map}
use Rattle.cabinet.proofs.Numbers.{differ_is}
use Rattle.cabinet.proofs.Rows.{next_is}
use Rattle.durable_cabinet.specs.Filed.{on_disk}
use Rattle.durable_cabinet.specs.Hot.{HotTile, IsHot, IsHotTile, StaysHot, hot_tile}
use Rattle.durable_cabinet.specs.Images.{blob_on, blobs_start}
use Rattle.durable_cabinet.specs.Tiles.{IsTilePartOf}
use Rattle.durable_cabinet.proofs.Warming.{Goes, asked_hot, grown_hot, hot_as, hot_itself, hot_then}

-- ROWS

used_hot : (s : State) (n : ℕ) (m : MetaKey) → StaysHot s (with_entry (asked_at n s) (entry.Used m))
used_hot s n m = hot_then s (asked_at n s) (with_entry (asked_at n s) (entry.Used m)) (asked_hot s n) (grown_hot (asked_at n s) (entry.Used m) s.blobs tt)

forced_hot : (s u : State) (n : ℕ) (m : MetaKey) (r : Forced) → IsForcedOf (asked_at n s) m r u → StaysHot s u
forced_hot s u n m (forced.Busy k) f = hot_as s (asked_at n s) u f.1 (asked_hot s n)
forced_hot s u n m forced.Spent f = hot_as s (asked_at n s) u f.2 (asked_hot s n)
forced_hot s u n m (forced.Ticket t) f =
    let a = asked_at n s in
    let new = next_is a.opening (now a) t.number f.number in
    let goes : (now a).front < t.number = omega (arith, new.number) in
    hot_as s (with_entry a (entry.Started t.number m)) u f.state (hot_then s a (with_entry a (entry.Started t.number m)) (asked_hot s n) (grown_hot a (entry.Started t.number m) a.blobs goes))

pub hit_hot : (s u : State) (a : Address) → AsksKept s a None u → StaysHot s u
hit_hot s u a row = hot_as s (with_entry (asked_at u.clock.moment s) (entry.Used (block_of s.catalogue a))) u row.1 (used_hot s u.clock.moment (block_of s.catalogue a))

pub unhit_hot : (s u : State) (a : Address) (f : Forced) → AsksKept s a (Some f) u → StaysHot s u
unhit_hot s u a f row = forced_hot s u u.clock.moment (block_of s.catalogue a) f row.1

module _ {E : Type 0} (s u : State) where
  pub forces_hot : (m : MetaKey) (r : Result Forced E) → IfOk r (λ x. Forces s m x u) → OnErr r (u ≡ s) → StaysHot s u
  forces_hot m (Ok f) row same = forced_hot s u u.clock.moment m f row
  forces_hot m (Err fault) row same = hot_as s s u same (hot_itself s)

pub abandons_hot : (s u : State) (t : Ticketed) → Abandons s t u → StaysHot s u
abandons_hot s u t (inl a) = hot_as s s u a.1 (hot_itself s)
abandons_hot s u t (inr a) = hot_as s (with_entry s (entry.Ended t.number)) u a.1 (grown_hot s (entry.Ended t.number) s.blobs tt)

-- a render that fits runs under its number
fits_goes : (s : State) (t : Ticketed) (x : Kept) → Judges s t (judged.Fits x) → Goes (now s) (stored_entry x)
fits_goes s t x (n, runs, others, gap, is) = subst (λ (k : Kept). Goes (now s) (stored_entry k)) (sym is) (record { number = t.number; meta = t.meta; moment = n; mark = None }, runs, refl)

pub kept_hot : (s : State) (t : Ticketed) (x : Kept) (text : List ℕ) → Judges s t (judged.Fits x) → StaysHot s (with_blob s x text)
kept_hot s t x text fits = grown_hot s (stored_entry x) (option_map (blobs_with x text) s.blobs) (fits_goes s t x fits)

pub missed_hot : (s : State) (n : ℕ) → StaysHot s (with_entry s (entry.Missed n))
missed_hot s n = grown_hot s (entry.Missed n) s.blobs tt

pub cut_hot : (s : State) (n : ℕ) (cover : Cover) → StaysHot s (with_cut s n cover)
cut_hot s n cover = grown_hot s (entry.Cut n cover) (option_map (blobs_spared s.catalogue cover) s.blobs) tt

pub dropped_hot : (s : State) (m : MetaKey) → StaysHot s (with_dropped s m)
dropped_hot s m = grown_hot s (entry.Dropped m) (option_map (blobs_without m) s.blobs) tt

pub counted_hot : (s : State) (m : MetaKey) (u : ℕ) → StaysHot s (with_counted s m u)
counted_hot s m u = grown_hot s (entry.Counted m u) (option_map (blobs_counted m u) s.blobs) tt

-- THE DISK

-- what is kept reads alike on two contents that the cabinet has the same blobs on
same_read : (s : State) (old new : Content) (m : MetaKey) (t : Kept) → on_disk true new s ≡ on_disk true old s → kept_of m (now s) ≡ Some t → bytes_at new (blobs_start s.catalogue + t.place) t.length ≡ bytes_at old (blobs_start s.catalogue + t.place) t.length
same_read s old new m t same at =
    let c = s.catalogue in
    let ts = (now s).kept in
    let blobs : Some (map (blob_on c new) ts) ≡ Some (map (blob_on c old) ts) = ap (λ (x : State). x.blobs) same in
    let maps : map (blob_on c new) ts ≡ map (blob_on c old) ts = cc in
    let one : (seen : Content) → find (λ b. is_of m b.kept) (map (blob_on c seen) ts) ≡ Some (blob_on c seen t) = λ seen. find_map (blob_on c seen) (λ b. is_of m b.kept) ts ∙ ap (option_map (blob_on c seen)) at in
    let both : Some (blob_on c new t) ≡ Some (blob_on c old t) = sym (one new) ∙ ap (find (λ (b : KeptBlob). is_of m b.kept)) maps ∙ one old in
    let blob : blob_on c new t ≡ blob_on c old t = cc in
    ap (λ (b : KeptBlob). b.text) blob

pub part_seen : (told : Bool) (s : State) (old new : Content) (a : Address) (t : Kept) (bytes : List ℕ) → on_disk told new s ≡ on_disk told old s → kept_of (block_of s.catalogue a) (now s) ≡ Some t
    → IsTilePartOf told s.catalogue old a t bytes → IsTilePartOf told s.catalogue new a t bytes
part_seen true s old new a t bytes same at p = record { blob = p.blob; long = p.long; there = λ is. p.there is ∙ sym (same_read s old new (block_of s.catalogue a) t same at); part = p.part }
part_seen false s old new a t bytes same at p = record { blob = p.blob; long = p.long; there = λ is. absurd (cc); part = p.part }

-- THE TIER

module _ (told : Bool) (s : State) where
  pub hot_stays : (u : State) (seen : Content) (tier : List HotTile) → StaysHot s u → IsHot told s seen tier → IsHot told u seen tier
  hot_stays u seen tier stays hot = all_weaker (IsHotTile told s.catalogue (now s) seen) (IsHotTile told u.catalogue (now u) seen) (λ x h. stays told seen x h) tier hot

  pub hot_seen : (old new : Content) (tier : List HotTile) → on_disk told new s ≡ on_disk told old s → IsHot told s old tier → IsHot told s new tier
  hot_seen old new tier same hot = all_weaker (IsHotTile told s.catalogue (now s) old) (IsHotTile told s.catalogue (now s) new)
      (λ x h. record { given = h.given; ended = h.ended; part = λ t at number. part_seen told s old new x.address t x.bytes same at (h.part t at number) }) tier hot

  pub hot_among : (seen : Content) (old new : List HotTile) → AllByRecursion (Contains old) new → IsHot told s seen old → IsHot told s seen new
  hot_among seen old new among hot = all_weaker (Contains old) (IsHotTile told s.catalogue (now s) seen) (λ x has. all_contained (IsHotTile told s.catalogue (now s) seen) old x hot has) new among

  pub hot_put : (seen : Content) (old new : List HotTile) (y : HotTile) → AllByRecursion (λ x. Contains old x ⊎ (x ≡ y)) new → IsHotTile told s.catalogue (now s) seen y → IsHot told s seen old → IsHot told s seen new
  hot_put seen old new y among one hot = all_weaker (λ x. Contains old x ⊎ (x ≡ y)) (IsHotTile told s.catalogue (now s) seen) (λ x has. each x has) new among
    where
      each : (x : HotTile) → Contains old x ⊎ (x ≡ y) → IsHotTile told s.catalogue (now s) seen x
      each x (inl was) = all_contained (IsHotTile told s.catalogue (now s) seen) old x hot was
      each x (inr is) = subst (IsHotTile told s.catalogue (now s) seen) (sym is) one

  -- what the tier holds of what is kept is a part of it
  pub hot_part : (seen : Content) (tier : List HotTile) (a : Address) (t : Kept) (bytes : List ℕ) → IsHot told s seen tier → Contains tier (hot_tile a t.number bytes) → kept_of (block_of s.catalogue a) (now s) ≡ Some t
      → IsTilePartOf told s.catalogue seen a t bytes
  hot_part seen tier a t bytes hot has at = (all_contained (IsHotTile told s.catalogue (now s) seen) tier (hot_tile a t.number bytes) hot has).part t at refl

  -- a part of what is kept may be put
  pub part_hot : IsKnown s → (seen : Content) (a : Address) (t : Kept) (bytes : List ℕ) → kept_of (block_of s.catalogue a) (now s) ≡ Some t → IsTilePartOf told s.catalogue seen a t bytes
      → IsHotTile told s.catalogue (now s) seen (hot_tile a t.number bytes)
  part_hot known seen a t bytes at part =
      let c = s.catalogue in
      let m = block_of c a in
      let holds = holds_of c s.opening s.since known.possible in
      let apart = differ_is c s.opening s.since known.possible in
      record {
        given = (found (is_of m) (HoldsOfKept c (cuts_of (whole s.opening s.since)) (now s).front (now s).book.floor) (now s).kept t holds.kept at).1.given;
        ended = all_weaker (λ (r : Render). AllByRecursion (λ x. r.number ≢ x.number) (now s).kept) (λ r. r.number ≢ t.number)
            (λ r off. (found (is_of m) (λ (x : Kept). r.number ≢ x.number) (now s).kept t off at).1) (now s).out apart.both;
        part = λ u is number. subst (λ (x : Kept). IsTilePartOf told c seen a x bytes) (let same : t ≡ u = cc in same) part;
      }

-- after the file was written
pub hot_written : (told later : Bool) (s u : State) (old new : Content) (tier : List HotTile) → later ≡ told → on_disk told new s ≡ on_disk told old s → StaysHot s u → IsHot told s old tier → IsHot later u new tier
hot_written told later s u old new tier is same stays hot = subst (λ (b : Bool). IsHot b u new tier) (sym is) (hot_stays told s u new tier stays (hot_seen told s old new tier same hot))

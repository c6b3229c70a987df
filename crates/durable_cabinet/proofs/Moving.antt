-- How a cabinet on a disk moves as its core does, which sees other bytes in place of its blobs.
use Rattle.std.proofs.Common.{ℕ, ◌≡◌, ◌+◌, ◌≤◌, Bool, true, false, not, cond, IsTrue, List, [], ◌∷◌, ◌++◌, length, map, Option, Some, refl, sym, ap, subst, ◌∙◌, arith}
use Rattle.std.specs.Option.{option_map}
use Rattle.std.proofs.lemmas.List.{length-map, map-append}
use Rattle.disk_model.specs.Content.{Content, bytes_at}
use Rattle.catalog.specs.declared.catalogue.Catalogue.{Catalogue}
use Rattle.metatile_locks.proofs.Lists.{few}
use Rattle.metatile_plan.specs.declared.metatile.MetaKey.{MetaKey}
use Rattle.truncation_list.specs.declared.cover.Cover.{Cover}
use Rattle.cabinet.specs.declared.entry.HistoryEntry.{HistoryEntry}
use Rattle.cabinet.specs.declared.entry.HistoryEntry.TheVariants as entry
use Rattle.cabinet.specs.declared.kept.Kept.{Kept}
use Rattle.cabinet.specs.declared.kept.KeptBlob.{KeptBlob}
use Rattle.cabinet.specs.History.{CabinetStanding, after, but, is_of, spared, stored_entry, with_uses}
use Rattle.cabinet.specs.Hits.{hits_of}
use Rattle.cabinet.specs.State.{State, blobs_counted, blobs_spared, blobs_with, blobs_without, grown, now, with_blob, with_counted, with_cut, with_dropped, with_entry}
use Rattle.cabinet.proofs.Lists.{map_filter}
use Rattle.cabinet.proofs.Rows.{now_more}
use Rattle.durable_cabinet.specs.Drafts.{needed}
use Rattle.durable_cabinet.specs.Filed.{blobs_on, on_disk}
use Rattle.durable_cabinet.specs.Images.{blob_on, blobs_start}

-- what is kept after one more entry
pub kept_more : (s : State) (e : HistoryEntry) (blobs : Option (List KeptBlob)) → (now (grown s e blobs)).kept ≡ (after s.catalogue (now s) e).kept
kept_more s e blobs = ap (λ (n : CabinetStanding). n.kept) (now_more s e blobs)

-- one more entry, with the blobs that are then kept
pub moved : (told : Bool) (seen : Content) (s : State) (e : HistoryEntry) (b b' : Option (List KeptBlob)) → blobs_on told s.catalogue seen (after s.catalogue (now s) e).kept ≡ b' → on_disk told seen (grown s e b) ≡ grown (on_disk told seen s) e b'
moved told seen s e b b' same =
    ap (λ (x : Option (List KeptBlob)). record { catalogue = s.catalogue; opening = s.opening; history = s.history ++ e ∷ []; since = s.since ++ e ∷ []; blobs = x; clock = s.clock })
    (ap (blobs_on told s.catalogue seen) (kept_more s e b) ∙ same)

blobs_move : (told : Bool) (c : Catalogue) (seen : Content) (ks later : List Kept) (f : List KeptBlob → List KeptBlob) → (IsTrue told → map (blob_on c seen) later ≡ f (map (blob_on c seen) ks))
    → blobs_on told c seen later ≡ option_map f (blobs_on told c seen ks)
blobs_move true c seen ks later f same = ap (λ (x : List KeptBlob). Some x) (same refl)
blobs_move false c seen ks later f same = refl

-- an entry that keeps and drops nothing
pub entered_on : (told : Bool) (seen : Content) (s : State) (e : HistoryEntry) → (after s.catalogue (now s) e).kept ≡ (now s).kept → on_disk told seen (with_entry s e) ≡ with_entry (on_disk told seen s) e
entered_on told seen s e same = moved told seen s e s.blobs (blobs_on told s.catalogue seen (now s).kept) (ap (blobs_on told s.catalogue seen) same)

pub dropped_on : (told : Bool) (seen : Content) (s : State) (m : MetaKey) → on_disk told seen (with_dropped s m) ≡ with_dropped (on_disk told seen s) m
dropped_on told seen s m =
    let c = s.catalogue in
    moved told seen s (entry.Dropped m) (option_map (blobs_without m) s.blobs) (option_map (blobs_without m) (blobs_on told c seen (now s).kept))
    (blobs_move told c seen (now s).kept (but m (now s).kept) (blobs_without m) (λ is. map_filter (blob_on c seen) (λ b. not (is_of m b.kept)) (now s).kept))

pub cut_on : (told : Bool) (seen : Content) (s : State) (t : ℕ) (cover : Cover) → on_disk told seen (with_cut s t cover) ≡ with_cut (on_disk told seen s) t cover
cut_on told seen s t cover =
    let c = s.catalogue in
    moved told seen s (entry.Cut t cover) (option_map (blobs_spared c cover) s.blobs) (option_map (blobs_spared c cover) (blobs_on told c seen (now s).kept))
    (blobs_move told c seen (now s).kept (spared c cover (now s).kept) (blobs_spared c cover) (λ is. map_filter (blob_on c seen) (λ b. not (hits_of c cover b.kept.meta)) (now s).kept))

-- USES don't move a region

pub record IsThere (t x : Kept) : Type 0 where
  pub place : t.place ≡ x.place
  pub long : t.length ≡ x.length

there_as : (m : MetaKey) (u : ℕ) (t : Kept) (b : Bool) → IsThere t (cond b (record { number = t.number; meta = t.meta; place = t.place; length = t.length; moment = t.moment; uses = u }) t)
there_as m u t true = record { place = refl; long = refl }
there_as m u t false = record { place = refl; long = refl }

pub with_there : (m : MetaKey) (u : ℕ) (t : Kept) → IsThere t (with_uses m u t)
with_there m u t = there_as m u t (is_of m t)

counted_blob : (c : Catalogue) (seen : Content) (m : MetaKey) (u : ℕ) (t : Kept) → blob_on c seen (with_uses m u t) ≡ record { kept = with_uses m u t; text = (blob_on c seen t).text }
counted_blob c seen m u t =
    let w = with_there m u t in
    ap (λ (x : List ℕ). record { kept = with_uses m u t; text = x }) (sym (λ k. bytes_at seen (blobs_start c + w.place k) (w.long k)))

counted_blobs : (c : Catalogue) (seen : Content) (m : MetaKey) (u : ℕ) (ts : List Kept) → map (blob_on c seen) (map (with_uses m u) ts) ≡ blobs_counted m u (map (blob_on c seen) ts)
counted_blobs c seen m u [] = refl
counted_blobs c seen m u (t ∷ ts) = λ k. counted_blob c seen m u t k ∷ counted_blobs c seen m u ts k

pub counted_on : (told : Bool) (seen : Content) (s : State) (m : MetaKey) (u : ℕ) → on_disk told seen (with_counted s m u) ≡ with_counted (on_disk told seen s) m u
counted_on told seen s m u =
    let c = s.catalogue in
    moved told seen s (entry.Counted m u) (option_map (blobs_counted m u) s.blobs) (option_map (blobs_counted m u) (blobs_on told c seen (now s).kept))
    (blobs_move told c seen (now s).kept (map (with_uses m u) (now s).kept) (blobs_counted m u) (λ is. counted_blobs c seen m u (now s).kept))

-- A BLOB that is kept, and stands on the disk

pub blob_there : (told : Bool) (seen : Content) (s : State) (t : Kept) (away text : List ℕ) → (IsTrue told → bytes_at seen (blobs_start s.catalogue + t.place) t.length ≡ text)
    → on_disk told seen (with_blob s t away) ≡ with_blob (on_disk told seen s) t text
blob_there told seen s t away text there =
    let c = s.catalogue in
    let ks = (now s).kept in
    moved told seen s (stored_entry t) (option_map (blobs_with t away) s.blobs) (option_map (blobs_with t text) (blobs_on told c seen ks))
    (blobs_move told c seen ks (but t.meta ks ++ t ∷ []) (blobs_with t text) (λ is.
    map-append (blob_on c seen) (but t.meta ks) (t ∷ [])
    ∙ (λ k. map_filter (blob_on c seen) (λ b. not (is_of t.meta b.kept)) ks k ++ record { kept = t; text = there is k } ∷ [])))

-- THE ROOM that a compaction may come to need

pub needed_dropped : (s : State) (m : MetaKey) → needed (with_dropped s m) ≤ needed s
needed_dropped s m =
    let n = now_more s (entry.Dropped m) (option_map (blobs_without m) s.blobs) in
    subst (λ (x : CabinetStanding). 1 + length x.book.cuts + length x.kept + length x.out ≤ needed s) (sym n) (omega (arith, few (λ t. not (is_of m t)) (now s).kept))

pub needed_counted : (s : State) (m : MetaKey) (u : ℕ) → needed (with_counted s m u) ≤ needed s
needed_counted s m u =
    let n = now_more s (entry.Counted m u) (option_map (blobs_counted m u) s.blobs) in
    subst (λ (x : CabinetStanding). 1 + length x.book.cuts + length x.kept + length x.out ≤ needed s) (sym n) (omega (arith, length-map (now s).kept (with_uses m u)))

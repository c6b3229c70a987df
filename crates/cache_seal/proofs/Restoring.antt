-- What a replay comes to, sealed.
use Rattle.std.proofs.Common.{ℕ, ◌≡◌, ◌+◌, ◌≤◌, ◌^◌, Bool, IsTrue, List, [], ◌∷◌, length, Option, Result, Ok, Err, sym, subst, arith}
use Rattle.std.specs.Prelude.{IfOk}
use Rattle.std.specs.List.{AllByRecursion}
use Rattle.cabinet.specs.declared.kept.Kept.{Kept}
use Rattle.cabinet.specs.Fresh.{MayBeginWith}
use Rattle.cabinet.specs.Gaps.{AreDisjoint}
use Rattle.cabinet_records.specs.Replay.{Replayed, Replays, book_after, opening_after, unplayed}
use Rattle.catalog.specs.declared.catalogue.Catalogue.{Catalogue}
use Rattle.catalog.specs.Valid.{IsValid}
use Rattle.disk_model.specs.Content.{Content, Same}
use Rattle.disk_model.specs.Images.{ChangesBy, DiskState}
use Rattle.durable_cabinet.specs.Images.{blobs_start, slots_for}
use Rattle.durable_cabinet.specs.Openings.{IsReplayed}
use Rattle.gate_journal.specs.declared.journal.Journal.{Journal}
use Rattle.gate_journal.specs.Opened.{opened, records}
use Rattle.gate_journal.specs.Sound.{version_of}
use Rattle.raster_field.specs.Blocks.{IsMeta}
use Rattle.record_text.specs.declared.entries.Record.{Record}
use Rattle.truncation_list.specs.declared.book.Book.{Book}
use Rattle.cache_seal.specs.declared.counting.SealTally.{SealTally}
use Rattle.cache_seal.specs.declared.fault.SealFault.{SealFault}
use Rattle.cache_seal.specs.Ends.{IsKeptSo, IsSealed}
use Rattle.cache_seal.specs.Fates.{AddsUp, no_tally}
use Rattle.cache_seal.specs.OfCache.{kept_tiles}
use Rattle.cache_seal.specs.Seals.{HasSealed}
use Rattle.cache_seal.proofs.Together.{same_sealed}

all_less : {X : Type 0} (P Q : X → Type 0) → ((x : X) → P x → Q x) → (xs : List X) → AllByRecursion P xs → AllByRecursion Q xs
all_less P Q f [] h = tt
all_less P Q f (x ∷ xs) h = (f x h.0, all_less P Q f xs h.1)

-- what is restored is such as can be sealed
pub kept_so : (told : Bool) (c : Catalogue) (s : DiskState) (j : Journal) (opening : Option ℕ) (kept : List Kept) (book : Book) → IsValid c
    → ((c' : Catalogue) (entries : List (Option Record)) (r : Replayed) → IsValid c' → Replays c' unplayed entries r → length (book_after r).cuts ≤ c'.cut_limit → MayBeginWith c' (opening_after r))
    → IsReplayed told c s j opening kept book → IsKeptSo c kept
kept_so told c s j opening kept book valid law h =
    let r = h.restored in
    let begins = law c h.entries r.replayed valid r.replays r.few_cuts in
    let most = valid.blob_bytes_most in
    let limit = valid.kept_limit_most in
    let few = begins.few in
    record {
      metas = subst (λ (ts : List Kept). AllByRecursion (λ t. IsMeta c t.meta) ts) (sym r.kept_is) begins.metas;
      disjoint = subst AreDisjoint (sym r.kept_is) begins.regions.disjoint;
      within = subst (λ (ts : List Kept). AllByRecursion (λ t. t.place + t.length ≤ 2 ^ 60) ts) (sym r.kept_is)
          (all_less (λ (t : Kept). t.place + t.length ≤ c.blob_bytes) (λ (t : Kept). t.place + t.length ≤ 2 ^ 60) (λ t le. omega (arith, le, most)) r.replayed.kept begins.regions.within);
      few = subst (λ (ts : List Kept). length ts ≤ 1048576) (sym r.kept_is) (omega (arith, few, limit));
    }

-- what was sealed of it, said of the disk as it was before it
pub sealed_so : (told told' sums_told : Bool) (c : Catalogue) (grain : ℕ) (anew : Bool) (s s' : DiskState) (j : Journal) (opening : Option ℕ) (kept : List Kept) (book : Book) (old new : Content) (tally : SealTally) → (IsTrue told → IsTrue told')
    → (IsTrue told → ChangesBy Same s s') → IsReplayed told c s' j opening kept book → HasSealed told' sums_told grain anew s'.seen (kept_tiles (blobs_start c) c kept) old new no_tally tally
    → AddsUp tally → tally.tiles ≡ length (kept_tiles (blobs_start c) c kept) → IsSealed told sums_told c grain anew s.seen old new tally
sealed_so told told' sums_told c grain anew s s' j opening kept book old new tally same quiet h sealed sum many =
    let r = h.restored in
    record {
      replayed = r.replayed;
      opens = λ is. record {
        version = version_of j;
        bodies = h.bodies;
        entries = h.entries;
        opens = subst (λ (x : Content). opened c.digest (slots_for c) x ≡ records (version_of j) h.bodies) (quiet is).reads (h.opens is).0;
        are = h.are;
        replays = r.replays;
        few_cuts = r.few_cuts;
      };
      sealed = subst (λ (ts : List Kept). HasSealed told sums_told grain anew s.seen (kept_tiles (blobs_start c) c ts) old new no_tally tally) r.kept_is
          (same_sealed told sums_told told' sums_told grain anew s.seen s'.seen (kept_tiles (blobs_start c) c kept) old new no_tally tally same (λ y. y) (λ is. (quiet is).reads) sealed);
      tiles = subst (λ (ts : List Kept). tally.tiles ≡ length (kept_tiles (blobs_start c) c ts)) r.kept_is many;
      sum = sum;
    }

-- BY THE END

pub by_end : (r : Result SealTally SealFault) (P Q R T : SealTally → Type 0) → ((t : SealTally) → P t → Q t → R t → T t) → IfOk r P → IfOk r Q → IfOk r R → IfOk r T
by_end (Ok t) P Q R T f p q x = f t p q x
by_end (Err e) P Q R T f p q x = tt

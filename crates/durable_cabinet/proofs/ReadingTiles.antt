-- What a read of a blob leaves of the tie, and what it reads.
use Rattle.std.proofs.Common.{ℕ, ◌≡◌, ◌+◌, ◌-◌, ◌≤◌, Bool, true, false, IsTrue, List, ◌++◌, length, take, drop, replicate, Some, refl, sym, ap, subst, ◌∙◌, arith, length-append}
use Rattle.std.proofs.lemmas.List.{length-replicate}
use Rattle.std.proofs.Math.Seq.{drop-append_seam, take-append_seam}
use Rattle.disk_model.specs.Content.{bytes_at}
use Rattle.disk_model.specs.Images.{DiskState, Leaves}
use Rattle.disk_model.specs.Moments.{leaves_as}
use Rattle.disk_model.proofs.Reading.{length-bytes_at}
use Rattle.catalog.specs.declared.catalogue.Catalogue.{Catalogue}
use Rattle.gate_journal.specs.declared.journal.Journal.{Journal}
use Rattle.matrix_geometry.specs.declared.address.Address.{Address}
use Rattle.metatile_locks.proofs.Lists.{found}
use Rattle.metatile_plan.proofs.Same.{same_meta_is}
use Rattle.metatile_plan.specs.declared.span.Span.{Span}
use Rattle.raster_field.specs.Blocks.{blob_size, block_of, part_of, tile_part}
use Rattle.cabinet.specs.declared.kept.Kept.{Kept}
use Rattle.cabinet.specs.Fresh.{IsOfLength}
use Rattle.cabinet.specs.History.{is_of, kept_of}
use Rattle.cabinet.specs.State.{IsKnown, State, now}
use Rattle.cabinet.proofs.Disjoint.{regions_are}
use Rattle.cabinet.proofs.Limits.{lengths_are}
use Rattle.cache_file.specs.File.{Anywhere, HoldsBlob, Stays}
use Rattle.durable_cabinet.specs.Backing.{Rests}
use Rattle.durable_cabinet.specs.Filed.{IsFiled, IsHeldOn, on_disk}
use Rattle.durable_cabinet.specs.Images.{IsLeft, blobs_start}
use Rattle.durable_cabinet.specs.Tiles.{IsTilePartOf}
use Rattle.durable_cabinet.proofs.Blobs.{AreHeld, all_same, same_on}
use Rattle.durable_cabinet.proofs.Calling.{kept_stays, left_moment}
use Rattle.durable_cabinet.proofs.Tying.{anywhere, shown}

-- the region of what is kept of a tile's metatile
pub record IsRegion (c : Catalogue) (a : Address) (t : Kept) : Type 0 where
  pub within : t.place + t.length ≤ c.blob_bytes
  pub size : t.length ≡ blob_size c (block_of c a)

pub region_of : (s : State) → IsKnown s → (a : Address) (t : Kept) → kept_of (block_of s.catalogue a) (now s) ≡ Some t → IsRegion s.catalogue a t
region_of s known a t is =
    let c = s.catalogue in
    let m = block_of c a in
    let have = regions_are c s.opening s.since known.valid known.possible in
    let long = found (is_of m) (IsOfLength c) (now s).kept t (lengths_are c s.opening s.since known.possible) is in
    record {
      within = (found (is_of m) (λ (x : Kept). x.place + x.length ≤ c.blob_bytes) (now s).kept t have.within is).1;
      size = long.1 ∙ ap (blob_size c) (same_meta_is t.meta m long.0);
    }

-- A READ leaves the tie

module _ (told : Bool) (s : State) (known : IsKnown s) (start : ℕ) (j : Journal) (old : DiskState) (filed : IsFiled s told start j old) (new : DiskState) (stays : IsTrue told → Stays start Anywhere j old new)
    (reads : IsTrue told → new.may_leave new.seen) where
  call : IsTrue told → Stays (blobs_start s.catalogue) Anywhere j old new
  call is = subst (λ (n : ℕ). Stays n Anywhere j old new) filed.start_is (stays is)

  pub read_filed : (start' : ℕ) (j' : Journal) → start' ≡ start → j' ≡ j → IsFiled s told start' j' new
  read_filed start' j' same_start same_journal =
      subst (λ (n : ℕ). IsFiled s told n j' new) (sym same_start) (subst (λ (x : Journal). IsFiled s told start x new) (sym same_journal)
      (record {
        digest = filed.digest;
        slots = filed.slots;
        version = filed.version;
        start_is = filed.start_is;
        on = λ is. let k = filed.on is in kept_stays s known j old filed.digest filed.slots k Anywhere (anywhere (now s).kept) new (anywhere (now k.beside.beside).kept) (call is) (reads is);
      }))

  pub read_rests : Rests told s j old new
  read_rests = record {
    same = same_on told s old.seen new.seen (λ is. all_same s.catalogue old new Anywhere (call is).keeps (reads is) (now s).kept (anywhere (now s).kept) (filed.on is).holds);
    keeps = λ is. (call is).keeps;
    images = λ is. subst (λ (b : Bool). Leaves old new (IsLeft (on_disk b old.seen s) j old)) (sym is)
        (leaves_as old new _ (IsLeft (shown s old) j old) (call is).any_moment
        (left_moment s known j old filed.digest filed.slots (filed.on is) Anywhere (anywhere (now s).kept) (anywhere (now (filed.on is).beside.beside).kept)));
  }

-- WHAT IT READS

-- bytes stand at their place between others
between : (before len after : ℕ) (bytes : List ℕ) → length bytes ≡ len → take len (drop before (replicate before 0 ++ (bytes ++ replicate after 0))) ≡ bytes
between before len after bytes long =
    ap (take len) (subst (λ (n : ℕ). drop n (replicate before 0 ++ (bytes ++ replicate after 0)) ≡ bytes ++ replicate after 0) (length-replicate before 0) (drop-append_seam (replicate before 0) (bytes ++ replicate after 0)))
    ∙ subst (λ (n : ℕ). take n (bytes ++ replicate after 0) ≡ bytes) long (take-append_seam bytes (replicate after 0))

module _ (s : State) (known : IsKnown s) (a : Address) (t : Kept) (is : kept_of (block_of s.catalogue a) (now s) ≡ Some t) (span : Span)
    (part : (blob : List ℕ) → part_of span blob ≡ tile_part s.catalogue a blob) (inside : span.start + span.length ≤ blob_size s.catalogue (block_of s.catalogue a)) where
  abbrev Reads : ℕ → DiskState → List ℕ → Type 0
  Reads start disk bytes = (blob : List ℕ) → HoldsBlob start t.place blob disk → span.start + span.length ≤ length blob → bytes ≡ take span.length (drop span.start blob)

  pub read_part_of : (told : Bool) (start : ℕ) (disk : DiskState) (bytes : List ℕ) → start ≡ blobs_start s.catalogue → (IsTrue told → AreHeld s.catalogue disk (now s).kept) → length bytes ≡ span.length → (IsTrue told → Reads start disk bytes)
      → IsTilePartOf told s.catalogue disk.seen a t bytes
  read_part_of true start disk bytes same holds long reads =
      let c = s.catalogue in
      let blob = bytes_at disk.seen (blobs_start c + t.place) t.length in
      let size : length blob ≡ blob_size c (block_of c a) = length-bytes_at disk.seen (blobs_start c + t.place) t.length ∙ (region_of s known a t is).size in
      let held : HoldsBlob start t.place blob disk = subst (λ (n : ℕ). HoldsBlob n t.place blob disk) (sym same) (found (is_of (block_of c a)) (IsHeldOn c disk) (now s).kept t (holds refl) is).1 in
      record {
        blob = blob;
        long = size;
        there = λ u. refl;
        part = reads refl blob held (omega (arith, size, inside)) ∙ part blob;
      }
  read_part_of false start disk bytes same holds long reads =
      let size = blob_size s.catalogue (block_of s.catalogue a) in
      let after = size - (span.start + span.length) in
      let blob = replicate span.start 0 ++ (bytes ++ replicate after 0) in
      record {
        blob = blob;
        long = length-append (replicate span.start 0) (bytes ++ replicate after 0) ∙ omega (arith, length-append bytes (replicate after 0), length-replicate {A = ℕ} span.start 0, length-replicate {A = ℕ} after 0, long, inside);
        there = λ u. absurd (cc);
        part = sym (between span.start span.length after bytes long) ∙ part blob;
      }

-- What is seen of a disk whose records were replayed.
use Rattle.std.proofs.Common.{ℕ, ◌≡◌, ◌≤◌, Bool, IsTrue, List, length, Option, refl, sym, subst, inl, arith}
use Rattle.std.specs.List.{AllByRecursion}
use Rattle.cabinet.specs.declared.kept.Kept.{Kept}
use Rattle.cabinet.specs.Fresh.{MayBeginWith}
use Rattle.cabinet_records.specs.Replay.{Replayed, Replays, book_after, opening_after, unplayed}
use Rattle.catalog.specs.declared.catalogue.Catalogue.{Catalogue}
use Rattle.catalog.specs.Valid.{IsValid}
use Rattle.disk_model.specs.Content.{Content, Same}
use Rattle.disk_model.specs.Images.{ChangesBy, DiskState}
use Rattle.durable_cabinet.specs.Images.{slots_for}
use Rattle.durable_cabinet.specs.Openings.{IsReplayed}
use Rattle.gate_journal.specs.declared.journal.Journal.{Journal}
use Rattle.gate_journal.specs.Opened.{opened, records}
use Rattle.gate_journal.specs.Sound.{version_of}
use Rattle.record_text.specs.declared.entries.Record.{Record}
use Rattle.raster_field.specs.Blocks.{IsMeta}
use Rattle.truncation_list.specs.declared.book.Book.{Book}
use Rattle.look_words.specs.Looks.{HoldsSo}

-- what a replay came to, said of the disk as it was before it
pub holds_so : (told : Bool) (c : Catalogue) (old new : DiskState) (j : Journal) (opening : Option ℕ) (kept : List Kept) (book : Book) → IsValid c
    → ((c' : Catalogue) (entries : List (Option Record)) (r : Replayed) → IsValid c' → Replays c' unplayed entries r → length (book_after r).cuts ≤ c'.cut_limit → MayBeginWith c' (opening_after r))
    → (IsTrue told → ChangesBy Same old new) → IsReplayed told c new j opening kept book → HoldsSo told c old.seen opening kept book
holds_so told c old new j opening kept book valid law quiet h =
    let r = h.restored in
    let begins = law c h.entries r.replayed valid r.replays r.few_cuts in
    record {
      replayed = r.replayed;
      opening_is = r.opening_is;
      kept_is = r.kept_is;
      book_is = r.book_is;
      metas = subst (λ (ts : List Kept). AllByRecursion (λ t. IsMeta c t.meta) ts) (sym r.kept_is) begins.metas;
      few = subst (λ (ts : List Kept). length ts ≤ c.kept_limit) (sym r.kept_is) begins.few;
      opens = λ is. record {
        version = version_of j;
        bodies = h.bodies;
        entries = h.entries;
        opens = subst (λ (x : Content). opened c.digest (slots_for c) x ≡ records (version_of j) h.bodies) (quiet is).reads (h.opens is).0;
        are = h.are;
        replays = r.replays;
        few_cuts = r.few_cuts;
      };
    }

-- a disk that isn't touched is unchanged
pub untouched : (told : Bool) (s : DiskState) → IsTrue told → ChangesBy Same s s
untouched told s is = record {
  reads = refl;
  crash = λ c may. (c, may, refl);
  any_moment = record { later = omega arith; each = λ t c before since. inl since };
}

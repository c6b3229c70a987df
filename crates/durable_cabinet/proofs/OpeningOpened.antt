-- An opening, from the disk that was handed in.
use Rattle.std.proofs.Common.{ℕ, ◌≡◌, ◌+◌, ◌≤◌, Bool, IsTrue, List, [], ◌∷◌, length, Option, Result, Ok, Err, OnOk, refl, sym, ap, subst, ◌∙◌, arith}
use Rattle.std.specs.List.{AllByRecursion}
use Rattle.cabinet_records.specs.Replay.{AreRecordsOf, Replayed, Replays, unplayed}
use Rattle.catalog.specs.declared.catalogue.Catalogue.{Catalogue}
use Rattle.disk_model.specs.Content.{Content, Same}
use Rattle.disk_model.specs.Images.{ChangesBy, DiskState, Every, Only}
use Rattle.gate_journal.specs.Layout.{journal_length}
use Rattle.gate_journal.specs.Opened.{opened, records}
use Rattle.record_text.specs.declared.entries.Record.{Record}
use Rattle.durable_cabinet.specs.Images.{IsOurs, OpensTo, blobs_start, slots_for}
use Rattle.durable_cabinet.proofs.Once.{bodies_in}

-- AFTER A REPLAY, which only reads and syncs

module _ (told : Bool) (c : Catalogue) (old mid : DiskState) (quiet : IsTrue told → ChangesBy Same old mid) where
  pub ours_then : (IsTrue told → IsOurs c old.seen) → IsTrue told → IsOurs c mid.seen
  ours_then ours is = subst (IsOurs c) (sym (quiet is).reads) (ours is)

-- AFTER A MAKING

no_entries : (version : ℕ) (entries : List (Option Record)) → AreRecordsOf version [] entries → entries ≡ []
no_entries version [] are = refl
no_entries version (e ∷ es) are = absurd are

nothing_played : (c : Catalogue) (image : Content) (r : Replayed) → opened c.digest (slots_for c) image ≡ records 2 [] → OpensTo c image r → r ≡ unplayed
nothing_played c image r empty o =
    let none : o.bodies ≡ [] = by_bodies (sym o.opens ∙ empty) in
    subst (λ (es : List (Option Record)). Replays c unplayed es r) (no_entries o.version o.entries (subst (λ (bodies : List (List ℕ)). AreRecordsOf o.version bodies o.entries) none o.are)) o.replays
  where
    by_bodies : records o.version o.bodies ≡ records 2 [] → o.bodies ≡ []
    by_bodies e = ap bodies_in e

made_one : (c : Catalogue) (slots : ℕ) (seen image : Content) → slots ≡ slots_for c → image ≡ seen → length seen ≡ journal_length slots
    → opened c.digest slots image ≡ records 2 [] → OpensTo c image unplayed × IsOurs c image
made_one c slots seen image slots_is is long opens =
    let empty : opened c.digest (slots_for c) image ≡ records 2 [] = subst (λ (n : ℕ). opened c.digest n image ≡ records 2 []) slots_is opens in
    let end : length image ≡ blobs_start c = (λ k. length (is k)) ∙ (long ∙ ap journal_length slots_is) in (
      record { version = 2; bodies = []; entries = []; opens = empty; are = tt; replays = refl; few_cuts = omega arith },
      λ r o. (omega (arith, end), subst (λ (x : Replayed). AllByRecursion (λ t. blobs_start c + t.place + t.length ≤ length image) x.kept) (sym (nothing_played c image r empty o)) tt),
    )

pub made_ours : {T E : Type 0} (result : Result T E) (c : Catalogue) (slots : ℕ) (disk : DiskState) → slots ≡ slots_for c
    → OnOk result (Every disk.may_leave (λ image. opened c.digest slots image ≡ records 2 [])) → OnOk result (Only disk.seen disk.may_leave)
    → OnOk result (length disk.seen ≡ journal_length slots) → OnOk result (Every disk.may_leave (λ image. OpensTo c image unplayed × IsOurs c image))
made_ours (Ok v) c slots disk slots_is made only end = λ image is. made_one c slots disk.seen image slots_is (only image is) end (made image is)
made_ours (Err e) c slots disk slots_is made only end = tt

pub made_end : {T E : Type 0} (result : Result T E) (c : Catalogue) (slots : ℕ) (seen : Content) → slots ≡ slots_for c → OnOk result (length seen ≡ journal_length slots) → OnOk result (length seen ≡ blobs_start c)
made_end (Ok v) c slots seen is end = end ∙ ap journal_length is
made_end (Err e) c slots seen is end = tt

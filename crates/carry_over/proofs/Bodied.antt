-- The bodies of an opening, of cuts and of what is kept, one behind the other.
use Rattle.std.proofs.Common.{ℕ, ◌≡◌, List, [], ◌∷◌, ◌++◌, map, sym, ap, ◌∙◌}
use Rattle.std.specs.List.{AllByRecursion}
use Rattle.std.proofs.lemmas.List.{map-append}
use Rattle.cabinet.specs.declared.kept.Kept.{Kept}
use Rattle.cabinet_records.specs.Recorded.{compacted, stored_record}
use Rattle.durable_cabinet.specs.Drafts.{cut_record}
use Rattle.record_text.specs.declared.entries.Record.TheVariants as record_of
use Rattle.record_text.specs.Fits.{Fits}
use Rattle.record_text.specs.Spelling.{spelling}
use Rattle.truncation_list.specs.declared.book.Cut.{Cut}

pub all_bodies : (number floor : ℕ) (cuts : List Cut) (kept : List Kept) (one two three : List (List ℕ)) → one ≡ spelling (record_of.Opened number floor) ∷ [] → two ≡ one ++ map spelling (map cut_record cuts)
    → three ≡ two ++ map spelling (map stored_record kept) → three ≡ map spelling (compacted number (record { cuts = cuts; floor = floor }) kept)
all_bodies number floor cuts kept one two three first with_cuts with_kept =
    with_kept ∙ (ap (λ (l : List (List ℕ)). l ++ map spelling (map stored_record kept)) (with_cuts ∙ ap (λ (l : List (List ℕ)). l ++ map spelling (map cut_record cuts)) first)
    ∙ ap (λ (l : List (List ℕ)). spelling (record_of.Opened number floor) ∷ l) (sym (map-append spelling (map cut_record cuts) (map stored_record kept))))

all_of_both : {X : Type 0} (P : X → Type 0) (xs ys : List X) → AllByRecursion P xs → AllByRecursion P ys → AllByRecursion P (xs ++ ys)
all_of_both P [] ys a b = b
all_of_both P (x ∷ xs) ys a b = (a.0, all_of_both P xs ys a.1 b)

pub all_fit : (number floor : ℕ) (cuts : List Cut) (kept : List Kept) → Fits (record_of.Opened number floor) → AllByRecursion Fits (map cut_record cuts) → AllByRecursion Fits (map stored_record kept)
    → AllByRecursion Fits (compacted number (record { cuts = cuts; floor = floor }) kept)
all_fit number floor cuts kept opened listed stored = (opened, all_of_both Fits (map cut_record cuts) (map stored_record kept) listed stored)

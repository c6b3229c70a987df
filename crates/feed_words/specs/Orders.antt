-- The change that a line of a feed orders.
use Rattle.std.specs.Prelude.{ℕ, ◌≡◌, ◌+◌, ◌==◌, ◌&&◌, not, nat_le, nat_lt, if◌then◌else◌, List, length, take, drop, slice_index, Option, Some, None, Result, Ok, Err, ⊤}
use Rattle.std.specs.Str.Parse.{digits_value}
use Rattle.catalog.specs.declared.catalogue.Catalogue.{Catalogue}
use Rattle.change_feed.specs.declared.change.Change.{Change}
use Rattle.job_forms.specs.Cover.{cover_of}
use Rattle.job_forms.specs.Outcome.{Outcome}
use Rattle.schedule_text.specs.declared.line.TheConstants.{LINE_LIMIT}
use Rattle.schedule_text.specs.Line.{digits_len}
use Rattle.truncation_list.specs.declared.cover.Cover.{Cover}
use Rattle.wmts_kvp.specs.Rows.{is_number}
use Rattle.feed_words.specs.declared.orders.UnreadChange.{UnreadChange}
use Rattle.feed_words.specs.declared.orders.UnreadChange.TheVariants as unread

-- the number of 1 to 18 digits, of which the first is not 0 (48 in ASCII)
abbrev pub number_in : List ℕ → Option ℕ
number_in digits = if nat_le (length digits) 18 && is_number digits && not (slice_index digits 0 == 48) then Some (digits_value 10 digits) else None

-- the change of this number and of the cover that was read; none where the cover was refused
abbrev pub with_cover : ℕ → Outcome Cover → Option Change
with_cover number (Ok cover) = Some (record { number = number; cover = cover })
with_cover number (Err fault) = None

-- the change of the number, where there is one, and of the cover that the text is
abbrev pub with_number : Catalogue → List ℕ → Option ℕ → Option Change
with_number c text None = None
with_number c text (Some number) = with_cover number (cover_of c text)

-- The number, one blank (32 in ASCII) and the cover, in no more bytes than a line of a schedule may have; none where a line isn't of
-- this form, or its cover is refused.
unfoldable pub change_in : Catalogue → List ℕ → Option Change
change_in c line =
    if nat_lt LINE_LIMIT (length line) then None
    else if slice_index line (digits_len line) == 32 then with_number c (drop (digits_len line + 1) line) (number_in (take (digits_len line) line))
    else None

-- what a reading gave is that, unless memory ran out
abbrev pub IsReadAs : Option Change → Result Change UnreadChange → Type 0
IsReadAs order (Ok change) = order ≡ Some change
IsReadAs order (Err unread.Refused) = order ≡ None
IsReadAs order (Err unread.OutOfMemory) = ⊤

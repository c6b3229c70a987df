-- The order that a line gives.
use Rattle.std.specs.Prelude.{ℕ, ◌≡◌, ◌==◌, ◌&&◌, nat_eq, nat_le, nat_lt, if◌then◌else◌, List, length, drop, Option, Some, None, Result, Ok, Err, codes, ⊤}
use Rattle.std.specs.List.{list_any, starts_with}
use Rattle.std.specs.Str.{bytes_eq}
use Rattle.std.specs.Str.Parse.{digits_value}
use Rattle.catalog.specs.declared.catalogue.Catalogue.{Catalogue}
use Rattle.catalog.specs.LookUp.{IsTile}
use Rattle.job_forms.specs.Cover.{cover_of}
use Rattle.job_forms.specs.Outcome.{Outcome}
use Rattle.schedule_text.specs.declared.line.TheConstants.{LINE_LIMIT}
use Rattle.served_covers.specs.OfCatalogue.{IsCoverOf}
use Rattle.truncation_list.specs.declared.cover.Cover.{Cover}
use Rattle.wmts_kvp.specs.declared.query.Query.{Query}
use Rattle.wmts_kvp.specs.declared.query.Query.TheVariants as query
use Rattle.wmts_kvp.specs.Reading.{query_reading}
use Rattle.wmts_kvp.specs.Rows.{is_number}
use Rattle.twin_lines.specs.declared.order.TwinOrder.{TwinOrder}
use Rattle.twin_lines.specs.declared.order.TwinOrder.TheVariants as order
use Rattle.twin_lines.specs.declared.order.LinkSide.TheVariants as side
use Rattle.twin_lines.specs.declared.orders.UnreadTwinOrder.{UnreadTwinOrder}
use Rattle.twin_lines.specs.declared.orders.UnreadTwinOrder.TheVariants as unread

-- the post of the cover that was read; none where the cover was refused
abbrev pub post_of : Outcome Cover → Option TwinOrder
post_of (Ok cover) = Some (order.Post cover)
post_of (Err fault) = None

-- the packet at the place that 1 to 18 digits name is carried
abbrev pub carry_of : List ℕ → Option TwinOrder
carry_of digits = if nat_le (length digits) 18 && is_number digits then Some (order.Carry (digits_value 10 digits)) else None

-- the tile is asked for that a query was read as; none where it is anything else
abbrev pub tile_of : Query → Option TwinOrder
tile_of (query.Tile address) = Some (order.Get address)
tile_of query.Capabilities = None
tile_of (query.Refused code locator) = None

-- a query has no blank (32 in ASCII)
abbrev pub get_in : Catalogue → List ℕ → Option TwinOrder
get_in c text = if list_any (λ b. b == 32) text then None else tile_of (query_reading c text)

-- The verb, and one blank before what it takes, in no more bytes than a line of a schedule may have; none where a line isn't of one of
-- these forms.
unfoldable pub order_in : Catalogue → List ℕ → Option TwinOrder
order_in c line =
    if nat_lt LINE_LIMIT (length line) then None else
    (if starts_with nat_eq line (codes "POST ") then post_of (cover_of c (drop 5 line)) else
    (if bytes_eq line (codes "SEND") then Some order.Send else
    (if starts_with nat_eq line (codes "CARRY ") then carry_of (drop 6 line) else
    (if bytes_eq line (codes "STOP L") then Some (order.Stop side.Leader) else
    (if bytes_eq line (codes "STOP F") then Some (order.Stop side.Follower) else
    (if starts_with nat_eq line (codes "GET /wmts?") then get_in c (drop 10 line) else
    None))))))

-- a cover and a tile that are ordered are of the catalogue
abbrev pub IsOrderOf : Catalogue → TwinOrder → Type 0
IsOrderOf c (order.Post cover) = IsCoverOf c cover
IsOrderOf c order.Send = ⊤
IsOrderOf c (order.Carry place) = ⊤
IsOrderOf c (order.Stop which) = ⊤
IsOrderOf c (order.Get address) = IsTile c address

-- what a reading gave is that, unless memory ran out
abbrev pub IsReadAs : Option TwinOrder → Result TwinOrder UnreadTwinOrder → Type 0
IsReadAs read (Ok given) = read ≡ Some given
IsReadAs read (Err unread.Refused) = read ≡ None
IsReadAs read (Err unread.OutOfMemory) = ⊤

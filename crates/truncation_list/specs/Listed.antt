-- What a list of cuts is seen as.
use Rattle.std.specs.Prelude.{ℕ, ◌≡◌, ◌<◌, ◌≤◌, ◌&&◌, Bool, nat_le, false, List, [], ◌∷◌, IsTrue, if◌then◌else◌, Option, Some, None}
use Rattle.std.specs.List.{All, Any, list_any}
use Rattle.matrix_geometry.specs.declared.address.Address.{Address}
use Rattle.matrix_geometry.specs.declared.matrix.Matrix.{Matrix}
use Rattle.truncation_list.specs.declared.book.Book.{Book}
use Rattle.truncation_list.specs.declared.book.Cut.{Cut}
use Rattle.truncation_list.specs.declared.cover.Cover.{Cover}
use Rattle.truncation_list.specs.declared.block.Block.{Block}
use Rattle.truncation_list.specs.Covers.{covers, hits}
use Rattle.truncation_list.specs.declared.index.Shelf.{Shelf}
use Rattle.truncation_list.specs.Index.{HasRoom}
use Rattle.truncation_list.specs.Purge.{is_outdone}

-- for how many more cuts there are slots, and memory in their order, and the shelves with their lists
pub record Room : Type 0 where
  pub slots : ℕ
  pub by_number : ℕ
  pub shelves : List Shelf

-- a cut of this cover can be listed with no memory taken
abbrev pub HasRoomFor : Room → Cover → Type 0
HasRoomFor room cover = (0 < room.slots) × (0 < room.by_number) × HasRoom room.shelves cover

-- cuts by number in their lists
pub record Indexed : Type 0 where
  pub cuts : List Cut
  pub room : Room

-- the whole list: its book, and the room for more cuts
pub record Listed : Type 0 where
  pub book : Book
  pub room : Room

-- a cut of this cover can be added with no memory taken
abbrev pub IsReady : Listed → Cover → Type 0
IsReady listed cover = HasRoomFor listed.room cover

-- no cut lies within a later one, so that the next purge needs no test of pairs
abbrev pub IsSettled : List Cut → Type 0
IsSettled [] = Unit {0}
IsSettled (cut ∷ later) = (is_outdone later cut ≡ false) × IsSettled later

-- the cuts that do not lie within a later one
abbrev pub outermost : List Cut → List Cut
outermost [] = []
outermost (cut ∷ later) = if is_outdone later cut then outermost later else cut ∷ outermost later

-- the greatest number of a cut that covers the tile, none where no cut does
abbrev pub IsLastCovering : List Cut → Matrix → Address → Option ℕ → Type 0
IsLastCovering cuts m a None = All (λ cut. covers cut.cover m a ≡ false) cuts
IsLastCovering cuts m a (Some number) =
    Any (λ cut. (cut.number ≡ number) × IsTrue (covers cut.cover m a)) cuts × All (λ cut. IsTrue (covers cut.cover m a) → cut.number ≤ number) cuts

-- a cut of this number or a greater one hits the block
abbrev pub is_hit_since : List Cut → Matrix → Block → ℕ → Bool
is_hit_since cuts m block number = list_any (λ cut. nat_le number cut.number && hits cut.cover m block) cuts

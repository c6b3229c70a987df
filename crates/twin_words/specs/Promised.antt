-- What a twin promises of the lossy link that its files stand for.
use Rattle.std.specs.Prelude.{ℕ, ◌≡◌, ◌<◌, IsTrue, List, [], ◌∷◌, slice_get, Some, ⊤}
use Rattle.cabinet.specs.Hits.{covers_in}
use Rattle.catalog.specs.declared.catalogue.Catalogue.{Catalogue}
use Rattle.cut_follower.specs.InStep.{IsInStep}
use Rattle.cut_follower.specs.Lossy.{LinkEvent, Lossy, Passes, cabinet_opened, marks_opened, outbox_opened, with_sent}
use Rattle.disk_model.specs.Content.{Content}
use Rattle.opened_cache.specs.Change.{DiskChange}
use Rattle.truncation_list.specs.declared.book.Cut.{Cut}
use Rattle.twin_events.specs.declared.got.Got.{Got}
use Rattle.twin_events.specs.declared.got.Got.TheVariants as got
use Rattle.twin_events.specs.Twins.{IsAt}
use Rattle.twin_lines.specs.Steps.{TwinAnswer, TwinMoment, TwinStep, answered, carried, posted, sent, stopped}
use Rattle.matrix_geometry.specs.declared.address.Address.{Address}
use Rattle.twin_words.specs.Opens.{IsPairOn}

-- the link behind a stop of both sides at once, of which no packet is left
abbrev pub without_packets : Lossy → Lossy
without_packets l = with_sent l []

-- a tile has a number above each cut that was applied and covers it
abbrev pub IsTileAbove : Lossy → Address → Got → Type 0
IsTileAbove l address (got.Tile tile) = (i : ℕ) (cut : Cut) → slice_get l.applied i ≡ Some cut → IsTrue (covers_in l.stores.cabinet.catalogue cut.cover address) → cut.number < tile.number
IsTileAbove l address got.SourceFault = ⊤
IsTileAbove l address got.Spent = ⊤

-- so it is of an answer that has a tile
abbrev pub IsAboveCuts : Lossy → TwinAnswer → Type 0
IsAboveCuts l (posted cover reply) = ⊤
IsAboveCuts l (sent place) = ⊤
IsAboveCuts l (carried place arrival) = ⊤
IsAboveCuts l (stopped which) = ⊤
IsAboveCuts l (answered address reply) = IsTileAbove l address reply

-- events led from a link to one that stands as the step left the twin; where the first is in step, so is the second, and a tile is above
-- the cuts that were applied
pub record IsKept (l : Lossy) (step : TwinStep) (m : Lossy) : Type 0 where
  pub events : List LinkEvent
  pub passes : Passes l events m
  pub stands : IsAt step.after.stands m
  pub in_step : IsInStep l → IsInStep m
  pub above : IsInStep l → IsAboveCuts l step.answer

-- so it is of each step
abbrev pub AreKept : Lossy → List TwinStep → Lossy → Type 0
AreKept l [] m = m ≡ l
AreKept l (step ∷ steps) m = (next : Lossy) × IsKept l step next × AreKept next steps m

-- The files of a link were opened, the steps kept to it, and what a crash leaves of the files at the end is what it may leave of the link
-- then. Where the link is in step at first, it is behind the openings, behind each step, and at the end.
pub record KeepsPromise (c : Catalogue) (d m o : DiskChange) (l : Lossy) (first : TwinMoment) (steps : List TwinStep) (last : TwinMoment) : Type 0 where
  pub begins : Lossy
  pub opens : Passes (without_packets l) (cabinet_opened ∷ marks_opened ∷ outbox_opened ∷ []) begins
  pub begins_at : IsAt first.stands begins
  pub begins_in_step : IsInStep l → IsInStep begins
  pub through : Lossy
  pub steps_kept : AreKept begins steps through
  -- what happened in a line at which memory ran out
  pub more : List LinkEvent
  pub after : Lossy
  pub passes : Passes through more after
  pub ends_at : IsAt last.stands after
  pub ends_in_step : IsInStep through → IsInStep after
  pub files : (x y z : Content) → d.to.may_leave x → m.to.may_leave y → o.to.may_leave z → IsPairOn c after x y z

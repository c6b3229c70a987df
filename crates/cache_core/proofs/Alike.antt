-- What the finish of a render adds to the history goes by the length of its blob alone.
use Rattle.std.proofs.Common.{◌≡◌, ℕ, Bool, true, false, List, [], ◌∷◌, ◌++◌, length, Option, Some, None, refl, sym, ap, ◌∙◌}
use Rattle.std.specs.Prelude.{nat_le}
use Rattle.std.proofs.lemmas.List.FromFn.{length-map-range_with_len}
use Rattle.cabinet.specs.Commands.{kept_at, others, place_for}
use Rattle.cabinet.specs.History.{stored_entry}
use Rattle.cabinet.specs.State.{State, now}
use Rattle.catalog.specs.declared.catalogue.Catalogue.{Catalogue}
use Rattle.metatile_locks.specs.declared.render.Render.{Render}
use Rattle.metatile_locks.specs.Running.{render_of}
use Rattle.metatile_locks.specs.Tickets.{Ticketed}
use Rattle.metatile_plan.specs.declared.metatile.MetaKey.{MetaKey}
use Rattle.raster_field.specs.Blocks.{blob_size}
use Rattle.cache_core.specs.Steps.{blob_of, ended, finished, stored, unless_overtaken, with_room}

pub blob_long : (c : Catalogue) (m : MetaKey) (bytes : ℕ → ℕ) → length (blob_of c m bytes) ≡ blob_size c m
blob_long c m bytes = length-map-range_with_len bytes 0 (blob_size c m)

module _ (s : State) (t : Ticketed) (xs ys : List ℕ) (e : length xs ≡ length ys) where
  stored_alike : (n : ℕ) (p : Option ℕ) (unwritten : Bool) → (stored s t n xs p unwritten).history ≡ (stored s t n ys p unwritten).history
  stored_alike n None unwritten = refl
  stored_alike n (Some place) true = refl
  stored_alike n (Some place) false = ap (λ (l : ℕ). s.history ++ stored_entry (kept_at t n place l) ∷ []) e

  room_alike : (n : ℕ) (unwritten full : Bool) → (with_room s t n xs unwritten full).history ≡ (with_room s t n ys unwritten full).history
  room_alike n unwritten true = refl
  room_alike n unwritten false = stored_alike n (place_for s (length xs)) unwritten ∙ ap (λ (l : ℕ). (stored s t n ys (place_for s l) unwritten).history) e

  marked_alike : (n : ℕ) (unwritten : Bool) (mark : Option ℕ) → (unless_overtaken s t n xs unwritten mark).history ≡ (unless_overtaken s t n ys unwritten mark).history
  marked_alike n unwritten (Some cut) = refl
  marked_alike n unwritten None = room_alike n unwritten (nat_le s.catalogue.kept_limit (others s t.meta))

  ended_alike : (unwritten : Bool) (r : Option Render) → (ended s t xs unwritten r).history ≡ (ended s t ys unwritten r).history
  ended_alike unwritten None = refl
  ended_alike unwritten (Some r) = marked_alike r.moment unwritten r.mark

pub finished_alike : (s : State) (t : Ticketed) (bytes others : ℕ → ℕ) (unwritten : Bool)
    → (finished s t (blob_of s.catalogue t.meta bytes) unwritten).history ≡ (finished s t (blob_of s.catalogue t.meta others) unwritten).history
finished_alike s t bytes others unwritten =
    let same = blob_long s.catalogue t.meta bytes ∙ sym (blob_long s.catalogue t.meta others) in
    ended_alike s t (blob_of s.catalogue t.meta bytes) (blob_of s.catalogue t.meta others) same unwritten (render_of t (now s).out)

-- What an answer leaves of the cabinet and of the source's count.
use Rattle.std.proofs.Common.{◌≡◌, ℕ, ◌^◌, ◌-◌, ◌≤◌, suc, List, [], ◌∷◌, length, Option, Some, Result, Ok, Err, refl, sym, subst, ap, ◌∙◌, arith, inl, inr}
use Rattle.std.specs.Prelude.{IfErr, IfOk, OnErr}
use Rattle.cabinet.proofs.Rows.{now_more}
use Rattle.cabinet.proofs.Sounds.{cuts_sound}
use Rattle.cabinet.specs.Commands.{Cuts}
use Rattle.cabinet.specs.declared.entry.HistoryEntry.TheVariants as entry
use Rattle.cabinet.specs.declared.replies.CutReply.{CutReply}
use Rattle.cabinet.specs.declared.replies.CutReply.TheVariants as cut
use Rattle.cabinet.specs.Hits.{hits_of}
use Rattle.cabinet.specs.State.{State, with_cut}
use Rattle.cache_core.specs.declared.outcome.Tile.{Tile}
use Rattle.cache_core.specs.declared.outcome.TileOutcome.{TileOutcome}
use Rattle.cache_core.specs.declared.outcome.TileOutcome.TheVariants as core
use Rattle.catalog.specs.declared.catalogue.Catalogue.{Catalogue}
use Rattle.base.specs.Causes.{Rose}
use Rattle.composite_layers.specs.Composes.{Composes, HasStopped, Stops, fault_of}
use Rattle.composite_layers.specs.Parts.{AreGot, CompositionMoment, IsPartGot, moment, numbers_of, place_of}
use Rattle.http_wire.proofs.TakesOn.{rose_before}
use Rattle.layer_recipes.specs.declared.composed.Composed.{Composed}
use Rattle.layer_recipes.specs.declared.composed.ComposeFault.{ComposeFault}
use Rattle.layer_recipes.specs.declared.composed.ComposeFault.TheVariants as fault
use Rattle.layer_recipes.specs.declared.place.TilePlace.{TilePlace}
use Rattle.layer_recipes.specs.declared.recipe.Part.{Part}
use Rattle.matrix_geometry.specs.declared.address.Address.{Address}
use Rattle.metatile_locks.specs.Running.{overtaken}
use Rattle.tile_service.specs.Session.{IsAtRest}
use Rattle.truncation_list.specs.declared.cover.Cover.{Cover}
use Rattle.compose_words.specs.OneLine.{MomentGoesOn}

-- CHAINS

goes_nowhere : (told : Option ℕ) (m : CompositionMoment) → IsAtRest m.cabinet → MomentGoesOn told m m
goes_nowhere told m rest = record { later = omega arith; same_catalogue = refl; rests = rest; sound = λ tells sound. sound }

pub goes_then : (told : Option ℕ) (m k n : CompositionMoment) → MomentGoesOn told m k → MomentGoesOn told k n → MomentGoesOn told m n
goes_then told m k n f g = record {
  later = let a = f.later in let b = g.later in omega (arith, a, b);
  same_catalogue = g.same_catalogue ∙ f.same_catalogue;
  rests = g.rests;
  sound = λ tells sound. g.sound (tells ∙ sym (ap (λ (c : Catalogue). Some c.source) f.same_catalogue)) (f.sound tells sound);
}

-- A COMPOSITE

got_goes : (told : Option ℕ) (m n : CompositionMoment) (a : Address) (ended : TileOutcome) → IsPartGot told m a ended n → MomentGoesOn told m n
got_goes told m n a ended got = record { later = got.later; same_catalogue = got.catalogue; rests = got.rests; sound = got.sound }

are_got_goes : (told : Option ℕ) (place : TilePlace) (m : CompositionMoment) (ps : List Part) (tiles : List Tile) (n : CompositionMoment) → AreGot told place m ps tiles n → IsAtRest m.cabinet → MomentGoesOn told m n
are_got_goes told place m [] [] n got rest = subst (λ (x : CompositionMoment). MomentGoesOn told m x) (sym got) (goes_nowhere told m rest)
are_got_goes told place m [] (t ∷ ts) n got rest = absurd got
are_got_goes told place m (p ∷ ps) [] n got rest = absurd got
are_got_goes told place m (p ∷ ps) (t ∷ ts) n got rest = goes_then told m got.0 n (got_goes told m got.0 _ (core.Tile t) got.1) (are_got_goes told place got.0 ps ts n got.2 got.1.rests)

stops_goes : (told : Option ℕ) (place : TilePlace) (m : CompositionMoment) (part : Part) (stop : ComposeFault) (n : CompositionMoment) → Stops told place m part stop n → MomentGoesOn told m n
stops_goes told place m part stop n (inl s) = got_goes told m n _ s.0 s.1
stops_goes told place m part stop n (inr s) = got_goes told m n _ (core.Tile s.0) s.1

stopped_goes : (told : Option ℕ) (place : TilePlace) (m : CompositionMoment) (ps : List Part) (stop : ComposeFault) (n : CompositionMoment) → HasStopped told place m ps stop n → IsAtRest m.cabinet → MomentGoesOn told m n
stopped_goes told place m ps stop n h rest = goes_then told m h.mid n (are_got_goes told place m h.above h.tiles h.mid h.got rest) (stops_goes told place h.mid h.part stop n h.stops)

pub composes_goes : (told : Option ℕ) (place : TilePlace) (m : CompositionMoment) (ps : List Part) (r : Result Composed ComposeFault) (n : CompositionMoment) → Composes told place m ps r n → IsAtRest m.cabinet → MomentGoesOn told m n
composes_goes told place m ps (Ok composed) n h rest = are_got_goes told place m ps h.tiles n h.got rest
composes_goes told place m ps (Err stop) n (inl h) rest = stopped_goes told place m ps stop n h rest
composes_goes told place m ps (Err stop) n (inr h) rest = subst (λ (x : CompositionMoment). MomentGoesOn told m x) (sym h.1) (goes_nowhere told m rest)

-- A FAULT OF THE SOURCE

outcome_rose : (m n : CompositionMoment) (ended : TileOutcome) → fault_of ended ≡ Some fault.SourceFault → (ended ≡ core.SourceFailed → Rose m.renders n.renders) → Rose m.renders n.renders
outcome_rose m n (core.Tile t) is failed = absurd (cc)
outcome_rose m n core.SourceFailed is failed = failed refl
outcome_rose m n core.Spent is failed = absurd (cc)
outcome_rose m n core.NoMemory is failed = absurd (cc)

stops_rose : (told : Option ℕ) (place : TilePlace) (m : CompositionMoment) (part : Part) (n : CompositionMoment) → Stops told place m part fault.SourceFault n → Rose m.renders n.renders
stops_rose told place m part n (inl s) = outcome_rose m n s.0 s.2 s.1.failed
stops_rose told place m part n (inr s) = absurd (let e = s.2 in cc)

stopped_rose : (told : Option ℕ) (place : TilePlace) (m : CompositionMoment) (ps : List Part) (n : CompositionMoment) → HasStopped told place m ps fault.SourceFault n → IsAtRest m.cabinet → Rose m.renders n.renders
stopped_rose told place m ps n h rest =
    rose_before (2 ^ 64 - 1) m.renders h.mid.renders n.renders (are_got_goes told place m h.above h.tiles h.mid h.got rest).later (stops_rose told place h.mid h.part n h.stops)

-- NUMBERS

-- a tile has a number for each part
got_count : (told : Option ℕ) (place : TilePlace) (m : CompositionMoment) (ps : List Part) (tiles : List Tile) (n : CompositionMoment) → AreGot told place m ps tiles n → length (numbers_of tiles) ≡ length ps
got_count told place m [] [] n got = refl
got_count told place m [] (t ∷ ts) n got = absurd got
got_count told place m (p ∷ ps) [] n got = absurd got
got_count told place m (p ∷ ps) (t ∷ ts) n got = ap suc (got_count told place got.0 ps ts n got.2)

pub composes_few : (told : Option ℕ) (place : TilePlace) (m : CompositionMoment) (ps : List Part) (r : Result Composed ComposeFault) (n : CompositionMoment) → Composes told place m ps r n → length ps ≤ 8 → IfOk r (λ composed. length composed.numbers.items ≤ 8)
composes_few told place m ps (Ok composed) n h few = let count = ap length h.numbered ∙ got_count told place m ps h.tiles n h.got in omega (arith, count, few)
composes_few told place m ps (Err stop) n h few = tt

pub composes_rose : (told : Option ℕ) (place : TilePlace) (m : CompositionMoment) (ps : List Part) (r : Result Composed ComposeFault) (n : CompositionMoment) → Composes told place m ps r n → IsAtRest m.cabinet → IfErr r (λ e. e ≡ fault.SourceFault → Rose m.renders n.renders)
composes_rose told place m ps (Ok composed) n h rest = tt
composes_rose told place m ps (Err stop) n (inl h) rest = λ is. stopped_rose told place m ps n (subst (λ (s : ComposeFault). HasStopped told place m ps s n) is h) rest
composes_rose told place m ps (Err stop) n (inr h) rest = λ is. absurd (let e = h.0 in cc)

-- a fault of the source is that of a part
pub source_stopped : (told : Option ℕ) (place : TilePlace) (m : CompositionMoment) (ps : List Part) (stop : ComposeFault) (n : CompositionMoment) → stop ≡ fault.SourceFault → Composes told place m ps (Err stop) n → HasStopped told place m ps fault.SourceFault n
source_stopped told place m ps stop n is (inl h) = subst (λ (s : ComposeFault). HasStopped told place m ps s n) is h
source_stopped told place m ps stop n is (inr h) = absurd (let e = h.0 in cc)

-- a place by its numbers
pub place_same : (place : TilePlace) (grid : ℕ) → place.grid ≡ grid → place_of grid place.z place.row place.col ≡ place
place_same place grid is = ap (λ (g : ℕ). place_of g place.z place.row place.col) (sym is)

-- A TRUNCATION

record Keeps (s t : State) : Type 0 where
  same_catalogue : t.catalogue ≡ s.catalogue
  rests : IsAtRest t

keeps_same : (s t : State) → t ≡ s → IsAtRest s → Keeps s t
keeps_same s t is rest = subst (Keeps s) (sym is) (record { same_catalogue = refl; rests = rest })

row_keeps : (s t : State) (cover : Cover) (reply : CutReply) → Cuts s cover reply t → IsAtRest s → Keeps s t
row_keeps s t cover (cut.Done k) row rest =
    subst (Keeps s) (sym row.2)
    (record { same_catalogue = refl; rests = ap (λ x. x.out) (now_more s (entry.Cut k cover) (with_cut s k cover).blobs) ∙ ap (overtaken (hits_of s.catalogue cover) k) rest })
row_keeps s t cover (cut.DiskFault b a) row rest =
    subst (Keeps s) (sym row.4) (record { same_catalogue = refl; rests = ap (λ x. x.out) (now_more s (entry.Missed row.0) s.blobs) ∙ rest })
row_keeps s t cover cut.Full row rest = keeps_same s t row.2 rest
row_keeps s t cover cut.Spent row rest = keeps_same s t row.1 rest

cut_keeps : {E : Type 0} (s t : State) (cover : Cover) (r : Result CutReply E) → IfOk r (λ x. Cuts s cover x t) → OnErr r (t ≡ s) → IsAtRest s → Keeps s t
cut_keeps s t cover (Ok reply) row none rest = row_keeps s t cover reply row rest
cut_keeps s t cover (Err e) row none rest = keeps_same s t none rest

pub cut_goes : {E : Type 0} (s t : State) (cover : Cover) (r : Result CutReply E) → IfOk r (λ x. Cuts s cover x t) → OnErr r (t ≡ s) → IsAtRest s → (told : Option ℕ) (renders : ℕ) → MomentGoesOn told (moment s renders 0) (moment t renders 0)
cut_goes s t cover r row none rest told renders =
    let keeps = cut_keeps s t cover r row none rest in
    record { later = omega arith; same_catalogue = keeps.same_catalogue; rests = keeps.rests; sound = λ tells sound. cuts_sound s t cover r row none sound }

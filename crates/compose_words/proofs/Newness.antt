-- A tile is above each truncation of the lines before it.
use Rattle.std.specs.Prelude.{IsTrue}
use Rattle.std.proofs.Common.{◌≡◌, ℕ, ◌<◌, List, [], ◌∷◌, ◌++◌, length, take, Option, refl, sym, subst, ap, ◌∙◌, inl, inr, append_assoc, append-nil}
use Rattle.std.specs.List.{AllByRecursion, Contains}
use Rattle.std.proofs.lemmas.List.Elements.{Contains-append_left, Contains-push}
use Rattle.cabinet.proofs.Lists.{all_contained, all_push}
use Rattle.cabinet.specs.Commands.{Cuts}
use Rattle.cabinet.specs.declared.entry.HistoryEntry.{HistoryEntry}
use Rattle.cabinet.specs.declared.entry.HistoryEntry.TheVariants as entry
use Rattle.cabinet.specs.declared.replies.CutReply.{CutReply}
use Rattle.cabinet.specs.declared.replies.CutReply.TheVariants as cut
use Rattle.cabinet.specs.Fresh.{IsNoOlder}
use Rattle.cabinet.specs.History.{History}
use Rattle.cabinet.specs.Hits.{covers_in}
use Rattle.cabinet.specs.State.{State}
use Rattle.cache_core.specs.declared.outcome.Tile.{Tile}
use Rattle.cache_core.specs.declared.outcome.TileOutcome.{TileOutcome}
use Rattle.cache_core.specs.declared.outcome.TileOutcome.TheVariants as core
use Rattle.cache_core.specs.Fits.{ExtendsHistory}
use Rattle.catalog.specs.declared.catalogue.Catalogue.{Catalogue}
use Rattle.composite_layers.specs.Composes.{HasStopped, Stops}
use Rattle.composite_layers.specs.Parts.{AreGot, CompositionMoment, IsPartGot, numbers_of}
use Rattle.layer_recipes.specs.declared.composed.ComposeFault.{ComposeFault}
use Rattle.layer_recipes.specs.declared.composed.ComposeFault.TheVariants as fault
use Rattle.layer_recipes.specs.declared.place.TilePlace.{TilePlace}
use Rattle.layer_recipes.specs.declared.recipe.Part.{Part}
use Rattle.layer_recipes.specs.OfCatalogue.{tile_at}
use Rattle.matrix_geometry.specs.declared.address.Address.{Address}
use Rattle.truncation_list.specs.declared.book.Cut.{Cut}
use Rattle.truncation_list.specs.declared.cover.Cover.{Cover}
use Rattle.compose_words.specs.declared.orders.CompositionOrder.{CompositionOrder}
use Rattle.compose_words.specs.declared.orders.CompositionOrder.TheVariants as order
use Rattle.compose_words.specs.declared.reply.CompositionReply.{CompositionReply}
use Rattle.compose_words.specs.declared.reply.CompositionReply.TheVariants as reply
use Rattle.compose_words.specs.Run.{Answers, AreAbove, AreNewer, CompositionStep, Follow, IsAboveAs, cuts_with}

-- HISTORIES

abbrev made : Cut → HistoryEntry
made k = entry.Cut k.number k.cover

-- each of these truncations was made
abbrev WereMade : History → List Cut → Type 0
WereMade h cuts = AllByRecursion (λ k. Contains h (made k)) cuts

all_weaker : {A : Type 0} (P Q : A → Type 0) (xs : List A) → ((x : A) → P x → Q x) → AllByRecursion P xs → AllByRecursion Q xs
all_weaker P Q [] f all = tt
all_weaker P Q (x ∷ xs) f all = (f x all.0, all_weaker P Q xs f all.1)

-- from one moment to another the catalogue stays, and the history goes on
record Lasts (m n : CompositionMoment) : Type 0 where
  catalogue : n.cabinet.catalogue ≡ m.cabinet.catalogue
  grows : ExtendsHistory m.cabinet.history n.cabinet.history

lasts_same : (m n : CompositionMoment) → n ≡ m → Lasts m n
lasts_same m n is = subst (Lasts m) (sym is) (record { catalogue = refl; grows = ([], sym (append-nil m.cabinet.history)) })

lasts_then : (m k n : CompositionMoment) → Lasts m k → Lasts k n → Lasts m n
lasts_then m k n f g = record {
  catalogue = g.catalogue ∙ f.catalogue;
  grows = (f.grows.0 ++ g.grows.0, g.grows.1 ∙ ap (λ (h : History). h ++ g.grows.0) f.grows.1 ∙ append_assoc m.cabinet.history f.grows.0 g.grows.0);
}

still_made : (m n : CompositionMoment) (cuts : List Cut) → Lasts m n → WereMade m.cabinet.history cuts → WereMade n.cabinet.history cuts
still_made m n cuts lasts were =
    all_weaker (λ k. Contains m.cabinet.history (made k)) (λ k. Contains n.cabinet.history (made k)) cuts
    (λ k is. subst (λ (h : History). Contains h (made k)) (sym lasts.grows.1) (Contains-append_left m.cabinet.history lasts.grows.0 (made k) is)) were

-- PARTS

got_lasts : (told : Option ℕ) (m : CompositionMoment) (a : Address) (ended : TileOutcome) (n : CompositionMoment) → IsPartGot told m a ended n → Lasts m n
got_lasts told m a ended n got = record { catalogue = got.catalogue; grows = got.grows }

are_got_lasts : (told : Option ℕ) (place : TilePlace) (m : CompositionMoment) (ps : List Part) (tiles : List Tile) (n : CompositionMoment) → AreGot told place m ps tiles n → Lasts m n
are_got_lasts told place m [] [] n got = lasts_same m n got
are_got_lasts told place m [] (t ∷ ts) n got = absurd got
are_got_lasts told place m (p ∷ ps) [] n got = absurd got
are_got_lasts told place m (p ∷ ps) (t ∷ ts) n got = lasts_then m got.0 n (got_lasts told m _ (core.Tile t) got.0 got.1) (are_got_lasts told place got.0 ps ts n got.2)

stops_lasts : (told : Option ℕ) (place : TilePlace) (m : CompositionMoment) (part : Part) (stop : ComposeFault) (n : CompositionMoment) → Stops told place m part stop n → Lasts m n
stops_lasts told place m part stop n (inl s) = got_lasts told m _ s.0 n s.1
stops_lasts told place m part stop n (inr s) = got_lasts told m _ (core.Tile s.0) n s.1

stopped_lasts : (told : Option ℕ) (place : TilePlace) (m : CompositionMoment) (ps : List Part) (stop : ComposeFault) (n : CompositionMoment) → HasStopped told place m ps stop n → Lasts m n
stopped_lasts told place m ps stop n h = lasts_then m h.mid n (are_got_lasts told place m h.above h.tiles h.mid h.got) (stops_lasts told place h.mid h.part stop n h.stops)

-- THE NUMBERS OF A TILE

take_all : {A : Type 0} (xs ys : List A) → take (length xs) (xs ++ ys) ≡ xs
take_all [] ys = refl
take_all (x ∷ xs) ys = ap (λ (zs : List _). x ∷ zs) (take_all xs ys)

-- a number that is fresh is above a truncation that was made before its ask
above_one : (told : Option ℕ) (m : CompositionMoment) (a : Address) (tile : Tile) (n : CompositionMoment) (k : Cut) → IsPartGot told m a (core.Tile tile) n → Contains m.cabinet.history (made k) → IsTrue (covers_in m.cabinet.catalogue k.cover a) → k.number < tile.number
above_one told m a tile n k got is =
    all_contained (IsNoOlder m.cabinet.catalogue tile.number a) m.cabinet.history (made k)
    (subst (λ (h : History). AllByRecursion (IsNoOlder m.cabinet.catalogue tile.number a) h)
    (ap (λ (h : History). take (length m.cabinet.history) h) got.grows.1 ∙ take_all m.cabinet.history got.grows.0) got.fresh.current.above) is

above_all : (told : Option ℕ) (place : TilePlace) (m : CompositionMoment) (ps : List Part) (tiles : List Tile) (n : CompositionMoment) (c : Catalogue) (k : Cut) → m.cabinet.catalogue ≡ c → AreGot told place m ps tiles n → Contains m.cabinet.history (made k) → AreAbove c place ps (numbers_of tiles) k
above_all told place m [] tiles n c k same got is = tt
above_all told place m (p ∷ ps) [] n c k same got is = tt
above_all told place m (p ∷ ps) (t ∷ ts) n c k same got is = (
  subst (λ (d : Catalogue). IsTrue (covers_in d k.cover (tile_at place p)) → k.number < t.number) same (above_one told m (tile_at place p) t got.0 k got.1 is),
  above_all told place got.0 ps ts n c k (got.1.catalogue ∙ same) got.2
      (subst (λ (h : History). Contains h (made k)) (sym got.1.grows.1) (Contains-append_left m.cabinet.history got.1.grows.0 (made k) is)),
)

-- AN ANSWER

answer_above : (told : Option ℕ) (parts : List Part) (m : CompositionMoment) (o : CompositionOrder) (r : CompositionReply) (n : CompositionMoment) (c : Catalogue) (cuts : List Cut) → m.cabinet.catalogue ≡ c → Answers told parts m o r n → WereMade m.cabinet.history cuts → IsAboveAs c parts cuts o r
answer_above told parts m (order.Get place) (reply.Tile tile) n c cuts same row were =
    all_weaker (λ k. Contains m.cabinet.history (made k)) (AreAbove c place parts tile.numbers.items) cuts
    (λ k is. subst (λ (numbers : List ℕ). AreAbove c place parts numbers k) (sym row.numbered) (above_all told place m parts row.tiles n c k same row.got is)) were
answer_above told parts m (order.Get place) reply.Fault n c cuts same row were = tt
answer_above told parts m (order.Get place) reply.Spent n c cuts same row were = tt
answer_above told parts m (order.Get place) (reply.Cut k) n c cuts same row were = tt
answer_above told parts m (order.Get place) reply.Full n c cuts same row were = tt
answer_above told parts m (order.Truncate cover) r n c cuts same row were = tt

cut_lasts : (m n : CompositionMoment) (cover : Cover) (r : CutReply) → Cuts m.cabinet cover r n.cabinet → Lasts m n
cut_lasts m n cover (cut.Done k) row = record { catalogue = ap (λ (s : State). s.catalogue) row.2; grows = (entry.Cut k cover ∷ [], ap (λ (s : State). s.history) row.2) }
cut_lasts m n cover (cut.DiskFault b a) row = record { catalogue = ap (λ (s : State). s.catalogue) row.4; grows = (entry.Missed row.0 ∷ [], ap (λ (s : State). s.history) row.4) }
cut_lasts m n cover cut.Full row = record { catalogue = ap (λ (s : State). s.catalogue) row.2; grows = ([], ap (λ (s : State). s.history) row.2 ∙ sym (append-nil m.cabinet.history)) }
cut_lasts m n cover cut.Spent row = record { catalogue = ap (λ (s : State). s.catalogue) row.1; grows = ([], ap (λ (s : State). s.history) row.1 ∙ sym (append-nil m.cabinet.history)) }

answer_lasts : (told : Option ℕ) (parts : List Part) (m : CompositionMoment) (o : CompositionOrder) (r : CompositionReply) (n : CompositionMoment) → Answers told parts m o r n → Lasts m n
answer_lasts told parts m (order.Get place) (reply.Tile tile) n row = are_got_lasts told place m parts row.tiles n row.got
answer_lasts told parts m (order.Get place) reply.Fault n row = stopped_lasts told place m parts fault.SourceFault n row.0
answer_lasts told parts m (order.Get place) reply.Spent n row = stopped_lasts told place m parts fault.Spent n row
answer_lasts told parts m (order.Get place) (reply.Cut k) n row = absurd row
answer_lasts told parts m (order.Get place) reply.Full n row = absurd row
answer_lasts told parts m (order.Truncate cover) (reply.Tile tile) n row = absurd row
answer_lasts told parts m (order.Truncate cover) reply.Fault n row = absurd row
answer_lasts told parts m (order.Truncate cover) reply.Spent n row = cut_lasts m n cover cut.Spent row.cuts
answer_lasts told parts m (order.Truncate cover) (reply.Cut k) n row = cut_lasts m n cover (cut.Done k) row.cuts
answer_lasts told parts m (order.Truncate cover) reply.Full n row = cut_lasts m n cover cut.Full row.cuts

-- the truncation of an answer is one that was made
cut_made : (m n : CompositionMoment) (cover : Cover) (k : ℕ) → Cuts m.cabinet cover (cut.Done k) n.cabinet → Contains n.cabinet.history (entry.Cut k cover)
cut_made m n cover k row =
    subst (λ (h : History). Contains h (entry.Cut k cover)) (sym (ap (λ (s : State). s.history) row.2))
    (Contains-push m.cabinet.history (entry.Cut k cover))

answer_made : (told : Option ℕ) (parts : List Part) (m : CompositionMoment) (o : CompositionOrder) (r : CompositionReply) (n : CompositionMoment) (cuts : List Cut) → Answers told parts m o r n → WereMade n.cabinet.history cuts → WereMade n.cabinet.history (cuts_with cuts o r)
answer_made told parts m (order.Get place) r n cuts row were = were
answer_made told parts m (order.Truncate cover) (reply.Tile tile) n cuts row were = absurd row
answer_made told parts m (order.Truncate cover) reply.Fault n cuts row were = absurd row
answer_made told parts m (order.Truncate cover) reply.Spent n cuts row were = were
answer_made told parts m (order.Truncate cover) (reply.Cut k) n cuts row were =
    all_push (λ k. Contains n.cabinet.history (made k)) cuts (record { number = k; cover = cover }) were (cut_made m n cover k row.cuts)
answer_made told parts m (order.Truncate cover) reply.Full n cuts row were = were

-- ALL ANSWERS

newer_from : (told : Option ℕ) (parts : List Part) (m : CompositionMoment) (steps : List CompositionStep) (n : CompositionMoment) (c : Catalogue) (cuts : List Cut) → m.cabinet.catalogue ≡ c → Follow told parts m steps n → WereMade m.cabinet.history cuts → AreNewer c parts cuts steps
newer_from told parts m [] n c cuts same f were = tt
newer_from told parts m (step ∷ steps) n c cuts same f were =
    let lasts = answer_lasts told parts m step.order step.reply step.after f.0 in (
      answer_above told parts m step.order step.reply step.after c cuts same f.0 were,
      newer_from told parts step.after steps n c (cuts_with cuts step.order step.reply) (lasts.catalogue ∙ same) f.1
          (answer_made told parts m step.order step.reply step.after cuts f.0 (still_made m step.after cuts lasts were)),
    )

pub newer_all : (told : Option ℕ) (parts : List Part) (m : CompositionMoment) (steps : List CompositionStep) (n : CompositionMoment) → Follow told parts m steps n → AreNewer m.cabinet.catalogue parts [] steps
newer_all told parts m steps n f = newer_from told parts m steps n m.cabinet.catalogue [] refl f tt

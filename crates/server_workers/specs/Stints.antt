-- The sessions that the workers of a server held.
use Rattle.std.specs.Prelude.{ℕ, ◌≡◌, List, [], ◌∷◌, flat_map, map, Option}
use Rattle.std.specs.List.{AllByRecursion}
use Rattle.atomic_table.specs.Seated.{TableId}
use Rattle.catalog.specs.declared.catalogue.Catalogue.{Catalogue}
use Rattle.cache_hall.specs.Turned.{HallPass}
use Rattle.hall_sessions.specs.Sessions.{HasHallSession, output_of}
use Rattle.job_board.specs.Calls.{BoardHolding, IsFirstBoardPass}
use Rattle.layer_recipes.specs.declared.book.RecipeBook.{RecipeBook}
use Rattle.link_queue.specs.Weights.{WeighAlike}
use Rattle.sessions.specs.Outside.{counts}
use Rattle.sessions.specs.declared.session.SessionEnd.{SessionEnd}
use Rattle.source_render.specs.Renders.{GivenImage, RenderChange, Renders, renders}

-- how contracts read a link: the bytes that are left to take of it and those that it has taken, where these are modelled, and how often a
-- take and a put have failed
pub record LinkReading (L : Type 0) : Type 0 where
  pub left : L → Option (List ℕ)
  pub taken : L → Option (List ℕ)
  pub reads : L → ℕ
  pub writes : L → ℕ

-- how contracts read a source: how often it has failed, and the images that it gave
pub record SourceReading (S : Type 0) : Type 0 where
  pub faults : S → ℕ
  pub gave : S → List GivenImage

-- what a source has done
abbrev pub done_by : {S : Type 0} → SourceReading S → S → Renders
done_by reading source = renders (reading.faults source) (reading.gave source)

-- a session that was held: its link, its pass and its place at the board of jobs, before it and after it, what its source had done, and its
-- end
pub record HeldSession (L : Type 0) : Type 0 where
  pub link : L
  pub link_after : L
  pub pass : HallPass
  pub pass_after : HallPass
  pub board : BoardHolding
  pub board_after : BoardHolding
  pub renders : RenderChange
  pub end : SessionEnd

abbrev pub links_of : {L : Type 0} → List (HeldSession L) → List L
links_of sessions = map (λ h. h.link) sessions

-- all that one worker held, one session after the other, and the pass and the place at the board that the last of them left
pub record Stint (L : Type 0) : Type 0 where
  pub sessions : List (HeldSession L)
  pub pass : HallPass
  pub board : BoardHolding

abbrev pub links_in : {L : Type 0} → List (Stint L) → List L
links_in stints = flat_map (λ t. links_of t.sessions) stints

abbrev pub passes_of : {L : Type 0} → List (Stint L) → List HallPass
passes_of stints = map (λ t. t.pass) stints

abbrev pub boards_of : {L : Type 0} → List (Stint L) → List BoardHolding
boards_of stints = map (λ t. t.board) stints

-- what is served: how its links and the sources of its workers are read, the capabilities document, the catalogue, the recipes of composites, the board of jobs, and a pass
-- of its hall that has made nothing yet
pub record Service (L S : Type 0) : Type 0 where
  pub reading : LinkReading L
  pub sources : SourceReading S
  pub document : List ℕ
  pub catalogue : Catalogue
  pub recipes : RecipeBook
  pub board : TableId
  pub first : HallPass

abbrev pub serving : {L S : Type 0} → (left taken : L → Option (List ℕ)) → (reads writes : L → ℕ) → (faults : S → ℕ) → (gave : S → List GivenImage) → List ℕ → Catalogue → RecipeBook → TableId → HallPass → Service L S
serving left taken reads writes faults gave document c recipes board first =
    record { reading = record { left = left; taken = taken; reads = reads; writes = writes }; sources = record { faults = faults; gave = gave }; document = document; catalogue = c; recipes = recipes; board = board; first = first }

module _ {L S : Type 0} (s : Service L S) where
  abbrev pub IsHeld : HeldSession L → Type 0
  IsHeld h =
      HasHallSession
      (record { reads = counts (s.reading.reads h.link) (s.reading.reads h.link_after); from = s.reading.left h.link; to = s.reading.left h.link_after })
      (output_of (counts (s.reading.writes h.link) (s.reading.writes h.link_after)) (s.reading.taken h.link) (s.reading.taken h.link_after)) h.renders s.document s.catalogue s.recipes h.pass h.pass_after h.board h.board_after h.end

  -- sessions one after the other, each by the pass, with the place at the board and with the source that the one before left
  abbrev pub AreHeld : HallPass → BoardHolding → Renders → List (HeldSession L) → HallPass → BoardHolding → Renders → Type 0
  AreHeld pass board renders [] pass_after board_after renders_after = (pass_after ≡ pass) × (board_after ≡ board) × (renders_after ≡ renders)
  AreHeld pass board renders (h ∷ hs) pass_after board_after renders_after =
      (h.pass ≡ pass) × (h.board ≡ board) × (h.renders.before ≡ renders) × IsHeld h × AreHeld h.pass_after h.board_after h.renders.after hs pass_after board_after renders_after

  -- the first of the sessions was held by a pass that had made nothing, at the hall and at the board; the source went from one to another
  pub record IsStint (t : Stint L) : Type 0 where
    pub board_before : BoardHolding
    pub at_board : IsFirstBoardPass s.board board_before
    pub source_before : S
    pub source_after : S
    pub held : AreHeld s.first board_before (done_by s.sources source_before) t.sessions t.pass t.board (done_by s.sources source_after)

  -- each of these links was served in one session of one stint, to its end
  pub record AreServed (links : List L) : Type 0 where
    pub stints : List (Stint L)
    pub held : AllByRecursion IsStint stints
    pub each : WeighAlike links (links_in stints)

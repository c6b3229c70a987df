-- How far a run has come, one more line, and its ends.
use Rattle.std.proofs.Common.{◌≡◌, ℕ, zero, suc, map, replicate, ◌+◌, ◌≤◌, List, [], ◌∷◌, ◌++◌, Option, Some, None, length, refl, sym, ap, subst, ◌∙◌, arith, append_assoc, append-nil}
use Rattle.std.specs.List.{AllByRecursion}
use Rattle.std.specs.Option.{IfSome}
use Rattle.std.proofs.lemmas.List.Folds.{sum_by-replicate}
use Rattle.std.proofs.lemmas.List.Sums.{sum_by-append}
use Rattle.cabinet.specs.Fresh as cabinet
use Rattle.cabinet.specs.History.{History}
use Rattle.cabinet.specs.State.{State}
use Rattle.cache_core.specs.Fits.{ExtendsHistory}
use Rattle.cache_core.proofs.Endings.{extends_fresh}
use Rattle.catalog.specs.declared.catalogue.Catalogue.{Catalogue}
use Rattle.base.specs.Causes.{RoseBy}
use Rattle.matrix_geometry.specs.declared.address.Address.{Address}
use Rattle.tile_requests.specs.declared.outcome.Outcome.{Outcome}
use Rattle.tile_requests.specs.declared.request.Request.{Request}
use Rattle.tile_service.specs.declared.seats.ActorPlace.TheVariants as seat
use Rattle.tile_service.specs.declared.seats.TheConstants.{ACTORS}
use Rattle.tile_service.specs.Lines.{action_in}
use Rattle.tile_service.specs.OneLine.{IsLine, IsSeat, IsRunState, IsTrueSeat, IsTrueWorld, seat_of}
use Rattle.tile_requests.specs.Requests.{Chance, calm, tile_of, tile_in, IsFreshTile}
use Rattle.sessions.specs.Outside.{FaultCounts, counts}
use Rattle.tile_service.specs.Run.{PendingRequest, free_seats, owed_at, RunState, Answer, Run, run, behind, disk_faults, line_done, failures, unanswered, IsTrue, IsFresh, IsFreshFor, run_state_of}
use Rattle.tile_service.specs.Schedules.{IsUpheld}
use Rattle.tile_requests.proofs.Moving.{within_longer}
use Rattle.tile_service.proofs.Tiles.{IsAnsweredRun, run_answered}

-- FRESH LATER

tile_later : (c : Catalogue) (h g : History) (p : ℕ) (a : Address) (t : Option (ℕ × List ℕ)) → ExtendsHistory h g → p ≤ length h → IfSome t (λ u. cabinet.IsFresh c h p a u.0) → IfSome t (λ u. cabinet.IsFresh c g p a u.0)
tile_later c h g p a None more l f = tt
tile_later c h g p a (Some t) more l f = extends_fresh c h g p a t.0 more l f

answer_later : (c : Catalogue) (h g : History) (p : ℕ) (a : Option Address) (o : Outcome) → ExtendsHistory h g → p ≤ length h → IfSome a (λ b. IsFreshTile c h p b o) → IfSome a (λ b. IsFreshTile c g p b o)
answer_later c h g p None o more l f = tt
answer_later c h g p (Some a) o more l f = tile_later c h g p a (tile_in o) more l f

for_later : (c : Catalogue) (h g : History) (p : ℕ) (r : Option Request) (o : Outcome) → ExtendsHistory h g → p ≤ length h → IsFreshFor c h p r o → IsFreshFor c g p r o
for_later c h g p None o more l f = tt
for_later c h g p (Some r) o more l f = answer_later c h g p (tile_of r) o more l f

-- an answer of the history so far, and fresh in it
abbrev pub IsPlaced : Catalogue → History → Answer → Type 0
IsPlaced c h a = (a.place ≤ length h) × IsFresh c h a

pub answers_later : (c : Catalogue) (h g : History) → ExtendsHistory h g → (answers : List Answer) → AllByRecursion (IsPlaced c h) answers → AllByRecursion (IsPlaced c g) answers
answers_later c h g more [] all = tt
answers_later c h g more (a ∷ answers) all = ((within_longer h g a.place more all.0.0, for_later c h g a.place a.request a.outcome more all.0.0 all.0.1), answers_later c h g more answers all.1)

pub all_fresh : (c : Catalogue) (h : History) (answers : List Answer) → AllByRecursion (IsPlaced c h) answers → AllByRecursion (IsFresh c h) answers
all_fresh c h [] all = tt
all_fresh c h (a ∷ answers) all = (all.0.1, all_fresh c h answers all.1)

-- HOW FAR

-- n lines are done under these chances, and came to these answers
pub record Far (told : Option ℕ) (before after : ℕ) (disk : FaultCounts) (w : RunState) (done : List (List ℕ)) (made : List Chance) (answers : List Answer) (n : ℕ) (t : RunState) : Type 0 where
  pub goes : (tail : List (List ℕ)) (more : List Chance) → run w 1 (done ++ tail) (made ++ more) ≡ behind answers (run t (n + 1) tail more)
  pub later : before ≤ after
  pub failed : RoseBy (failures answers + unanswered t.seats) before after
  pub faults : RoseBy (disk_faults made) disk.before disk.after
  pub world : IsRunState t
  pub free : AllByRecursion (IsTrueSeat w.cabinet.catalogue) w.seats
  pub sound : told ≡ Some w.cabinet.catalogue.source → IsTrueWorld w → IsTrueWorld t
  pub truth : told ≡ Some w.cabinet.catalogue.source → IsTrueWorld w → AllByRecursion (IsTrue w.cabinet.catalogue) answers
  pub fresh : AllByRecursion (IsPlaced w.cabinet.catalogue t.cabinet.history) answers
  pub catalogue : t.cabinet.catalogue ≡ w.cabinet.catalogue
  pub capabilities : t.capabilities ≡ w.capabilities

far_start : (told : Option ℕ) (n faults : ℕ) (w : RunState) → IsRunState w → unanswered w.seats ≡ 0 → AllByRecursion (IsTrueSeat w.cabinet.catalogue) w.seats → Far told n n (counts faults faults) w [] [] [] 0 w
far_start told n faults w world none free =
    record {
      goes = λ tail more. refl;
      later = omega arith;
      failed = omega arith;
      faults = omega arith;
      world = world;
      free = free;
      sound = λ told is. is;
      truth = λ told is. tt;
      fresh = tt;
      catalogue = refl;
      capabilities = refl;
    }

behind_behind : (news bs : List Answer) (r : Run) → behind news (behind bs r) ≡ behind (news ++ bs) r
behind_behind news bs r = ap (λ (xs : List Answer). let q : Run = record { answers = xs; world = r.world; refused = r.refused } in q) (sym (append_assoc news bs r.answers))

pub all_append : (P : Answer → Type 0) (news bs : List Answer) → AllByRecursion P news → AllByRecursion P bs → AllByRecursion P (news ++ bs)
all_append P [] bs h k = k
all_append P (a ∷ news) bs h k = (h.0, all_append P news bs h.1 k)

-- one line, and then others
one_line : (t u : RunState) (n : ℕ) (line : List ℕ) (c : Chance) (news : List Answer) → line_done t n c (action_in line) ≡ Some (u, news)
    → (tail : List (List ℕ)) (more : List Chance) → run t n (line ∷ tail) (c ∷ more) ≡ behind news (run u (n + 1) tail more)
one_line t u n line c news e tail more = rw e refl

module _ {told told' : Option ℕ} {before mid after disk_before disk_mid disk_after : ℕ} {w : RunState} {done : List (List ℕ)} {made : List Chance} {answers : List Answer} {n : ℕ} {line : List ℕ} {t u : RunState} {news : List Answer}
    (f : Far told before mid (counts disk_before disk_mid) w done made answers n t) (same : told' ≡ told) (l : IsLine told' mid after (counts disk_mid disk_after) t (n + 1) line u news) where
  goes_more : (tail : List (List ℕ)) (more : List Chance) → run w 1 ((done ++ line ∷ []) ++ tail) ((made ++ l.chance ∷ []) ++ more) ≡ behind (answers ++ news) (run u (n + 1 + 1) tail more)
  goes_more tail more =
      rw (append_assoc done (line ∷ []) tail, append_assoc made (l.chance ∷ []) more) (
      f.goes (line ∷ tail) (l.chance ∷ more)
      ∙ ap (behind answers) (one_line t u (n + 1) line l.chance news l.made tail more)
      ∙ behind_behind answers news (run u (n + 1 + 1) tail more))

  more_failed : RoseBy (failures (answers ++ news) + unanswered u.seats) before after
  more_failed =
      let b = l.keeps.failed before (failures answers) f.failed in
      let e : failures (answers ++ news) ≡ failures answers + failures news = sum_by-append _ answers news in
      rw e (omega arith)

  more_faults : RoseBy (disk_faults (made ++ l.chance ∷ [])) disk_before disk_after
  more_faults =
      let i = f.faults in
      let j = l.faults in
      let e : disk_faults (made ++ l.chance ∷ []) ≡ disk_faults made + disk_faults (l.chance ∷ []) = sum_by-append _ made (l.chance ∷ []) in
      rw e (omega arith)

  -- the source is modelled as the catalogue's, as it was at the start
  tells : told ≡ Some w.cabinet.catalogue.source → told' ≡ Some t.cabinet.catalogue.source
  tells h = same ∙ h ∙ ap (λ c. Some c.source) (sym f.catalogue)

  more_truth : told ≡ Some w.cabinet.catalogue.source → IsTrueWorld w → AllByRecursion (IsTrue w.cabinet.catalogue) (answers ++ news)
  more_truth h is = all_append (IsTrue w.cabinet.catalogue) answers news (f.truth h is) (rw (sym f.catalogue) (l.keeps.truth (tells h) f.world (f.sound h is)))

  more_fresh : AllByRecursion (IsPlaced w.cabinet.catalogue u.cabinet.history) (answers ++ news)
  more_fresh =
      all_append (IsPlaced w.cabinet.catalogue u.cabinet.history) answers news (answers_later w.cabinet.catalogue t.cabinet.history u.cabinet.history l.keeps.grows answers f.fresh) (rw (sym f.catalogue) (l.keeps.fresh f.world))

  pub far_next : Far told before after (counts disk_before disk_after) w (done ++ line ∷ []) (made ++ l.chance ∷ []) (answers ++ news) (n + 1) u
  far_next =
      record {
        goes = goes_more;
        later = let i = f.later in let j = l.keeps.later in omega arith;
        failed = more_failed;
        faults = more_faults;
        world = l.keeps.world f.world;
        free = f.free;
        sound = λ h is. l.keeps.sound (tells h) f.world (f.sound h is);
        truth = more_truth;
        fresh = more_fresh;
        catalogue = l.keeps.catalogue ∙ f.catalogue;
        capabilities = l.keeps.capabilities ∙ f.capabilities;
      }

-- nothing happens while the source goes on
pub far_waits : {told : Option ℕ} {before mid after disk_before disk_mid disk_after : ℕ} {w : RunState} {done : List (List ℕ)} {made : List Chance} {answers : List Answer} {n : ℕ} {t : RunState} → Far told before mid (counts disk_before disk_mid) w done made answers n t → mid ≤ after → disk_mid ≤ disk_after
    → Far told before after (counts disk_before disk_after) w done made answers n t
far_waits f later disk_later =
    record {
      goes = f.goes;
      later = let i = f.later in omega arith;
      failed = let i = f.failed in omega arith;
      faults = let i = f.faults in omega arith;
      world = f.world;
      free = f.free;
      sound = f.sound;
      truth = f.truth;
      fresh = f.fresh;
      catalogue = f.catalogue;
      capabilities = f.capabilities;
    }

-- ENDS

module _ {told : Option ℕ} {before after : ℕ} {disk : FaultCounts} {w : RunState} {done : List (List ℕ)} {made : List Chance} {answers : List Answer} {n : ℕ} {t : RunState} (f : Far told before after disk w done made answers n t) where
  abbrev pub came_to : Option ℕ → Run
  came_to refused = record { answers = answers; world = t; refused = refused }

  -- under these chances and further ones
  pub so_far_done : (more : List Chance) → run w 1 done (made ++ more) ≡ came_to None
  so_far_done more = rw (append-nil done, append-nil answers) at (f.goes [] more)

  -- no line is left
  pub ends_done : run w 1 done made ≡ came_to None
  ends_done = rw (append-nil done, append-nil made, append-nil answers) at (f.goes [] [])

  -- the next line is refused
  pub ends_refused : (line : List ℕ) (tail : List (List ℕ)) → line_done t (n + 1) calm (action_in line) ≡ None → run w 1 (done ++ line ∷ tail) made ≡ came_to (Some (n + 1))
  ends_refused line tail none =
      let last : run t (n + 1) (line ∷ tail) [] ≡ record { answers = []; world = t; refused = Some (n + 1) } = rw none refl in
      rw (append-nil made, append-nil answers) at (f.goes (line ∷ tail) [] ∙ ap (behind answers) last)

  pub ends_upheld : (r : Run) (refused : Option ℕ) → r ≡ came_to refused → IsUpheld told (record { before = before; after = after }) w r
  ends_upheld r refused e =
      let h : IsUpheld told (record { before = before; after = after }) w (came_to refused) =
      record {
        failed = f.failed;
        truth = λ h is. f.truth h (is, f.free);
        sound = λ h is. (f.sound h (is, f.free)).0;
        fresh = all_fresh w.cabinet.catalogue t.cabinet.history answers f.fresh;
        tiles = (subst (IsAnsweredRun w.cabinet) ends_done (run_answered w 1 done made)).1;
      } in
      rw e h

-- SEATS OF WHICH NONE IS BUSY

all_free : (P : Option PendingRequest → Type 0) → P None → (n : ℕ) → AllByRecursion P (replicate n None)
all_free P none zero = tt
all_free P none (suc n) = (none, all_free P none n)

none_owed : (n : ℕ) → unanswered (replicate n None) ≡ 0
none_owed n = sum_by-replicate owed_at n None ∙ omega arith

pub free_same : (n : ℕ) → map seat_of (replicate n None) ≡ replicate n seat.Free
free_same zero = refl
free_same (suc n) = ap (λ xs. seat.Free ∷ xs) (free_same n)

-- at the start no actor is busy
pub far_start_free : (told : Option ℕ) (n faults : ℕ) (s : State) (document : List ℕ) → Far told n n (counts faults faults) (run_state_of s document free_seats) [] [] [] 0 (run_state_of s document free_seats)
far_start_free told n faults s document = far_start told n faults (run_state_of s document free_seats) (all_free (IsSeat s.catalogue s.history) tt ACTORS) (none_owed ACTORS) (all_free (IsTrueSeat s.catalogue) tt ACTORS)

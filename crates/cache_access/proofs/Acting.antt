-- What one command comes to, of a thread that has a cabinet for itself.
use Rattle.std.proofs.Common.{ℕ, ◌≡◌, ◌≤◌, false, List, [], Result, Ok, Err, IfOk, OnErr, refl, ap, arith}
use Rattle.std.specs.Prelude.{⊤}
use Rattle.std.proofs.lemmas.Bool.{false≢true}
use Rattle.cabinet.specs.Commands.{Cuts, IsCountedCut}
use Rattle.cabinet.specs.declared.replies.Asked.{Asked}
use Rattle.cabinet.specs.declared.replies.CutReply.{CutReply}
use Rattle.cabinet.specs.declared.replies.Forced.{Forced}
use Rattle.cabinet.specs.State.{IsKnown, IsKnownAs, IsSound, State, fronted, now}
use Rattle.cabinet_chest.specs.declared.command.Command.{Command}
use Rattle.cabinet_chest.specs.declared.command.Command.TheVariants as command
use Rattle.cabinet_chest.specs.declared.command.Reply.{Reply}
use Rattle.cabinet_chest.specs.declared.command.Reply.TheVariants as reply
use Rattle.cabinet_chest.specs.declared.shown.Note.{Note}
use Rattle.cabinet_chest.specs.declared.shown.Shown.{Shown}
use Rattle.cabinet_chest.specs.Acts.{Acts, seen}
use Rattle.cabinet_chest.proofs.Acting.{cut_acts}
use Rattle.cache_core.specs.Lasting.{Lasting}
use Rattle.cache_core.proofs.Lasting.{known_lasts, same_lasts}
use Rattle.catalog.specs.declared.catalogue.Catalogue.{Catalogue}
use Rattle.matrix_geometry.specs.declared.address.Address.{Address}
use Rattle.metatile_plan.specs.declared.metatile.MetaKey.{MetaKey}
use Rattle.served_covers.specs.OfCatalogue.{IsCoverOf}
use Rattle.truncation_list.specs.declared.cover.Cover.{Cover}
use Rattle.turnstile.specs.declared.view.Made.{Made}
use Rattle.cache_access.specs.Alone.{AreSteps}
use Rattle.cache_access.specs.Turned.{GainsOne, Goes}
use Rattle.cache_access.specs.Waits.{HasWaited, HasWaitedForced, IsForceSettled, IsSettled}

module _ {K : Type 0} (state : K → State) (faults : K → ℕ) (outlasts : K → K → Type 0) where
  abbrev shows : K → Shown
  shows k = seen (faults k) (state k)

  -- the turns that lead from one cabinet to another
  abbrev pub leads : K → K → List (Made Note) → Type 0
  leads k l gained = AreSteps (state k).catalogue (shows k) gained (shows l)

  abbrev charter : K → Catalogue
  charter k = (state k).catalogue

  abbrev reached : K → Type 0
  reached k = ⊤

  abbrev owing : K → Type 0
  owing k = ⊥

  abbrev lasting : K → K → Type 0
  lasting k l = Lasting (outlasts k l) (state k) (state l)

  module _ (k l : K) where
    -- the turn of a command
    abbrev made : Command → Reply → Made Note
    made does r = record { note = record { command = does; reply = r; before = shows k; after = shows l }; found = fronted (now (state k)); left = fronted (now (state l)) }

    pub one_gained : (does : Command) (r : Reply) → Acts (shows k) (shows l) does r → GainsOne leads k l does r
    one_gained does r acts = record {
      turn = made does r;
      gains = (record { state = refl; later = omega arith; found = refl; left = refl; reply = acts.may }, (refl, omega arith));
      of = record { command = refl; reply = refl };
    }

    known_by : (does : Command) (r : Reply) → Acts (shows k) (shows l) does r → IsKnownAs (state k) (state l)
    known_by does r acts = (acts.may false (λ e. absurd (false≢true e))).goes_on

    pub acts_go : (does : Command) (r : Reply) → outlasts k l → Acts (shows k) (shows l) does r → Goes charter reached owing lasting k l
    acts_go does r lasts acts =
        let known = known_by does r acts in
        record { reaches = tt; same = known.same_catalogue; owes = λ f. f; lasts = known_lasts (outlasts k l) (state k) (state l) lasts known }

    -- memory ran out, and the state is as before
    pub none_gained : state l ≡ state k → faults k ≤ faults l → leads k l []
    none_gained same later = (same, later)

    pub stays_go : outlasts k l → state l ≡ state k → Goes charter reached owing lasting k l
    stays_go lasts same = record { reaches = tt; same = ap (λ (s : State). s.catalogue) same; owes = λ f. f; lasts = same_lasts (outlasts k l) (state k) (state l) lasts same }

    -- an ask or a force that is answered at once
    pub waited : (a : Address) (r : Asked) → Acts (shows k) (shows l) (command.Ask a) (reply.Asked r) → IsSettled r → HasWaited leads a k l r
    waited a r acts over =
        let one = one_gained (command.Ask a) (reply.Asked r) acts in
        record { busy = []; ask = one.turn; gains = one.gains; waited = tt; answer = one.of; over = over }

    pub waited_forced : (m : MetaKey) (r : Forced) → Acts (shows k) (shows l) (command.Force m) (reply.Forced r) → IsForceSettled r → HasWaitedForced leads m k l r
    waited_forced m r acts over =
        let one = one_gained (command.Force m) (reply.Forced r) acts in
        record { busy = []; force = one.turn; gains = one.gains; waited = tt; answer = one.of; over = over }

    -- a truncation that is made or refused
    pub cut_gained : {E : Type 0} (cover : Cover) → IsKnown (state k) → faults k ≤ faults l → (IsSound (state k) → IsSound (state l)) → IsCoverOf (state k).catalogue cover → (r : Result CutReply E)
        → IfOk r (λ x. Cuts (state k) cover x (state l)) → IfOk r (IsCountedCut (faults k) (faults l)) → IfOk r (λ x. GainsOne leads k l (command.Cut cover) (reply.Cut x))
    cut_gained cover known later still of (Ok x) row counted = one_gained (command.Cut cover) (reply.Cut x) (cut_acts _ _ _ _ known later still cover x of row counted)
    cut_gained cover known later still of (Err fault) row counted = tt

    pub cut_goes : {E : Type 0} (cover : Cover) → IsKnown (state k) → faults k ≤ faults l → (IsSound (state k) → IsSound (state l)) → IsCoverOf (state k).catalogue cover → (r : Result CutReply E)
        → IfOk r (λ x. Cuts (state k) cover x (state l)) → IfOk r (IsCountedCut (faults k) (faults l)) → OnErr r (state l ≡ state k) → outlasts k l → Goes charter reached owing lasting k l
    cut_goes cover known later still of (Ok x) row counted same lasts = acts_go (command.Cut cover) (reply.Cut x) lasts (cut_acts _ _ _ _ known later still cover x of row counted)
    cut_goes cover known later still of (Err fault) row counted same lasts = stays_go lasts same

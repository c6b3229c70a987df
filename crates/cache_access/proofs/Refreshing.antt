-- What a refresh comes to.
use Rattle.std.proofs.Common.{ℕ, ◌≡◌, Bool, true, false, List, [], ◌∷◌, ◌++◌, Result, Ok, Err, Some, inl, inr, refl, sym, ap, subst, ◌∙◌, append_assoc}
use Rattle.cabinet.specs.declared.kept.Kept.{Kept}
use Rattle.cabinet.specs.declared.replies.Asked.TheVariants as asked
use Rattle.cabinet.specs.declared.replies.Finished.{Finished}
use Rattle.cabinet.specs.declared.replies.Finished.TheVariants as finished
use Rattle.cabinet.specs.declared.replies.Forced.TheVariants as forced
use Rattle.cabinet.specs.Commands.{answering}
use Rattle.cabinet.specs.History.{kept_of}
use Rattle.cabinet.specs.State.{IsKnown, State, asked_at, fronted, now}
use Rattle.cabinet_chest.specs.declared.shown.Note.{Note}
use Rattle.cabinet_chest.specs.Above.{IsAboveAll, IsAboveCovering}
use Rattle.cabinet_chest.specs.Replies.{MayReply, book_in}
use Rattle.cabinet_chest.proofs.Numbering.{all_covering, answering_kept, kept_above}
use Rattle.catalog.specs.declared.catalogue.Catalogue.{Catalogue}
use Rattle.catalog.specs.LookUp.{IsTile}
use Rattle.catalog.specs.Valid.{IsValid}
use Rattle.matrix_geometry.specs.declared.address.Address.{Address}
use Rattle.metatile_locks.specs.Tickets.{Ticketed}
use Rattle.metatile_plan.specs.declared.metatile.MetaKey.{MetaKey}
use Rattle.raster_field.specs.Blocks.{IsMeta, blob_size, block_of, block_text, factors_at, first_tile}
use Rattle.raster_field.proofs.Firsts.{first_in}
use Rattle.raster_field.proofs.Metas.{its_plan, parts}
use Rattle.source_render.specs.Renders.{GivenImage}
use Rattle.truncation_list.specs.declared.book.FrontedBook.{FrontedBook}
use Rattle.truncation_list.specs.Books.{AnswersForFronted}
use Rattle.turnstile.specs.declared.view.Made.{Made}
use Rattle.cache_access.specs.declared.fault.GetFault.{GetFault}
use Rattle.cache_access.specs.declared.fault.GetFault.TheVariants as fault
use Rattle.cache_access.specs.declared.refreshed.Refreshed.{Refreshed}
use Rattle.cache_access.specs.declared.refreshed.Refreshed.TheVariants.{AlreadyKept, Made as Remade, Unkept}
use Rattle.cache_access.specs.declared.requesting.Requested.TheVariants as requested
use Rattle.cache_access.specs.Made.{GivesBack, HandsInBlob, Remakes}
use Rattle.cache_access.specs.Refreshes.{GivesTicket, HasGivenUp, IsNewerOnAll, IsRendered, Refreshes}
use Rattle.cache_access.specs.Requested.{HasAwaited, IsAwaiting}
use Rattle.cache_access.specs.Sourced.{AreFromSource, IsFromSource}
use Rattle.cache_access.specs.Turned.{AreTurns}
use Rattle.cache_access.specs.Waits.{IsAsk}
use Rattle.cache_access.proofs.Asked.{answered_by, forced_by}
use Rattle.cache_access.proofs.Getting.{newer_by}
use Rattle.cache_access.proofs.Sourcing.{busy_requests, by_abandon, by_ask, by_finish, by_spent, by_ticket, with_one, with_two}
use Rattle.cache_access.proofs.Turning.{turn_among}

module _ (c : Catalogue) (m : MetaKey) (valid : IsValid c) (meta : IsMeta c m) where
  first_block : block_of c (first_tile c m) ≡ m
  first_block = let plan = its_plan c m valid (parts c m meta) in first_in (factors_at c m.theme) m plan.x plan.y

  -- NEWER than what the book answers for that the request found, and than what had been seen before

  above_is_newer : (seen : FrontedBook) (ask : Made Note) (k : ℕ) → ask.found ≡ fronted (now ask.note.before.state) → AnswersForFronted ask.found seen
      → ((a : Address) → IsTile c a → block_of c a ≡ m → IsAboveCovering c (book_in ask.note.before) a k) → IsNewerOnAll c m k seen × IsNewerOnAll c m k ask.found
  above_is_newer seen ask k is answers above =
      let newer = λ (a : Address) (tile : IsTile c a) (of : block_of c a ≡ m). newer_by c a valid tile seen ask.found (book_in ask.note.before) k (ap (λ b. b.book) is) answers (above a tile of) in (
        λ a tile of. (newer a tile of).0,
        λ a tile of. (newer a tile of).1,
      )

  -- what is kept of the metatile is newer than the truncations that cover its tiles
  kept_is_above : (s : State) (n : ℕ) (t : Kept) → s.catalogue ≡ c → IsKnown s → answering (asked_at n s) (first_tile c m) ≡ Some t → (a : Address) → IsTile c a → block_of c a ≡ m → IsAboveCovering c (now s).book a t.number
  kept_is_above s n t same known e a tile of =
      let first = ap (λ (d : Catalogue). block_of d (first_tile c m)) same ∙ first_block in
      let here = ap (λ (d : Catalogue). block_of d a) same ∙ of in
      let kept : kept_of (block_of s.catalogue a) (now s) ≡ Some t = ap (λ (k : MetaKey). kept_of k (now s)) (here ∙ sym first) ∙ answering_kept s n (first_tile c m) t e in
      subst (λ (d : Catalogue). IsAboveCovering d (now s).book a t.number) same (kept_above s a t known (subst (λ (d : Catalogue). IsTile d a) (sym same) tile) kept)

  hit_above : (ask : Made Note) (k : ℕ) (bytes : List ℕ) → IsAsk (first_tile c m) (asked.Hit k bytes) ask → MayReply c false ask.note.before ask.note.after ask.note.command ask.note.reply
      → (a : Address) → IsTile c a → block_of c a ≡ m → IsAboveCovering c (book_in ask.note.before) a k
  hit_above ask k bytes is may a tile of =
      let x = answered_by c false ask.note.before ask.note.after (first_tile c m) (asked.Hit k bytes) ask.note.command ask.note.reply is.command is.reply may in
      subst (λ (n : ℕ). IsAboveCovering c (book_in ask.note.before) a n) (sym x.row.number)
      (kept_is_above ask.note.before.state ask.note.after.state.clock.moment x.row.kept may.catalogue may.known x.row.is_kept a tile of)

  -- a ticket is for the metatile, and its number above all truncations
  ticket_above : (is_forced : Bool) (ask : Made Note) (t : Ticketed) → GivesTicket c m is_forced t ask → MayReply c false ask.note.before ask.note.after ask.note.command ask.note.reply
      → IsAboveAll (book_in ask.note.before) t.number × (t.meta ≡ m)
  ticket_above false ask t is may =
      let x = answered_by c false ask.note.before ask.note.after (first_tile c m) (asked.Ticket t) ask.note.command ask.note.reply is.command is.reply may in
      (x.above, x.row.1.meta ∙ ap (λ (d : Catalogue). block_of d (first_tile c m)) may.catalogue ∙ first_block)
  ticket_above true ask t is may =
      let x = forced_by c false ask.note.before ask.note.after m (forced.Ticket t) ask.note.command ask.note.reply is.command is.reply may in
      (x.above, x.row.meta)

  -- A REFRESH

  module _ {C : Type 0} (leads : C → C → List (Made Note) → Type 0) (seen : C → FrontedBook) (gave : List GivenImage) (Sound : Type 0) (p : C) (turns_of : (q : C) (ms : List (Made Note)) → leads p q ms → AreTurns c false (seen p) ms (seen q)) (is_forced : Bool) where
    -- none
    pub refreshed_no_memory : (q : C) → IsAwaiting leads c m is_forced p q → Refreshes leads c gave Sound m is_forced (seen p) p q (Err fault.OutOfMemory)
    refreshed_no_memory q h = record { gained = h.busy; gains = h.gains; from_source = busy_requests c gave m is_forced h.busy h.waited; came_to = inl h.waited }

    pub refreshed_spent : (q : C) → HasAwaited leads c m is_forced p q requested.Spent → Refreshes leads c gave Sound m is_forced (seen p) p q (Err fault.Spent)
    refreshed_spent q h = record {
      gained = h.busy ++ h.ask ∷ [];
      gains = h.gains;
      from_source = with_one c gave h.busy h.ask (busy_requests c gave m is_forced h.busy h.waited) (by_spent c gave m is_forced h.ask h.answer);
      came_to = record { busy = h.busy; ask = h.ask; all = refl; waited = h.waited; answer = h.answer };
    }

    -- what is kept stays
    pub refreshed_kept : (q : C) (k : ℕ) → HasAwaited leads c m is_forced p q (requested.Kept k) → Refreshes leads c gave Sound m is_forced (seen p) p q (Ok (AlreadyKept k))
    refreshed_kept q k h =
        let turn = turn_among c false (seen p) (seen q) h.busy h.ask [] (turns_of q (h.busy ++ h.ask ∷ []) h.gains) in
        let newer = above_is_newer (seen p) h.ask k turn.2 turn.0 (hit_above h.ask k h.answer.1.0 h.answer.1.1 turn.1) in
        record {
          gained = h.busy ++ h.ask ∷ [];
          gains = h.gains;
          from_source = with_one c gave h.busy h.ask (busy_requests c gave m is_forced h.busy h.waited) (by_ask c gave (first_tile c m) (asked.Hit k h.answer.1.0) h.ask h.answer.1.1);
          came_to = record {
            busy = h.busy;
            ask = h.ask;
            ends = [];
            all = refl;
            waited = h.waited;
            became = record { without_force = h.answer.0; bytes = h.answer.1.0; answer = h.answer.1.1; nothing = refl };
            newer_than_seen = newer.0;
            newer_than_found = newer.1;
          };
        }

    -- a render
    module _ (q : C) (t : Ticketed) (h : HasAwaited leads c m is_forced p q (requested.Ticket t)) where
      pub ticket_meta : t.meta ≡ m
      ticket_meta = let turn = turn_among c false (seen p) (seen q) h.busy h.ask [] (turns_of q (h.busy ++ h.ask ∷ []) h.gains) in (ticket_above is_forced h.ask t h.answer turn.1).1

      module _ (True : Type 0) (sure : Sound → True) (r : C) (on : (xs ys : List (Made Note)) → leads p q xs → leads q r ys → leads p r (xs ++ ys)) where
        whole : (end : Made Note) → leads q r (end ∷ []) → leads p r (h.busy ++ h.ask ∷ end ∷ [])
        whole end gains = subst (λ (ms : List (Made Note)). leads p r ms) (append_assoc h.busy (h.ask ∷ []) (end ∷ [])) (on (h.busy ++ h.ask ∷ []) (end ∷ []) h.gains gains)

        sourced : (end : Made Note) → IsFromSource c gave end.note.command → AreFromSource c gave (h.busy ++ h.ask ∷ end ∷ [])
        sourced end from = with_two c gave h.busy h.ask end (busy_requests c gave m is_forced h.busy h.waited) (by_ticket c gave m is_forced t h.ask h.answer) from

        given_up : (back : GivesBack leads t q r) → HasGivenUp c m is_forced (h.busy ++ h.ask ∷ back.end ∷ [])
        given_up back = record { busy = h.busy; ask = h.ask; end = back.end; all = refl; waited = h.waited; ticket = t; answer = h.answer; ended = back.ended }

        rendered : (k : ℕ) (f : Finished) (made : HandsInBlob leads c gave True t q r k f) → IsRendered c Sound m is_forced h.ask (made.gains.turn ∷ []) k f
        rendered k f made = record {
          ticket = t;
          number = made.number;
          meta = ticket_meta;
          answer = h.answer;
          blob = made.blob;
          long = made.long ∙ ap (blob_size c) ticket_meta;
          truth = λ e. made.truth (sure e) ∙ ap (λ (n : ℕ). block_text c n t.meta) (sym made.number) ∙ ap (λ (x : MetaKey). block_text c k x) ticket_meta;
          end = made.gains.turn;
          handed = made.gains.of;
          one = refl;
        }

        newer_on_all : (k : ℕ) (f : Finished) (made : HandsInBlob leads c gave True t q r k f) → IsNewerOnAll c m k (seen p) × IsNewerOnAll c m k h.ask.found
        newer_on_all k f made =
            let turn = turn_among c false (seen p) (seen q) h.busy h.ask [] (turns_of q (h.busy ++ h.ask ∷ []) h.gains) in
            let above = (ticket_above is_forced h.ask t h.answer turn.1).0 in
            above_is_newer (seen p) h.ask k turn.2 turn.0 (λ a tile of. all_covering c (book_in h.ask.note.before) a k (subst (λ (n : ℕ). IsAboveAll (book_in h.ask.note.before) n) (sym made.number) above))

        pub refreshed_made : (result : Result Refreshed GetFault) → Remakes leads c gave True t q r result → Refreshes leads c gave Sound m is_forced (seen p) p r result
        refreshed_made (Ok (AlreadyKept k)) none = absurd none
        refreshed_made (Ok (Remade k)) made = record {
          gained = h.busy ++ h.ask ∷ made.gains.turn ∷ [];
          gains = whole made.gains.turn made.gains.gains;
          from_source = sourced made.gains.turn (by_finish c gave t made.blob made.gains.turn made.gains.of.command made.cut);
          came_to = record {
            busy = h.busy;
            ask = h.ask;
            ends = made.gains.turn ∷ [];
            all = refl;
            waited = h.waited;
            became = rendered k finished.Kept made;
            newer_than_seen = (newer_on_all k finished.Kept made).0;
            newer_than_found = (newer_on_all k finished.Kept made).1;
          };
        }
        refreshed_made (Ok (Unkept k)) (f, unkept, made) = record {
          gained = h.busy ++ h.ask ∷ made.gains.turn ∷ [];
          gains = whole made.gains.turn made.gains.gains;
          from_source = sourced made.gains.turn (by_finish c gave t made.blob made.gains.turn made.gains.of.command made.cut);
          came_to = record {
            busy = h.busy;
            ask = h.ask;
            ends = made.gains.turn ∷ [];
            all = refl;
            waited = h.waited;
            became = (f, unkept, rendered k f made);
            newer_than_seen = (newer_on_all k f made).0;
            newer_than_found = (newer_on_all k f made).1;
          };
        }
        refreshed_made (Err fault.SourceFault) back = record { gained = h.busy ++ h.ask ∷ back.end ∷ []; gains = whole back.end back.gains; from_source = sourced back.end (by_abandon c gave t back.end back.ended); came_to = given_up back }
        refreshed_made (Err fault.Spent) none = absurd none
        refreshed_made (Err fault.OutOfMemory) back = record { gained = h.busy ++ h.ask ∷ back.end ∷ []; gains = whole back.end back.gains; from_source = sourced back.end (by_abandon c gave t back.end back.ended); came_to = inr (given_up back) }

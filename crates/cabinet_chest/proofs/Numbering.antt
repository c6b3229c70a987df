-- The numbers of hits, tickets and truncations, beside the book.
use Rattle.std.proofs.Common.{ℕ, ◌≡◌, ◌<◌, Bool, true, false, cond, Option, Some, None, IsTrue, inl, inr, refl, sym, ap, subst, ◌∙◌, arith}
use Rattle.std.specs.List.{Contains}
use Rattle.std.specs.Option.{option_and_then, option_map_or}
use Rattle.std.proofs.lemmas.List.Elements.{Contains-push, recursion_from_All}
use Rattle.catalog.specs.declared.catalogue.Catalogue.{Catalogue}
use Rattle.catalog.specs.LookUp.{IsTile, matrix_in}
use Rattle.catalog.specs.Valid.{IsValid}
use Rattle.matrix_geometry.specs.declared.address.Address.{Address}
use Rattle.matrix_geometry.specs.declared.matrix.Matrix.{Matrix}
use Rattle.metatile_locks.proofs.Lists.{all_weaker}
use Rattle.raster_field.specs.Blocks.{block_of}
use Rattle.raster_field.proofs.Metas.{limits_of, tile_meta, tile_within}
use Rattle.truncation_list.specs.declared.book.Book.{Book}
use Rattle.truncation_list.specs.declared.book.Cut.{Cut}
use Rattle.truncation_list.specs.declared.cover.Cover.{Cover}
use Rattle.truncation_list.specs.Books.{AnswersFor, AnswersForBook, Outdoes}
use Rattle.truncation_list.specs.Contains.{contains}
use Rattle.truncation_list.specs.Covers.{covers}
use Rattle.truncation_list.specs.Purge.{added, purged}
use Rattle.truncation_list.proofs.Answering.{answers_for_cut, of_any}
use Rattle.truncation_list.proofs.Boxes.{outer_covers}
use Rattle.cabinet.specs.declared.entry.HistoryEntry.TheVariants as entry
use Rattle.cabinet.specs.declared.kept.Kept.{Kept}
use Rattle.cabinet.specs.declared.replies.Asked.{Asked}
use Rattle.cabinet.specs.declared.replies.Asked.TheVariants as asked
use Rattle.cabinet.specs.declared.replies.CutReply.{CutReply}
use Rattle.cabinet.specs.declared.replies.CutReply.TheVariants as cut
use Rattle.cabinet.specs.declared.replies.Forced.{Forced}
use Rattle.cabinet.specs.declared.replies.Forced.TheVariants as forced
use Rattle.cabinet.specs.Commands.{Asks, Cuts, Forces, answering, is_within, where_within}
use Rattle.cabinet.specs.Fresh.{HoldsOfKept, IsNewer, cuts_of, limit_for}
use Rattle.cabinet.specs.Hits.{covers_in, hits_of}
use Rattle.cabinet.specs.History.{after, kept_of, least_of, next, numbers, whole}
use Rattle.cabinet.specs.State.{IsKnown, State, asked_at, now, with_cut}
use Rattle.cabinet.proofs.Hits.{covered_hit}
use Rattle.cabinet.proofs.Holding.{above_listed, holds_of, kept_has}
use Rattle.cabinet.proofs.Lists.{all_contained}
use Rattle.cabinet.proofs.Rows.{next_is, now_asked, now_more}
use Rattle.metatile_plan.specs.declared.metatile.MetaKey.{MetaKey}
use Rattle.cabinet_chest.specs.Above.{IsAboveAll, IsAboveCovering}
use Rattle.cabinet_chest.specs.Replies.{IsAskedAbove, IsCutAbove, IsForcedAbove}

-- THE NEXT NUMBER is above the floor and all listed truncations

pub next_above : (s : State) (k : ℕ) → IsKnown s → next s.opening (now s) ≡ Some k → IsAboveAll (now s).book k
next_above s k known e =
    let n = next_is s.opening (now s) k e in
    let h = holds_of s.catalogue s.opening s.since known.possible in
    let floor = h.floor_given in
    let number = n.number in
    record {
      floor = omega (arith, floor, number);
      cuts = recursion_from_All (λ (x : Cut). x.number < k) (now s).book.cuts (above_listed s.catalogue (cuts_of (whole s.opening s.since)) (now s) k h (omega (arith, number)));
    }

-- the same after the moment of an ask or a force
pub next_above_asked : (s : State) (n k : ℕ) → IsKnown s → next s.opening (now (asked_at n s)) ≡ Some k → IsAboveAll (now s).book k
next_above_asked s n k known e = next_above s k known (sym (ap (next s.opening) (now_asked s n)) ∙ e)

-- WHAT IS KEPT is newer than the truncations that cover its tiles

kept_if : (v : Bool) (t k : Kept) → cond v (Some t) None ≡ Some k → Some t ≡ Some k
kept_if true t k e = e
kept_if false t k e = absurd (cc)

within_some : (limit : Option ℕ) (n : ℕ) (o : Option Kept) (t : Kept) → option_and_then (where_within limit n) o ≡ Some t → o ≡ Some t
within_some limit n None t e = e
within_some limit n (Some k) t e = kept_if (is_within limit k.moment n) k t e

pub answering_kept : (s : State) (n : ℕ) (a : Address) (t : Kept) → answering (asked_at n s) a ≡ Some t → kept_of (block_of s.catalogue a) (now s) ≡ Some t
answering_kept s n a t e =
    let m = block_of s.catalogue a in
    sym (ap (kept_of m) (now_asked s n)) ∙ within_some (limit_for s.catalogue a) (now (asked_at n s)).moment (kept_of m (now (asked_at n s))) t e

pub kept_above : (s : State) (a : Address) (t : Kept) → IsKnown s → IsTile s.catalogue a → kept_of (block_of s.catalogue a) (now s) ≡ Some t → IsAboveCovering s.catalogue (now s).book a t.number
kept_above s a t known tile e =
    let c = s.catalogue in
    let cuts = cuts_of (whole s.opening s.since) in
    let h = holds_of c s.opening s.since known.possible in
    let k = kept_has (HoldsOfKept c cuts (now s).front (now s).book.floor) (block_of c a) (now s) t h.kept e in
    let newer : IsNewer c cuts t.number (block_of c a) = subst (IsNewer c cuts t.number) k.1 k.0.newer in
    record {
      floor = k.0.above_floor;
      cuts =
          all_weaker (Contains cuts) (λ (x : Cut). IsTrue (covers_in c x.cover a) → x.number < t.number)
          (λ x there covered. all_contained (λ (j : Cut). IsTrue (hits_of c j.cover (block_of c a)) → j.number < t.number) cuts x newer there (covered_hit c x.cover a known.valid tile covered)) (now s).book.cuts h.listed;
    }

-- REPLIES

pub asked_above : (before after : ℕ) (s t : State) (a : Address) (r : Asked) → IsKnown s → IsTile s.catalogue a → Asks before after s a r t → IsAskedAbove s.catalogue (now s).book a r
asked_above before after s t a (asked.Hit k bytes) known tile row =
    subst (IsAboveCovering s.catalogue (now s).book a) (sym row.number) (kept_above s a row.kept known tile (answering_kept s t.clock.moment a row.kept row.is_kept))
asked_above before after s t a (asked.Ticket ticket) known tile row = next_above_asked s t.clock.moment ticket.number known row.1.number
asked_above before after s t a (asked.Busy k) known tile row = tt
asked_above before after s t a asked.Spent known tile row = tt

pub forced_above : (s t : State) (m : MetaKey) (r : Forced) → IsKnown s → Forces s m r t → IsForcedAbove (now s).book r
forced_above s t m (forced.Ticket ticket) known row = next_above_asked s t.clock.moment ticket.number known row.number
forced_above s t m (forced.Busy k) known row = tt
forced_above s t m forced.Spent known row = tt

added_contains : (number : ℕ) (cover : Cover) (least : Option ℕ) (book : Book) → Contains (added number cover least book).cuts (record { number = number; cover = cover })
added_contains number cover least book = Contains-push (purged (Some cover) least book).cuts (record { number = number; cover = cover })

pub cut_above : (s t : State) (cover : Cover) (r : CutReply) → IsKnown s → Cuts s cover r t → IsCutAbove (now s).book (now t).book cover r
cut_above s t cover (cut.Done k) known row =
    let listed : Contains (after s.catalogue (now s) (entry.Cut k cover)).book.cuts (record { number = k; cover = cover }) = added_contains k cover (least_of (numbers (now s).out (now s).kept)) (now s).book in
    let book : (now t).book ≡ (after s.catalogue (now s) (entry.Cut k cover)).book = ap (λ (u : State). (now u).book) row.2 ∙ ap (λ u. u.book) (now_more s (entry.Cut k cover) (with_cut s k cover).blobs) in
    (next_above s k known row.0, subst (λ (b : Book). Contains b.cuts (record { number = k; cover = cover })) (sym book) listed)
cut_above s t cover cut.Full known row = tt
cut_above s t cover (cut.DiskFault b a) known row = tt
cut_above s t cover cut.Spent known row = tt

-- WHAT A BOOK ANSWERS FOR

pub all_covering : (c : Catalogue) (book : Book) (a : Address) (k : ℕ) → IsAboveAll book k → IsAboveCovering c book a k
all_covering c book a k above = record {
  floor = above.floor;
  cuts = all_weaker (λ (x : Cut). x.number < k) (λ x. IsTrue (covers_in c x.cover a) → x.number < k) (λ x l _. l) book.cuts above.cuts;
}

module _ (c : Catalogue) (a : Address) (valid : IsValid c) (tile : IsTile c a) where
  through_at : (outer inner : Cover) → IsTrue (contains outer inner) → (o : Option Matrix) → matrix_in c a.grid a.z ≡ o → IsTrue (option_map_or (λ x. covers inner x a) o false) → IsTrue (option_map_or (λ x. covers outer x a) o false)
  through_at outer inner within None e h = h
  through_at outer inner within (Some x) e h =
      let place = tile_within c a x tile e in
      outer_covers outer inner x a (limits_of c (block_of c a) x valid (tile_meta c a tile) e) place.0 place.1 within h

  covers_through : (outer inner : Cover) → IsTrue (contains outer inner) → IsTrue (covers_in c inner a) → IsTrue (covers_in c outer a)
  covers_through outer inner within h = through_at outer inner within (matrix_in c a.grid a.z) refl h

  outdone_below : (book : Book) (k : ℕ) (cut listed : Cut) → IsAboveCovering c book a k → Contains book.cuts listed → Outdoes listed cut → IsTrue (covers_in c cut.cover a) → cut.number < k
  outdone_below book k cut listed above there outdoes covered =
      let below = all_contained (λ (x : Cut). IsTrue (covers_in c x.cover a) → x.number < k) book.cuts listed above.cuts there (covers_through listed.cover cut.cover outdoes.cover covered) in
      let more = outdoes.number in
      omega (arith, below, more)

  pub answered_below : (book : Book) (k : ℕ) (cut : Cut) → IsAboveCovering c book a k → AnswersFor book cut → IsTrue (covers_in c cut.cover a) → cut.number < k
  answered_below book k cut above (inl there) covered = all_contained (λ (x : Cut). IsTrue (covers_in c x.cover a) → x.number < k) book.cuts cut above.cuts there covered
  answered_below book k cut above (inr (inl some)) covered =
      let found = of_any (λ listed. Outdoes listed cut) book.cuts some in
      outdone_below book k cut found.0 above found.1 found.2 covered
  answered_below book k cut above (inr (inr low)) covered = let floor = above.floor in omega (arith, low, floor)

  pub older_below : (book older : Book) (k : ℕ) (cut : Cut) → IsAboveCovering c book a k → AnswersForBook book older → AnswersFor older cut → IsTrue (covers_in c cut.cover a) → cut.number < k
  older_below book older k cut above answers for covered = answered_below book k cut above (answers_for_cut book older cut answers for) covered

-- The rows of commands, from what the parts of a cabinet answer.
use Rattle.std.proofs.Common.{ℕ, ◌≡◌, ◌≢◌, ◌<◌, ◌≤◌, Bool, true, false, cond, not, List, [], ◌∷◌, ◌++◌, ◌==◌, length, map, filter, find, fold, Option, Some, None, IsSome, inl, inr, refl, sym, ap, subst, ◌∙◌, arith, append_assoc}
use Rattle.std.specs.Prelude.{Err, IfOk, Ok, Result}
use Rattle.std.specs.List.{AllByRecursion}
use Rattle.std.specs.Option.{option_and_then, option_map}
use Rattle.std.proofs.lemmas.Bool.{cases_lt}
use Rattle.std.proofs.lemmas.Grind.{fold-append}
use Rattle.std.proofs.lemmas.List.{length-map}
use Rattle.std.proofs.lemmas.List.Sums.{length-filter}
use Rattle.catalog.specs.declared.catalogue.Scope.{Scope}
use Rattle.catalog.specs.LookUp.{IsTile}
use Rattle.expiry_policy.specs.declared.uses.Use.{Use}
use Rattle.expiry_policy.specs.Victims.{IsUnsaved, IsVictim, victim}
use Rattle.expiry_policy.specs.Victims as uses
use Rattle.expiry_policy.proofs.OneVictim.{one_victim}
use Rattle.matrix_geometry.specs.declared.address.Address.{Address}
use Rattle.metatile_plan.specs.declared.metatile.MetaKey.{MetaKey}
use Rattle.metatile_plan.proofs.Same.{same_meta_is}
use Rattle.quota_ledger.specs.Accounts.{accounts, exceeded}
use Rattle.raster_field.specs.Blocks.{blob_size, block_of, block_text}
use Rattle.truncation_list.specs.declared.book.Book.{Book}
use Rattle.truncation_list.specs.declared.cover.Cover.{Cover}
use Rattle.truncation_list.specs.Purge.{purged}
use Rattle.metatile_locks.specs.declared.render.Render.{Render}
use Rattle.metatile_locks.specs.declared.replies.End.{End}
use Rattle.metatile_locks.specs.declared.replies.End.TheVariants as ends
use Rattle.metatile_locks.specs.Calls.{Ends}
use Rattle.metatile_locks.specs.Running.{IsLeast, Locked, has_number, render_of, running_for, unmarked, without}
use Rattle.metatile_locks.specs.Tickets.{Ticketed}
use Rattle.metatile_locks.proofs.Lists.{all_filter, all_map, all_weaker, found}
use Rattle.metatile_locks.proofs.Runs.{one}
use Rattle.cabinet.specs.declared.entry.HistoryEntry.TheVariants as entry
use Rattle.cabinet.specs.declared.judged.Admitted.TheVariants as admitted
use Rattle.cabinet.specs.declared.judged.Judged.{Judged}
use Rattle.cabinet.specs.declared.judged.Judged.TheVariants as judged
use Rattle.cabinet.specs.declared.judged.Unsaved.{Unsaved}
use Rattle.cabinet.specs.declared.kept.Kept.{Kept}
use Rattle.cabinet.specs.declared.kept.KeptBlob.{KeptBlob}
use Rattle.cabinet.specs.declared.replies.Asked.{Asked}
use Rattle.cabinet.specs.declared.replies.Forced.{Forced}
use Rattle.cabinet.specs.declared.turns.Turn.{Turn}
use Rattle.cabinet.specs.declared.turns.Turn.TheVariants as turn
use Rattle.cabinet.specs.Commands.{Asks, IsForcedOf, IsFreshReply, IsUnkept, answering, is_within, others, place_for, where_within}
use Rattle.cabinet.specs.Consistent.{IsConsistent, Parts, seen, stood}
use Rattle.cabinet.specs.Counted.{kept_in, part_of, scope_exceeded, unsaved_in, use_of, uses_of}
use Rattle.cabinet.specs.Counted as counts
use Rattle.cabinet.specs.Fresh.{ApartBy, limit_for}
use Rattle.cabinet.specs.Gaps.{gap_for}
use Rattle.cabinet.specs.History.{History, CabinetStanding, but, first, first_entries, is_of, kept_of, least_of, lesser, next, numbers, last_number, whole}
use Rattle.cabinet.specs.Shelved.{IsFirstToGo, IsUnsavedOn, JudgesOn, listed, scope_above, use_on}
use Rattle.cabinet.specs.State.{IsPictured, IsKnown, IsSound, State, blobs_counted, blobs_with, blobs_without, now, with_blob, with_counted, with_dropped, with_entry}
use Rattle.cabinet.specs.Steps.{Admits, GoesFirst, IsUnsavedFirst, Judges}
use Rattle.cabinet.specs.Turns.{IsTaken, IsTurn, Progress}
use Rattle.cabinet.proofs.Holding.{least_has, least_most}
use Rattle.cabinet.proofs.Lists.{all_of_map, all_push, find_map}
use Rattle.cabinet.proofs.Modelled.{some_and_made}
use Rattle.cabinet.proofs.Once.{once}
use Rattle.cabinet.proofs.OnShelf.{listed_filter}
use Rattle.cabinet.proofs.Consistent.{one_less}
use Rattle.cabinet.proofs.Rows.{IsNext, asks_fresh, next_is}
use Rattle.cabinet.proofs.WithUses.{blobs_set}

-- THE LEAST NUMBER

at_most : (k m : ℕ) (rs : List Render) → AllByRecursion (λ r. m ≤ r.number) rs → (f : Option Render) → find (has_number k) rs ≡ f → IsSome f → m ≤ k
at_most k m rs a None e h = absurd (cc)
at_most k m rs a (Some x) e h = let f = found (has_number k) (λ (r : Render). m ≤ r.number) rs x a e in let n : x.number ≡ k = one x.number k f.0 in let l = f.1 in omega arith

-- the least number that runs
least_running : (o : Option ℕ) (rs : List Render) → IsLeast o rs → o ≡ least_of (map (λ r. r.number) rs)
least_running None rs e = subst (λ (x : List Render). None ≡ least_of (map (λ r. r.number) x)) (sym e) refl
least_running (Some k) [] h = absurd (let x = h.0 in cc)
least_running (Some k) (r ∷ rs) h =
    let l = least_most (map (λ r. r.number) rs) (Some r.number) r.number refl in
    let low : k ≤ l.0 = least_has (λ n. k ≤ n) (map (λ r. r.number) rs) (Some r.number) (all_map (λ (r : Render). r.number) (λ n. k ≤ n) rs h.1.1) (λ m e. let d : r.number ≡ m = cc in let a = h.1.0 in omega arith) l.0 l.1 in
    let high : l.0 ≤ k = at_most k l.0 (r ∷ rs) (l.2, all_of_map (λ (r : Render). r.number) (λ n. l.0 ≤ n) rs l.3) (find (has_number k) (r ∷ rs)) refl h.0 in
    let same : k ≡ l.0 = omega arith in
    ap Some same ∙ sym l.1

map_numbers : (blobs : List KeptBlob) → map (λ t. t.number) (map (λ b. b.kept) blobs) ≡ map (λ b. b.kept.number) blobs
map_numbers [] = refl
map_numbers (b ∷ bs) = ap (λ (ns : List ℕ). b.kept.number ∷ ns) (map_numbers bs)

-- and with the kept ones
pub least_is : (least was : Option ℕ) (renders : List Render) (blobs those : List KeptBlob) → IsLeast was renders → least ≡ fold lesser was (map (λ b. b.kept.number) those) → those ≡ blobs → least ≡ least_of (numbers renders (map (λ b. b.kept) blobs))
least_is least was renders blobs those w e same = e ∙ rw (least_running was renders w, same, fold-append, map_numbers blobs) refl

-- USES

-- what is found of a metatile is of it
of_key : (f : MetaKey → Use) (m : MetaKey) (ts : List Kept) → option_map (λ t. f m) (find (is_of m) ts) ≡ option_map (λ t. f t.meta) (find (is_of m) ts)
of_key f m [] = refl
of_key f m (t ∷ ts) = chosen (is_of m t) refl (of_key f m ts)
  where
    chosen : (v : Bool) → is_of m t ≡ v → option_map (λ t. f m) (find (is_of m) ts) ≡ option_map (λ t. f t.meta) (find (is_of m) ts)
        → option_map (λ t. f m) (cond v (Some t) (find (is_of m) ts)) ≡ option_map (λ t. f t.meta) (cond v (Some t) (find (is_of m) ts))
    chosen true e ih = ap (λ (n : MetaKey). Some (f n)) (sym (same_meta_is t.meta m e))
    chosen false e ih = ih

-- the uses of metatiles that differ are apart
uses_apart : (f : MetaKey → Use) → ((m : MetaKey) → (f m).meta ≡ m) → (ts : List Kept) → ApartBy (λ t. t.meta) ts → uses.AreApart (map (λ t. f t.meta) ts)
uses_apart f is [] a = tt
uses_apart f is (t ∷ ts) a = (
  all_map (λ (x : Kept). f x.meta) (λ u. (f t.meta).meta ≢ u.meta) ts (all_weaker (λ (x : Kept). t.meta ≢ x.meta) (λ x. (f t.meta).meta ≢ (f x.meta).meta) (λ x off e. off (sym (is t.meta) ∙ e ∙ is x.meta)) ts a.0),
  uses_apart f is ts a.1,
)

module _ (p : Parts) (h : History) (k : IsConsistent p h) where
  abbrev here : State
  here = seen p h

  kept_are : listed p.shelf.blobs ≡ (now here).kept
  kept_are = k.known.blobs

  out_are : p.renders ≡ (now here).out
  out_are = ap (λ (x : CabinetStanding). x.out) (sym k.stands)

  -- HITS

  listed_of : (m : MetaKey) (o : Option KeptBlob) → find (λ b. is_of m b.kept) p.shelf.blobs ≡ o → kept_of m (now here) ≡ option_map (λ b. b.kept) o
  listed_of m o e = ap (find (is_of m)) (sym kept_are) ∙ find_map (λ (x : KeptBlob). x.kept) (is_of m) p.shelf.blobs ∙ ap (option_map (λ (x : KeptBlob). x.kept)) e

  moment_is : (now here).moment ≡ p.moment
  moment_is = ap (λ (x : CabinetStanding). x.moment) k.stands

  -- what is kept answers where it is within its limit at the moment
  answers : (a : Address) (t : Kept) (limit : Option ℕ) (v : Bool) → find (is_of (block_of p.shelf.catalogue a)) (listed p.shelf.blobs) ≡ Some t → limit ≡ limit_for p.shelf.catalogue a → is_within limit t.moment p.moment ≡ v
      → answering here a ≡ cond v (Some t) None
  answers a t limit v at of told =
      let kept : kept_of (block_of p.shelf.catalogue a) (now here) ≡ Some t = ap (find (is_of (block_of p.shelf.catalogue a))) (sym kept_are) ∙ at in
      let within : is_within (limit_for p.shelf.catalogue a) t.moment (now here).moment ≡ v = (λ i. is_within (sym of i) t.moment (moment_is i)) ∙ told in
      ap (option_and_then (where_within (limit_for p.shelf.catalogue a) (now here).moment)) kept ∙ ap (λ (w : Bool). cond w (Some t) None) within

  pub some_answers : (a : Address) (t : Kept) (limit : Option ℕ) → find (is_of (block_of p.shelf.catalogue a)) (listed p.shelf.blobs) ≡ Some t → limit ≡ limit_for p.shelf.catalogue a → is_within limit t.moment p.moment ≡ true
      → IsSome (answering here a)
  some_answers a t limit at of told = rw (answers a t limit true at of told) refl

  -- and doesn't where it is older
  pub older_unkept : (a : Address) (t : Kept) (limit : Option ℕ) → find (is_of (block_of p.shelf.catalogue a)) (listed p.shelf.blobs) ≡ Some t → limit ≡ limit_for p.shelf.catalogue a → is_within limit t.moment p.moment ≡ false
      → IsUnkept here a
  older_unkept a t limit at of told = answers a t limit false at of told

  -- it is used
  pub used_row : (a : Address) (m : MetaKey) (new : State) (more : History) → m ≡ block_of p.shelf.catalogue a → more ≡ h ++ entry.Used m ∷ []
      → new ≡ record { catalogue = p.shelf.catalogue; opening = p.opening; history = whole p.opening more; since = more; blobs = Some p.shelf.blobs; clock = p.clock } → new ≡ with_entry here (entry.Used (block_of p.shelf.catalogue a))
  used_row a m new more is e f =
      let past : more ≡ h ++ entry.Used (block_of p.shelf.catalogue a) ∷ [] = e ∙ ap (λ (o : MetaKey). h ++ entry.Used o ∷ []) is in
      let all : whole p.opening more ≡ whole p.opening h ++ entry.Used (block_of p.shelf.catalogue a) ∷ [] =
      ap (whole p.opening) past ∙ sym (append_assoc (first_entries p.opening) h (entry.Used (block_of p.shelf.catalogue a) ∷ [])) in
      f ∙ (λ i. record { catalogue = p.shelf.catalogue; opening = p.opening; history = all i; since = past i; blobs = Some p.shelf.blobs; clock = p.clock })

  -- WHAT IS TOLD

  pub layer_kept : (layer : ℕ) → length (filter (λ b. b.kept.meta.theme.layer == layer) p.shelf.blobs) ≡ kept_in here layer
  layer_kept layer =
      sym (length-map (filter (λ b. b.kept.meta.theme.layer == layer) p.shelf.blobs) (λ (b : KeptBlob). b.kept))
      ∙ ap length (listed_filter (λ t. t.meta.theme.layer == layer) p.shelf.blobs)
      ∙ ap (λ (ts : List Kept). length (filter (λ t. t.meta.theme.layer == layer) ts)) kept_are
      ∙ length-filter (λ t. t.meta.theme.layer == layer) (now here).kept

  -- TURNS

  module _ (m : MetaKey) (next' : Option ℕ) (locks : Locked) (same : locks.renders ≡ p.renders) (from : next' ≡ next p.opening (stood p)) where
    next_told : next p.opening (now here) ≡ next'
    next_told = ap (next p.opening) k.stands ∙ sym from

    running_is : (o : Option ℕ) → running_for m locks.renders ≡ o → running_for m (now here).out ≡ o
    running_is o e = ap (running_for m) (sym (same ∙ out_are)) ∙ e

    -- what a turn comes to when it is taken
    pub taken_row : (came : Turn) (reply : Forced) (new : Progress) (t : State) → IsTurn m next' locks p.shelf came → IsTaken m p.moment (record { renders = locks.renders; last = p.last; past = h }) came reply new
        → t ≡ record { catalogue = p.shelf.catalogue; opening = p.opening; history = whole p.opening new.past; since = new.past; blobs = Some p.shelf.blobs; clock = p.clock } → IsForcedOf here m reply t
    taken_row (turn.Busy j) reply new t turns x e = subst (λ (r : Forced). IsForcedOf here m r t) (sym x.0) (
      running_is (Some j) turns,
      e ∙ (λ i. record { catalogue = p.shelf.catalogue; opening = p.opening; history = whole p.opening (x.1 i).past; since = (x.1 i).past; blobs = Some p.shelf.blobs; clock = p.clock }),
    )
    taken_row turn.Spent reply new t turns x e = subst (λ (r : Forced). IsForcedOf here m r t) (sym x.0) (
      running_is None turns.0,
      next_told ∙ turns.1,
      e ∙ (λ i. record { catalogue = p.shelf.catalogue; opening = p.opening; history = whole p.opening (x.1 i).past; since = (x.1 i).past; blobs = Some p.shelf.blobs; clock = p.clock }),
    )
    taken_row (turn.Given j) reply new t turns x e =
        let past : new.past ≡ h ++ entry.Started j m ∷ [] = ap (λ (w : Progress). w.past) x.1 in
        let all : whole p.opening new.past ≡ whole p.opening h ++ entry.Started j m ∷ [] = ap (whole p.opening) past ∙ sym (append_assoc (first_entries p.opening) h (entry.Started j m ∷ [])) in
        subst (λ (r : Forced). IsForcedOf here m r t) (sym x.0)
        (record {
          none_runs = running_is None turns.0;
          number = next_told ∙ turns.1;
          meta = refl;
          state = e ∙ (λ i. record { catalogue = p.shelf.catalogue; opening = p.opening; history = all i; since = past i; blobs = Some p.shelf.blobs; clock = p.clock });
        })

  -- FINISHES

  pub runs_are : (t : Ticketed) (r : Render) → render_of t p.renders ≡ Some r → render_of t (now here).out ≡ Some r
  runs_are t r e = ap (render_of t) (sym out_are) ∙ e

  others_are : (m : MetaKey) → length (but m (listed p.shelf.blobs)) ≡ others here m
  others_are m = ap (λ (ts : List Kept). length (but m ts)) kept_are

  place_is : (bytes : ℕ) (o : Option ℕ) → gap_for p.shelf.catalogue (listed p.shelf.blobs) bytes ≡ o → place_for here bytes ≡ o
  place_is bytes o e = ap (λ (ts : List Kept). gap_for p.shelf.catalogue ts bytes) (sym kept_are) ∙ e

  -- what is to come of a render that was not overtaken
  pub judges_row : (t : Ticketed) (n : ℕ) (told : Judged) → render_of t p.renders ≡ Some (unmarked t.number t.meta n) → JudgesOn p.shelf t n told → Judges here t told
  judges_row t n judged.Stranger runs x = absurd x
  judges_row t n (judged.Overtaken cut) runs x = absurd x
  judges_row t n judged.Full runs x = (n, runs_are t (unmarked t.number t.meta n) runs, subst (λ (l : ℕ). p.shelf.catalogue.kept_limit ≤ l) (others_are t.meta) x)
  judges_row t n judged.NoRoom runs x =
      (n, runs_are t (unmarked t.number t.meta n) runs, subst (λ (l : ℕ). l < p.shelf.catalogue.kept_limit) (others_are t.meta) x.0, place_is (blob_size p.shelf.catalogue t.meta) None x.1)
  judges_row t n (judged.Fits kept) runs x =
      (n, runs_are t (unmarked t.number t.meta n) runs, subst (λ (l : ℕ). l < p.shelf.catalogue.kept_limit) (others_are t.meta) x.0, place_is (blob_size p.shelf.catalogue t.meta) (Some kept.place) x.1, x.2)

  -- a render that runs takes one of the places that there is room for
  pub some_room : (t : Ticketed) (r : Render) → render_of t p.renders ≡ Some r → 1 ≤ p.shelf.room
  some_room t r runs = let less = one_less p h k t r runs in let room = k.room in omega arith

  -- what fits, of the shelf
  module _ (t : Ticketed) (kept : Kept) (fits : Judges here t (judged.Fits kept)) where
    pub fits_runs : render_of (record { number = kept.number; meta = kept.meta }) p.renders ≡ Some (unmarked kept.number kept.meta kept.moment)
    fits_runs =
        subst (λ (x : Kept). render_of (record { number = x.number; meta = x.meta }) p.renders ≡ Some (unmarked x.number x.meta x.moment)) (sym fits.4) (ap (render_of t) out_are ∙ fits.1)

    pub fits_few : length (but kept.meta (listed p.shelf.blobs)) < p.shelf.catalogue.kept_limit
    fits_few = subst (λ (x : Kept). length (but x.meta (listed p.shelf.blobs)) < p.shelf.catalogue.kept_limit) (sym fits.4) (subst (λ (l : ℕ). l < p.shelf.catalogue.kept_limit) (sym (others_are t.meta)) fits.2)

    pub fits_size : kept.length ≡ blob_size p.shelf.catalogue kept.meta
    fits_size = subst (λ (x : Kept). x.length ≡ blob_size p.shelf.catalogue x.meta) (sym fits.4) refl

    pub fits_new : kept.uses ≡ 0
    fits_new = ap (λ (x : Kept). x.uses) fits.4

    -- it is off once it ended
    pub ended_off : (told : End) (rs : List Render) → Ends p.renders t told rs → rs ≡ without t.number p.renders
    ended_off ends.Stranger rs x = absurd (let e = sym x.0 ∙ ap (render_of t) out_are ∙ fits.1 in cc)
    ended_off (ends.Overtaken cut) rs x = x.2
    ended_off (ends.Whole n) rs x = x.1

    fits_place : gap_for p.shelf.catalogue (listed p.shelf.blobs) (blob_size p.shelf.catalogue t.meta) ≡ Some kept.place
    fits_place = ap (λ (ts : List Kept). gap_for p.shelf.catalogue ts (blob_size p.shelf.catalogue t.meta)) kept_are ∙ fits.3

    fits_meta : t.meta ≡ kept.meta
    fits_meta = ap (λ (x : Kept). x.meta) (sym fits.4)

    pub fits_gap : gap_for p.shelf.catalogue (listed p.shelf.blobs) kept.length ≡ Some kept.place
    fits_gap = ap (λ (x : Kept). gap_for p.shelf.catalogue (listed p.shelf.blobs) x.length) fits.4 ∙ fits_place

    pub fits_on : JudgesOn p.shelf (record { number = kept.number; meta = kept.meta }) kept.moment (judged.Fits kept)
    fits_on = (
      fits_few,
      subst (λ (m : MetaKey). gap_for p.shelf.catalogue (listed p.shelf.blobs) (blob_size p.shelf.catalogue m) ≡ Some kept.place) fits_meta fits_place,
      (λ j. record { number = kept.number; meta = kept.meta; place = kept.place; length = fits_size j; moment = kept.moment; uses = fits_new j }),
    )

  -- CUTS

  before_is : (cover : Cover) (least : Option ℕ) (listed' : Book) → least ≡ least_of (numbers p.renders (listed p.shelf.blobs)) → listed' ≡ p.book
      → purged (Some cover) least listed' ≡ purged (Some cover) (least_of (numbers (now here).out (now here).kept)) (now here).book
  before_is cover least listed' l b =
      let whole : least ≡ least_of (numbers (now here).out (now here).kept) = l ∙ (λ i. least_of (numbers (out_are i) (kept_are i))) in
      let there : listed' ≡ (now here).book = b ∙ ap (λ (x : CabinetStanding). x.book) (sym k.stands) in
      λ i. purged (Some cover) (whole i) (there i)

  module _ (cover : Cover) (least : Option ℕ) (book : Book) (number : ℕ) (next_is : next p.opening (now here) ≡ Some number) (low : least ≡ least_of (numbers p.renders (listed p.shelf.blobs))) (same : book ≡ p.book) where
    pub admits_full : p.shelf.catalogue.cut_limit ≤ length (purged (Some cover) least book).cuts → Admits here cover admitted.Full
    admits_full full = (rw next_is refl, subst (λ (x : Book). p.shelf.catalogue.cut_limit ≤ length x.cuts) (before_is cover least book low same) full)

    pub admits_number : length (purged (Some cover) least book).cuts < p.shelf.catalogue.cut_limit → Admits here cover (admitted.Number number)
    admits_number room_left = (next_is, subst (λ (x : Book). length x.cuts < p.shelf.catalogue.cut_limit) (before_is cover least book low same) room_left)

    pub admitted_few : Admits here cover (admitted.Number number) → length (purged (Some cover) least book).cuts < p.shelf.catalogue.cut_limit
    admitted_few x = subst (λ (x : Book). length x.cuts < p.shelf.catalogue.cut_limit) (sym (before_is cover least book low same)) x.1

  pub number_is : (number : ℕ) → next p.opening (now here) ≡ Some number → IsNext p.last (last_number p.opening) number
  number_is number e = next_is p.opening (stood p) number (ap (next p.opening) (sym k.stands) ∙ e)

  -- EXPIRES

  scope_is : (o : Option Scope) → scope_above p.shelf ≡ o → scope_exceeded here ≡ o
  scope_is o e = ap (λ (ts : List Kept). exceeded (accounts p.shelf.catalogue (map part_of ts))) (sym kept_are) ∙ e

  uses_are : (m : MetaKey) → use_on p.shelf m ≡ find (uses.is_of m) (uses_of here)
  uses_are m =
      k.uses m
      ∙ ap (λ (ts : List Kept). option_map (λ t. use_of (whole p.opening h) m) (find (is_of m) ts)) kept_are
      ∙ of_key (use_of (whole p.opening h)) m (now here).kept
      ∙ sym (find_map (λ (t : Kept). use_of (whole p.opening h) t.meta) (uses.is_of m) (now here).kept)

  -- the victim of the shelf is that of the history
  victim_is : (scope : Scope) (m : MetaKey) → IsVictim p.shelf.catalogue.policy scope (use_on p.shelf) (Some m) → victim p.shelf.catalogue.policy scope (uses_of here) ≡ Some m
  victim_is scope m goes =
      let apart = uses_apart (use_of (whole p.opening h)) (λ n. refl) (now here).kept (once p.shelf.catalogue p.opening h k.known.possible.opens) in
      sym (one_victim p.shelf.catalogue.policy scope (uses_of here) (Some m) apart (subst (λ (f : MetaKey → Option Use). IsVictim p.shelf.catalogue.policy scope f (Some m)) (λ j n. uses_are n j) goes))

  pub goes_row : (o : Option Kept) → IsFirstToGo p.shelf o → GoesFirst here o
  goes_row None x = scope_is None x
  goes_row (Some t) x = (x.0, scope_is (Some x.0) x.1, victim_is x.0 t.meta x.2, ap (find (is_of t.meta)) (sym kept_are) ∙ x.3)

  -- what is kept in the history is on the shelf
  pub on_shelf : (m : MetaKey) → IsSome (kept_of m (now here)) → IsSome (find (is_of m) (listed p.shelf.blobs))
  on_shelf m some = subst (λ (ts : List Kept). IsSome (find (is_of m) ts)) (sym kept_are) some

  -- SAVINGS

  -- what is to be saved on the shelf is so in the history
  unsaved_is : (o : Option MetaKey) → IsUnsaved (use_on p.shelf) o → unsaved_in here o
  unsaved_is o first = subst (λ (f : MetaKey → Option Use). IsUnsaved f o) (λ j n. uses_are n j) first

  -- how often the history used it
  pub count_is : (m : MetaKey) (u : ℕ) → option_map (λ x. x.uses) (use_on p.shelf m) ≡ Some u → u ≡ counts.uses (whole p.opening h) m
  count_is m u e = at_kept (kept_of m (stood p)) (ap (option_map (λ (x : Use). x.uses)) (sym (k.uses m)) ∙ e)
    where
      at_kept : (o : Option Kept) → option_map (λ (x : Use). x.uses) (option_map (λ t. use_of (whole p.opening h) m) o) ≡ Some u → u ≡ counts.uses (whole p.opening h) m
      at_kept None f = absurd (cc)
      at_kept (Some t) f = let same : counts.uses (whole p.opening h) m ≡ u = cc in sym same

  pub unsaved_row : (o : Option Unsaved) → IsUnsavedOn p.shelf o → IsUnsavedFirst here o
  unsaved_row None x = unsaved_is None x
  unsaved_row (Some x) s = (unsaved_is (Some x.kept.meta) s.0, ap (find (is_of x.kept.meta)) (sym kept_are) ∙ s.1, count_is x.kept.meta x.uses s.2)

-- a count that is not told to be at the limit is below it
pub below_limit : (count limit : ℕ) (told : Bool) → told ≡ false → (limit ≤ count → told ≡ true) → count < limit
below_limit count limit told off on = elim (cases_lt count limit) [
  | inl under ↦ under
  | inr over ↦ absurd (let t = on over in let f : true ≡ false = sym t ∙ off in cc)
]

-- what an ask is answered is fresh
pub fresh_if : {E : Type 0} (s new : State) (a : Address) (r : Result Asked E) → IsKnown s → IsTile s.catalogue a → IfOk r (λ asked. Asks 0 0 s a asked new) → IfOk r (λ asked. IsFreshReply s a asked new)
fresh_if s new a (Ok x) k tile asks = asks_fresh 0 0 s new a x k tile asks
fresh_if s new a (Err e) k tile asks = tt

-- SOUND

pub sound_stored : (s : State) (t : Kept) (blob : List ℕ) (new : State) → IsSound s → blob ≡ block_text s.catalogue t.number t.meta → new ≡ with_blob s t blob → IsSound new
sound_stored s t blob new sound text is =
    rw is (some_and_made _ _ (blobs_with t blob)
    (λ bs are. all_push (IsPictured s.catalogue) (blobs_without t.meta bs) (record { kept = t; text = blob }) (all_filter (IsPictured s.catalogue) (λ b. not (is_of t.meta b.kept)) bs are) text) s.blobs sound)

pub sound_dropped : (s : State) (m : MetaKey) (new : State) → IsSound s → new ≡ with_dropped s m → IsSound new
sound_dropped s m new sound is = rw is (some_and_made _ _ (blobs_without m) (λ bs are. all_filter (IsPictured s.catalogue) (λ b. not (is_of m b.kept)) bs are) s.blobs sound)

pub sound_counted : (s : State) (m : MetaKey) (u : ℕ) (new : State) → IsSound s → new ≡ with_counted s m u → IsSound new
sound_counted s m u new sound is = rw is (some_and_made _ _ (blobs_counted m u) (λ bs are. blobs_set m u (IsPictured s.catalogue) (λ b true_blob. true_blob) bs are) s.blobs sound)

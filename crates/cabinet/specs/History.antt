-- A history of a cabinet is the list of what happened in it, the oldest entry first. What stands after it, that is what
-- is kept, which renders run, and the book of truncations, is a function of the history.
use Rattle.std.specs.Prelude.{ℕ, ◌+◌, ◌-◌, ◌*◌, ◌^◌, max, Bool, not, ◌==◌, nat_lt, if◌then◌else◌, List, [], ◌∷◌, ◌++◌, map, filter, find, fold, Option, Some, None}
use Rattle.std.specs.Option.{option_map, option_and_then}
use Rattle.catalog.specs.declared.catalogue.Catalogue.{Catalogue}
use Rattle.metatile_locks.specs.declared.render.Render.{Render}
use Rattle.metatile_locks.specs.Running.{begun, marked, overtaken, without, unmarked}
use Rattle.metatile_locks.specs.Tickets.{Ticketed}
use Rattle.metatile_plan.specs.declared.metatile.MetaKey.{MetaKey}
use Rattle.metatile_plan.specs.Keys.{same_meta}
use Rattle.truncation_list.specs.declared.book.Book.{Book}
use Rattle.truncation_list.specs.declared.cover.Cover.{Cover}
use Rattle.truncation_list.specs.Purge.{empty_book, added}
use Rattle.cabinet.specs.declared.entry.HistoryEntry.{HistoryEntry}
use Rattle.cabinet.specs.declared.entry.HistoryEntry.TheVariants.{At, Started, Cut, Missed, Stored, Counted, Ended, Used, Dropped}
use Rattle.cabinet.specs.declared.kept.Kept.{Kept}
use Rattle.cabinet.specs.Hits.{hits_of}

abbrev pub History : Type 0
History = List HistoryEntry

-- WHAT STANDS

-- the greatest number that was given, the moment of the last ask or force, what is kept, the renders that run with the last cut
-- that hit each, and the book
pub record CabinetStanding : Type 0 where
  pub front : ℕ
  pub moment : ℕ
  pub kept : List Kept
  pub out : List Render
  pub book : Book

-- AN OPENING

-- what a cabinet begins with: the number of the opening, what is kept, and the book with its floor
pub record CabinetOpening : Type 0 where
  pub number : ℕ
  pub kept : List Kept
  pub book : Book

-- an opening with nothing in it; a cabinet in memory is opening 0
abbrev pub bare_opening : ℕ → CabinetOpening
bare_opening e = record { number = e; kept = []; book = empty_book }

-- the numbers of the opening e are e * 2^40 + c, with c from 1 to 2^40 - 1
abbrev pub first_front : CabinetOpening → ℕ
first_front o = o.number * 2 ^ 40

abbrev pub last_number : CabinetOpening → ℕ
last_number o = o.number * 2 ^ 40 + (2 ^ 40 - 1)

-- what stands at first
abbrev pub first : CabinetOpening → CabinetStanding
first o = record { front = first_front o; moment = 0; kept = o.kept; out = []; book = o.book }

-- the entry that keeps it
abbrev pub stored_entry : Kept → HistoryEntry
stored_entry t = Stored t.number t.meta t.place t.length t.moment t.uses

-- the entries that a history begins with: the cuts of the book by number, then what is kept, in its order
abbrev pub first_entries : CabinetOpening → History
first_entries o = map (λ k. Cut k.number k.cover) o.book.cuts ++ map stored_entry o.kept

-- the history that these later entries make
abbrev pub whole : CabinetOpening → History → History
whole o later = first_entries o ++ later

-- WHAT ENTRIES DO

abbrev pub lesser : Option ℕ → ℕ → Option ℕ
lesser None n = Some n
lesser (Some m) n = if nat_lt n m then Some n else Some m

abbrev pub least_of : List ℕ → Option ℕ
least_of ns = fold lesser None ns

-- the kept and the running numbers, those of overtaken renders included
abbrev pub numbers : List Render → List Kept → List ℕ
numbers out kept = map (λ r. r.number) out ++ map (λ t. t.number) kept

abbrev pub is_of : MetaKey → Kept → Bool
is_of m t = same_meta t.meta m

-- what is kept but of this metatile
abbrev pub but : MetaKey → List Kept → List Kept
but m ts = filter (λ t. not (is_of m t)) ts

-- what is kept that the cover does not hit
abbrev pub spared : Catalogue → Cover → List Kept → List Kept
spared c cover ts = filter (λ t. not (hits_of c cover t.meta)) ts

-- the kept metatile with so many uses, where it is of this one
abbrev pub with_uses : MetaKey → ℕ → Kept → Kept
with_uses m uses t = if is_of m t then record { number = t.number; meta = t.meta; place = t.place; length = t.length; moment = t.moment; uses = uses } else t

-- what one entry does
abbrev pub after : Catalogue → CabinetStanding → HistoryEntry → CabinetStanding
after c s (At n) = record { front = s.front; moment = n; kept = s.kept; out = s.out; book = s.book }
after c s (Started k m) = record { front = max s.front k; moment = s.moment; kept = s.kept; out = begun k m s.moment s.out; book = s.book }
after c s (Cut t cover) =
    record { front = max s.front t; moment = s.moment; kept = spared c cover s.kept; out = overtaken (hits_of c cover) t s.out; book = added t cover (least_of (numbers s.out s.kept)) s.book }
after c s (Missed t) = record { front = max s.front t; moment = s.moment; kept = s.kept; out = s.out; book = s.book }
after c s (Stored k m place length n uses) =
    record { front = s.front; moment = s.moment; kept = but m s.kept ++ record { number = k; meta = m; place = place; length = length; moment = n; uses = uses } ∷ []; out = without k s.out; book = s.book }
after c s (Counted m u) = record { front = s.front; moment = s.moment; kept = map (with_uses m u) s.kept; out = s.out; book = s.book }
after c s (Ended k) = record { front = s.front; moment = s.moment; kept = s.kept; out = without k s.out; book = s.book }
after c s (Used m) = s
after c s (Dropped m) = record { front = s.front; moment = s.moment; kept = but m s.kept; out = s.out; book = s.book }

abbrev pub standing : Catalogue → CabinetStanding → History → CabinetStanding
standing c s h = fold (after c) s h

-- what is kept of a metatile
abbrev pub kept_of : MetaKey → CabinetStanding → Option Kept
kept_of m s = find (is_of m) s.kept

-- the next number of the opening, while one of its 2^40 - 1 is left
abbrev pub next : CabinetOpening → CabinetStanding → Option ℕ
next o s = if nat_lt s.front (last_number o) then Some (s.front + 1) else None

-- ONE METATILE AND ONE NUMBER, a sentence each

-- a metatile is kept from its Stored on, until a later Stored or Dropped of it or a later Cut that hits it; a Counted of it tells its
-- uses anew
abbrev pub kept_after : Catalogue → MetaKey → Option Kept → HistoryEntry → Option Kept
kept_after c m was (At n) = was
kept_after c m was (Started k n) = was
kept_after c m was (Cut t cover) = if hits_of c cover m then None else was
kept_after c m was (Missed t) = was
kept_after c m was (Stored k n place length b uses) = if same_meta n m then Some (record { number = k; meta = n; place = place; length = length; moment = b; uses = uses }) else was
kept_after c m was (Counted n u) = option_map (with_uses n u) was
kept_after c m was (Ended k) = was
kept_after c m was (Used n) = was
kept_after c m was (Dropped n) = if same_meta n m then None else was

abbrev pub kept : Catalogue → History → MetaKey → Option Kept
kept c h m = fold (kept_after c m) None h

-- the moment of the last ask or force, and the render of a number, none where it does not run
pub record Running : Type 0 where
  pub moment : ℕ
  pub render : Option Render

abbrev pub with_render : Running → Option Render → Running
with_render r x = record { moment = r.moment; render = x }

-- a render runs from its Started on, begun at the moment of the last At before, until its Stored or Ended, with the last Cut since
-- then that hit it
abbrev pub render_after : Catalogue → ℕ → Running → HistoryEntry → Running
render_after c k was (At n) = record { moment = n; render = was.render }
render_after c k was (Started j m) = with_render was (if j == k then Some (unmarked k m was.moment) else was.render)
render_after c k was (Cut t cover) = with_render was (option_map (marked (hits_of c cover) t) was.render)
render_after c k was (Missed t) = was
render_after c k was (Stored j m place length n uses) = with_render was (if j == k then None else was.render)
render_after c k was (Counted m u) = was
render_after c k was (Ended j) = with_render was (if j == k then None else was.render)
render_after c k was (Used m) = was
render_after c k was (Dropped m) = was

abbrev pub render : Catalogue → History → ℕ → Option Render
render c h k = (fold (render_after c k) (record { moment = 0; render = None }) h).render

-- the render of a ticket: none where its number does not run for its metatile
abbrev pub of_meta : MetaKey → Render → Option Render
of_meta m r = if same_meta r.meta m then Some r else None

abbrev pub ticket_render : Catalogue → History → Ticketed → Option Render
ticket_render c h t = option_and_then (of_meta t.meta) (render c h t.number)

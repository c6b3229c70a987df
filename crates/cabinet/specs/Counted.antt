-- What is counted of a cabinet: the bytes and the uses of what it keeps, which metatile an expiry drops, and of which uses are to be
-- saved.
use Rattle.std.specs.Prelude.{ℕ, ◌==◌, if◌then◌else◌, List, map, find, fold, count_by, Option}
use Rattle.catalog.specs.declared.catalogue.Scope.{Scope}
use Rattle.expiry_policy.specs.declared.uses.Use.{Use}
use Rattle.expiry_policy.specs.Victims.{IsUnsaved, one_more, victim}
use Rattle.expiry_policy.specs.Victims as victims
use Rattle.metatile_plan.specs.declared.metatile.MetaKey.{MetaKey}
use Rattle.metatile_plan.specs.Keys.{same_meta}
use Rattle.quota_ledger.specs.Accounts.{Part, accounts, exceeded}
use Rattle.quota_ledger.specs.Accounts as ledger
use Rattle.cabinet.specs.declared.entry.HistoryEntry.{HistoryEntry}
use Rattle.cabinet.specs.declared.entry.HistoryEntry.TheVariants.{At, Started, Cut, Missed, Stored, Counted, Ended, Used, Dropped}
use Rattle.cabinet.specs.declared.kept.Kept.{Kept}
use Rattle.cabinet.specs.History.{History}
use Rattle.cabinet.specs.State.{State, now}

-- THE BYTES of what is kept, summed from scratch

-- the bytes of a kept metatile, as those of its layer
abbrev pub part_of : Kept → Part
part_of t = record { layer = t.meta.theme.layer; length = t.length }

abbrev pub parts_of : State → List Part
parts_of s = map part_of (now s).kept

-- the bytes of a layer, and of all layers
abbrev pub used : State → ℕ → ℕ
used s layer = ledger.used layer (parts_of s)

abbrev pub used_all : State → ℕ
used_all s = ledger.used_all (parts_of s)

-- how many metatiles of a layer are kept
abbrev pub kept_in : State → ℕ → ℕ
kept_in s layer = count_by (λ t. t.meta.theme.layer == layer) (now s).kept

-- the scope whose quota is exceeded
abbrev pub scope_exceeded : State → Option Scope
scope_exceeded s = exceeded (accounts s.catalogue (parts_of s))

-- THE USES of a metatile in a history

-- the count of entries that keep or use a metatile, up to the greatest number of 64 bits
abbrev pub clock_after : ℕ → HistoryEntry → ℕ
clock_after n (At t) = n
clock_after n (Started k m) = n
clock_after n (Cut t cover) = n
clock_after n (Missed t) = n
clock_after n (Stored k m place length b u) = one_more n
clock_after n (Counted m u) = n
clock_after n (Ended k) = n
clock_after n (Used m) = one_more n
clock_after n (Dropped m) = n

abbrev pub clock : History → ℕ
clock h = fold clock_after 0 h

-- the uses of a metatile: those that counted when it was kept last, and those since then
abbrev pub uses_after : MetaKey → ℕ → HistoryEntry → ℕ
uses_after m n (At t) = n
uses_after m n (Started k o) = n
uses_after m n (Cut t cover) = n
uses_after m n (Missed t) = n
uses_after m n (Stored k o place length b u) = if same_meta o m then u else n
uses_after m n (Counted o u) = n
uses_after m n (Ended k) = n
uses_after m n (Used o) = if same_meta o m then one_more n else n
uses_after m n (Dropped o) = n

abbrev pub uses : History → MetaKey → ℕ
uses h m = fold (uses_after m) 0 h

-- the uses that are saved: those of its last Stored or Counted
abbrev pub saved_after : MetaKey → ℕ → HistoryEntry → ℕ
saved_after m n (At t) = n
saved_after m n (Started k o) = n
saved_after m n (Cut t cover) = n
saved_after m n (Missed t) = n
saved_after m n (Stored k o place length b u) = if same_meta o m then u else n
saved_after m n (Counted o u) = if same_meta o m then u else n
saved_after m n (Ended k) = n
saved_after m n (Used o) = n
saved_after m n (Dropped o) = n

abbrev pub saved : History → MetaKey → ℕ
saved h m = fold (saved_after m) 0 h

-- a count of entries that keep or use, and what it was at the last one of a metatile
pub record Times : Type 0 where
  pub count : ℕ
  pub last : ℕ

abbrev pub at_next : MetaKey → MetaKey → Times → Times
at_next m o t = record { count = one_more t.count; last = if same_meta o m then one_more t.count else t.last }

abbrev pub times_after : MetaKey → Times → HistoryEntry → Times
times_after m t (At n) = t
times_after m t (Started k o) = t
times_after m t (Cut n cover) = t
times_after m t (Missed n) = t
times_after m t (Stored k o place length b u) = at_next m o t
times_after m t (Counted o u) = t
times_after m t (Ended k) = t
times_after m t (Used o) = at_next m o t
times_after m t (Dropped o) = t

-- the count of entries that keep or use, up to the last one of the metatile
abbrev pub last_use : History → MetaKey → ℕ
last_use h m = (fold (times_after m) (record { count = 0; last = 0 }) h).last

-- how a metatile was used
abbrev pub use_of : History → MetaKey → Use
use_of h m = record { meta = m; uses = uses h m; saved = saved h m; last = last_use h m }

-- the uses of what is kept
abbrev pub uses_of : State → List Use
uses_of s = map (λ t. use_of s.history t.meta) (now s).kept

-- the metatile of a scope that an expiry drops
abbrev pub victim_in : State → Scope → Option MetaKey
victim_in s scope = victim s.catalogue.policy scope (uses_of s)

-- the kept metatile of the least key of those whose uses are not all saved; none exactly where all are
abbrev pub unsaved_in : State → Option MetaKey → Type 0
unsaved_in s o = IsUnsaved (λ m. find (victims.is_of m) (uses_of s)) o

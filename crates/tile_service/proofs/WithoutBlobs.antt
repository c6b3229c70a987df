-- A cabinet but for the texts of its blobs: what a truncation and an expiry come to there.
use Rattle.std.proofs.Common.{◌≡◌, ℕ, Bool, true, false, length, Option, Some, None, refl}
use Rattle.std.specs.Prelude.{nat_lt}
use Rattle.cabinet.specs.Commands.{book_before}
use Rattle.cabinet.specs.Counted.{victim_in}
use Rattle.cabinet.specs.History.{next}
use Rattle.cabinet.specs.State.{State, now}
use Rattle.catalog.specs.declared.catalogue.Scope.{Scope}
use Rattle.metatile_plan.specs.declared.metatile.MetaKey.{MetaKey}
use Rattle.tile_requests.specs.Requests.{cut, cut_at, cut_by, dropped, expired_in}
use Rattle.truncation_list.specs.declared.cover.Cover.{Cover}

abbrev pub plain : State → State
plain s = record s { blobs = None }

cut_at_like : (s : State) (cover : Cover) (t : ℕ) (unwritten : Bool) → plain (cut_at s cover t unwritten).0 ≡ plain (cut_at (plain s) cover t unwritten).0
cut_at_like s cover t true = refl
cut_at_like s cover t false = refl

pub cut_like : (s : State) (cover : Cover) (left unwritten : Bool) → plain (cut s cover left unwritten).0 ≡ plain (cut (plain s) cover left unwritten).0
cut_like s cover false unwritten = refl
cut_like s cover true unwritten = by_number (next s.opening (now s))
  where
    by_room : (t : ℕ) (b : Bool) → nat_lt (length (book_before s cover).cuts) s.catalogue.cut_limit ≡ b → plain (cut_by s cover unwritten (Some t)).0 ≡ plain (cut_by (plain s) cover unwritten (Some t)).0
    by_room t true e = rw e (cut_at_like s cover t unwritten)
    by_room t false e = rw e refl

    by_number : (x : Option ℕ) → plain (cut_by s cover unwritten x).0 ≡ plain (cut_by (plain s) cover unwritten x).0
    by_number None = refl
    by_number (Some t) = by_room t (nat_lt (length (book_before s cover).cuts) s.catalogue.cut_limit) refl

dropped_like : (s : State) (left : Bool) (m : Option MetaKey) → plain (dropped s left m).0 ≡ plain (dropped (plain s) left m).0
dropped_like s left None = refl
dropped_like s left (Some m) = refl

pub expired_like : (s : State) (left : Bool) (x : Option Scope) (unwritten : Bool) → plain (expired_in s left x unwritten).0 ≡ plain (expired_in (plain s) left x unwritten).0
expired_like s left None unwritten = refl
expired_like s left (Some scope) true = refl
expired_like s left (Some scope) false = dropped_like s left (victim_in s scope)

-- What a replay keeps to while bodies are shown to it.
use Rattle.std.specs.Prelude.{ℕ, zero, suc, ◌≡◌, ◌==◌, nat_lt, Bool, true, false, not, ◌&&◌, if◌then◌else◌, List, [], ◌∷◌, length, map, Option, Some, None}
use Rattle.std.specs.List.{AllByRecursion}
use Rattle.catalog.specs.declared.catalogue.Catalogue.{Catalogue}
use Rattle.catalog.specs.Valid.{IsValid}
use Rattle.record_text.specs.declared.entries.Record.{Record}
use Rattle.record_text.specs.declared.entries.Record.TheVariants.{Opened, Stored, Dropped, Cut, Uses}
use Rattle.cabinet_records.specs.declared.replay.progress.ReplayProgress.{ReplayProgress}
use Rattle.cabinet_records.specs.Played.{IsPlayed, replayed_of}
use Rattle.cabinet_records.specs.Replay.{AreRecordsOf, IsBadAt, IsLastCut, Replays, is_cut, unplayed}

-- WHAT VERSION 1 DOESN'T HAVE

abbrev pub is_late : Option Record → Bool
is_late None = true
is_late (Some (Opened e floor)) = false
is_late (Some (Stored k m place length moment uses)) = not ((moment == 0) && (uses == 0))
is_late (Some (Dropped k m)) = false
is_late (Some (Cut t cover)) = false
is_late (Some (Uses k m uses)) = true

-- the first record that version 1 doesn't have stands here
abbrev pub IsFirstLate : List (Option Record) → ℕ → Type 0
IsFirstLate [] slot = ⊥
IsFirstLate (r ∷ records) zero = is_late r ≡ true
IsFirstLate (r ∷ records) (suc slot) = (is_late r ≡ false) × IsFirstLate records slot

-- the records of a version
abbrev pub early_only : Option Record → Option Record
early_only r = if is_late r then None else r

abbrev pub of_version : ℕ → List (Option Record) → List (Option Record)
of_version version records = if version == 1 then map early_only records else records

-- the first of two slots
abbrev pub first_of : Option ℕ → Option ℕ → Option ℕ
first_of None later = later
first_of (Some bad) None = Some bad
first_of (Some bad) (Some later) = if nat_lt later bad then Some later else Some bad

-- the slot of the first record that no cache has in this version
abbrev pub first_bad : ℕ → Option ℕ → Option ℕ → Option ℕ
first_bad version bad later = if version == 1 then first_of bad later else bad

-- WHAT IS KNOWN OF THE RECORDS

-- what is held is what they come to, or the first that no cache has is known
abbrev pub StandsAt : Catalogue → List (Option Record) → ReplayProgress → Option ℕ → Type 0
StandsAt c records p None = Replays c unplayed records (replayed_of p) × IsPlayed c (length records) p
StandsAt c records p (Some slot) = IsBadAt c unplayed records slot

abbrev pub IsLateAt : List (Option Record) → Option ℕ → Type 0
IsLateAt records None = AllByRecursion (λ r. is_late r ≡ false) records
IsLateAt records (Some slot) = IsFirstLate records slot

abbrev pub IsCutAt : List (Option Record) → Option ℕ → Type 0
IsCutAt records None = AllByRecursion (λ r. is_cut r ≡ false) records
IsCutAt records (Some slot) = IsLastCut records slot

-- all of it
pub record IsShown (c : Catalogue) (bodies : List (List ℕ)) (records : List (Option Record)) (p : ReplayProgress) (count : ℕ) (bad later last_cut : Option ℕ) : Type 0 where
  pub valid : IsValid c
  pub bodies_are : AreRecordsOf 2 bodies records
  pub counted : count ≡ length records
  pub stands : StandsAt c records p bad
  pub late : IsLateAt records later
  pub cut : IsCutAt records last_cut

-- what is held at the end is what the records come to
pub record IsReplayFinished (c : Catalogue) (records : List (Option Record)) (p : ReplayProgress) (limit : ℕ) (last_cut : Option ℕ) : Type 0 where
  pub replays : Replays c unplayed records (replayed_of p)
  pub played : IsPlayed c (length records) p
  pub cut : IsCutAt records last_cut
  pub limit_is : limit ≡ c.cut_limit

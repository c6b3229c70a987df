-- Which cabinet the record of a command leads to.
use Rattle.std.proofs.Common.{ℕ, ◌≡◌, List, map, filter, Bool, true, not, Some, refl, sym, subst, inl, inr}
use Rattle.std.specs.List.{AllByRecursion}
use Rattle.std.specs.Option.{option_map}
use Rattle.metatile_locks.proofs.Lists.{all_filter, all_map}
use Rattle.metatile_plan.specs.declared.metatile.MetaKey.{MetaKey}
use Rattle.record_text.specs.declared.entries.Record.TheVariants as record_of
use Rattle.cabinet.specs.declared.entry.HistoryEntry.TheVariants as entry
use Rattle.cabinet.specs.declared.judged.Unsaved.{Unsaved}
use Rattle.cabinet.specs.declared.kept.Kept.{Kept}
use Rattle.cabinet.specs.declared.replies.Expired.TheVariants as expired
use Rattle.cabinet.specs.declared.replies.Saved.TheVariants as saved
use Rattle.cabinet.specs.Commands.{Expires, Saves}
use Rattle.cabinet.specs.Counted.{uses}
use Rattle.cabinet.specs.History.{but, is_of, with_uses}
use Rattle.cabinet.specs.State.{IsKnown, IsKnownAs, State, blobs_counted, blobs_without, now, with_counted, with_dropped}
use Rattle.cabinet.specs.Steps.{GoesFirst, IsUnsavedFirst}
use Rattle.cabinet.proofs.Lists.{all_of}
use Rattle.cabinet.proofs.Rows.{expires_known, saves_known}
use Rattle.cabinet_records.proofs.RecordedKept.{drop_recorded, save_recorded}
use Rattle.durable_cabinet.specs.Backing.{AreRegionsOf, IsRegionIn, RecordLeads}
use Rattle.durable_cabinet.specs.Images.{IsBeside, IsOneRecordOn}
use Rattle.durable_cabinet.proofs.Missing.{alike_itself}
use Rattle.durable_cabinet.proofs.Moving.{counted_on, dropped_on, kept_more, with_there}

pub beside_of : (s u : State) → IsKnownAs s u → IsOneRecordOn s.catalogue (now s).kept (now u).kept → IsBeside s u
beside_of s u as_before one = record { same_catalogue = as_before.same_catalogue; same_opening = as_before.same_opening; kept = one; answers = as_before.answers.book }

-- REGIONS

own_regions : (ts : List Kept) → AllByRecursion (IsRegionIn ts) ts
own_regions ts = all_of (IsRegionIn ts) ts (λ x has. (x, has, refl, refl))

pub regions_filtered : (s u : State) (p : Kept → Bool) → (now u).kept ≡ filter p (now s).kept → AreRegionsOf s u
regions_filtered s u p is = subst (AllByRecursion (IsRegionIn (now s).kept)) (sym is) (all_filter (IsRegionIn (now s).kept) p (now s).kept (own_regions (now s).kept))

regions_counted : (s u : State) (m : MetaKey) (n : ℕ) → (now u).kept ≡ map (with_uses m n) (now s).kept → AreRegionsOf s u
regions_counted s u m n is =
    let ks = (now s).kept in
    subst (AllByRecursion (IsRegionIn ks)) (sym is)
    (all_map (with_uses m n) (IsRegionIn ks) ks (all_of (λ t. IsRegionIn ks (with_uses m n t)) ks (λ x has. (x, has, (with_there m n x).place, (with_there m n x).long))))

-- AN EXPIRY

module _ (s : State) (known : IsKnown s) (t : Kept) (goes : GoesFirst s (Some t)) where
  abbrev after_drop : State
  after_drop = with_dropped s t.meta

  drop_row : Expires s (expired.Dropped t.meta) after_drop
  drop_row = (goes.0, goes.1, goes.2, refl)

  drop_kept_is : (now after_drop).kept ≡ but t.meta (now s).kept
  drop_kept_is = kept_more s (entry.Dropped t.meta) (option_map (blobs_without t.meta) s.blobs)

  pub drop_leads : RecordLeads s s after_drop (record_of.Dropped t.number t.meta)
  drop_leads =
      let k = expires_known s after_drop (expired.Dropped t.meta) known drop_row in
      record {
        known = k.known;
        is_beside = beside_of s after_drop k (inr (inr (inl (t.meta, drop_kept_is))));
        recorded = λ entries r. drop_recorded s after_drop entries t.meta t known r goes.3 drop_row;
        alike = alike_itself s;
        misses = λ seen. inr (inr (inl (t.meta, (goes.0, goes.1, goes.2, dropped_on true seen s t.meta), refl)));
      }

  pub drop_regions : AreRegionsOf s after_drop
  drop_regions = regions_filtered s after_drop (λ x. not (is_of t.meta x)) drop_kept_is

-- A SAVING OF USES

module _ (s : State) (known : IsKnown s) (x : Unsaved) (first : IsUnsavedFirst s (Some x)) where
  abbrev after_save : State
  after_save = with_counted s x.kept.meta (uses s.history x.kept.meta)

  save_row : Saves s (saved.Done x.kept.meta) after_save
  save_row = (first.0, refl)

  save_kept_is : (now after_save).kept ≡ map (with_uses x.kept.meta (uses s.history x.kept.meta)) (now s).kept
  save_kept_is = kept_more s (entry.Counted x.kept.meta (uses s.history x.kept.meta)) (option_map (blobs_counted x.kept.meta (uses s.history x.kept.meta)) s.blobs)

  pub save_leads : RecordLeads s s after_save (record_of.Uses x.kept.number x.kept.meta x.uses)
  save_leads =
      let k = saves_known s after_save (saved.Done x.kept.meta) known save_row in
      subst (λ (n : ℕ). RecordLeads s s after_save (record_of.Uses x.kept.number x.kept.meta n)) (sym first.2)
      (record {
        known = k.known;
        is_beside = beside_of s after_save k (inr (inr (inr (inr (x.kept.meta, uses s.history x.kept.meta, save_kept_is)))));
        recorded = λ entries r. save_recorded s after_save entries x.kept.meta x.kept known r first.1 save_row;
        alike = alike_itself s;
        misses = λ seen. inr (inr (inr (x.kept.meta, (first.0, counted_on true seen s x.kept.meta (uses s.history x.kept.meta)), refl)));
      })

  pub save_regions : AreRegionsOf s after_save
  save_regions = regions_counted s after_save x.kept.meta (uses s.history x.kept.meta) save_kept_is

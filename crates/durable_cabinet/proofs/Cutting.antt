-- A truncation of a cabinet on a disk.
use Rattle.std.proofs.Common.{ℕ, ◌≡◌, ◌⊎◌, ◌+◌, ◌≤◌, Bool, true, not, IsTrue, [], ◌∷◌, length, refl, sym, ap, subst, ◌∙◌, inl, inr, Result, arith, length-append}
use Rattle.std.specs.Option.{option_map}
use Rattle.base.specs.Causes.{Rose}
use Rattle.disk_model.specs.Content.{Content}
use Rattle.disk_model.specs.Images.{DiskState}
use Rattle.disk_model.specs.Moments.{leaves_as}
use Rattle.gate_journal.specs.declared.journal.Journal.{Journal}
use Rattle.metatile_locks.proofs.Lists.{few}
use Rattle.metatile_locks.specs.Running.{marked}
use Rattle.std.proofs.lemmas.List.{length-map}
use Rattle.record_text.specs.declared.entries.Record.TheVariants as record_of
use Rattle.served_covers.specs.OfCatalogue.{IsCoverOf}
use Rattle.truncation_list.specs.declared.book.Cut.{Cut}
use Rattle.truncation_list.specs.declared.cover.Cover.{Cover}
use Rattle.truncation_list.specs.Purge.{purged}
use Rattle.truncation_list.proofs.Remaining.{no_more_remain}
use Rattle.std.specs.Prelude.{Some}
use Rattle.cabinet.specs.declared.entry.HistoryEntry.TheVariants as entry
use Rattle.cabinet.specs.declared.judged.Admitted.TheVariants as admitted
use Rattle.cabinet.specs.declared.replies.CutReply.TheVariants as reply
use Rattle.cabinet.specs.Commands.{Cuts}
use Rattle.cabinet.specs.Hits.{hits_of}
use Rattle.cabinet.specs.History.{CabinetStanding, least_of, numbers, spared}
use Rattle.cabinet.specs.State.{IsKnown, State, blobs_spared, now, with_cut, with_entry}
use Rattle.cabinet.specs.Steps.{Admits}
use Rattle.cabinet.proofs.Rows.{cuts_known, now_more}
use Rattle.cabinet_records.proofs.RecordedCuts.{cuts_recorded}
use Rattle.durable_cabinet.specs.Backing.{AreRegionsOf, RecordLeads, WritesRecord}
use Rattle.durable_cabinet.specs.Drafts.{needed}
use Rattle.durable_cabinet.specs.Filed.{on_disk}
use Rattle.durable_cabinet.specs.Images.{IsLeft, Lasts, Restores}
use Rattle.durable_cabinet.specs.Alike.{IsAlikeTo}
use Rattle.durable_cabinet.proofs.Forcing.{entry_alike}
use Rattle.durable_cabinet.proofs.Leading.{beside_of, regions_filtered}
use Rattle.durable_cabinet.proofs.Moving.{cut_on, entered_on, kept_more}

-- a number that is missed keeps, drops and lists nothing
pub missed_alike : (s : State) (t : ℕ) → IsAlikeTo s (with_entry s (entry.Missed t))
missed_alike s t = entry_alike s (entry.Missed t) (record { kept = refl; book = refl; cuts = refl })

pub needed_missed : (s : State) (t : ℕ) → needed (with_entry s (entry.Missed t)) ≤ needed s
needed_missed s t = subst (λ (n : CabinetStanding). 1 + length n.book.cuts + length n.kept + length n.out ≤ needed s) (sym (now_more s (entry.Missed t) s.blobs)) (omega arith)

module _ (s : State) (known : IsKnown s) (cover : Cover) (is_cover : IsCoverOf s.catalogue cover) (t : ℕ) (admits : Admits s cover (admitted.Number t)) where
  abbrev after_cut : State
  after_cut = with_cut s t cover

  abbrev cut_row : Cuts s cover (reply.Done t) after_cut
  cut_row = (admits.0, admits.1, refl)

  cut_kept_is : (now after_cut).kept ≡ spared s.catalogue cover (now s).kept
  cut_kept_is = kept_more s (entry.Cut t cover) (option_map (blobs_spared s.catalogue cover) s.blobs)

  pub cut_leads : RecordLeads s (with_entry s (entry.Missed t)) after_cut (record_of.Cut t cover)
  cut_leads =
      let k = cuts_known s after_cut cover (reply.Done t) known is_cover cut_row in
      record {
        known = k.known;
        is_beside = beside_of s after_cut k (inr (inr (inr (inl (cover, cut_kept_is)))));
        recorded = λ entries r. cuts_recorded s after_cut entries cover t known r is_cover cut_row;
        alike = missed_alike s t;
        misses = λ seen. inr (inl (cover, t, (admits.0, admits.1, cut_on true seen s t cover), entered_on true seen s (entry.Missed t) refl));
      }

  pub cut_regions : AreRegionsOf s after_cut
  cut_regions = regions_filtered s after_cut (λ x. not (hits_of s.catalogue cover x.meta)) cut_kept_is

  pub needed_cut : needed after_cut ≤ needed s + 1
  needed_cut =
      let least = least_of (numbers (now s).out (now s).kept) in
      let left = purged (Some cover) least (now s).book in
      let new : Cut = record { number = t; cover = cover } in
      subst (λ (n : CabinetStanding). 1 + length n.book.cuts + length n.kept + length n.out ≤ needed s + 1) (sym (now_more s (entry.Cut t cover) (option_map (blobs_spared s.catalogue cover) s.blobs)))
      (omega (arith, length-append left.cuts (new ∷ []), no_more_remain (Some cover) least (now s).book.cuts, few (λ x. not (hits_of s.catalogue cover x.meta)) (now s).kept, length-map (now s).out (marked (hits_of s.catalogue cover) t)))

  -- ON A DISK

  pub cut_row_on : (told : Bool) (old seen : Content) → on_disk told seen after_cut ≡ on_disk told old after_cut → Cuts (on_disk told old s) cover (reply.Done t) (on_disk told seen after_cut)
  cut_row_on told old seen same = (admits.0, admits.1, same ∙ cut_on told old s t cover)

  pub missed_row_on : (told : Bool) (old new : Content) (before after : ℕ) → Rose before after → on_disk told new s ≡ on_disk told old s → Cuts (on_disk told old s) cover (reply.DiskFault before after) (on_disk told new (with_entry s (entry.Missed t)))
  missed_row_on told old new before after rose same = (t, admits.0, admits.1, rose, entered_on told new s (entry.Missed t) refl ∙ ap (λ (x : State). with_entry x (entry.Missed t)) same)

  pub cut_images : {T E : Type 0} (told : Bool) (old new : DiskState) (result : Result T E) (start : ℕ) (j j' : Journal) → WritesRecord result told s (with_entry s (entry.Missed t)) after_cut start j j' old new → IsTrue told
      → Lasts (on_disk told old.seen s) (λ u. (n : ℕ) × Cuts (on_disk told old.seen s) cover (reply.Done n) u) j old new
  cut_images told old new result start j j' w is =
      leaves_as old new (λ image. IsLeft (on_disk told old.seen s) j old image ⊎ Restores (on_disk told old.seen after_cut) image) _ (w.images is) (λ image left. moment image left)
    where
      moment : (image : Content) → IsLeft (on_disk told old.seen s) j old image ⊎ Restores (on_disk told old.seen after_cut) image
          → IsLeft (on_disk told old.seen s) j old image ⊎ ((u : State) × ((n : ℕ) × Cuts (on_disk told old.seen s) cover (reply.Done n) u) × Restores u image)
      moment image (inl left) = inl left
      moment image (inr restores) = inr (on_disk told old.seen after_cut, (t, cut_row_on told old.seen old.seen refl), restores)

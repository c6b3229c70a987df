-- What each command of a turn comes to, from what the cabinet's own command says.
use Rattle.std.proofs.Common.{ℕ, ◌≡◌, ◌≤◌, List, length, refl, subst, arith}
use Rattle.catalog.specs.LookUp.{IsTile}
use Rattle.matrix_geometry.specs.declared.address.Address.{Address}
use Rattle.metatile_locks.specs.Tickets.{Ticketed}
use Rattle.metatile_plan.specs.declared.metatile.MetaKey.{MetaKey}
use Rattle.raster_field.specs.Blocks.{IsMeta, blob_size, block_of, block_text}
use Rattle.served_covers.specs.OfCatalogue.{IsCoverOf}
use Rattle.truncation_list.specs.declared.cover.Cover.{Cover}
use Rattle.truncation_list.proofs.Answering.{fronted_itself}
use Rattle.cabinet.specs.declared.replies.Asked.{Asked}
use Rattle.cabinet.specs.declared.replies.CutReply.{CutReply}
use Rattle.cabinet.specs.declared.replies.Expired.{Expired}
use Rattle.cabinet.specs.declared.replies.Finished.{Finished}
use Rattle.cabinet.specs.declared.replies.Forced.{Forced}
use Rattle.cabinet.specs.declared.replies.Saved.{Saved}
use Rattle.cabinet.specs.Commands.{Abandons, Asks, Cuts, Expires, Finishes, Forces, IsCountedCut, IsCountedExpired, IsCountedFinished, IsCountedSaved, IsFreshForced, IsTrueHit, Saves}
use Rattle.cabinet.specs.State.{IsKnown, IsKnownAs, IsSound, State, fronted, now}
use Rattle.cabinet.proofs.Rows.{abandons_known, asks_fresh, asks_known, cuts_known, expires_known, finishes_known, forces_fresh, forces_known, saves_known}
use Rattle.cabinet_chest.specs.declared.command.Command.TheVariants as command
use Rattle.cabinet_chest.specs.declared.command.Reply.TheVariants as reply
use Rattle.cabinet_chest.specs.Acts.{Acts, seen}
use Rattle.cabinet_chest.specs.Counts.{counts_of}
use Rattle.cabinet_chest.proofs.Numbering.{asked_above, cut_above, forced_above}

module _ (before after : ℕ) (s t : State) (known : IsKnown s) (later : before ≤ after) (sound : IsSound s → IsSound t) where
  pub ask_acts : (a : Address) (r : Asked) → IsTile s.catalogue a → Asks before after s a r t → (IsSound s → IsTrueHit s.catalogue a r) → Acts (seen before s) (seen after t) (command.Ask a) (reply.Asked r)
  ask_acts a r tile row truth = record {
    may = λ told is_sound. record {
      catalogue = refl;
      known = known;
      goes_on = asks_known before after s t a r known tile row;
      later = later;
      answer = (r, refl, record { row = row; fresh = asks_fresh before after s t a r known tile row; above = asked_above before after s t a r known tile row; truth = λ e. truth (is_sound e) });
    };
    sound = λ _. sound;
  }

  fresh_for : (m : MetaKey) (r : Forced) → Forces s m r t → (a : Address) → IsTile s.catalogue a → m ≡ block_of s.catalogue a → IsFreshForced s a r t
  fresh_for m r row a tile is = forces_fresh s t a r known tile (subst (λ (k : MetaKey). Forces s k r t) is row)

  pub force_acts : (m : MetaKey) (r : Forced) → IsMeta s.catalogue m → Forces s m r t → Acts (seen before s) (seen after t) (command.Force m) (reply.Forced r)
  force_acts m r meta row = record {
    may = λ told is_sound. record {
      catalogue = refl;
      known = known;
      goes_on = forces_known s t m r known meta row;
      later = later;
      answer = (r, refl, record { row = row; fresh = fresh_for m r row; above = forced_above s t m r known row });
    };
    sound = λ _. sound;
  }

  pub cut_acts : (cover : Cover) (r : CutReply) → IsCoverOf s.catalogue cover → Cuts s cover r t → IsCountedCut before after r → Acts (seen before s) (seen after t) (command.Cut cover) (reply.Cut r)
  cut_acts cover r of row counted = record {
    may = λ told is_sound. record {
      catalogue = refl;
      known = known;
      goes_on = cuts_known s t cover r known of row;
      later = later;
      answer = (r, refl, record { row = row; counted = counted; above = cut_above s t cover r known row });
    };
    sound = λ _. sound;
  }

  pub abandon_acts : (k : Ticketed) → Abandons s k t → after ≡ before → Acts (seen before s) (seen after t) (command.Abandon k) reply.Abandoned
  abandon_acts k row same = record {
    may = λ told is_sound. record { catalogue = refl; known = known; goes_on = abandons_known s t k known row; later = later; answer = (refl, row, same) };
    sound = λ _. sound;
  }

  pub expire_acts : (r : Expired) → Expires s r t → IsCountedExpired before after r → Acts (seen before s) (seen after t) command.Expire (reply.Expired r)
  expire_acts r row counted = record {
    may = λ told is_sound. record { catalogue = refl; known = known; goes_on = expires_known s t r known row; later = later; answer = (r, refl, row, counted) };
    sound = λ _. sound;
  }

  pub save_acts : (r : Saved) → Saves s r t → IsCountedSaved before after r → Acts (seen before s) (seen after t) command.SaveUses (reply.Saved r)
  save_acts r row counted = record {
    may = λ told is_sound. record { catalogue = refl; known = known; goes_on = saves_known s t r known row; later = later; answer = (r, refl, row, counted) };
    sound = λ _. sound;
  }

pub finish_acts : (before after : ℕ) (s t : State) → IsKnown s → before ≤ after → (k : Ticketed) (blob : List ℕ) (r : Finished) → length blob ≡ blob_size s.catalogue k.meta → Finishes s k blob r t → IsCountedFinished before after r
    → (IsSound s → blob ≡ block_text s.catalogue k.number k.meta → IsSound t) → Acts (seen before s) (seen after t) (command.Finish k blob) (reply.Finished r)
finish_acts before after s t known later k blob r long row counted sound = record {
  may = λ told is_sound. record { catalogue = refl; known = known; goes_on = finishes_known s t k blob r known long row; later = later; answer = (r, refl, row, counted) };
  sound = λ keeps was. sound was keeps;
}

-- a cabinet goes on as itself
same_known : (s : State) → IsKnown s → IsKnownAs s s
same_known s known = record { known = known; same_catalogue = refl; same_opening = refl; answers = fronted_itself (fronted (now s)) }

pub usage_acts : (faults : ℕ) (s : State) (layer : ℕ) → IsKnown s → Acts (seen faults s) (seen faults s) (command.Usage layer) (reply.Usage (counts_of s layer))
usage_acts faults s layer known = record {
  may = λ told is_sound. record { catalogue = refl; known = known; goes_on = same_known s known; later = omega arith; answer = (refl, refl) };
  sound = λ _ was. was;
}

-- What each row of a command leaves of what is sound.
use Rattle.std.proofs.Common.{ℕ, ◌≡◌, not, sym, subst, inl, inr}
use Rattle.std.specs.Prelude.{IfOk, OnErr, Result, Ok, Err}
use Rattle.matrix_geometry.specs.declared.address.Address.{Address}
use Rattle.metatile_locks.proofs.Lists.{all_filter}
use Rattle.metatile_locks.specs.Tickets.{Ticketed}
use Rattle.metatile_plan.specs.declared.metatile.MetaKey.{MetaKey}
use Rattle.raster_field.specs.Blocks.{block_of}
use Rattle.truncation_list.specs.declared.cover.Cover.{Cover}
use Rattle.cabinet.specs.declared.entry.HistoryEntry.{HistoryEntry}
use Rattle.cabinet.specs.declared.entry.HistoryEntry.TheVariants as entry
use Rattle.cabinet.specs.declared.replies.Asked.{Asked}
use Rattle.cabinet.specs.declared.replies.Asked.TheVariants as asked
use Rattle.cabinet.specs.declared.replies.CutReply.{CutReply}
use Rattle.cabinet.specs.declared.replies.CutReply.TheVariants as reply
use Rattle.cabinet.specs.declared.replies.Forced.{Forced}
use Rattle.cabinet.specs.declared.replies.Forced.TheVariants as forced
use Rattle.cabinet.specs.Commands.{Abandons, Asks, Cuts, Forces}
use Rattle.cabinet.specs.Hits.{hits_of}
use Rattle.cabinet.specs.State.{IsPictured, IsSound, State, asked_at, blobs_spared, with_cut, with_entry}
use Rattle.cabinet.proofs.Modelled.{some_and_made}

same : (s t : State) → t ≡ s → IsSound s → IsSound t
same s t is sound = subst IsSound (sym is) sound

entered : (s t : State) (e : HistoryEntry) → t ≡ with_entry s e → IsSound s → IsSound t
entered s t e is sound = subst IsSound (sym is) sound

asked_sound : (before after : ℕ) (s t : State) (a : Address) (r : Asked) → Asks before after s a r t → IsSound s → IsSound t
asked_sound before after s t a (asked.Hit n bytes) r sound = entered (asked_at t.clock.moment s) t (entry.Used (block_of s.catalogue a)) r.state sound
asked_sound before after s t a (asked.Busy n) r sound = same (asked_at t.clock.moment s) t r.1.1 sound
asked_sound before after s t a asked.Spent r sound = same (asked_at t.clock.moment s) t r.1.2 sound
asked_sound before after s t a (asked.Ticket ticket) r sound = entered (asked_at t.clock.moment s) t (entry.Started ticket.number (block_of s.catalogue a)) r.1.state sound

forced_sound : (s t : State) (m : MetaKey) (r : Forced) → Forces s m r t → IsSound s → IsSound t
forced_sound s t m (forced.Busy n) r sound = same (asked_at t.clock.moment s) t r.1 sound
forced_sound s t m forced.Spent r sound = same (asked_at t.clock.moment s) t r.2 sound
forced_sound s t m (forced.Ticket ticket) r sound = entered (asked_at t.clock.moment s) t (entry.Started ticket.number m) r.state sound

cut_sound : (s t : State) (cover : Cover) (r : CutReply) → Cuts s cover r t → IsSound s → IsSound t
cut_sound s t cover reply.Spent r sound = same s t r.1 sound
cut_sound s t cover reply.Full r sound = same s t r.2 sound
cut_sound s t cover (reply.DiskFault b a) r sound = entered s t (entry.Missed r.0) r.4 sound
cut_sound s t cover (reply.Done n) r sound =
    same (with_cut s n cover) t r.2 (some_and_made _ _ (blobs_spared s.catalogue cover) (λ bs are. all_filter (IsPictured s.catalogue) (λ b. not (hits_of s.catalogue cover b.kept.meta)) bs are) s.blobs sound)

-- what an ask, a force, an abandon and a cut leave
pub asks_sound : {E : Type 0} (before after : ℕ) (s t : State) (a : Address) (r : Result Asked E) → IfOk r (λ x. Asks before after s a x t) → OnErr r (t ≡ s) → IsSound s → IsSound t
asks_sound before after s t a (Ok x) row none sound = asked_sound before after s t a x row sound
asks_sound before after s t a (Err e) row none sound = same s t none sound

pub forces_sound : {E : Type 0} (s t : State) (m : MetaKey) (r : Result Forced E) → IfOk r (λ x. Forces s m x t) → OnErr r (t ≡ s) → IsSound s → IsSound t
forces_sound s t m (Ok x) row none sound = forced_sound s t m x row sound
forces_sound s t m (Err e) row none sound = same s t none sound

pub cuts_sound : {E : Type 0} (s t : State) (cover : Cover) (r : Result CutReply E) → IfOk r (λ x. Cuts s cover x t) → OnErr r (t ≡ s) → IsSound s → IsSound t
cuts_sound s t cover (Ok x) row none sound = cut_sound s t cover x row sound
cuts_sound s t cover (Err e) row none sound = same s t none sound

pub abandons_sound : (s t : State) (ticket : Ticketed) → Abandons s ticket t → IsSound s → IsSound t
abandons_sound s t ticket (inl r) sound = same s t r.1 sound
abandons_sound s t ticket (inr r) sound = entered s t (entry.Ended ticket.number) r.1 sound

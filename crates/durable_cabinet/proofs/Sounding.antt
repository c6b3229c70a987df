-- A sound cabinet stays sound, and has the same catalogue, whatever its commands answer.
use Rattle.std.proofs.Common.{ℕ, ◌≡◌, List, Option, Result, Ok, Err, OnErr, sym, subst, ap, inl, inr}
use Rattle.std.specs.Prelude.{IfOk, IsSomeAnd}
use Rattle.std.specs.List.{AllByRecursion}
use Rattle.catalog.specs.declared.catalogue.Catalogue.{Catalogue}
use Rattle.metatile_locks.specs.Tickets.{Ticketed}
use Rattle.raster_field.specs.Blocks.{block_text}
use Rattle.served_covers.specs.OfCatalogue.{IsCoverOf}
use Rattle.truncation_list.specs.declared.cover.Cover.{Cover}
use Rattle.cabinet.specs.declared.replies.CutReply.{CutReply}
use Rattle.cabinet.specs.declared.replies.CutReply.TheVariants as cut
use Rattle.cabinet.specs.declared.replies.Expired.{Expired}
use Rattle.cabinet.specs.declared.replies.Expired.TheVariants as expired
use Rattle.cabinet.specs.declared.replies.Finished.{Finished}
use Rattle.cabinet.specs.declared.replies.Finished.TheVariants as finished
use Rattle.cabinet.specs.declared.replies.Saved.{Saved}
use Rattle.cabinet.specs.declared.replies.Saved.TheVariants as saved
use Rattle.cabinet.specs.Commands.{Asks, Cuts, Expires, Finishes, IsFreshReply, Saves, kept_at}
use Rattle.cabinet.specs.Counted.{uses}
use Rattle.cabinet.specs.declared.kept.KeptBlob.{KeptBlob}
use Rattle.cabinet.specs.State.{IsKnown, IsKnownAs, IsPictured, IsSound, State}
use Rattle.cabinet.proofs.Sounds.{cuts_sound}
use Rattle.cabinet.proofs.Answered.{sound_counted, sound_dropped, sound_stored}
use Rattle.cabinet.proofs.Rows.{asks_fresh, asks_known, cuts_known}
use Rattle.cabinet.specs.declared.replies.Asked.{Asked}
use Rattle.catalog.specs.LookUp.{IsTile}
use Rattle.matrix_geometry.specs.declared.address.Address.{Address}
use Rattle.durable_cabinet.specs.Missed.{HasMissed, IsPicture, Misses}
use Rattle.durable_cabinet.proofs.Lasting.{IsOfCache}

pub expires_sound : (s t : State) (r : Expired) → Expires s r t → IsSound s → IsSound t
expires_sound s t (expired.Dropped m) row sound = sound_dropped s m t sound row.3
expires_sound s t (expired.DiskFault b a) row sound = subst IsSound (sym row.2) sound
expires_sound s t expired.Within row sound = subst IsSound (sym row.1) sound

pub saves_sound : (s t : State) (r : Saved) → Saves s r t → IsSound s → IsSound t
saves_sound s t (saved.Done m) row sound = sound_counted s m (uses s.history m) t sound row.1
saves_sound s t (saved.DiskFault b a) row sound = subst IsSound (sym row.2) sound
saves_sound s t saved.Within row sound = subst IsSound (sym row.1) sound

pub finishes_sound : (s t : State) (ticket : Ticketed) (blob : List ℕ) (r : Finished) → Finishes s ticket blob r t → IsSound s → blob ≡ block_text s.catalogue ticket.number ticket.meta → IsSound t
finishes_sound s t ticket blob finished.Stranger row sound is = subst IsSound (sym row.1) sound
finishes_sound s t ticket blob (finished.Overtaken c) row sound is = subst IsSound (sym row.2) sound
finishes_sound s t ticket blob finished.Full row sound is = subst IsSound (sym row.3) sound
finishes_sound s t ticket blob finished.NoRoom row sound is = subst IsSound (sym row.4) sound
finishes_sound s t ticket blob (finished.DiskFault b a) row sound is = subst IsSound (sym row.5) sound
finishes_sound s t ticket blob finished.Kept row sound is = sound_stored s (kept_at ticket row.0 row.3.0 _) blob t sound is row.3.2

-- WHERE A COMMAND FAILED

-- what it would have led to is sound where the cabinet is, and a render's blob is its picture
pub missed_sound : (s next : State) → (h : HasMissed s next) → IsSound s → IsPicture h.from next h.missed h.misses → IsSound next
missed_sound s next h sound picture = by_row h.from next h.missed h.misses at_miss picture
  where
    at_miss : IsSound h.missed
    at_miss = subst (λ (c : Catalogue). IsSomeAnd h.missed.blobs (λ blobs. AllByRecursion (IsPictured c) blobs)) h.alike.catalogue (subst (λ (o : Option (List KeptBlob)). IsSomeAnd o (λ blobs. AllByRecursion (IsPictured s.catalogue) blobs)) h.blobs sound)

    by_row : (a u b : State) (m : Misses a u b) → IsSound b → IsPicture a u b m → IsSound u
    by_row a u b (inl (t, blob, row, is)) was is_picture = finishes_sound a u t blob finished.Kept row (subst IsSound is was) is_picture
    by_row a u b (inr (inl (cover, t, row, is))) was is_picture = cuts_sound {E = ℕ} a u cover (Ok (cut.Done t)) row tt (subst IsSound is was)
    by_row a u b (inr (inr (inl (m, row, is)))) was is_picture = expires_sound a u (expired.Dropped m) row (subst IsSound is was)
    by_row a u b (inr (inr (inr (m, row, is)))) was is_picture = saves_sound a u (saved.Done m) row (subst IsSound is was)

-- THE CATALOGUE AND THE OPENING stay

pub cache_of : (s t : State) → IsKnownAs s t → IsOfCache s t
cache_of s t k = (k.same_catalogue, k.same_opening)

pub cuts_same : {E : Type 0} (s t : State) (cover : Cover) (r : Result CutReply E) → IsKnown s → IsCoverOf s.catalogue cover → IfOk r (λ x. Cuts s cover x t) → OnErr r (t ≡ s) → IsOfCache s t
cuts_same s t cover (Ok x) known of_catalogue cuts same = cache_of s t (cuts_known s t cover x known of_catalogue cuts)
cuts_same s t cover (Err fault) known of_catalogue cuts same = (ap (λ x. x.catalogue) same, ap (λ x. x.opening) same)

pub asks_same : {E : Type 0} (before after : ℕ) (s t : State) (a : Address) (r : Result Asked E) → IsKnown s → IsTile s.catalogue a → IfOk r (λ x. Asks before after s a x t) → OnErr r (t ≡ s) → IsOfCache s t
asks_same before after s t a (Ok x) known tile asks same = cache_of s t (asks_known before after s t a x known tile asks)
asks_same before after s t a (Err fault) known tile asks same = (ap (λ x. x.catalogue) same, ap (λ x. x.opening) same)

pub asks_fresh_as : {E : Type 0} (before after : ℕ) (s t : State) (a : Address) (r : Result Asked E) → IsKnown s → IsTile s.catalogue a → IfOk r (λ x. Asks before after s a x t) → IfOk r (λ x. IsFreshReply s a x t)
asks_fresh_as before after s t a (Ok x) known tile asks = asks_fresh before after s t a x known tile asks
asks_fresh_as before after s t a (Err fault) known tile asks = tt

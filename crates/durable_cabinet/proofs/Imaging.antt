-- What a crash leaves of a cabinet between two commands.
use Rattle.std.specs.Prelude.{IfSome, IsSomeAnd}
use Rattle.std.proofs.Common.{ℕ, ◌≡◌, Bool, true, false, IsTrue, List, [], ◌∷◌, map, Option, Some, None, inl, inr, ◌⊎◌, sym, subst}
use Rattle.std.specs.List.{AllByRecursion}
use Rattle.std.proofs.lemmas.List.Sorted.{IsPermutation-sym}
use Rattle.catalog.specs.declared.catalogue.Catalogue.{Catalogue}
use Rattle.disk_model.specs.Content.{Content}
use Rattle.disk_model.specs.Images.{DiskState, Every}
use Rattle.gate_journal.specs.declared.journal.Journal.{Journal}
use Rattle.gate_journal.specs.Layout.{journal_length}
use Rattle.gate_journal.specs.Sound.{IsSettled, IsSound, slots_of}
use Rattle.gate_journal.proofs.Behind.{sound_opens}
use Rattle.cabinet.specs.declared.kept.Kept.{Kept}
use Rattle.cabinet.specs.declared.kept.KeptBlob.{KeptBlob}
use Rattle.cabinet.specs.State.{IsKnown, IsPictured, IsSound as IsSoundState, State, now}
use Rattle.cabinet_records.specs.Replay.{Replayed}
use Rattle.cabinet_records.proofs.RecordedOrders.{permuted_all}
use Rattle.cache_file.specs.File.{Anywhere, HasHeld}
use Rattle.cache_file.proofs.Sparing.{whole_now}
use Rattle.durable_cabinet.specs.Filed.{IsFiled, on_disk}
use Rattle.durable_cabinet.specs.Images.{HasIn, HasUndecided, IsLeft, IsOurs, IsSoundImage, Restores, blob_on, blobs_start, pictured}
use Rattle.durable_cabinet.proofs.Calling.{left_moment, settled_moment}
use Rattle.durable_cabinet.specs.Missed.{HasMissed, IsPicture}
use Rattle.durable_cabinet.proofs.Once.{opens_once}
use Rattle.durable_cabinet.proofs.Sounding.{missed_sound}
use Rattle.durable_cabinet.proofs.Tying.{anywhere}

left_ours : (s : State) (j : Journal) (disk : DiskState) (image : Content) → IsLeft s j disk image → IsOurs s.catalogue image
left_ours s j disk image (inl restores) = restores.ours
left_ours s j disk image (inr u) = subst (λ (c : Catalogue). IsOurs c image) u.is_beside.same_catalogue u.restores.ours

has_now : (start : ℕ) (j : Journal) (disk : DiskState) → start ≡ journal_length (slots_of j) → IsSound j disk → (image : Content) → disk.may_leave image → HasHeld start Anywhere disk image
has_now start j disk begins sound image now = record { whole = whole_now start j disk begins sound image now; blobs = λ place blob any holds. holds image now }

-- A SOUND CABINET leaves sound images

module _ (c : Catalogue) (seen image : Content) where
  abbrev HasPictured : Kept → Type 0
  HasPictured t = HasIn c image (pictured c t)

  pictured_in : (ts : List Kept) → AllByRecursion (HasIn c image) (map (blob_on c seen) ts) → AllByRecursion (IsPictured c) (map (blob_on c seen) ts) → AllByRecursion HasPictured ts
  pictured_in [] has sound = tt
  pictured_in (t ∷ ts) has sound = (subst (λ (text : List ℕ). HasIn c image (record { kept = t; text = text })) sound.0 has.0, pictured_in ts has.1 sound.1)

restores_sound : (told : Bool) (s : State) (seen image : Content) → IsSoundState (on_disk told seen s) → Restores (on_disk told seen s) image → IsSoundImage s.catalogue image
restores_sound true s seen image sound r t opens =
    let c = s.catalogue in
    subst (λ (x : Replayed). AllByRecursion (HasPictured c seen image) x.kept) (opens_once c image r.replayed t r.opens opens)
    (permuted_all (HasPictured c seen image) (now s).kept r.replayed.kept (IsPermutation-sym r.replayed.kept (now s).kept r.kept) (pictured_in c seen image (now s).kept r.has sound))
restores_sound false s seen image sound r t opens = absurd sound

-- so does one that is known, with the blobs that it has
all_pictured : (c : Catalogue) (image : Content) (bs : List KeptBlob) → AllByRecursion (IsPictured c) bs → AllByRecursion (HasIn c image) bs → AllByRecursion (λ t. HasIn c image (pictured c t)) (map (λ b. b.kept) bs)
all_pictured c image [] sound has = tt
all_pictured c image (b ∷ bs) sound has = (subst (λ (text : List ℕ). HasIn c image (record { kept = b.kept; text = text })) sound.0 has.0, all_pictured c image bs sound.1 has.1)

pictured_of : (c : Catalogue) (image : Content) (o : Option (List KeptBlob)) (ts : List Kept) → IfSome o (λ bs. map (λ b. b.kept) bs ≡ ts) → IsSomeAnd o (λ bs. AllByRecursion (IsPictured c) bs) → IfSome o (λ bs. AllByRecursion (HasIn c image) bs)
    → AllByRecursion (λ t. HasIn c image (pictured c t)) ts
pictured_of c image None ts kept sound has = absurd sound
pictured_of c image (Some bs) ts kept sound has = subst (AllByRecursion (λ t. HasIn c image (pictured c t))) kept (all_pictured c image bs sound has)

pub known_sound : (u : State) (image : Content) → IsKnown u → IsSoundState u → Restores u image → IsSoundImage u.catalogue image
known_sound u image known sound r t opens =
    let c = u.catalogue in
    subst (λ (x : Replayed). AllByRecursion (λ k. HasIn c image (pictured c k)) x.kept) (opens_once c image r.replayed t r.opens opens)
    (permuted_all (λ k. HasIn c image (pictured c k)) (now u).kept r.replayed.kept (IsPermutation-sym r.replayed.kept (now u).kept r.kept) (pictured_of c image u.blobs (now u).kept known.blobs sound r.has))

-- and so does the undecided record, where its blob is its picture
pub missed_image : (s next : State) (image : Content) → (h : HasMissed s next) → next.catalogue ≡ s.catalogue → Restores next image → IsSoundState s → IsPicture h.from next h.missed h.misses → IsSoundImage s.catalogue image
missed_image s next image h same r sound picture = subst (λ (c : Catalogue). IsSoundImage c image) same (known_sound next image h.known (missed_sound s next h sound picture) r)

abbrev SoundOrMissed : Catalogue → State → Journal → DiskState → Content → Type 0
SoundOrMissed c s j disk image = IsSoundImage c image ⊎ ((u : HasUndecided s j disk image) × (IsPicture u.missed.from u.beside u.missed.missed u.missed.misses → IsSoundImage c image))

left_sound : (told : Bool) (s : State) (j : Journal) (disk : DiskState) (image : Content) → IsSoundState (on_disk told disk.seen s) → IsLeft (on_disk told disk.seen s) j disk image
    → SoundOrMissed s.catalogue (on_disk told disk.seen s) j disk image
left_sound told s j disk image sound (inl restores) = inl (restores_sound told s disk.seen image sound restores)
left_sound told s j disk image sound (inr u) = inr (u, missed_image (on_disk told disk.seen s) u.beside image u.missed u.is_beside.same_catalogue u.restores sound)

module _ (told : Bool) (s : State) (known : IsKnown s) (start : ℕ) (j : Journal) (disk : DiskState) (begins : start ≡ journal_length (slots_of j)) (filed : IsFiled s told start j disk) (is : IsTrue told) where
  has : (image : Content) → disk.may_leave image → HasHeld (blobs_start s.catalogue) Anywhere disk image
  has image now = subst (λ (n : ℕ). HasHeld n Anywhere disk image) filed.start_is (has_now start j disk begins (filed.on is).sound image now)

  pub images_left : Every disk.may_leave (IsLeft (on_disk told disk.seen s) j disk)
  images_left image left =
      let k = filed.on is in
      subst (λ (b : Bool). IsLeft (on_disk b disk.seen s) j disk image) (sym is)
      (left_moment s known j disk filed.digest filed.slots k Anywhere (anywhere (now s).kept) (anywhere (now k.beside.beside).kept) image (sound_opens j disk k.sound image left, has image left))

  pub images_ours : Every disk.may_leave (IsOurs s.catalogue)
  images_ours image left = left_ours (on_disk told disk.seen s) j disk image (images_left image left)

  pub images_settled : IsSettled j → Every disk.may_leave (Restores (on_disk told disk.seen s))
  images_settled settled image left =
      let k = filed.on is in
      subst (λ (b : Bool). Restores (on_disk b disk.seen s) image) (sym is)
      (settled_moment s known j disk filed.digest filed.slots k Anywhere (anywhere (now s).kept) settled image (sound_opens j disk k.sound image left, has image left))

  pub images_sound : IsSoundState (on_disk told disk.seen s) → Every disk.may_leave (SoundOrMissed s.catalogue (on_disk told disk.seen s) j disk)
  images_sound sound image left = left_sound told s j disk image sound (images_left image left)

  pub images_all_sound : IsSettled j → IsSoundState (on_disk told disk.seen s) → Every disk.may_leave (IsSoundImage s.catalogue)
  images_all_sound settled sound image left = restores_sound told s disk.seen image sound (images_settled settled image left)

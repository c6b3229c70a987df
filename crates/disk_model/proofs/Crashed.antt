-- What a crash leaves is one of the images.
use Rattle.std.proofs.Common.{◌≡◌, ℕ, ◌+◌, ◌-◌, ◌<◌, min, max, List, [], ◌∷◌, ◌++◌, length, take, get_or, refl, sym, ◌∙◌, ap, subst, arith, length-append}
use Rattle.std.proofs.lemmas.List.{take_more, length-take, length-replicate, get_or-take, get_or_append_left}
use Rattle.disk_model.specs.Content.{Content, written, TornWrite, TornCut}
use Rattle.disk_model.specs.Crash.{noise, write_left, cut_left, call_left, crashed}
use Rattle.disk_model.specs.Images.{After}
use Rattle.disk_model.specs.Writes.{unchanged_write, unchanged_cut, torn_written, torn_resized}
use Rattle.disk_model.specs.Replay.{Tears, ImagesAfter, seen_after, seen_after_call}
use Rattle.disk_model.specs.declared.log.Call.{Call}
use Rattle.disk_model.specs.declared.log.Call.TheVariants.{Written, WriteFailed, Resized, CutFailed, Synced}
use Rattle.disk_model.specs.declared.pick.Pick.{Pick}
use Rattle.disk_model.specs.declared.pick.Pick.TheVariants.{Old, New, Noise}
use Rattle.disk_model.proofs.Calls.{seen_after-push}

length-noise : (n : ℕ) → length (noise n) ≡ n
length-noise n = length-replicate n 0xA5

write_torn : (pick : Pick) (at : ℕ) (bytes : List ℕ) (image : Content) → TornWrite at (length bytes) image (write_left pick at bytes image)
write_torn Old at bytes image = unchanged_write at (length bytes) image
write_torn New at bytes image = torn_written at bytes image
write_torn Noise at bytes image = subst (λ (n : ℕ). TornWrite at n image (written at (noise (length bytes)) image)) (length-noise (length bytes)) (torn_written at (noise (length bytes)) image)

cut_torn : (pick : Pick) (size : ℕ) (image : Content) → TornCut size image (cut_left pick size image)
cut_torn Old size image = unchanged_cut size image
cut_torn New size image = torn_resized size image
cut_torn Noise size image =
    let rest : ℕ = max size (length image) - min size (length image) in
    let total : length (take size image ++ noise rest) ≡ max size (length image) = omega (arith, length-append (take size image) (noise rest), length-noise rest, length-take size image) in
    record {
      no_shorter = omega arith;
      no_longer = omega arith;
      others = λ place lt. get_or_append_left (take size image) (noise rest) 0 place (omega (arith, length-take size image)) ∙ get_or-take size image place 0 (omega arith);
    }

call_torn : (pick : Pick) (call : Call) (seen image : Content) → Tears call seen image (call_left pick call seen image)
call_torn pick (Written at bytes) seen image = write_torn pick at bytes.items image
call_torn pick (WriteFailed at bytes) seen image = write_torn pick at bytes.items image
call_torn pick (Resized size) seen image = cut_torn pick size image
call_torn pick (CutFailed size) seen image = cut_torn pick size image
call_torn pick Synced seen image = refl

pub crashed_image : (pick : Pick) (calls : List Call) (seen image : Content) (images : Content → Type 0) → images image → ImagesAfter calls seen images (crashed pick calls seen image)
crashed_image pick [] seen image images was = was
crashed_image pick (call ∷ calls) seen image images was =
    crashed_image pick calls (seen_after_call call seen) (call_left pick call seen image) (After (Tears call seen) images) (image, was, call_torn pick call seen image)

-- one call more
crashed-push : (pick : Pick) (calls : List Call) (call : Call) (seen image : Content) → crashed pick (calls ++ call ∷ []) seen image ≡ call_left pick call (seen_after calls seen) (crashed pick calls seen image)
crashed-push pick [] call seen image = refl
crashed-push pick (c ∷ calls) call seen image = crashed-push pick calls call (seen_after_call c seen) (call_left pick c seen image)

pub crashed_more : (pick : Pick) (first : Content) (calls : List Call) (index : ℕ) (call : Call) (seen seen' image image' : Content) → index < length calls → call ≡ get_or calls index call
    → seen ≡ seen_after (take index calls) first → image ≡ crashed pick (take index calls) first first → seen' ≡ seen_after_call call seen → image' ≡ call_left pick call seen image
    → (seen' ≡ seen_after (take (index + 1) calls) first) × (image' ≡ crashed pick (take (index + 1) calls) first first)
crashed_more pick first calls index call seen seen' image image' lt is read left redone torn =
    let more : take (index + 1) calls ≡ take index calls ++ call ∷ [] = take_more calls index call lt ∙ ap (λ (c : Call). take index calls ++ c ∷ []) (sym is) in (
      redone ∙ ap (seen_after_call call) read ∙ sym (seen_after-push (take index calls) call first) ∙ ap (λ (l : List Call). seen_after l first) (sym more),
      torn ∙ (λ k. call_left pick call (read k) (left k)) ∙ sym (crashed-push pick (take index calls) call first first) ∙ ap (λ (l : List Call). crashed pick l first first) (sym more),
    )

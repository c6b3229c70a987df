-- Which image a crash leaves of a disk in memory, by the pick that a test makes.
use Rattle.std.specs.Prelude.{ℕ, ◌-◌, min, max, List, [], ◌∷◌, ◌++◌, length, take, replicate}
use Rattle.disk_model.specs.Content.{Content, written, resized}
use Rattle.disk_model.specs.Replay.{seen_after_call}
use Rattle.disk_model.specs.declared.log.Call.{Call}
use Rattle.disk_model.specs.declared.log.Call.TheVariants.{Written, WriteFailed, Resized, CutFailed, Synced}
use Rattle.disk_model.specs.declared.pick.Pick.{Pick}
use Rattle.disk_model.specs.declared.pick.Pick.TheVariants.{Old, New, Noise}

-- the byte 0xA5, n times
abbrev pub noise : ℕ → Content
noise n = replicate n 0xA5

-- what is left of an image by a write
abbrev pub write_left : Pick → ℕ → List ℕ → Content → Content
write_left Old at bytes image = image
write_left New at bytes image = written at bytes image
write_left Noise at bytes image = written at (noise (length bytes)) image

-- what is left of an image by a cut
abbrev pub cut_left : Pick → ℕ → Content → Content
cut_left Old size image = image
cut_left New size image = resized size image
cut_left Noise size image = take size image ++ noise (max size (length image) - min size (length image))

-- what is left of an image by a call, where a read gave this before it
abbrev pub call_left : Pick → Call → Content → Content → Content
call_left pick (Written at bytes) seen image = write_left pick at bytes.items image
call_left pick (WriteFailed at bytes) seen image = write_left pick at bytes.items image
call_left pick (Resized size) seen image = cut_left pick size image
call_left pick (CutFailed size) seen image = cut_left pick size image
call_left pick Synced seen image = seen

-- what is left by some calls in order
abbrev pub crashed : Pick → List Call → Content → Content → Content
crashed pick [] seen image = image
crashed pick (call ∷ calls) seen image = crashed pick calls (seen_after_call call seen) (call_left pick call seen image)

-- A disk in memory keeps what it held at first and each call since. All that is modelled of it follows from them.
use Rattle.std.specs.Prelude.{◌≡◌, ℕ, ◌≤◌, List, [], ◌∷◌, length, take, Option, Some, None, Vec}
use Rattle.std.specs.declared.alloc.Global.{Global}
use Rattle.disk_model.specs.Content.{Content, written, resized, TornWrite, TornCut, Same}
use Rattle.disk_model.specs.Images.{DiskState, After}
use Rattle.disk_model.specs.declared.log.Call.{Call}
use Rattle.disk_model.specs.declared.log.Call.TheVariants.{Written, WriteFailed, Resized, CutFailed, Synced}

-- what a read gives after a call: a call that failed changed nothing
abbrev pub seen_after_call : Call → Content → Content
seen_after_call (Written at bytes) seen = written at bytes.items seen
seen_after_call (WriteFailed at bytes) seen = seen
seen_after_call (Resized size) seen = resized size seen
seen_after_call (CutFailed size) seen = seen
seen_after_call Synced seen = seen

-- what a call makes of an image, where a read gives this before it
abbrev pub Tears : Call → Content → Content → Content → Type 0
Tears (Written at bytes) seen = TornWrite at (length bytes.items)
Tears (WriteFailed at bytes) seen = TornWrite at (length bytes.items)
Tears (Resized size) seen = TornCut size
Tears (CutFailed size) seen = TornCut size
Tears Synced seen = λ old new. new ≡ seen

-- what a read gives after some calls
abbrev pub seen_after : List Call → Content → Content
seen_after [] seen = seen
seen_after (call ∷ calls) seen = seen_after calls (seen_after_call call seen)

-- the images after some calls
abbrev pub ImagesAfter : List Call → Content → (Content → Type 0) → Content → Type 0
ImagesAfter [] seen images = images
ImagesAfter (call ∷ calls) seen images = ImagesAfter calls (seen_after_call call seen) (After (Tears call seen) images)

-- the images after some calls on a disk with this content, on which nothing was pending
abbrev pub Left : Content → List Call → Content → Type 0
Left first calls = ImagesAfter calls first (Same first)

-- what is modelled of the disk
abbrev pub state_after : Content → List Call → DiskState
state_after first calls = record {
  seen = seen_after calls first;
  may_leave = Left first calls;
  moment = length calls;
  left_since = λ t c. (k : ℕ) × (t ≤ k) × (k ≤ length calls) × Left first (take k calls) c;
}

-- what it held at first: where nothing was kept apart, what it holds
abbrev pub first_of : Option (Vec ℕ Global) → List ℕ → Content
first_of None bytes = bytes
first_of (Some first) bytes = first.items

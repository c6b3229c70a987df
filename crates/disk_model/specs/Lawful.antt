-- The laws of a disk, for a disk in memory.
use Rattle.std.specs.Prelude.{◌≡◌, List, [], ◌∷◌, length, take, refl}
use Rattle.std.proofs.Common.{arith, sym, subst}
use Rattle.std.proofs.lemmas.List.{take_all}
use Rattle.disk_model.specs.Content.{Content, Same}
use Rattle.disk_model.specs.Images.{After, IsLawful}
use Rattle.disk_model.specs.Replay.{seen_after_call, Tears, seen_after, ImagesAfter, Left, state_after}
use Rattle.disk_model.specs.declared.log.Call.{Call}
use Rattle.disk_model.specs.declared.log.Call.TheVariants.{Written, WriteFailed, Resized, CutFailed, Synced}
use Rattle.disk_model.specs.Writes.{unchanged_write, unchanged_cut, torn_written, torn_resized}

-- each call may leave what a read gives after it
pub tears_as_read : (call : Call) (seen : Content) → Tears call seen seen (seen_after_call call seen)
tears_as_read (Written at bytes) seen = torn_written at bytes.items seen
tears_as_read (WriteFailed at bytes) seen = unchanged_write at (length bytes.items) seen
tears_as_read (Resized size) seen = torn_resized size seen
tears_as_read (CutFailed size) seen = unchanged_cut size seen
tears_as_read Synced seen = refl

reads_as : (calls : List Call) (seen : Content) (images : Content → Type 0) → images seen → ImagesAfter calls seen images (seen_after calls seen)
reads_as [] seen images was = was
reads_as (call ∷ calls) seen images was = reads_as calls (seen_after_call call seen) (After (Tears call seen) images) (seen, was, tears_as_read call seen)

pub lawful : (first : Content) (calls : List Call) → IsLawful (state_after first calls)
lawful first calls = record {
  reads_as = reads_as calls first (Same first) refl;
  counts_now = λ t c le image. (length calls, le, omega arith, subst (λ (l : List Call). Left first l c) (sym (take_all (length calls) calls (omega arith))) image);
  only_now = λ c left.
      let all : take left.0 calls ≡ calls = take_all left.0 calls left.1 in
      subst (λ (l : List Call). Left first l c) all left.3;
}

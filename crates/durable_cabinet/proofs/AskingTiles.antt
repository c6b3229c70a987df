-- An ask of a cabinet on a disk.
use Rattle.std.proofs.Common.{ℕ, ◌≡◌, ◌+◌, ◌≤◌, Bool, true, false, cond, IsTrue, List, map, find, Option, Some, None, IsSome, refl, sym, ap, subst, ◌∙◌, arith, Result, Ok, Err, OnErr}
use Rattle.std.specs.Prelude.{IfOk, IfSome}
use Rattle.std.specs.Option.{option_and_then, option_map}
use Rattle.disk_model.specs.Content.{Content, bytes_at}
use Rattle.matrix_geometry.specs.declared.address.Address.{Address}
use Rattle.metatile_plan.specs.declared.metatile.MetaKey.{MetaKey}
use Rattle.raster_field.specs.Blocks.{block_of}
use Rattle.cabinet.specs.declared.entry.HistoryEntry.TheVariants as entry
use Rattle.cabinet.specs.declared.kept.Kept.{Kept}
use Rattle.cabinet.specs.declared.kept.KeptBlob.{KeptBlob}
use Rattle.cabinet.specs.declared.replies.Forced.{Forced}
use Rattle.cabinet.specs.Commands.{Forces, IsHit, IsUnkept, answering, where_within}
use Rattle.cabinet.specs.Fresh.{limit_for}
use Rattle.cabinet.specs.History.{after, is_of, kept_of}
use Rattle.cabinet.specs.State.{State, asked_at, kept_text, now, with_entry}
use Rattle.cabinet.specs.Steps.{AsksKept}
use Rattle.cabinet.proofs.Lists.{find_map}
use Rattle.cabinet.proofs.Rows.{now_asked, now_more}
use Rattle.durable_cabinet.specs.Alike.{IsAlikeTo}
use Rattle.durable_cabinet.specs.Drafts.{needed}
use Rattle.durable_cabinet.specs.Filed.{on_disk}
use Rattle.durable_cabinet.specs.Images.{blob_on, blobs_start}
use Rattle.durable_cabinet.specs.Tiles.{IsTilePartOf}
use Rattle.durable_cabinet.proofs.Forcing.{alike_then, as_alike, ask_alike, asked_entered, entry_alike, forced_alike, forced_needed, needed_as}
use Rattle.durable_cabinet.proofs.Missing.{alike_itself}

-- a cabinet is alike to itself
pub same_alike : (s u : State) → u ≡ s → IsAlikeTo s u
same_alike s u is = as_alike s s u is (alike_itself s)

-- A USE

abbrev used_at : State → ℕ → MetaKey → State
used_at s n m = with_entry (asked_at n s) (entry.Used m)

pub used_alike : (s : State) (n : ℕ) (m : MetaKey) → IsAlikeTo s (used_at s n m)
used_alike s n m = alike_then s (asked_at n s) (used_at s n m) (ask_alike s n) (entry_alike (asked_at n s) (entry.Used m) (record { kept = refl; book = refl; cuts = refl }))

pub used_needed : (s u : State) (n : ℕ) (m : MetaKey) → u ≡ used_at s n m → needed u ≤ needed s + 1
used_needed s u n m is =
    let a = asked_at n s in
    let e = entry.Used m in
    needed_as s u (after s.catalogue (after s.catalogue (now s) (entry.At n)) e) (needed s + 1) (ap now is ∙ now_more a e a.blobs ∙ ap (λ x. after s.catalogue x e) (now_asked s n)) (omega arith)

-- WHAT AN ASK LEAVES, whatever it comes to

module _ {E : Type 0} (s u : State) (a : Address) where
  pub kept_alike_then : (r : Result (Option Forced) E) → IfOk r (λ x. AsksKept s a x u) → OnErr r (u ≡ s) → IsAlikeTo s u
  kept_alike_then (Ok None) row same = as_alike s (used_at s u.clock.moment (block_of s.catalogue a)) u row.1 (used_alike s u.clock.moment (block_of s.catalogue a))
  kept_alike_then (Ok (Some f)) row same = forced_alike s u u.clock.moment (block_of s.catalogue a) f row.1
  kept_alike_then (Err fault) row same = same_alike s u same

  pub kept_needed_then : (r : Result (Option Forced) E) → IfOk r (λ x. AsksKept s a x u) → OnErr r (u ≡ s) → needed u ≤ needed s + 1
  kept_needed_then (Ok None) row same = used_needed s u u.clock.moment (block_of s.catalogue a) row.1
  kept_needed_then (Ok (Some f)) row same = forced_needed s u u.clock.moment (block_of s.catalogue a) f row.1
  kept_needed_then (Err fault) row same = subst (λ (t : State). needed t ≤ needed s + 1) (sym same) (omega arith)

  pub forced_alike_then : (m : MetaKey) (r : Result Forced E) → IfOk r (λ x. Forces s m x u) → OnErr r (u ≡ s) → IsAlikeTo s u
  forced_alike_then m (Ok f) row same = forced_alike s u u.clock.moment m f row
  forced_alike_then m (Err fault) row same = same_alike s u same

  pub forced_needed_then : (m : MetaKey) (r : Result Forced E) → IfOk r (λ x. Forces s m x u) → OnErr r (u ≡ s) → needed u ≤ needed s + 1
  forced_needed_then m (Ok f) row same = forced_needed s u u.clock.moment m f row
  forced_needed_then m (Err fault) row same = subst (λ (t : State). needed t ≤ needed s + 1) (sym same) (omega arith)

-- A HIT

itself_if : (v : Bool) (t : Kept) → IsSome (cond v (Some t) None) → cond v (Some t) None ≡ Some t
itself_if true t some = refl
itself_if false t some = absurd (cc)

module _ (s : State) (a : Address) where
  kept_then : (n : ℕ) (o : Option Kept) → kept_of (block_of s.catalogue a) (now s) ≡ o → answering (asked_at n s) a ≡ option_and_then (where_within (limit_for s.catalogue a) (now (asked_at n s)).moment) o
  kept_then n o e = ap (option_and_then (where_within (limit_for s.catalogue a) (now (asked_at n s)).moment)) (ap (kept_of (block_of s.catalogue a)) (now_asked s n) ∙ e)

  -- where nothing is kept nothing answers
  pub none_answers : (n : ℕ) → kept_of (block_of s.catalogue a) (now s) ≡ None → IsUnkept (asked_at n s) a
  none_answers n e = kept_then n None e

  -- the text that is kept on a disk
  text_on : (told : Bool) (seen : Content) (n : ℕ) (t : Kept) (blob : List ℕ) → kept_of (block_of s.catalogue a) (now s) ≡ Some t → (IsTrue told → blob ≡ bytes_at seen (blobs_start s.catalogue + t.place) t.length)
      → IfSome (kept_text (asked_at n (on_disk told seen s)) (block_of s.catalogue a)) (λ text. blob ≡ text)
  text_on true seen n t blob e there =
      let c = s.catalogue in
      let m = block_of c a in
      let at : find (λ b. is_of m b.kept) (map (blob_on c seen) (now s).kept) ≡ Some (blob_on c seen t) = find_map (blob_on c seen) (λ b. is_of m b.kept) (now s).kept ∙ ap (option_map (blob_on c seen)) e in
      subst (λ (o : Option KeptBlob). IfSome (option_map (λ b. b.text) o) (λ text. blob ≡ text)) (sym at) (there refl)
  text_on false seen n t blob e there = tt

  pub hit_on : (told : Bool) (seen : Content) (u : State) (n : ℕ) (t : Kept) (bytes : List ℕ) → kept_of (block_of s.catalogue a) (now s) ≡ Some t → IsTilePartOf told s.catalogue seen a t bytes → IsSome (answering (asked_at n s) a)
      → u ≡ used_at s n (block_of s.catalogue a) → IsHit (asked_at n (on_disk told seen s)) a t.number bytes (on_disk told seen u)
  hit_on told seen u n t bytes e p some is =
      let at = kept_then n (Some t) e in
      record {
        kept = t;
        is_kept = at ∙ itself_if _ t (subst IsSome at some);
        number = refl;
        blob = p.blob;
        long = p.long;
        told = text_on told seen n t p.blob e p.there;
        part = p.part;
        state = ap (on_disk told seen) is ∙ asked_entered told seen s n (entry.Used (block_of s.catalogue a)) refl;
      }

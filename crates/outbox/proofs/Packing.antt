-- How packets are told apart by their bytes, and which one bytes are read as.
use Rattle.std.proofs.Common.{◌≡◌, ◌≢◌, ℕ, suc, ◌+◌, ◌<◌, ◌^◌, List, [], ◌∷◌, ◌++◌, length, drop, take, replicate, slice_index, Option, Some, None, is_some, refl, sym, subst, ap, ◌∙◌, arith}
use Rattle.std.proofs.lemmas.Bool.{false≢true}
use Rattle.std.proofs.lemmas.List.{take_all}
use Rattle.byteorder.specs.Endian.{big_bytes, big_number}
use Rattle.byteorder.specs.Numbers.{big_number-reads_back}
use Rattle.record_text.specs.declared.entries.Record.{Record}
use Rattle.record_text.specs.declared.entries.Record.TheVariants as record_of
use Rattle.record_text.specs.Fits.{Fits, FitsCover}
use Rattle.record_text.specs.Reading.{entry_of}
use Rattle.record_text.specs.Spelling.{spelling}
use Rattle.record_text.proofs.Back.{entry_back}
use Rattle.record_text.proofs.Decoded.{IsDecoded}
use Rattle.record_text.proofs.Sizes.{length-spelling}
use Rattle.catalog.specs.declared.catalogue.Catalogue.{Catalogue}
use Rattle.served_covers.specs.OfCatalogue.{IsCoverOf}
use Rattle.truncation_list.specs.declared.cover.Cover.{Cover}
use Rattle.outbox.specs.declared.packet.Packet.{Packet}
use Rattle.outbox.specs.declared.packet.Packet.TheVariants as packet
use Rattle.outbox.specs.Packets.{FitsPacket, IsRanged, IsReadAs, cut_in, packet_text}
use Rattle.outbox.specs.Files.{IsPostable, post_body}
use Rattle.outbox.proofs.Ranging.{ranged_fits}

-- SPELLINGS

some_packet : (p q : Packet) → Some p ≡ Some q → p ≡ q
some_packet p q is = cc

-- the change of a cut
abbrev change_as : ℕ × Cover → Packet
change_as x = packet.Change x.0 x.1

abbrev or_cut : ℕ × Cover → Option (ℕ × Cover) → ℕ × Cover
or_cut x None = x
or_cut x (Some y) = y

some_cut : (x y : ℕ × Cover) → Some x ≡ Some y → x ≡ y
some_cut x y is = ap (or_cut x) is

change_is : (x y : ℕ × Cover) → Some x ≡ Some y → change_as x ≡ change_as y
change_is x y is = ap change_as (some_cut x y is)

apart : (body bytes : List ℕ) → 1 ∷ body ≡ 2 ∷ bytes → ⊥
apart body bytes same = let heads : 1 ≡ 2 = ap (λ (l : List ℕ). slice_index l 0) same in absurd (omega (arith, heads))

same_change : (n m : ℕ) (c d : Cover) → Fits (record_of.Cut n c) → Fits (record_of.Cut m d) → spelling (record_of.Cut n c) ≡ spelling (record_of.Cut m d) → packet.Change n c ≡ packet.Change m d
same_change n m c d fits fits' same =
    change_is (n, c) (m, d)
    (ap cut_in (sym (entry_back (record_of.Cut n c) fits) ∙ ap entry_of same ∙ entry_back (record_of.Cut m d) fits'))

same_seen : (n m : ℕ) (rest rest' : List ℕ) → n < 2 ^ 64 → m < 2 ^ 64 → big_bytes 8 n ++ rest ≡ big_bytes 8 m ++ rest' → n ≡ m
same_seen n m rest rest' fits fits' same = sym (big_number-reads_back 8 n rest fits) ∙ ap (big_number 8) same ∙ big_number-reads_back 8 m rest' fits'

pub one_spelling : (a b : Packet) → FitsPacket a → FitsPacket b → packet_text a ≡ packet_text b → a ≡ b
one_spelling (packet.Change n c) (packet.Change m d) fits fits' same = same_change n m c d fits fits' (ap (drop 1) same)
one_spelling (packet.Change n c) (packet.Seen m) fits fits' same = absurd (apart (spelling (record_of.Cut n c)) (big_bytes 8 m ++ replicate 55 0) same)
one_spelling (packet.Seen n) (packet.Change m d) fits fits' same = absurd (apart (spelling (record_of.Cut m d)) (big_bytes 8 n ++ replicate 55 0) (sym same))
one_spelling (packet.Seen n) (packet.Seen m) fits fits' same = ap packet.Seen (same_seen n m (replicate 55 0) (replicate 55 0) fits fits' (ap (drop 1) same))

pub spelling_size : (p : Packet) → FitsPacket p → length (packet_text p) ≡ 64
spelling_size (packet.Change n c) fits = ap suc (length-spelling (record_of.Cut n c) fits)
spelling_size (packet.Seen n) fits = refl

-- READING

module _ (body : List ℕ) (r : Option Record) (decoded : IsDecoded body r) where
  -- what is spelled so was recorded so
  read_back : (p : Packet) → packet_text p ≡ 1 ∷ body → IsRanged p → (x : ℕ × Cover) × (p ≡ change_as x) × (cut_in r ≡ Some x)
  read_back (packet.Change n c) same ranged = ((n, c), refl, ap cut_in ((decoded (record_of.Cut n c)).1 ((ranged.1, ranged_fits c ranged.2), ap (drop 1) same)))
  read_back (packet.Seen n) same ranged = absurd (apart body (big_bytes 8 n ++ replicate 55 0) (sym same))

  -- what was recorded so is spelled so
  spelled_so : (entry : Option Record) → r ≡ entry → (x : ℕ × Cover) → cut_in entry ≡ Some x → packet_text (change_as x) ≡ 1 ∷ body
  spelled_so None is x found = absurd (false≢true (ap is_some found))
  spelled_so (Some (record_of.Opened opening floor)) is x found = absurd (false≢true (ap is_some found))
  spelled_so (Some (record_of.Stored number key place size moment uses)) is x found = absurd (false≢true (ap is_some found))
  spelled_so (Some (record_of.Dropped number key)) is x found = absurd (false≢true (ap is_some found))
  spelled_so (Some (record_of.Cut n c)) is x found =
      subst (λ (y : ℕ × Cover). packet_text (change_as y) ≡ 1 ∷ body) (some_cut (n, c) x found) (ap (λ (l : List ℕ). 1 ∷ l) ((decoded (record_of.Cut n c)).0 is).1)
  spelled_so (Some (record_of.Uses number key uses)) is x found = absurd (false≢true (ap is_some found))

  pub reads_none : None ≡ cut_in r → IsReadAs (1 ∷ body) None
  reads_none none p = (λ e. absurd (false≢true (ap is_some e)), λ h. absurd (false≢true (ap is_some (none ∙ (read_back p h.0 h.1).2))))

  pub reads_out : (x : ℕ × Cover) → Some x ≡ cut_in r → (IsRanged (change_as x) → ⊥) → IsReadAs (1 ∷ body) None
  reads_out x found out p = (
    λ e. absurd (false≢true (ap is_some e)),
    λ h. let b = read_back p h.0 h.1 in absurd (out (subst IsRanged (b.1 ∙ sym (change_is x b.0 (found ∙ b.2))) h.1)),
  )

  pub reads_some : (x : ℕ × Cover) → Some x ≡ cut_in r → IsRanged (change_as x) → IsReadAs (1 ∷ body) (Some (change_as x))
  reads_some x found ranged p = (
    λ e. subst (λ (q : Packet). (packet_text q ≡ 1 ∷ body) × IsRanged q) (some_packet (change_as x) p e) (spelled_so r refl x (sym found), ranged),
    λ h. let b = read_back p h.0 h.1 in ap Some (change_is x b.0 (found ∙ b.2) ∙ sym b.1),
  )

-- POSTS

module _ (body : List ℕ) (r : Option Record) (decoded : IsDecoded body r) (c : Catalogue) (slot : ℕ) (fits : slot + 1 < 2 ^ 64) where
  is_cut : (cover : Cover) → IsPostable c cover → body ≡ post_body (slot + 1) cover → cut_in r ≡ Some (slot + 1, cover)
  unfolding post_body
  is_cut cover one same = ap cut_in ((decoded (record_of.Cut (slot + 1) cover)).1 ((fits, one.fits), sym same))

  cut_is : (entry : Option Record) → r ≡ entry → (x : ℕ × Cover) → cut_in entry ≡ Some x → FitsCover x.1 × (body ≡ post_body x.0 x.1)
  unfolding post_body
  cut_is None is x found = absurd (false≢true (ap is_some found))
  cut_is (Some (record_of.Opened opening floor)) is x found = absurd (false≢true (ap is_some found))
  cut_is (Some (record_of.Stored number key place size moment uses)) is x found = absurd (false≢true (ap is_some found))
  cut_is (Some (record_of.Dropped number key)) is x found = absurd (false≢true (ap is_some found))
  cut_is (Some (record_of.Cut n cover)) is x found =
      let d = (decoded (record_of.Cut n cover)).0 is in
      subst (λ (y : ℕ × Cover). FitsCover y.1 × (body ≡ spelling (record_of.Cut y.0 y.1))) (some_cut (n, cover) x found) (d.0.1, sym d.1)
  cut_is (Some (record_of.Uses number key uses)) is x found = absurd (false≢true (ap is_some found))

  pub post_none : None ≡ cut_in r → (cover : Cover) → IsPostable c cover → body ≢ post_body (slot + 1) cover
  post_none none cover one same = absurd (false≢true (ap is_some (none ∙ is_cut cover one same)))

  pub post_other : (x : ℕ × Cover) → Some x ≡ cut_in r → x.0 ≢ slot + 1 → (cover : Cover) → IsPostable c cover → body ≢ post_body (slot + 1) cover
  post_other x found other cover one same = other (ap (λ (y : ℕ × Cover). y.0) (some_cut x (slot + 1, cover) (found ∙ is_cut cover one same)))

  pub post_foreign : (x : ℕ × Cover) → Some x ≡ cut_in r → (IsCoverOf c x.1 → ⊥) → (cover : Cover) → IsPostable c cover → body ≢ post_body (slot + 1) cover
  post_foreign x found foreign cover one same =
      foreign (subst (λ (y : ℕ × Cover). IsCoverOf c y.1) (sym (some_cut x (slot + 1, cover) (found ∙ is_cut cover one same))) one.served)

  pub post_some : (x : ℕ × Cover) → Some x ≡ cut_in r → x.0 ≡ slot + 1 → IsCoverOf c x.1 → IsPostable c x.1 × (body ≡ post_body (slot + 1) x.1)
  post_some x found at served =
      let is = cut_is r refl x (sym found) in
      (record { served = served; fits = is.0 }, is.1 ∙ ap (λ (n : ℕ). post_body n x.1) at)

-- one byte, and those behind it
pub parted : (bytes : List ℕ) → length bytes ≡ 64 → bytes ≡ slice_index bytes 0 ∷ take 63 (drop 1 bytes)
parted [] size = absurd (omega (arith, size))
parted (b ∷ bytes) size = ap (λ (l : List ℕ). b ∷ l) (sym (take_all 63 bytes (omega (arith, size))))

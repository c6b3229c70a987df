-- What one packet comes to at a follower.
use Rattle.std.specs.Prelude.{IsTrue}
use Rattle.std.proofs.Common.{◌≡◌, ◌⊎◌, ◌↔◌, ℕ, ◌≤◌, ◌++◌, arith, Bool, List, [], ◌∷◌, length, Option, Some, None, Ok, refl, sym, subst, ap, inl, inr}
use Rattle.std.specs.Io.KnownBytes.{Appends, Consumes}
use Rattle.cabinet.proofs.Rows.{cuts_known}
use Rattle.cabinet.specs.declared.replies.CutReply.{CutReply}
use Rattle.cabinet.specs.declared.replies.CutReply.TheVariants as cut
use Rattle.cabinet.specs.State.{IsKnown, IsKnownAs, IsSound, State, now}
use Rattle.catalog.specs.declared.catalogue.Catalogue.{Catalogue}
use Rattle.change_feed.specs.declared.applied.Applied.{Applied}
use Rattle.change_feed.specs.declared.applied.Applied.TheVariants as applied
use Rattle.change_feed.specs.declared.change.Change.{Change}
use Rattle.change_feed.specs.Applies.{Applies, IsCutAs, MayEndAfter, Pair, decided, mark_for, marked_cut}
use Rattle.base.specs.Causes.{Rose}
use Rattle.change_feed.specs.Files.{EndsIn, MayEndIn, Stand}
use Rattle.change_feed.specs.Marks.{last_of}
use Rattle.cut_follower.specs.declared.following.Arrived.{Arrived}
use Rattle.cut_follower.specs.declared.following.Arrived.TheVariants as arrived
use Rattle.cut_follower.specs.declared.taken.Taken.{Taken}
use Rattle.cut_follower.specs.declared.taken.Taken.TheVariants as taken
use Rattle.cut_follower.specs.Following.{IsNoChange, IsStarved}
use Rattle.cut_follower.specs.Links.{HasSent, HasTaken, IsCutShort, LinkAt}
use Rattle.cut_follower.specs.Steps.{ArrivesOne, ComesAs, GoesTo, IsChange, IsForgotten, IsTold, IsUntold, MakesOne, TellsOf}
use Rattle.cut_follower.specs.Takes.{IsOfCatalogue, MayEndTaken, Takes}
use Rattle.disk_model.specs.Content.{Content}
use Rattle.disk_model.specs.Images.{DiskState, Leaves}
use Rattle.disk_model.specs.Moments.{leaves_as}
use Rattle.outbox.specs.declared.packet.Packet.{Packet}
use Rattle.outbox.specs.declared.packet.Packet.TheVariants as packets
use Rattle.outbox.specs.Packets.{IsRanged, packet_text}
use Rattle.served_covers.specs.OfCatalogue.{IsCoverOf}
use Rattle.truncation_list.proofs.Answering.{answers_itself}
use Rattle.truncation_list.specs.Books.{AnswersForBook}

-- THE CABINET

pub record GoesOn (s t : State) : Type 0 where
  pub same_catalogue : t.catalogue ≡ s.catalogue
  pub answers : AnswersForBook (now t).book (now s).book

goes_same : (s t : State) → t ≡ s → GoesOn s t
goes_same s t is = subst (GoesOn s) (sym is) (record { same_catalogue = refl; answers = answers_itself (now s).book })

goes_cut : (s t : Pair) (change : Change) (reply : CutReply) (stand : Stand) → IsKnown s.cabinet → IsCoverOf s.cabinet.catalogue change.cover → IsCutAs s change reply stand t → GoesOn s.cabinet t.cabinet
goes_cut s t change reply stand known cover is =
    let k : IsKnownAs s.cabinet t.cabinet = cuts_known s.cabinet t.cabinet change.cover reply known cover is.cuts in
    record { same_catalogue = k.same_catalogue; answers = k.answers.book }

row_goes : (s t : Pair) (change : Change) (reply : Applied) → IsKnown s.cabinet → IsCoverOf s.cabinet.catalogue change.cover → Applies s change reply t → GoesOn s.cabinet t.cabinet
row_goes s t change applied.Repeated known cover row = goes_same s.cabinet t.cabinet (ap (λ (x : Pair). x.cabinet) row.1)
row_goes s t change (applied.Gap k) known cover row = goes_same s.cabinet t.cabinet (ap (λ (x : Pair). x.cabinet) row.2)
row_goes s t change (applied.FeedFault None) known cover row = goes_same s.cabinet t.cabinet row.3
row_goes s t change (applied.FeedFault (Some k)) known cover row = goes_cut s t change (cut.Done k) (record { mark = s.stand.mark; undecided = Some (mark_for change k) }) known cover row.0
row_goes s t change applied.Spent known cover row = goes_cut s t change cut.Spent (decided s.stand) known cover row
row_goes s t change applied.Full known cover row = goes_cut s t change cut.Full (decided s.stand) known cover row
row_goes s t change (applied.DiskFault b a) known cover row = goes_cut s t change (cut.DiskFault b a) (decided s.stand) known cover row
row_goes s t change (applied.Done k) known cover row = goes_cut s t change (cut.Done k) (record { mark = Some (mark_for change k); undecided = None }) known cover row

-- THE IMAGES

abbrev or_zero : Option ℕ → ℕ
or_zero None = 0
or_zero (Some n) = n

some_same : (m n : ℕ) → Some m ≡ Some n → m ≡ n
some_same m n is = ap or_zero is

-- an image that ends in the mark of a cut ends in one of the stand behind it
ends_behind : (digest : List ℕ) (s t : Pair) (change : Change) (reply : Applied) → Applies s change reply t → (k : ℕ) → marked_cut reply ≡ Some k → (image : Content) → EndsIn digest (Some (mark_for change k)) image → MayEndIn digest t.stand image
ends_behind digest s t change applied.Repeated row k cuts image ends = absurd (cc)
ends_behind digest s t change (applied.Gap n) row k cuts image ends = absurd (cc)
ends_behind digest s t change (applied.FeedFault None) row k cuts image ends = absurd (cc)
ends_behind digest s t change (applied.FeedFault (Some n)) row k cuts image ends =
    subst (λ (x : Stand). MayEndIn digest x image) (sym row.0.stands) (inr (refl, subst (λ (x : ℕ). EndsIn digest (Some (mark_for change x)) image) (sym (some_same n k cuts)) ends))
ends_behind digest s t change applied.Spent row k cuts image ends = absurd (cc)
ends_behind digest s t change applied.Full row k cuts image ends = absurd (cc)
ends_behind digest s t change (applied.DiskFault b a) row k cuts image ends = absurd (cc)
ends_behind digest s t change (applied.Done n) row k cuts image ends =
    subst (λ (x : Stand). MayEndIn digest x image) (sym row.stands) (inl (subst (λ (x : ℕ). EndsIn digest (Some (mark_for change x)) image) (sym (some_same n k cuts)) ends))

either_stand : (digest : List ℕ) (s t : Pair) (change : Change) (reply : Applied) → Applies s change reply t → (image : Content) → MayEndAfter digest s.stand change reply image → MayEndIn digest s.stand image ⊎ MayEndIn digest t.stand image
either_stand digest s t change reply row image (inl may) = inl may
either_stand digest s t change reply row image (inr cuts) = inr (ends_behind digest s t change reply row cuts.0 cuts.1 image cuts.2)

either_taken : (digest : List ℕ) (s t : Pair) (packet : Packet) (reply : Taken) → Takes s packet reply t → (image : Content) → MayEndTaken digest s.stand packet reply image → MayEndIn digest s.stand image ⊎ MayEndIn digest t.stand image
either_taken digest s t (packets.Change n cover) (taken.Answer reply seen) row image may = either_stand digest s t (record { number = n; cover = cover }) reply row.0 image may
either_taken digest s t (packets.Change n cover) taken.NotAChange row image may = inl may
either_taken digest s t (packets.Seen i) reply row image may = inl may

-- BOTH

taken_goes : (s t : Pair) (packet : Packet) (reply : Taken) → IsKnown s.cabinet → IsOfCatalogue s.cabinet.catalogue packet → Takes s packet reply t → GoesOn s.cabinet t.cabinet
taken_goes s t (packets.Change n cover) (taken.Answer reply seen) known of row = row_goes s t (record { number = n; cover = cover }) reply known of row.0
taken_goes s t (packets.Change n cover) taken.NotAChange known of row = absurd row
taken_goes s t (packets.Seen i) (taken.Answer reply seen) known of row = absurd row
taken_goes s t (packets.Seen i) taken.NotAChange known of row = goes_same s.cabinet t.cabinet (ap (λ (x : Pair). x.cabinet) row)

pub goes_to : (told : Bool) (digest : List ℕ) (from to : DiskState) (s t : Pair) (packet : Packet) (reply : Taken) → IsKnown s.cabinet → IsOfCatalogue s.cabinet.catalogue packet → Takes s packet reply t → s.faults ≤ t.faults → s.cabinet_faults ≤ t.cabinet_faults
    → (IsSound s.cabinet → IsSound t.cabinet) → (IsTrue told → Leaves from to (MayEndTaken digest s.stand packet reply)) → GoesTo told digest from to s t
goes_to told digest from to s t packet reply known of row later cabinet_later still_sound images =
    let g = taken_goes s t packet reply known of row in
    record {
      images = λ is. leaves_as from to (MayEndTaken digest s.stand packet reply) (λ image. MayEndIn digest s.stand image ⊎ MayEndIn digest t.stand image) (images is) (either_taken digest s t packet reply row);
      later = later;
      cabinet_later = cabinet_later;
      same_catalogue = g.same_catalogue;
      answers = g.answers;
      still_sound = still_sound;
    }

-- OFF THE LINK

abbrev IsRead : List ℕ → Option Packet → Type 0
IsRead bytes found = (p : Packet) → (found ≡ Some p) ↔ ((packet_text p ≡ bytes) × IsRanged p)

pub unread : (c : Catalogue) (bytes : List ℕ) → IsRead bytes None → length bytes ≡ 64 → IsNoChange c bytes
unread c bytes read size = record { size = size; none = λ n cover ranged text of. none ((read (packets.Change n cover)).1 (text, ranged)) }
  where
    none : {p : Packet} → None ≡ Some p → ⊥
    none is = cc

or_packet : Packet → Option Packet → Packet
or_packet p None = p
or_packet p (Some q) = q

some_packet : (p q : Packet) → Some p ≡ Some q → p ≡ q
unfolding or_packet
some_packet p q is = ap (or_packet p) is

pub not_of : (c : Catalogue) (bytes : List ℕ) (packet : Packet) → IsRead bytes (Some packet) → length bytes ≡ 64 → (IsOfCatalogue c packet → ⊥) → IsNoChange c bytes
not_of c bytes packet read size other =
    record { size = size; none = λ n cover ranged text of. other (subst (IsOfCatalogue c) (sym (some_packet packet (packets.Change n cover) ((read (packets.Change n cover)).1 (text, ranged)))) of) }

-- WHAT ARRIVED

abbrev first_of : List ℕ → ℕ
first_of [] = 0
first_of (x ∷ xs) = x

two_kinds : (m n : ℕ) → m ≡ 1 → n ≡ 2 → m ≡ n → ⊥
two_kinds m n one two is = absurd (omega (arith, one, two, is))

-- from a moment on at which as much had been sent
sent_from : (a m b : LinkAt) (bytes : List ℕ) → m.taken ≡ a.taken → HasSent m b bytes → HasSent a b bytes
sent_from a m b bytes same sent = subst (λ (x : Option (List ℕ)). Appends x b.taken bytes) same sent

cut_from : (a m b : LinkAt) (first second : List ℕ) → m.taken ≡ a.taken → m.write_faults ≡ a.write_faults → IsCutShort m b first second → IsCutShort a b first second
cut_from a m b first second same faults cut = record {
  front = cut.front;
  rest = cut.rest;
  whole = cut.whole;
  short = cut.short;
  sent = sent_from a m b (first ++ cut.front) same cut.sent;
  failed = subst (λ (n : ℕ). Rose n b.write_faults) faults cut.failed;
}

tells_from : (a m b : LinkAt) (reply : Applied) (seen : Packet) (e : Arrived) → m.taken ≡ a.taken → m.write_faults ≡ a.write_faults → TellsOf m b reply seen e → TellsOf a b reply seen e
tells_from a m b reply seen arrived.Told same faults tells = (tells.0, sent_from a m b (packet_text seen) same tells.1)
tells_from a m b reply seen arrived.WriteFault same faults tells = (tells.0, cut_from a m b [] (packet_text seen) same faults tells.1)
tells_from a m b reply seen (arrived.Stopped stop) same faults tells = (tells.0, tells.1, sent_from a m b [] same tells.2)
tells_from a m b reply seen arrived.AtEnd same faults tells = absurd tells
tells_from a m b reply seen arrived.Truncated same faults tells = absurd tells
tells_from a m b reply seen arrived.BadPacket same faults tells = absurd tells
tells_from a m b reply seen arrived.ReadFault same faults tells = absurd tells
tells_from a m b reply seen arrived.OutOfMemory same faults tells = absurd tells

module _ (a m b : LinkAt) (s t : Pair) (same_taken : m.taken ≡ a.taken) (same_faults : m.write_faults ≡ a.write_faults) (same_left : b.left ≡ m.left) where
  taken_to : (bytes : List ℕ) → HasTaken a m bytes → HasTaken a b bytes
  taken_to bytes taken = subst (λ (x : Option (List ℕ)). Consumes a.left x bytes) (sym same_left) taken

  told_one : (packet : Packet) (reply : Applied) (seen : Packet) (e : Arrived) → ComesAs s.cabinet.catalogue a m (Ok packet) → Takes s packet (taken.Answer reply seen) t → TellsOf m b reply seen e → IsTold a b s reply t e
  told_one (packets.Change n cover) reply seen e comes takes tells = record {
    change = record { number = n; cover = cover };
    cover = comes.0;
    row = takes.0;
    taken = taken_to (packet_text (packets.Change n cover)) comes.1;
    tells = tells_from a m b reply (packets.Seen (last_of t.stand.mark)) e same_taken same_faults (subst (λ (p : Packet). TellsOf m b reply p e) takes.1 tells);
  }
  told_one (packets.Seen i) reply seen e comes takes tells = absurd takes

  untold : (packet : Packet) → ComesAs s.cabinet.catalogue a m (Ok packet) → Takes s packet taken.NotAChange t → HasSent m b [] → IsUntold a b s t (packet_text packet) × IsNoChange s.cabinet.catalogue (packet_text packet)
  untold (packets.Change n cover) comes takes sent = absurd takes
  untold (packets.Seen i) comes takes sent = (
    record { same = takes; sent = sent_from a m b [] same_taken sent; taken = taken_to (packet_text (packets.Seen i)) comes.1 },
    record { size = comes.2; none = λ n cover ranged text of. two_kinds 1 2 refl refl (ap first_of text) },
  )

  forgotten : (packet : Packet) → ComesAs s.cabinet.catalogue a m (Ok packet) → IsChange packet → IsStarved s t → HasSent m b [] → IsForgotten a b s t
  forgotten (packets.Change n cover) comes change starved sent = record {
    change = record { number = n; cover = cover };
    cover = comes.0;
    starved = starved;
    taken = taken_to (packet_text (packets.Change n cover)) comes.1;
    sent = sent_from a m b [] same_taken sent;
  }
  forgotten (packets.Seen i) comes change starved sent = absurd change

  arrives_of : (packet : Packet) (e : Arrived) → ComesAs s.cabinet.catalogue a m (Ok packet) → MakesOne m b s packet e t → ArrivesOne a b s e t
  arrives_of packet arrived.Told comes made = (made.0, told_one packet made.0 made.1 arrived.Told comes made.2 made.3)
  arrives_of packet arrived.WriteFault comes made = (made.0, told_one packet made.0 made.1 arrived.WriteFault comes made.2 made.3)
  arrives_of packet (arrived.Stopped stop) comes made =
      subst (λ (r : Applied). IsTold a b s r t (arrived.Stopped stop)) (sym made.3.0) (told_one packet made.0 made.1 (arrived.Stopped stop) comes made.2 made.3)
  arrives_of packet arrived.BadPacket comes made = let u = untold packet comes made.0 made.1 in (packet_text packet, u.0, u.1)
  arrives_of packet arrived.OutOfMemory comes made = forgotten packet comes made.0 made.1 made.2
  arrives_of packet arrived.AtEnd comes made = absurd made
  arrives_of packet arrived.Truncated comes made = absurd made
  arrives_of packet arrived.ReadFault comes made = absurd made

  pub arrives_made : (c : Catalogue) (packet : Packet) (e : Arrived) → c ≡ s.cabinet.catalogue → ComesAs c a m (Ok packet) → MakesOne m b s packet e t → ArrivesOne a b s e t
  arrives_made c packet e same comes made = arrives_of packet e (subst (λ (x : Catalogue). ComesAs x a m (Ok packet)) same comes) made

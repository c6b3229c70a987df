-- What a lossy link promises.
use Rattle.std.proofs.Common.{◌≡◌, ℕ, ◌+◌, ◌<◌, ◌≤◌, List, [], ◌∷◌, length, Some, IsTrue, refl, sym, subst, ap, arith, inl, inr, Bool, true, false}
use Rattle.std.specs.Prelude.{slice_get}
use Rattle.cabinet.specs.declared.replies.Asked.{Asked}
use Rattle.cabinet.specs.declared.replies.Asked.TheVariants as replies
use Rattle.cabinet.specs.Hits.{covers_in}
use Rattle.cabinet.proofs.Lists.{all_contained}
use Rattle.cabinet_chest.specs.Above.{IsAboveCovering}
use Rattle.cabinet_chest.proofs.Numbering.{all_covering, answered_below, asked_above}
use Rattle.change_feed.specs.declared.applied.Applied.{Applied}
use Rattle.change_feed.specs.declared.applied.Applied.TheVariants as applied
use Rattle.change_feed.specs.declared.change.Change.{Change}
use Rattle.matrix_geometry.specs.declared.address.Address.{Address}
use Rattle.outbox.specs.declared.packet.Packet.{Packet}
use Rattle.outbox.specs.declared.packet.Packet.TheVariants as packets
use Rattle.outbox.specs.declared.posted.Posted.{Posted}
use Rattle.outbox.specs.declared.posted.Posted.TheVariants as posts
use Rattle.outbox.specs.Posts.{Hears, Outgoing}
use Rattle.truncation_list.specs.Books.{AnswersFor}
use Rattle.truncation_list.specs.declared.book.Cut.{Cut}
use Rattle.truncation_list.specs.declared.cover.Cover.{Cover}
use Rattle.served_covers.specs.OfCatalogue.{IsCoverOf}
use Rattle.cut_follower.specs.InStep.{IsAcknowledged, IsFront, IsInStep, IsTrueOf, book_in, covers_of, last_in, tile_number}
use Rattle.cut_follower.specs.Lossy.{Happens, IsPosted, LinkEvent, Lossy, Passes, applied_after, arrived, asked, cabinet_opened, commanded, cut_for, heard, marks_opened, next_sent, outbox_opened, packet_of, posted, ran_out}
use Rattle.cut_follower.specs.Takes.{IsOfCatalogue}
use Rattle.cut_follower.proofs.Feeds.{called_of}
use Rattle.cut_follower.proofs.Fronts.{front_itself, front_some, front_through, got_all, got_below, got_front, got_last, got_map, some_is}
use Rattle.cut_follower.proofs.Stepping.{steps_on}

-- WHAT STAYS

front_same : {X : Type 0} (xs ys : List X) → ys ≡ xs → IsFront xs ys
front_same xs ys is = subst (IsFront xs) (sym is) (front_itself xs)

applied_grow : (cuts : List Cut) (change : Change) (reply : Applied) → IsFront cuts (applied_after cuts change reply)
applied_grow cuts change applied.Repeated = front_itself cuts
applied_grow cuts change (applied.Gap k) = front_itself cuts
applied_grow cuts change (applied.FeedFault cut) = front_itself cuts
applied_grow cuts change applied.Spent = front_itself cuts
applied_grow cuts change applied.Full = front_itself cuts
applied_grow cuts change (applied.DiskFault b a) = front_itself cuts
applied_grow cuts change (applied.Done k) = (cut_for change k ∷ [], refl)

cuts_stay : (l m : Lossy) (event : LinkEvent) → Happens l event m → IsFront l.applied m.applied
cuts_stay l m (posted cover reply) is = front_same l.applied m.applied (ap (λ (x : Lossy). x.applied) is.rest)
cuts_stay l m next_sent is = front_same l.applied m.applied (ap (λ (x : Lossy). x.applied) is)
cuts_stay l m (heard n i news) is = front_same l.applied m.applied (ap (λ (x : Lossy). x.applied) is.2)
cuts_stay l m outbox_opened is = front_same l.applied m.applied (ap (λ (x : Lossy). x.applied) is.1)
cuts_stay l m (arrived n change reply) is = subst (IsFront l.applied) (sym (ap (λ (x : Lossy). x.applied) is.rest)) (applied_grow l.applied change reply)
cuts_stay l m (ran_out n change) is = front_same l.applied m.applied (ap (λ (x : Lossy). x.applied) is.2)
cuts_stay l m marks_opened is = elim is.rest [
  | inl same ↦ front_same l.applied m.applied (ap (λ (x : Lossy). x.applied) same.1)
  | inr found ↦ subst (IsFront l.applied) (sym (ap (λ (x : Lossy). x.applied) found.2)) (front_some l.applied l.unsure)
]
cuts_stay l m cabinet_opened is = front_same l.applied m.applied (ap (λ (x : Lossy). x.applied) is.1)
cuts_stay l m commanded is = front_same l.applied m.applied (ap (λ (x : Lossy). x.applied) is.1)
cuts_stay l m (asked address reply) is = front_same l.applied m.applied (ap (λ (x : Lossy). x.applied) is.rest)

abbrev posts_of : Lossy → List Cover
posts_of l = l.out.posts

posted_stay : (l m : Lossy) (cover : Cover) (reply : Posted) → IsPosted l cover reply m → IsFront l.out.posts m.out.posts
posted_stay l m cover (posts.Done i) is = subst (IsFront l.out.posts) (sym (ap (λ (o : Outgoing). o.posts) is.row.2)) (cover ∷ [], refl)
posted_stay l m cover posts.Full is = front_same l.out.posts m.out.posts (ap (λ (o : Outgoing). o.posts) is.row.1)
posted_stay l m cover (posts.DiskFault b a) is = elim is.row.4 [
  | inl same ↦ front_same l.out.posts m.out.posts (ap (λ (o : Outgoing). o.posts) same)
  | inr new ↦ front_same l.out.posts m.out.posts (ap (λ (o : Outgoing). o.posts) new)
]

heard_stay : (s t : Outgoing) (i : ℕ) (news : Bool) → Hears s (packets.Seen i) news t → IsFront s.posts t.posts
heard_stay s t i true is = front_same s.posts t.posts (ap (λ (o : Outgoing). o.posts) is.2)
heard_stay s t i false is = front_same s.posts t.posts (ap (λ (o : Outgoing). o.posts) is.1)

posts_stay : (l m : Lossy) (event : LinkEvent) → Happens l event m → IsFront l.out.posts m.out.posts
posts_stay l m (posted cover reply) is = posted_stay l m cover reply is
posts_stay l m next_sent is = front_same l.out.posts m.out.posts (ap posts_of is)
posts_stay l m (heard n i news) is = heard_stay l.out m.out i news is.1
posts_stay l m outbox_opened is = elim is.0.found [
  | inl same ↦ front_same l.out.posts m.out.posts same
  | inr more ↦ (more.0 ∷ [], more.2)
]
posts_stay l m (arrived n change reply) is = front_same l.out.posts m.out.posts (ap posts_of is.rest)
posts_stay l m (ran_out n change) is = front_same l.out.posts m.out.posts (ap posts_of is.2)
posts_stay l m marks_opened is = elim is.rest [
  | inl same ↦ front_same l.out.posts m.out.posts (ap posts_of same.1)
  | inr found ↦ front_same l.out.posts m.out.posts (ap posts_of found.2)
]
posts_stay l m cabinet_opened is = front_same l.out.posts m.out.posts (ap posts_of is.1)
posts_stay l m commanded is = front_same l.out.posts m.out.posts (ap posts_of is.1)
posts_stay l m (asked address reply) is = front_same l.out.posts m.out.posts (ap posts_of is.rest)

pub all_cuts_stay : (l m : Lossy) (events : List LinkEvent) → Passes l events m → IsFront l.applied m.applied
all_cuts_stay l m [] is = front_same l.applied m.applied (ap (λ (x : Lossy). x.applied) is)
all_cuts_stay l m (e ∷ es) is = front_through l.applied is.0.applied m.applied (cuts_stay l is.0 e is.1) (all_cuts_stay is.0 m es is.2)

pub all_posts_stay : (l m : Lossy) (events : List LinkEvent) → Passes l events m → IsFront l.out.posts m.out.posts
all_posts_stay l m [] is = front_same l.out.posts m.out.posts (ap posts_of is)
all_posts_stay l m (e ∷ es) is = front_through l.out.posts is.0.out.posts m.out.posts (posts_stay l is.0 e is.1) (all_posts_stay is.0 m es is.2)

-- WHAT IS ACKNOWLEDGED

pub acknowledged_cut : (l mid m : Lossy) (events more : List LinkEvent) (i : ℕ) → IsInStep l → Passes l events mid → IsAcknowledged (i + 1) mid → Passes mid more m
    → (cut : Cut) × (slice_get mid.applied i ≡ Some cut) × (slice_get mid.out.posts i ≡ Some cut.cover) × (slice_get m.applied i ≡ Some cut) × AnswersFor (book_in m) cut
acknowledged_cut l mid m events more i h first seen next =
    let at = steps_on l mid events h first in
    let upto : seen.0 ≤ last_in mid = all_contained (IsTrueOf mid.out.posts (last_in mid)) mid.sent (packets.Seen seen.0) at.sent seen.2 in
    let found = got_below mid.applied i (omega (arith, seen.1, upto, at.counted)) in
    let stays : slice_get m.applied i ≡ Some found.0 = got_front mid.applied m.applied i found.0 (all_cuts_stay mid m more next) found.1 in (
      found.0,
      found.1,
      got_front (covers_of mid.applied) mid.out.posts i found.0.cover at.posted (got_map (λ (c : Cut). c.cover) mid.applied i found.0 found.1),
      stays,
      got_all (AnswersFor (book_in m)) m.applied i found.0 (steps_on mid m more at next).answers stays,
    )

-- TILES

above_of : (before m : Lossy) (address : Address) (reply : Asked) (k : ℕ) → IsInStep before → Happens before (asked address reply) m → tile_number reply ≡ Some k
    → IsAboveCovering before.stores.cabinet.catalogue (book_in before) address k
above_of before m address (replies.Hit n bytes) k h is number =
    subst (IsAboveCovering before.stores.cabinet.catalogue (book_in before) address) (some_is n k number) (asked_above is.faults is.then_faults before.stores.cabinet m.stores.cabinet address (replies.Hit n bytes) h.known is.tile is.row)
above_of before m address (replies.Busy n) k h is number = absurd (cc)
above_of before m address replies.Spent k h is number = absurd (cc)
above_of before m address (replies.Ticket t) k h is number =
    subst (IsAboveCovering before.stores.cabinet.catalogue (book_in before) address) (some_is t.number k number)
    (all_covering before.stores.cabinet.catalogue (book_in before) address t.number (asked_above is.faults is.then_faults before.stores.cabinet m.stores.cabinet address (replies.Ticket t) h.known is.tile is.row))

pub tile_above : (l mid before m : Lossy) (events more : List LinkEvent) (i k : ℕ) (cut : Cut) (address : Address) (reply : Asked) → IsInStep l → Passes l events mid → slice_get mid.applied i ≡ Some cut → Passes mid more before
    → Happens before (asked address reply) m → tile_number reply ≡ Some k → IsTrue (covers_in before.stores.cabinet.catalogue cut.cover address) → cut.number < k
tile_above l mid before m events more i k cut address reply h first there next is number covered =
    let at = steps_on mid before more (steps_on l mid events h first) next in
    let stays = got_front mid.applied before.applied i cut (all_cuts_stay mid before more next) there in
    answered_below before.stores.cabinet.catalogue address at.known.valid is.tile (book_in before) k cut (above_of before m address reply k at is number) (got_all (AnswersFor (book_in before)) before.applied i cut at.answers stays) covered

-- POSTS

pub arrived_posted : (l before m : Lossy) (events : List LinkEvent) (place : ℕ) (change : Change) (reply : Applied) → IsInStep l → Passes l events before → Happens before (arrived place change reply) m
    → (i : ℕ) × (change.number ≡ i + 1) × (slice_get before.out.posts i ≡ Some change.cover)
arrived_posted l before m events place change reply h first is =
    let at = steps_on l before events h first in
    got_all (IsTrueOf before.out.posts (last_in before)) before.sent place (packet_of change) at.sent is.there

pub sent_served : (l : Lossy) (place : ℕ) (p : Packet) → IsInStep l → slice_get l.sent place ≡ Some p → IsOfCatalogue l.stores.cabinet.catalogue p
sent_served l place (packets.Change n cover) h there =
    let is = got_all (IsTrueOf l.out.posts (last_in l)) l.sent place (packets.Change n cover) h.sent there in
    got_all (IsCoverOf l.stores.cabinet.catalogue) l.out.posts is.0 cover h.served is.2
sent_served l place (packets.Seen j) h there = tt

-- the cut that was answered as done is that of its change
pub done_applied : (l before m : Lossy) (events : List LinkEvent) (place k : ℕ) (change : Change) → IsInStep l → Passes l events before → Happens before (arrived place change (applied.Done k)) m
    → (i : ℕ) × (change.number ≡ i + 1) × (slice_get m.applied i ≡ Some (record { number = k; cover = change.cover }))
done_applied l before m events place k change h first is =
    let at = steps_on l before events h first in
    let next = (called_of before.stores m.stores change (applied.Done k) is.seen is.takes).row.next in (
      length before.applied,
      omega (arith, next, at.counted),
      subst (λ cuts. slice_get cuts (length before.applied) ≡ Some (cut_for change k)) (sym (ap (λ (x : Lossy). x.applied) is.rest)) (got_last before.applied (cut_for change k)),
    )

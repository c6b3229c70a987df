-- Each event keeps a follower in step with its leader.
use Rattle.std.proofs.Common.{◌≡◌, ℕ, ◌+◌, ◌≤◌, Bool, true, false, List, [], ◌∷◌, ◌++◌, length, Option, Some, None, IsSome, refl, sym, subst, ◌∙◌, ap, arith, inl, inr}
use Rattle.std.specs.Prelude.{IfSome, slice_get}
use Rattle.std.specs.List.{AllByRecursion}
use Rattle.std.specs.Option.{option_map}
use Rattle.std.proofs.lemmas.Bool.{false≢true}
use Rattle.std.proofs.lemmas.List.{length-append, length-map, map-append}
use Rattle.cabinet.specs.State.{IsKnown, State, now}
use Rattle.cabinet.proofs.Lists.{all_push}
use Rattle.metatile_locks.proofs.Lists.{all_weaker}
use Rattle.served_covers.specs.OfCatalogue.{IsCoverOf}
use Rattle.truncation_list.specs.declared.book.Cut.{Cut}
use Rattle.truncation_list.specs.declared.cover.Cover.{Cover}
use Rattle.truncation_list.specs.Books.{AnswersFor}
use Rattle.truncation_list.proofs.Answering.{answers_for_cut}
use Rattle.change_feed.specs.declared.applied.Applied.{Applied}
use Rattle.change_feed.specs.declared.applied.Applied.TheVariants as applied
use Rattle.change_feed.specs.declared.change.Change.{Change}
use Rattle.change_feed.specs.declared.mark.Mark.{Mark}
use Rattle.change_feed.specs.Applies.{Pair, decided, mark_for}
use Rattle.change_feed.specs.Files.{IsBehind, Stand}
use Rattle.change_feed.specs.Marks.{last_of}
use Rattle.change_feed.specs.Runs.{CabinetGoesOn, FeedAndCabinet, IsCalled, MayBegin}
use Rattle.change_feed.proofs.Running.{called_answers}
use Rattle.outbox.specs.declared.packet.Packet.{Packet}
use Rattle.outbox.specs.declared.packet.Packet.TheVariants as packets
use Rattle.outbox.specs.declared.posted.Posted.{Posted}
use Rattle.outbox.specs.declared.posted.Posted.TheVariants as posts
use Rattle.outbox.specs.Posts.{Hears, Outgoing}
use Rattle.cut_follower.specs.InStep.{IsFront, IsInStep, IsLastOf, IsNextIn, IsTrueOf, book_in, covers_of, last_in}
use Rattle.cut_follower.specs.Lossy.{Happens, IsArrived, IsFound, IsOpenedFrom, IsPosted, LinkEvent, Lossy, Passes, applied_after, arrived, asked, begun, cabinet_opened, commanded, heard, marks_opened, next_sent, outbox_opened, packet_of, posted, ran_out, unsure_after, with_cuts, with_out, with_sent, with_some, with_stores}
use Rattle.cut_follower.proofs.Feeds.{called_of, goes_asked, goes_called, goes_same}
use Rattle.cut_follower.proofs.Fronts.{front_itself, front_next, front_through, got_all, got_front, some_weaker}

-- a link that is in step stands where a run of its feed may begin
behind_of : (l : Lossy) (undecided : Option Mark) → IfSome undecided (IsNextIn l) → IsBehind l.stores.stand.mark undecided
behind_of l None h = tt
behind_of l (Some u) h = h.next

pub may_begin : (l : Lossy) → IsInStep l → MayBegin l.stores
may_begin l h = record { behind = behind_of l l.stores.stand.undecided h.undecided; known = h.known }

-- WHAT WAS SENT

true_more : (before after : List Cover) (m n : ℕ) → IsFront before after → m ≤ n → (p : Packet) → IsTrueOf before m p → IsTrueOf after n p
true_more before after m n front upto (packets.Change i cover) h = (h.0, h.1, got_front before after h.0 cover front h.2)
true_more before after m n front upto (packets.Seen j) h = omega (arith, upto, h)

all_true_more : (before after : List Cover) (m n : ℕ) → IsFront before after → m ≤ n → (ps : List Packet) → AllByRecursion (IsTrueOf before m) ps → AllByRecursion (IsTrueOf after n) ps
all_true_more before after m n front upto ps h = all_weaker (IsTrueOf before m) (IsTrueOf after n) (true_more before after m n front upto) ps h

sent_on : (l : Lossy) (p : Packet) → IsInStep l → IsTrueOf l.out.posts (last_in l) p → IsInStep (with_sent l (l.sent ++ p ∷ []))
sent_on l p h is = record {
  known = h.known;
  served = h.served;
  served_too = h.served_too;
  counted = h.counted;
  marked = h.marked;
  posted = h.posted;
  answers = h.answers;
  undecided = some_weaker (IsNextIn l) (IsNextIn (with_sent l (l.sent ++ p ∷ []))) (λ u n. record { next = n.next; cover = n.cover; is_posted = n.is_posted; is_cut = n.is_cut; answers = n.answers }) l.stores.stand.undecided h.undecided;
  sent = all_push (IsTrueOf l.out.posts (last_in l)) l.sent p h.sent is;
  heard = h.heard;
}

-- THE LEADER

module _ (l : Lossy) (h : IsInStep l) where
  abbrev Served : Cover → Type 0
  Served = IsCoverOf l.stores.cabinet.catalogue

  -- the leader has these posts, and maybe more
  out_on : (out : Outgoing) → IsFront l.out.posts out.posts → AllByRecursion Served out.posts → IfSome out.undecided Served → out.heard ≤ last_in l → IsInStep (with_out l out)
  out_on out front served served_too upto = record {
    known = h.known;
    served = served;
    served_too = served_too;
    counted = h.counted;
    marked = h.marked;
    posted = front_through (covers_of l.applied) l.out.posts out.posts h.posted front;
    answers = h.answers;
    undecided =
        some_weaker (IsNextIn l) (IsNextIn (with_out l out))
        (λ u n. record { next = n.next; cover = n.cover; is_posted = got_front l.out.posts out.posts (last_in l) n.cover front n.is_posted; is_cut = n.is_cut; answers = n.answers }) l.stores.stand.undecided h.undecided;
    sent = all_true_more l.out.posts out.posts (last_in l) (last_in l) front (omega arith) l.sent h.sent;
    heard = upto;
  }

  same_on : (out : Outgoing) → out ≡ l.out → IsInStep (with_out l out)
  same_on out is = subst (λ o. IsInStep (with_out l o)) (sym is) (out_on l.out (front_itself l.out.posts) h.served h.served_too h.heard)

  posted_on : (m : Lossy) (cover : Cover) (reply : Posted) → IsPosted l cover reply m → IsInStep (with_out l m.out)
  posted_on m cover (posts.Done i) is =
      subst (λ o. IsInStep (with_out l o)) (sym is.row.2)
      (out_on (record { posts = l.out.posts ++ cover ∷ []; undecided = None; heard = l.out.heard }) (cover ∷ [], refl) (all_push Served l.out.posts cover h.served is.served) tt h.heard)
  posted_on m cover posts.Full is = same_on m.out is.row.1
  posted_on m cover (posts.DiskFault b a) is = elim is.row.4 [
    | inl same ↦ same_on m.out same
    | inr new ↦ subst (λ o. IsInStep (with_out l o)) (sym new) (out_on (record { posts = l.out.posts; undecided = Some cover; heard = l.out.heard }) (front_itself l.out.posts) h.served is.served h.heard)
  ]

  heard_on : (n i : ℕ) (news : Bool) (out : Outgoing) → slice_get l.sent n ≡ Some (packets.Seen i) → Hears l.out (packets.Seen i) news out → IsInStep (with_out l out)
  heard_on n i true out there is =
      subst (λ o. IsInStep (with_out l o)) (sym is.2)
      (out_on (record { posts = l.out.posts; undecided = l.out.undecided; heard = i }) (front_itself l.out.posts) h.served h.served_too (got_all (IsTrueOf l.out.posts (last_in l)) l.sent n (packets.Seen i) h.sent there))
  heard_on n i false out there is = same_on out is.1

  opened_on : (out : Outgoing) → IsOpenedFrom l.out out → IsInStep (with_out l out)
  opened_on out is =
      let none : IfSome out.undecided Served = subst (λ u. IfSome u Served) (sym is.decided) tt in
      let upto : out.heard ≤ last_in l = omega (arith, is.silent) in
      elim is.found [
        | inl same ↦ out_on out (subst (IsFront l.out.posts) (sym same) (front_itself l.out.posts)) (subst (AllByRecursion Served) (sym same) h.served) none upto
        | inr more ↦ out_on out (more.0 ∷ [], more.2) (subst (AllByRecursion Served) (sym more.2) (all_push Served l.out.posts more.0 h.served (subst (λ u. IfSome u Served) more.1 h.served_too))) none upto
      ]

  sends_on : (found : Option Cover) → slice_get l.out.posts l.out.heard ≡ found → IsInStep (with_sent l (with_some l.sent (option_map (λ cover. packets.Change (l.out.heard + 1) cover) found)))
  sends_on None is = record {
    known = h.known;
    served = h.served;
    served_too = h.served_too;
    counted = h.counted;
    marked = h.marked;
    posted = h.posted;
    answers = h.answers;
    undecided = some_weaker (IsNextIn l) (IsNextIn (with_sent l l.sent)) (λ u n. record { next = n.next; cover = n.cover; is_posted = n.is_posted; is_cut = n.is_cut; answers = n.answers }) l.stores.stand.undecided h.undecided;
    sent = h.sent;
    heard = h.heard;
  }
  sends_on (Some cover) is = sent_on l (packets.Change (l.out.heard + 1) cover) h (l.out.heard, refl, is)

-- THE FOLLOWER

module _ (l : Lossy) (h : IsInStep l) (t : FeedAndCabinet) (g : CabinetGoesOn l.stores.cabinet t.cabinet) where
  abbrev Answered : Cut → Type 0
  Answered = AnswersFor (now t.cabinet).book

  answered : (cut : Cut) → AnswersFor (book_in l) cut → Answered cut
  answered cut is = answers_for_cut (now t.cabinet).book (book_in l) cut g.answers is

  all_answered : AllByRecursion Answered l.applied
  all_answered = all_weaker (AnswersFor (book_in l)) Answered answered l.applied h.answers

  still_served : AllByRecursion (IsCoverOf t.cabinet.catalogue) l.out.posts
  still_served = subst (λ c. AllByRecursion (IsCoverOf c) l.out.posts) (sym g.same_catalogue) h.served

  still_served_too : IfSome l.out.undecided (IsCoverOf t.cabinet.catalogue)
  still_served_too = subst (λ c. IfSome l.out.undecided (IsCoverOf c)) (sym g.same_catalogue) h.served_too

  -- the last change is the same
  same_last_on : (unsure : Option Cut) → t.stand.mark ≡ l.stores.stand.mark → IfSome t.stand.undecided (IsNextIn (with_cuts (with_stores l t) l.applied unsure)) → IsInStep (with_cuts (with_stores l t) l.applied unsure)
  same_last_on unsure same next = record {
    known = g.known;
    served = still_served;
    served_too = still_served_too;
    counted = h.counted ∙ ap last_of (sym same);
    marked = subst (λ o. IfSome o (IsLastOf l.applied)) (sym same) h.marked;
    posted = h.posted;
    answers = all_answered;
    undecided = next;
    sent = subst (λ o. AllByRecursion (IsTrueOf l.out.posts (last_of o)) l.sent) (sym same) h.sent;
    heard = subst (λ o. l.out.heard ≤ last_of o) (sym same) h.heard;
  }

  none_on : t.stand.mark ≡ l.stores.stand.mark → t.stand.undecided ≡ None → IsInStep (with_stores l t)
  none_on same none = same_last_on l.unsure same (subst (λ o. IfSome o (IsNextIn (with_stores l t))) (sym none) tt)

  decided_on : t.stand ≡ decided l.stores.stand → IsInStep (with_stores l t)
  decided_on is = none_on (ap (λ (x : Stand). x.mark) is) (ap (λ (x : Stand). x.undecided) is)

  stand_on : t.stand ≡ l.stores.stand → IsInStep (with_stores l t)
  stand_on is =
      let same : t.stand.mark ≡ l.stores.stand.mark = ap (λ (x : Stand). x.mark) is in
      same_last_on l.unsure same (subst (λ (o : Option Mark). IfSome o (IsNextIn (with_stores l t))) (sym (ap (λ (x : Stand). x.undecided) is))
      (some_weaker (IsNextIn l) (IsNextIn (with_stores l t)) (λ u n.
      record {
        next = n.next ∙ ap (λ o. last_of o + 1) (sym same);
        cover = n.cover;
        is_posted = subst (λ o. slice_get l.out.posts (last_of o) ≡ Some n.cover) (sym same) n.is_posted;
        is_cut = n.is_cut;
        answers = answered (record { number = u.cut; cover = n.cover }) n.answers;
      }) l.stores.stand.undecided h.undecided))

  -- the next change is marked, with this cover of the next post
  module _ (mark : Mark) (cover : Cover) (is_next : mark.number ≡ last_in l + 1) (is_posted : slice_get l.out.posts (last_in l) ≡ Some cover) (is_answered : Answered (record { number = mark.cut; cover = cover })) where
    abbrev cut_of : Cut
    cut_of = record { number = mark.cut; cover = cover }

    counts : length (l.applied ++ cut_of ∷ []) ≡ mark.number
    counts = omega (arith, length-append l.applied (cut_of ∷ []), h.counted, is_next)

    grown_front : IsFront (covers_of (l.applied ++ cut_of ∷ [])) l.out.posts
    grown_front =
        subst (λ xs. IsFront xs l.out.posts) (sym (map-append (λ (c : Cut). c.cover) l.applied (cut_of ∷ [])))
        (front_next (covers_of l.applied) l.out.posts cover h.posted (subst (λ n. slice_get l.out.posts n ≡ Some cover) (sym (length-map l.applied (λ (c : Cut). c.cover) ∙ h.counted)) is_posted))

    grown_on : t.stand.mark ≡ Some mark → t.stand.undecided ≡ None → IsInStep (with_cuts (with_stores l t) (l.applied ++ cut_of ∷ []) l.unsure)
    grown_on is none =
        let upto : last_in l ≤ mark.number = omega (arith, is_next) in
        record {
          known = g.known;
          served = still_served;
          served_too = still_served_too;
          counted = counts ∙ ap last_of (sym is);
          marked = subst (λ o. IfSome o (IsLastOf (l.applied ++ cut_of ∷ []))) (sym is) (l.applied, cover, refl);
          posted = grown_front;
          answers = all_push Answered l.applied cut_of all_answered is_answered;
          undecided = subst (λ o. IfSome o (IsNextIn (with_cuts (with_stores l t) (l.applied ++ cut_of ∷ []) l.unsure))) (sym none) tt;
          sent = subst (λ o. AllByRecursion (IsTrueOf l.out.posts (last_of o)) l.sent) (sym is) (all_true_more l.out.posts l.out.posts (last_in l) mark.number (front_itself l.out.posts) upto l.sent h.sent);
          heard = subst (λ o. l.out.heard ≤ last_of o) (sym is) (omega (arith, h.heard, upto));
        }

    unsure_on : t.stand.mark ≡ l.stores.stand.mark → t.stand.undecided ≡ Some mark → IsInStep (with_cuts (with_stores l t) l.applied (Some cut_of))
    unsure_on same is =
        same_last_on (Some cut_of) same (subst (λ o. IfSome o (IsNextIn (with_cuts (with_stores l t) l.applied (Some cut_of)))) (sym is)
        (record {
          next = is_next ∙ ap (λ o. last_of o + 1) (sym same);
          cover = cover;
          is_posted = subst (λ o. slice_get l.out.posts (last_of o) ≡ Some cover) (sym same) is_posted;
          is_cut = refl;
          answers = is_answered;
        }))

-- a change that arrives and is the next is the next post
next_post : (l : Lossy) (n : ℕ) (change : Change) → IsInStep l → slice_get l.sent n ≡ Some (packet_of change) → change.number ≡ last_in l + 1 → slice_get l.out.posts (last_in l) ≡ Some change.cover
next_post l n change h there next =
    let is = got_all (IsTrueOf l.out.posts (last_in l)) l.sent n (packet_of change) h.sent there in
    subst (λ i. slice_get l.out.posts i ≡ Some change.cover) (omega (arith, is.1, next)) is.2

module _ (l m : Lossy) (n : ℕ) (change : Change) (h : IsInStep l) where
  cut_on : (reply : Applied) → IsArrived l n change reply m → IsInStep (with_cuts (with_stores l m.stores) (applied_after l.applied change reply) (unsure_after l.unsure change reply))
  cut_on reply is = by_reply reply is (called_of l.stores m.stores change reply is.seen is.takes)
    where
      by_reply : (reply : Applied) → IsArrived l n change reply m → IsCalled l.stores change reply m.stores → IsInStep (with_cuts (with_stores l m.stores) (applied_after l.applied change reply) (unsure_after l.unsure change reply))
      by_reply applied.Repeated is called = stand_on l h m.stores (goes_called l.stores m.stores change applied.Repeated h.known called) (ap (λ (x : Pair). x.stand) called.row.1)
      by_reply (applied.Gap k) is called = stand_on l h m.stores (goes_called l.stores m.stores change (applied.Gap k) h.known called) (ap (λ (x : Pair). x.stand) called.row.2)
      by_reply (applied.FeedFault None) is called = stand_on l h m.stores (goes_called l.stores m.stores change (applied.FeedFault None) h.known called) called.row.2
      by_reply (applied.FeedFault (Some k)) is called =
          unsure_on l h m.stores (goes_called l.stores m.stores change (applied.FeedFault (Some k)) h.known called) (mark_for change k) change.cover called.row.0.next (next_post l n change h is.there called.row.0.next)
          (called_answers l.stores m.stores change (applied.FeedFault (Some k)) k refl called) (ap (λ (x : Stand). x.mark) called.row.0.stands) (ap (λ (x : Stand). x.undecided) called.row.0.stands)
      by_reply applied.Spent is called = decided_on l h m.stores (goes_called l.stores m.stores change applied.Spent h.known called) called.row.stands
      by_reply applied.Full is called = decided_on l h m.stores (goes_called l.stores m.stores change applied.Full h.known called) called.row.stands
      by_reply (applied.DiskFault b a) is called = decided_on l h m.stores (goes_called l.stores m.stores change (applied.DiskFault b a) h.known called) called.row.stands
      by_reply (applied.Done k) is called =
          grown_on l h m.stores (goes_called l.stores m.stores change (applied.Done k) h.known called) (mark_for change k) change.cover called.row.next (next_post l n change h is.there called.row.next)
          (called_answers l.stores m.stores change (applied.Done k) k refl called) (ap (λ (x : Stand). x.mark) called.row.stands) (ap (λ (x : Stand). x.undecided) called.row.stands)

  arrived_on : (reply : Applied) → IsArrived l n change reply m → IsInStep m
  arrived_on reply is =
      let base = with_cuts (with_stores l m.stores) (applied_after l.applied change reply) (unsure_after l.unsure change reply) in
      subst IsInStep (sym is.rest) (sent_on base is.seen (cut_on reply is) (subst (IsTrueOf l.out.posts (last_of m.stores.stand.mark)) (sym is.takes.row.1) (omega arith)))

module _ (l m : Lossy) (h : IsInStep l) where
  found_on : IsFound l m → IsInStep m
  found_on is =
      let g = goes_same l.stores.cabinet m.stores.cabinet is.opens.2 h.known in
      elim is.rest [
        | inl same ↦ subst IsInStep (sym same.1) (none_on l h m.stores g same.0 is.opens.1)
        | inr found ↦ subst IsInStep (sym found.2) (taken_up l.stores.stand.undecided found.0 h.undecided found.1 g is.opens.1)
      ]
    where
      taken_up : (undecided : Option Mark) → IsSome undecided → IfSome undecided (IsNextIn l) → m.stores.stand.mark ≡ undecided → CabinetGoesOn l.stores.cabinet m.stores.cabinet → m.stores.stand.undecided ≡ None
          → IsInStep (with_cuts (with_stores l m.stores) (with_some l.applied l.unsure) l.unsure)
      taken_up None some next mark g none = absurd (false≢true some)
      taken_up (Some u) some next mark g none =
          subst (λ more. IsInStep (with_cuts (with_stores l m.stores) (with_some l.applied more) l.unsure)) (sym next.is_cut)
          (grown_on l h m.stores g u next.cover next.next next.is_posted (answered l h m.stores g (record { number = u.cut; cover = next.cover }) next.answers) mark none)

-- EACH EVENT

pub step_on : (l m : Lossy) (event : LinkEvent) → IsInStep l → Happens l event m → IsInStep m
step_on l m (posted cover reply) h is = subst IsInStep (sym is.rest) (posted_on l h m cover reply is)
step_on l m next_sent h is = subst IsInStep (sym is) (sends_on l h (slice_get l.out.posts l.out.heard) refl)
step_on l m (heard n i news) h is = subst IsInStep (sym is.2) (heard_on l h n i news m.out is.0 is.1)
step_on l m outbox_opened h is = subst IsInStep (sym is.1) (opened_on l h m.out is.0)
step_on l m (arrived n change reply) h is = arrived_on l m n change h reply is
step_on l m (ran_out n change) h is = subst IsInStep (sym is.2) (decided_on l h m.stores (goes_same l.stores.cabinet m.stores.cabinet is.1.1 h.known) is.1.0)
step_on l m marks_opened h is = found_on l m h is
step_on l m cabinet_opened h is = subst IsInStep (sym is.1) (stand_on l h m.stores is.0.1 is.0.0)
step_on l m commanded h is = subst IsInStep (sym is.1) (stand_on l h m.stores is.0.1 is.0.0)
step_on l m (asked address reply) h is = subst IsInStep (sym is.rest) (stand_on l h m.stores (goes_asked l m address reply h.known is) is.same_stand)

pub steps_on : (l m : Lossy) (events : List LinkEvent) → IsInStep l → Passes l events m → IsInStep m
steps_on l m [] h is = subst IsInStep (sym is) h
steps_on l m (e ∷ es) h is = steps_on is.0 m es (step_on l is.0 e h is.1) is.2

pub begins_in_step : (out : Outgoing) (cabinet : State) → IsKnown cabinet → AllByRecursion (IsCoverOf cabinet.catalogue) out.posts → IfSome out.undecided (IsCoverOf cabinet.catalogue) → out.heard ≡ 0 → IsInStep (begun out cabinet)
begins_in_step out cabinet known served served_too silent = record {
  known = known;
  served = served;
  served_too = served_too;
  counted = refl;
  marked = tt;
  posted = (out.posts, refl);
  answers = tt;
  undecided = tt;
  sent = tt;
  heard = omega (arith, silent);
}

-- How far a follower has come on a link, one arrival more, and its ends.
use Rattle.std.specs.Prelude.{IsTrue}
use Rattle.std.proofs.Common.{◌≡◌, ◌⊎◌, ℕ, ◌+◌, ◌-◌, ◌<◌, ◌≤◌, ◌^◌, Bool, List, [], ◌∷◌, ◌++◌, length, refl, sym, subst, ap, ◌∙◌, arith, append-nil, length-append, inl, inr}
use Rattle.std.specs.List.{AllByRecursion}
use Rattle.std.proofs.KnownBytes.{Appends-nil, Appends-trans, Consumes-nil, Consumes-trans}
use Rattle.cabinet.specs.State.{IsSound, State, now}
use Rattle.catalog.specs.declared.catalogue.Catalogue.{Catalogue}
use Rattle.change_feed.specs.declared.applied.Applied.{Applied}
use Rattle.change_feed.specs.Applies.{Pair, decided}
use Rattle.change_feed.specs.Files.{MayEndIn, Stand}
use Rattle.change_feed.specs.Marks.{last_of}
use Rattle.change_feed.specs.Runs.{MayBegin}
use Rattle.cut_follower.proofs.Chained.{acknowledged, all_in_force, along_here, along_more, along_next, arrive_more, arrive_runs, decided_in}
use Rattle.cut_follower.proofs.Exchanging.{cut_behind, joined}
use Rattle.cut_follower.specs.declared.ends.LinkEnd.{LinkEnd}
use Rattle.cut_follower.specs.declared.ends.LinkEnd.TheVariants as link_end
use Rattle.cut_follower.specs.declared.following.Arrived.{Arrived}
use Rattle.cut_follower.specs.declared.following.Arrived.TheVariants as arrived
use Rattle.cut_follower.specs.Following.{AreInForce, AreMade, AreTold, Arrival, Arrive, EndsWith, FollowEnds, FollowsOn, IsLeftAt, IsMade, IsNoChange, MayEndAlong, bytes_of, came_in, cuts_of, most_packets, seen_in, seen_of, stores_of}
use Rattle.cut_follower.specs.Links.{HasSent, HasTaken, LinkAt}
use Rattle.cut_follower.specs.Steps.{ArrivesOne, GoesTo, IsTold}
use Rattle.disk_model.specs.Content.{Content}
use Rattle.disk_model.specs.Images.{DiskState, Leaves}
use Rattle.disk_model.specs.Moments.{leaves_as, leaves_none, leaves_then}
use Rattle.http_wire.proofs.TakesOn.{rose_before}
use Rattle.outbox.specs.declared.packet.Packet.TheVariants as packets
use Rattle.outbox.specs.Packets.{packet_text}
use Rattle.served_covers.specs.OfCatalogue.{IsCoverOf}
use Rattle.truncation_list.specs.declared.book.Cut.{Cut}
use Rattle.truncation_list.specs.Books.{AnswersFor}

-- ONE MORE

made_more : (xs : List Arrival) (x : Arrival) → AreMade xs → IsMade x.reply → AreMade (xs ++ x ∷ [])
made_more [] x made one = (one, tt)
made_more (y ∷ ys) x made one = (made.0, made_more ys x made.1 one)

-- HOW FAR

pub record SoFar (told : Bool) (digest : List ℕ) (from mid : DiskState) (a m : LinkAt) (s u : Pair) (count : ℕ) : Type 0 where
  pub arrivals : List Arrival
  pub counted : count ≡ length arrivals
  pub arrive : Arrive s arrivals u
  pub made : AreMade arrivals
  pub sent : HasSent a m (seen_in arrivals)
  pub taken : HasTaken a m (bytes_of arrivals)
  pub images : IsTrue told → Leaves from mid (MayEndAlong digest s.stand arrivals)
  pub same_catalogue : u.cabinet.catalogue ≡ s.cabinet.catalogue
  pub still_sound : IsSound s.cabinet → IsSound u.cabinet
  pub read_later : a.read_faults ≤ m.read_faults
  pub write_later : a.write_faults ≤ m.write_faults

pub far_start : (told : Bool) (digest : List ℕ) (from : DiskState) (a : LinkAt) (s : Pair) → SoFar told digest from from a a s s 0
far_start told digest from a s = record {
  arrivals = [];
  counted = refl;
  arrive = refl;
  made = tt;
  sent = Appends-nil a.taken;
  taken = Consumes-nil a.left;
  images = λ is. leaves_none from (MayEndIn digest s.stand);
  same_catalogue = refl;
  still_sound = λ sound. sound;
  read_later = omega arith;
  write_later = omega arith;
}

-- THE WHOLE

-- what is in force behind the last arrival is at the end
left_in_force : (last t : Pair) (cuts : List Cut) → t.cabinet ≡ last.cabinet → last_of t.stand.mark ≡ last_of last.stand.mark → AreInForce last cuts → AreInForce t cuts
left_in_force last t cuts cabinet mark are = record { counted = are.counted ∙ sym mark; answered = subst (λ (x : State). AllByRecursion (AnswersFor (now x).book) cuts) (sym cabinet) are.answered }

left_cabinet : (last t : Pair) (e : LinkEnd) → IsLeftAt last t e → t.cabinet ≡ last.cabinet
left_cabinet last t link_end.Finished is = ap (λ (x : Pair). x.cabinet) is
left_cabinet last t link_end.Truncated is = ap (λ (x : Pair). x.cabinet) is
left_cabinet last t link_end.BadPacket is = ap (λ (x : Pair). x.cabinet) is
left_cabinet last t link_end.ReadFault is = ap (λ (x : Pair). x.cabinet) is
left_cabinet last t link_end.WriteFault is = ap (λ (x : Pair). x.cabinet) is
left_cabinet last t (link_end.Stopped reply) is = ap (λ (x : Pair). x.cabinet) is
left_cabinet last t link_end.TooMany is = ap (λ (x : Pair). x.cabinet) is
left_cabinet last t link_end.OutOfMemory is = is.cabinet

left_mark : (last t : Pair) (e : LinkEnd) → IsLeftAt last t e → last_of t.stand.mark ≡ last_of last.stand.mark
left_mark last t link_end.Finished is = ap (λ (x : Pair). last_of x.stand.mark) is
left_mark last t link_end.Truncated is = ap (λ (x : Pair). last_of x.stand.mark) is
left_mark last t link_end.BadPacket is = ap (λ (x : Pair). last_of x.stand.mark) is
left_mark last t link_end.ReadFault is = ap (λ (x : Pair). last_of x.stand.mark) is
left_mark last t link_end.WriteFault is = ap (λ (x : Pair). last_of x.stand.mark) is
left_mark last t (link_end.Stopped reply) is = ap (λ (x : Pair). last_of x.stand.mark) is
left_mark last t link_end.TooMany is = ap (λ (x : Pair). last_of x.stand.mark) is
left_mark last t link_end.OutOfMemory is = ap (λ (x : Stand). last_of x.mark) is.stand

at_most : (last_number n : ℕ) (xs : List Arrival) → n ≡ last_number → AllByRecursion (λ x. last_of x.after.stand.mark ≤ last_number) xs → AllByRecursion (λ x. last_of x.after.stand.mark ≤ n) xs
at_most last_number n xs same all = subst (λ (k : ℕ). AllByRecursion (λ x. last_of x.after.stand.mark ≤ k) xs) (sym same) all

-- all that a list of arrivals and its end come to
follows_by : (told : Bool) (digest : List ℕ) (from to : DiskState) (a b : LinkAt) (s last t : Pair) (e : LinkEnd) (xs : List Arrival) → MayBegin (stores_of s) → Arrive s xs last → FollowEnds s.cabinet.catalogue a b xs e → IsLeftAt last t e
    → (IsTrue told → Leaves from to (MayEndAlong digest s.stand xs)) → t.cabinet.catalogue ≡ s.cabinet.catalogue → (IsSound s.cabinet → IsSound t.cabinet) → FollowsOn told digest from to a b s t e
follows_by told digest from to a b s last t e xs begins arrive ends left images same sound = record {
  arrivals = xs;
  last = last;
  arrive = arrive;
  ends = ends;
  left = left;
  runs = arrive_runs s last xs arrive;
  images = images;
  in_force = λ cuts are. left_in_force last t (cuts ++ cuts_of xs) (left_cabinet last t e left) (left_mark last t e left) (all_in_force s last xs cuts begins arrive are);
  acknowledged = at_most (last_of last.stand.mark) (last_of t.stand.mark) xs (left_mark last t e left) (acknowledged s last xs begins arrive);
  same_catalogue = same;
  still_sound = sound;
}

module _ (told told' : Bool) (digest digest' : List ℕ) (from mid to : DiskState) (a m b : LinkAt) (s u t : Pair) (count : ℕ)
    (f : SoFar told digest from mid a m s u count) (same_told : told' ≡ told) (same_digest : digest' ≡ digest) (goes : GoesTo told' digest' mid to u t) where
  goes_images : IsTrue told → Leaves mid to (λ image. MayEndIn digest u.stand image ⊎ MayEndIn digest t.stand image)
  goes_images is = subst (λ (d : List ℕ). Leaves mid to (λ image. MayEndIn d u.stand image ⊎ MayEndIn d t.stand image)) same_digest (goes.images (subst IsTrue (sym same_told) is))

  same_all : t.cabinet.catalogue ≡ s.cabinet.catalogue
  same_all = goes.same_catalogue ∙ f.same_catalogue

  sound_all : IsSound s.cabinet → IsSound t.cabinet
  sound_all sound = goes.still_sound (f.still_sound sound)

  -- A CHANGE THAT ARRIVED
  module _ (reply : Applied) (e : Arrived) (one : IsTold m b u reply t e) where
    abbrev here : Arrival
    here = record { change = one.change; reply = reply; after = t }

    here_arrive : Arrive s (f.arrivals ++ here ∷ []) t
    here_arrive = arrive_more s u f.arrivals here f.arrive (one.cover, (one.row, refl), refl)

    here_taken : HasTaken a b (bytes_of (f.arrivals ++ here ∷ []))
    here_taken = subst (HasTaken a b) (sym (joined (λ (y : Arrival). packet_text (came_in y)) f.arrivals here)) (Consumes-trans a.left m.left b.left (bytes_of f.arrivals) (packet_text (came_in here)) f.taken one.taken)

    here_images : IsTrue told → Leaves from to (MayEndAlong digest s.stand (f.arrivals ++ here ∷ []))
    here_images is =
        leaves_then from mid to (MayEndAlong digest s.stand (f.arrivals ++ here ∷ []))
        (leaves_as from mid (MayEndAlong digest s.stand f.arrivals) (MayEndAlong digest s.stand (f.arrivals ++ here ∷ [])) (f.images is) (along_more digest s.stand f.arrivals here))
        (leaves_as mid to (λ image. MayEndIn digest u.stand image ⊎ MayEndIn digest t.stand image) (MayEndAlong digest s.stand (f.arrivals ++ here ∷ [])) (goes_images is) (λ image may. elim may [
          | inl before ↦ along_more digest s.stand f.arrivals here image (along_here digest s u f.arrivals image f.arrive before)
          | inr then ↦ along_next digest s.stand f.arrivals here image then
        ]))

    here_counted : count + 1 ≡ length (f.arrivals ++ here ∷ [])
    here_counted = let n = length-append f.arrivals (here ∷ []) in omega (arith, n, f.counted)

    ends_with : count < most_packets → EndsWith a b (f.arrivals ++ here ∷ []) f.arrivals here
    ends_with few = record { whole = refl; made = f.made; few = omega (arith, here_counted, few); taken = here_taken }

    follows_here : (e' : LinkEnd) → MayBegin (stores_of s) → FollowEnds s.cabinet.catalogue a b (f.arrivals ++ here ∷ []) e' → IsLeftAt t t e' → FollowsOn told digest from to a b s t e'
    follows_here e' begins ends left = follows_by told digest from to a b s t t e' (f.arrivals ++ here ∷ []) begins here_arrive ends left here_images same_all sound_all

  pub far_next : ArrivesOne m b u arrived.Told t → m.read_faults ≤ b.read_faults → m.write_faults ≤ b.write_faults → SoFar told digest from to a b s t (count + 1)
  far_next one reads writes =
      let x = here one.0 arrived.Told one.1 in
      record {
        arrivals = f.arrivals ++ x ∷ [];
        counted = here_counted one.0 arrived.Told one.1;
        arrive = here_arrive one.0 arrived.Told one.1;
        made = made_more f.arrivals x f.made one.1.tells.0;
        sent = subst (HasSent a b) (sym (joined (λ (y : Arrival). packet_text (seen_of y)) f.arrivals x)) (Appends-trans a.taken m.taken b.taken (seen_in f.arrivals) (packet_text (seen_of x)) f.sent one.1.tells.1);
        taken = here_taken one.0 arrived.Told one.1;
        images = here_images one.0 arrived.Told one.1;
        same_catalogue = same_all;
        still_sound = sound_all;
        read_later = omega (arith, f.read_later, reads);
        write_later = omega (arith, f.write_later, writes);
      }

  pub far_unsent : MayBegin (stores_of s) → count < most_packets → ArrivesOne m b u arrived.WriteFault t → FollowsOn told digest from to a b s t link_end.WriteFault
  far_unsent begins few one = follows_here one.0 arrived.WriteFault one.1 link_end.WriteFault begins (
    f.arrivals,
    here one.0 arrived.WriteFault one.1,
    ends_with one.0 arrived.WriteFault one.1 few,
    one.1.tells.0,
    cut_behind a m b (seen_in f.arrivals) (packet_text (seen_of (here one.0 arrived.WriteFault one.1))) f.write_later f.sent one.1.tells.1,
  ) refl

  pub far_stopped : MayBegin (stores_of s) → count < most_packets → (reply : Applied) → ArrivesOne m b u (arrived.Stopped reply) t → FollowsOn told digest from to a b s t (link_end.Stopped reply)
  far_stopped begins few reply one = follows_here reply (arrived.Stopped reply) one (link_end.Stopped reply) begins (
    f.arrivals,
    here reply (arrived.Stopped reply) one,
    ends_with reply (arrived.Stopped reply) one few,
    refl,
    one.tells.1,
    subst (HasSent a b) (append-nil (seen_in f.arrivals)) (Appends-trans a.taken m.taken b.taken (seen_in f.arrivals) [] f.sent one.tells.2),
  ) refl

  -- WHERE NOTHING ARRIVED
  told_by : count < most_packets → (bytes : List ℕ) → HasTaken m b bytes → HasSent m b [] → AreTold a b f.arrivals bytes
  told_by few bytes taken sent = record {
    made = f.made;
    few = omega (arith, f.counted, few);
    taken = Consumes-trans a.left m.left b.left (bytes_of f.arrivals) bytes f.taken taken;
    sent = subst (HasSent a b) (append-nil (seen_in f.arrivals)) (Appends-trans a.taken m.taken b.taken (seen_in f.arrivals) [] f.sent sent);
  }

  -- the images, where the stand stays, or nothing is undecided any more
  stay_images : (t.stand ≡ u.stand) ⊎ (t.stand ≡ decided u.stand) → IsTrue told → Leaves from to (MayEndAlong digest s.stand f.arrivals)
  stay_images same is =
      leaves_then from mid to (MayEndAlong digest s.stand f.arrivals) (f.images is)
      (leaves_as mid to (λ image. MayEndIn digest u.stand image ⊎ MayEndIn digest t.stand image) (MayEndAlong digest s.stand f.arrivals) (goes_images is) (λ image may. elim may [
        | inl before ↦ along_here digest s u f.arrivals image f.arrive before
        | inr then ↦ along_here digest s u f.arrivals image f.arrive (stays_in image same then)
      ]))
    where
      stays_in : (image : Content) → (t.stand ≡ u.stand) ⊎ (t.stand ≡ decided u.stand) → MayEndIn digest t.stand image → MayEndIn digest u.stand image
      stays_in image (inl is) may = subst (λ (x : Stand). MayEndIn digest x image) is may
      stays_in image (inr is) may = decided_in digest u.stand t.stand image is may

  follows_untold : (e : LinkEnd) → MayBegin (stores_of s) → t ≡ u → FollowEnds s.cabinet.catalogue a b f.arrivals e → IsLeftAt u t e → FollowsOn told digest from to a b s t e
  follows_untold e begins same ends left = follows_by told digest from to a b s u t e f.arrivals begins f.arrive ends left (stay_images (inl (ap (λ (x : Pair). x.stand) same))) same_all sound_all

  pub far_done : MayBegin (stores_of s) → count < most_packets → ArrivesOne m b u arrived.AtEnd t → FollowsOn told digest from to a b s t link_end.Finished
  far_done begins few one = follows_untold link_end.Finished begins one.0.same (told_by few [] one.0.taken one.0.sent, one.1) one.0.same

  pub far_truncated : MayBegin (stores_of s) → count < most_packets → ArrivesOne m b u arrived.Truncated t → FollowsOn told digest from to a b s t link_end.Truncated
  far_truncated begins few one = follows_untold link_end.Truncated begins one.1.same (one.0, told_by few one.0 one.1.taken one.1.sent, one.2, one.3, one.4) one.1.same

  pub far_bad : MayBegin (stores_of s) → count < most_packets → ArrivesOne m b u arrived.BadPacket t → FollowsOn told digest from to a b s t link_end.BadPacket
  far_bad begins few one = follows_untold link_end.BadPacket begins one.1.same (one.0, told_by few one.0 one.1.taken one.1.sent, subst (λ (c : Catalogue). IsNoChange c one.0) f.same_catalogue one.2) one.1.same

  pub far_unread : MayBegin (stores_of s) → count < most_packets → ArrivesOne m b u arrived.ReadFault t → FollowsOn told digest from to a b s t link_end.ReadFault
  far_unread begins few one = follows_untold link_end.ReadFault begins one.1.same (
    one.0,
    told_by few one.0 one.1.taken one.1.sent,
    one.2,
    rose_before (2 ^ 64 - 1) a.read_faults m.read_faults b.read_faults f.read_later one.3,
  ) one.1.same

  pub far_starved : MayBegin (stores_of s) → count < most_packets → ArrivesOne m b u arrived.OutOfMemory t → FollowsOn told digest from to a b s t link_end.OutOfMemory
  far_starved begins few one =
      let n = one.change.number in
      let cover = one.change.cover in
      follows_by told digest from to a b s u t link_end.OutOfMemory f.arrivals begins f.arrive (n, cover, told_by few (packet_text (packets.Change n cover)) one.taken one.sent, subst (λ (c : Catalogue). IsCoverOf c cover) f.same_catalogue one.cover) one.starved
      (stay_images (inr one.starved.stand)) same_all sound_all

-- so many as may come
pub far_full : (told : Bool) (digest : List ℕ) (from to : DiskState) (a b : LinkAt) (s t : Pair) (count : ℕ) → MayBegin (stores_of s) → SoFar told digest from to a b s t count → count ≡ most_packets → FollowsOn told digest from to a b s t link_end.TooMany
far_full told digest from to a b s t count begins f full = follows_by told digest from to a b s t t link_end.TooMany f.arrivals begins f.arrive (f.made, sym f.counted ∙ full, f.taken, f.sent) refl f.images f.same_catalogue f.still_sound

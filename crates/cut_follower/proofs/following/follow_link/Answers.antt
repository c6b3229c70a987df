use Rattle.std.proofs.Common.{◌≡◌, ◌<◌, refl, arith, ◌∙◌}
use Rattle.cut_follower.proofs.Arriving.{far_bad, far_done, far_full, far_next, far_start, far_starved, far_stopped, far_truncated, far_unread, far_unsent}
use Rattle.cut_follower.proofs.following.follow_link.Goals as goal

pub following-init : goal.following-init
following-init g c = record {
  so_far = far_start _ _ _ _ _;
  told = refl;
  digest = refl;
  lasts = c.laws_of_lasting.ensures.itself c.args.cabinet.now;
  later = omega arith;
  cabinet_later = omega arith;
}

pub following-preserved : goal.following-preserved
following-preserved g c =
    let i = c.following.invariant in
    let r = c.arrive.ensures in
    record {
      so_far = far_next _ _ _ _ _ _ _ _ _ _ _ _ _ _ i.so_far i.told i.digest r.goes c.in-Told.ensures.arrives r.read_later r.write_later;
      told = r.told ∙ i.told;
      digest = r.digest ∙ i.digest;
      lasts = c.laws_of_lasting.ensures.on _ _ _ i.lasts r.lasts;
      later = omega (arith, i.later, r.goes.later);
      cabinet_later = omega (arith, i.cabinet_later, r.goes.cabinet_later);
    }

pub returns-in-AtEnd-clause-follows : goal.returns-in-AtEnd-clause-follows
returns-in-AtEnd-clause-follows g c =
    let i = c.following.invariant in
    let few : c.following.told < 1000000 = omega arith in
    far_done _ _ _ _ _ _ _ _ _ _ _ _ _ _ i.so_far i.told i.digest c.arrive.ensures.goes (record { behind = c.images.ensures.behind; known = c.known.ensures }) few c.in-AtEnd.ensures.arrives

pub returns-in-Truncated-clause-follows : goal.returns-in-Truncated-clause-follows
returns-in-Truncated-clause-follows g c =
    let i = c.following.invariant in
    let few : c.following.told < 1000000 = omega arith in
    far_truncated _ _ _ _ _ _ _ _ _ _ _ _ _ _ i.so_far i.told i.digest c.arrive.ensures.goes (record { behind = c.images.ensures.behind; known = c.known.ensures }) few c.in-Truncated.ensures.arrives

pub returns-in-BadPacket-clause-follows : goal.returns-in-BadPacket-clause-follows
returns-in-BadPacket-clause-follows g c =
    let i = c.following.invariant in
    let few : c.following.told < 1000000 = omega arith in
    far_bad _ _ _ _ _ _ _ _ _ _ _ _ _ _ i.so_far i.told i.digest c.arrive.ensures.goes (record { behind = c.images.ensures.behind; known = c.known.ensures }) few c.in-BadPacket.ensures.arrives

pub returns-in-ReadFault-clause-follows : goal.returns-in-ReadFault-clause-follows
returns-in-ReadFault-clause-follows g c =
    let i = c.following.invariant in
    let few : c.following.told < 1000000 = omega arith in
    far_unread _ _ _ _ _ _ _ _ _ _ _ _ _ _ i.so_far i.told i.digest c.arrive.ensures.goes (record { behind = c.images.ensures.behind; known = c.known.ensures }) few c.in-ReadFault.ensures.arrives

pub returns-in-WriteFault-clause-follows : goal.returns-in-WriteFault-clause-follows
returns-in-WriteFault-clause-follows g c =
    let i = c.following.invariant in
    let few : c.following.told < 1000000 = omega arith in
    far_unsent _ _ _ _ _ _ _ _ _ _ _ _ _ _ i.so_far i.told i.digest c.arrive.ensures.goes (record { behind = c.images.ensures.behind; known = c.known.ensures }) few c.in-WriteFault.ensures.arrives

pub returns-in-Stopped-clause-follows : goal.returns-in-Stopped-clause-follows
returns-in-Stopped-clause-follows g c =
    let i = c.following.invariant in
    let few : c.following.told < 1000000 = omega arith in
    far_stopped _ _ _ _ _ _ _ _ _ _ _ _ _ _ i.so_far i.told i.digest c.arrive.ensures.goes (record { behind = c.images.ensures.behind; known = c.known.ensures }) few c.in-Stopped.applied c.in-Stopped.ensures.arrives

pub returns-in-OutOfMemory-clause-follows : goal.returns-in-OutOfMemory-clause-follows
returns-in-OutOfMemory-clause-follows g c =
    let i = c.following.invariant in
    let few : c.following.told < 1000000 = omega arith in
    far_starved _ _ _ _ _ _ _ _ _ _ _ _ _ _ i.so_far i.told i.digest c.arrive.ensures.goes (record { behind = c.images.ensures.behind; known = c.known.ensures }) few c.in-OutOfMemory.ensures.arrives

pub returns-clause-follows : goal.returns-clause-follows
returns-clause-follows g c =
    let full : c.following.told ≡ 1000000 = omega arith in
    far_full _ _ _ _ _ _ _ _ _ (record { behind = c.images.ensures.behind; known = c.known.ensures }) c.following.invariant.so_far full

use Rattle.std.proofs.Common.{◌≡◌, ◌⊎◌, ◌+◌, List, [], ◌∷◌, ◌++◌, length, Some, None, IsTrue, sym, subst, ap, ◌∙◌, rules}
use Rattle.disk_model.specs.Images.{Every, Leaves}
use Rattle.gate_journal.specs.Sound.{digest_of}
use Rattle.served_covers.specs.OfCatalogue.{IsCoverOf}
use Rattle.truncation_list.specs.declared.cover.Cover.{Cover}
use Rattle.outbox.specs.Files.{IsPostable, IsPosted, MayOpenTo, OpensToPosts}
use Rattle.outbox.specs.Posts.{Outgoing}
use Rattle.outbox.proofs.Ranging.{cover_fits}
use Rattle.outbox.proofs.outbox.Outbox.post.Goals as goal

pub write-requires-clause-fits : goal.write-requires-clause-fits
write-requires-clause-fits g c =
    let i = c.self.inside in
    cover_fits i.catalogue.value c.args.cover.now c.self.invariant.valid (subst (λ v. IsCoverOf v.catalogue c.args.cover.now) (sym c.self.view_is) c.requires) c.four.ensures

pub invariant_of-self-in-Unready : goal.invariant_of-self-in-Unready
invariant_of-self-in-Unready g c =
    let i = c.self.inside in
    let f = i.file in
    let n = c.write.new.file in
    let s : Outgoing = record { posts = i.posts.items; undecided = i.undecided; heard = i.heard } in
    let m : IsPosted (g.D.Disk.told f.disk) i.catalogue.value s f.journal (g.D.Disk.state f.disk) = c.self.invariant in
    let served : IsCoverOf i.catalogue.value c.args.cover.now = subst (λ v. IsCoverOf v.catalogue c.args.cover.now) (sym c.self.view_is) c.requires in
    let one : IsPostable i.catalogue.value c.args.cover.now = record { served = served; fits = cover_fits i.catalogue.value c.args.cover.now m.valid served c.four.ensures } in
    let at : c.len.result + 1 ≡ length i.posts.items + 1 = search rules in
    let w = c.in-Unready.ensures.posts i.catalogue.value s m one at in
    subst (λ (posts : List Cover). IsPosted (g.D.Disk.told n.disk) i.catalogue.value (record { posts = posts; undecided = i.undecided; heard = i.heard }) n.journal (g.D.Disk.state n.disk)) (sym c.reserve.ensures.items) w.posted

pub invariant_of-self-in-Undecided : goal.invariant_of-self-in-Undecided
invariant_of-self-in-Undecided g c =
    let i = c.self.inside in
    let f = i.file in
    let n = c.write.new.file in
    let s : Outgoing = record { posts = i.posts.items; undecided = i.undecided; heard = i.heard } in
    let m : IsPosted (g.D.Disk.told f.disk) i.catalogue.value s f.journal (g.D.Disk.state f.disk) = c.self.invariant in
    let served : IsCoverOf i.catalogue.value c.args.cover.now = subst (λ v. IsCoverOf v.catalogue c.args.cover.now) (sym c.self.view_is) c.requires in
    let one : IsPostable i.catalogue.value c.args.cover.now = record { served = served; fits = cover_fits i.catalogue.value c.args.cover.now m.valid served c.four.ensures } in
    let at : c.len.result + 1 ≡ length i.posts.items + 1 = search rules in
    let w = c.in-Undecided.ensures.posts i.catalogue.value s m one at in
    subst (λ (posts : List Cover). IsPosted (g.D.Disk.told n.disk) i.catalogue.value (record { posts = posts; undecided = (Some c.args.cover.now); heard = i.heard }) n.journal (g.D.Disk.state n.disk)) (sym c.reserve.ensures.items) w.posted

pub invariant_of-self-in-Added : goal.invariant_of-self-in-Added
invariant_of-self-in-Added g c =
    let i = c.self.inside in
    let f = i.file in
    let n = c.write.new.file in
    let s : Outgoing = record { posts = i.posts.items; undecided = i.undecided; heard = i.heard } in
    let m : IsPosted (g.D.Disk.told f.disk) i.catalogue.value s f.journal (g.D.Disk.state f.disk) = c.self.invariant in
    let served : IsCoverOf i.catalogue.value c.args.cover.now = subst (λ v. IsCoverOf v.catalogue c.args.cover.now) (sym c.self.view_is) c.requires in
    let one : IsPostable i.catalogue.value c.args.cover.now = record { served = served; fits = cover_fits i.catalogue.value c.args.cover.now m.valid served c.four.ensures } in
    let at : c.len.result + 1 ≡ length i.posts.items + 1 = search rules in
    let w = c.in-Added.ensures.posts i.catalogue.value s m one at in
    subst (λ (posts : List Cover). IsPosted (g.D.Disk.told n.disk) i.catalogue.value (record { posts = posts; undecided = None; heard = i.heard }) n.journal (g.D.Disk.state n.disk))
    (sym (c.push_reserved.ensures.items ∙ ap (λ (l : List Cover). l ++ c.args.cover.now ∷ []) c.reserve.ensures.items)) w.posted

pub returns-in-Unready-clause-digest : goal.returns-in-Unready-clause-digest
returns-in-Unready-clause-digest g c =
    let i = c.self.inside in
    let f = i.file in
    let n = c.write.new.file in
    let s : Outgoing = record { posts = i.posts.items; undecided = i.undecided; heard = i.heard } in
    let m : IsPosted (g.D.Disk.told f.disk) i.catalogue.value s f.journal (g.D.Disk.state f.disk) = c.self.invariant in
    let served : IsCoverOf i.catalogue.value c.args.cover.now = subst (λ v. IsCoverOf v.catalogue c.args.cover.now) (sym c.self.view_is) c.requires in
    let one : IsPostable i.catalogue.value c.args.cover.now = record { served = served; fits = cover_fits i.catalogue.value c.args.cover.now m.valid served c.four.ensures } in
    let at : c.len.result + 1 ≡ length i.posts.items + 1 = search rules in
    let w = c.in-Unready.ensures.posts i.catalogue.value s m one at in
    w.posted.same_digest ∙ sym m.same_digest ∙ ap (λ v. digest_of v.file.journal) c.self.view_is

pub returns-in-Unready-clause-images : goal.returns-in-Unready-clause-images
returns-in-Unready-clause-images g c =
    let i = c.self.inside in
    let f = i.file in
    let n = c.write.new.file in
    let s : Outgoing = record { posts = i.posts.items; undecided = i.undecided; heard = i.heard } in
    let m : IsPosted (g.D.Disk.told f.disk) i.catalogue.value s f.journal (g.D.Disk.state f.disk) = c.self.invariant in
    let served : IsCoverOf i.catalogue.value c.args.cover.now = subst (λ v. IsCoverOf v.catalogue c.args.cover.now) (sym c.self.view_is) c.requires in
    let one : IsPostable i.catalogue.value c.args.cover.now = record { served = served; fits = cover_fits i.catalogue.value c.args.cover.now m.valid served c.four.ensures } in
    let at : c.len.result + 1 ≡ length i.posts.items + 1 = search rules in
    let w = c.in-Unready.ensures.posts i.catalogue.value s m one at in
    subst (λ v. IsTrue (g.D.Disk.told v.file.disk) → Leaves (g.D.Disk.state v.file.disk) (g.D.Disk.state n.disk) (λ image. MayOpenTo v.catalogue v.out image ⊎ OpensToPosts v.catalogue image (v.out.posts ++ c.args.cover.now ∷ []))) c.self.view_is
    (λ told. w.images (subst IsTrue (sym c.write.ensures.told) told))

pub returns-in-Undecided-clause-digest : goal.returns-in-Undecided-clause-digest
returns-in-Undecided-clause-digest g c =
    let i = c.self.inside in
    let f = i.file in
    let n = c.write.new.file in
    let s : Outgoing = record { posts = i.posts.items; undecided = i.undecided; heard = i.heard } in
    let m : IsPosted (g.D.Disk.told f.disk) i.catalogue.value s f.journal (g.D.Disk.state f.disk) = c.self.invariant in
    let served : IsCoverOf i.catalogue.value c.args.cover.now = subst (λ v. IsCoverOf v.catalogue c.args.cover.now) (sym c.self.view_is) c.requires in
    let one : IsPostable i.catalogue.value c.args.cover.now = record { served = served; fits = cover_fits i.catalogue.value c.args.cover.now m.valid served c.four.ensures } in
    let at : c.len.result + 1 ≡ length i.posts.items + 1 = search rules in
    let w = c.in-Undecided.ensures.posts i.catalogue.value s m one at in
    w.posted.same_digest ∙ sym m.same_digest ∙ ap (λ v. digest_of v.file.journal) c.self.view_is

pub returns-in-Undecided-clause-images : goal.returns-in-Undecided-clause-images
returns-in-Undecided-clause-images g c =
    let i = c.self.inside in
    let f = i.file in
    let n = c.write.new.file in
    let s : Outgoing = record { posts = i.posts.items; undecided = i.undecided; heard = i.heard } in
    let m : IsPosted (g.D.Disk.told f.disk) i.catalogue.value s f.journal (g.D.Disk.state f.disk) = c.self.invariant in
    let served : IsCoverOf i.catalogue.value c.args.cover.now = subst (λ v. IsCoverOf v.catalogue c.args.cover.now) (sym c.self.view_is) c.requires in
    let one : IsPostable i.catalogue.value c.args.cover.now = record { served = served; fits = cover_fits i.catalogue.value c.args.cover.now m.valid served c.four.ensures } in
    let at : c.len.result + 1 ≡ length i.posts.items + 1 = search rules in
    let w = c.in-Undecided.ensures.posts i.catalogue.value s m one at in
    subst (λ v. IsTrue (g.D.Disk.told v.file.disk) → Leaves (g.D.Disk.state v.file.disk) (g.D.Disk.state n.disk) (λ image. MayOpenTo v.catalogue v.out image ⊎ OpensToPosts v.catalogue image (v.out.posts ++ c.args.cover.now ∷ []))) c.self.view_is
    (λ told. w.images (subst IsTrue (sym c.write.ensures.told) told))

pub returns-in-Added-clause-digest : goal.returns-in-Added-clause-digest
returns-in-Added-clause-digest g c =
    let i = c.self.inside in
    let f = i.file in
    let n = c.write.new.file in
    let s : Outgoing = record { posts = i.posts.items; undecided = i.undecided; heard = i.heard } in
    let m : IsPosted (g.D.Disk.told f.disk) i.catalogue.value s f.journal (g.D.Disk.state f.disk) = c.self.invariant in
    let served : IsCoverOf i.catalogue.value c.args.cover.now = subst (λ v. IsCoverOf v.catalogue c.args.cover.now) (sym c.self.view_is) c.requires in
    let one : IsPostable i.catalogue.value c.args.cover.now = record { served = served; fits = cover_fits i.catalogue.value c.args.cover.now m.valid served c.four.ensures } in
    let at : c.len.result + 1 ≡ length i.posts.items + 1 = search rules in
    let w = c.in-Added.ensures.posts i.catalogue.value s m one at in
    w.posted.same_digest ∙ sym m.same_digest ∙ ap (λ v. digest_of v.file.journal) c.self.view_is

pub returns-in-Added-clause-images : goal.returns-in-Added-clause-images
returns-in-Added-clause-images g c =
    let i = c.self.inside in
    let f = i.file in
    let n = c.write.new.file in
    let s : Outgoing = record { posts = i.posts.items; undecided = i.undecided; heard = i.heard } in
    let m : IsPosted (g.D.Disk.told f.disk) i.catalogue.value s f.journal (g.D.Disk.state f.disk) = c.self.invariant in
    let served : IsCoverOf i.catalogue.value c.args.cover.now = subst (λ v. IsCoverOf v.catalogue c.args.cover.now) (sym c.self.view_is) c.requires in
    let one : IsPostable i.catalogue.value c.args.cover.now = record { served = served; fits = cover_fits i.catalogue.value c.args.cover.now m.valid served c.four.ensures } in
    let at : c.len.result + 1 ≡ length i.posts.items + 1 = search rules in
    let w = c.in-Added.ensures.posts i.catalogue.value s m one at in
    subst (λ v. IsTrue (g.D.Disk.told v.file.disk) → Leaves (g.D.Disk.state v.file.disk) (g.D.Disk.state n.disk) (λ image. MayOpenTo v.catalogue v.out image ⊎ OpensToPosts v.catalogue image (v.out.posts ++ c.args.cover.now ∷ []))) c.self.view_is
    (λ told. w.images (subst IsTrue (sym c.write.ensures.told) told))

pub returns-in-Added-clause-done : goal.returns-in-Added-clause-done
returns-in-Added-clause-done g c told k is =
    let i = c.self.inside in
    let f = i.file in
    let n = c.write.new.file in
    let s : Outgoing = record { posts = i.posts.items; undecided = i.undecided; heard = i.heard } in
    let m : IsPosted (g.D.Disk.told f.disk) i.catalogue.value s f.journal (g.D.Disk.state f.disk) = c.self.invariant in
    let served : IsCoverOf i.catalogue.value c.args.cover.now = subst (λ v. IsCoverOf v.catalogue c.args.cover.now) (sym c.self.view_is) c.requires in
    let one : IsPostable i.catalogue.value c.args.cover.now = record { served = served; fits = cover_fits i.catalogue.value c.args.cover.now m.valid served c.four.ensures } in
    let at : c.len.result + 1 ≡ length i.posts.items + 1 = search rules in
    let w = c.in-Added.ensures.posts i.catalogue.value s m one at in
    subst (λ v. IsTrue (g.D.Disk.told v.file.disk) → Every (g.D.Disk.state n.disk).may_leave (λ image. OpensToPosts v.catalogue image (v.out.posts ++ c.args.cover.now ∷ []))) c.self.view_is
    (λ was. w.alone (subst IsTrue (sym c.write.ensures.told) was) w.settled) told

pub returns-in-Added-clause-settled : goal.returns-in-Added-clause-settled
returns-in-Added-clause-settled g c =
    let i = c.self.inside in
    let f = i.file in
    let n = c.write.new.file in
    let s : Outgoing = record { posts = i.posts.items; undecided = i.undecided; heard = i.heard } in
    let m : IsPosted (g.D.Disk.told f.disk) i.catalogue.value s f.journal (g.D.Disk.state f.disk) = c.self.invariant in
    let served : IsCoverOf i.catalogue.value c.args.cover.now = subst (λ v. IsCoverOf v.catalogue c.args.cover.now) (sym c.self.view_is) c.requires in
    let one : IsPostable i.catalogue.value c.args.cover.now = record { served = served; fits = cover_fits i.catalogue.value c.args.cover.now m.valid served c.four.ensures } in
    let at : c.len.result + 1 ≡ length i.posts.items + 1 = search rules in
    let w = c.in-Added.ensures.posts i.catalogue.value s m one at in
    λ k is. w.settled

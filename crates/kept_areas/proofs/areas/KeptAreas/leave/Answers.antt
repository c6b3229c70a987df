use Rattle.std.proofs.Common.{◌≡◌, List, [], None, ap, arith, length, subst, sym, take, ◌∙◌}
use Rattle.std.specs.List.{remove}
use Rattle.std.proofs.lemmas.List.{length-set}
use Rattle.metatile_plan.specs.declared.metatile.MetaKey.{MetaKey}
use Rattle.kept_areas.specs.declared.spot.KeptSpot.{KeptSpot}
use Rattle.kept_areas.specs.Areas.{Areas, IsClear, all_spots, number_in, without}
use Rattle.kept_areas.specs.Kept.{chunk_at}
use Rattle.kept_areas.proofs.Entered.{is_left, kept_left, left_length, left_without}
use Rattle.kept_areas.proofs.Leaving.{clear_without, number_without}
use Rattle.kept_areas.proofs.Numbers.{none_of}
use Rattle.kept_areas.proofs.Parted.{lacking}
use Rattle.kept_areas.proofs.Used.{place_first, spots_first}
use Rattle.kept_areas.proofs.areas.KeptAreas.leave.Goals as goal

-- any key of the metatile
any : MetaKey → KeptSpot
any m = record { meta = m; number = 0 }

pub overflow_sub-self : goal.overflow_sub-self
overflow_sub-self c =
    let m = c.args.meta.now in let sss = c.self.inside.chunks.items in let chunk = c.in-Some.place.chunk in let i = c.in-Some.place.index in
    let is = is_left m sss c.first_of-first.result.now c.self.inside.used chunk i (any m) (c.first_of-first.ensures ∙ ap (take c.self.inside.used) c.as_slice.ensures.value) c.in-Some.ensures.known c.in-Some.ensures.within c.in-Some.ensures.at in
    let fewer = left_length m sss chunk i [] (any m) is in let counted = c.self.invariant.counted in
    omega arith

pub invariant_of-self : goal.invariant_of-self
invariant_of-self c =
    let m = c.args.meta.now in let sss = c.self.inside.chunks.items in let chunk = c.in-Some.place.chunk in let i = c.in-Some.place.index in
    let is = is_left m sss c.first_of-first.result.now c.self.inside.used chunk i (any m) (c.first_of-first.ensures ∙ ap (take c.self.inside.used) c.as_slice.ensures.value) c.in-Some.ensures.known c.in-Some.ensures.within c.in-Some.ensures.at in
    let len = ap (λ (qss : List (List KeptSpot)). length qss) c.take_out.ensures ∙ length-set sss chunk (remove (chunk_at sss chunk) i) in
    let among = place_first sss c.first_of-first.result.now c.self.inside.used chunk (c.first_of-first.ensures ∙ ap (take c.self.inside.used) c.as_slice.ensures.value) c.in-Some.ensures.known in
    kept_left m sss c.take_out.new.chunks.items chunk i c.self.inside.taken c.self.inside.room c.self.inside.used [] (any m) is c.take_out.ensures len c.self.invariant among.0

pub returns-in-None-clause-chunks : goal.returns-in-None-clause-chunks
returns-in-None-clause-chunks c =
    let m = c.args.meta.now in
    let is = c.first_of-first.ensures ∙ ap (take c.self.inside.used) c.as_slice.ensures.value in
    let whole : all_spots c.first_of-first.result.now ≡ all_spots c.args.self.now.chunks =
    spots_first c.self.inside.chunks.items c.first_of-first.result.now c.self.inside.used is c.self.invariant.first.none ∙ ap (λ (a : Areas). all_spots a.chunks) c.self.view_is in
    lacking m c.args.self.now.chunks (none_of m (all_spots c.args.self.now.chunks) (subst (λ (ss : List KeptSpot). number_in ss m ≡ None) whole c.in-None.ensures.none))

pub returns-in-None-clause-numbers : goal.returns-in-None-clause-numbers
returns-in-None-clause-numbers c = λ k. ap (λ (qss : List (List KeptSpot)). number_in (all_spots qss) k) (returns-in-None-clause-chunks c) ∙ number_without c.args.meta.now c.args.self.now.chunks k

pub returns-in-Some-clause-chunks : goal.returns-in-Some-clause-chunks
returns-in-Some-clause-chunks c =
    let m = c.args.meta.now in let sss = c.self.inside.chunks.items in let chunk = c.in-Some.place.chunk in let i = c.in-Some.place.index in
    let is = is_left m sss c.first_of-first.result.now c.self.inside.used chunk i (any m) (c.first_of-first.ensures ∙ ap (take c.self.inside.used) c.as_slice.ensures.value) c.in-Some.ensures.known c.in-Some.ensures.within c.in-Some.ensures.at in
    c.take_out.ensures ∙ left_without m sss chunk i [] (any m) is c.self.invariant.once ∙ ap (λ (a : Areas). without m a.chunks) c.self.view_is

pub returns-in-Some-clause-numbers : goal.returns-in-Some-clause-numbers
returns-in-Some-clause-numbers c = λ k. ap (λ (qss : List (List KeptSpot)). number_in (all_spots qss) k) (returns-in-Some-clause-chunks c) ∙ number_without c.args.meta.now c.args.self.now.chunks k

pub returns-in-Some-clause-clear : goal.returns-in-Some-clause-clear
returns-in-Some-clause-clear c = λ is_hit count h. subst (IsClear is_hit count) (sym (returns-in-Some-clause-chunks c)) (clear_without is_hit count c.args.meta.now c.args.self.now.chunks h)

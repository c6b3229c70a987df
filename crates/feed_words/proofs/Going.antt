-- How far the lines of a feed have come, one line more, and their ends.
use Rattle.std.specs.Prelude.{IsTrue}
use Rattle.std.proofs.Common.{◌≡◌, ◌⊎◌, ℕ, ◌+◌, ◌-◌, ◌^◌, ◌≤◌, Bool, List, [], ◌∷◌, ◌++◌, length, map, Option, Some, None, refl, sym, subst, ap, ◌∙◌, arith, append_assoc, append-nil, inl, inr}
use Rattle.std.specs.Io.KnownBytes.{Appends}
use Rattle.std.proofs.lemmas.Bool.{false≢true}
use Rattle.std.proofs.lemmas.Grind.{flat_map-append}
use Rattle.std.proofs.lemmas.List.{length-append, map-append}
use Rattle.cabinet.specs.State.{IsSound}
use Rattle.catalog.specs.declared.catalogue.Catalogue.{Catalogue}
use Rattle.change_feed.specs.declared.applied.Applied.{Applied}
use Rattle.change_feed.specs.declared.change.Change.{Change}
use Rattle.change_feed.specs.Applies.{Applies, Pair, decided}
use Rattle.change_feed.specs.Files.{MayEndIn, Stand}
use Rattle.disk_model.specs.Content.{Content}
use Rattle.disk_model.specs.Images.{DiskState, Leaves}
use Rattle.disk_model.specs.Moments.{leaves_as, leaves_none, leaves_then}
use Rattle.http_wire.proofs.TakesOn.{rose_before}
use Rattle.sessions.specs.Outside.{OutputChange, counts}
use Rattle.served_covers.specs.OfCatalogue.{IsCoverOf}
use Rattle.tile_requests.proofs.Known.{appends_more, appends_nothing}
use Rattle.tile_service.specs.Lines.{lines_of}
use Rattle.feed_words.specs.declared.line.FeedLineEnd.TheVariants as line_end
use Rattle.feed_words.specs.declared.lines.FeedLinesEnd.TheVariants as lines_end
use Rattle.feed_words.specs.Fed.{HasRunLines}
use Rattle.feed_words.specs.OneLine.{GoesTo, RunsLine}
use Rattle.feed_words.specs.Orders.{change_in}
use Rattle.feed_words.specs.Run.{FeedStep, Follow, IsLeftAs, MayEndAlong, Order, answer_of, answers_of}

-- ONE STEP MORE

follow_more : (s m t : Pair) (steps : List FeedStep) (change : Change) (reply : Applied) → Follow s steps m → IsCoverOf m.cabinet.catalogue change.cover → Applies m change reply t
    → Follow s (steps ++ record { change = change; reply = reply; after = t } ∷ []) t
follow_more s m t [] change reply f cover row = subst (λ (x : Pair). IsCoverOf x.cabinet.catalogue change.cover × Applies x change reply t × (t ≡ t)) f (cover, row, refl)
follow_more s m t (step ∷ steps) change reply f cover row = (f.0, f.1, follow_more step.after m t steps change reply f.2 cover row)

abbrev change_of : FeedStep → Option Change
change_of step = Some step.change

order_more : (c : Catalogue) (lines : List (List ℕ)) (steps : List FeedStep) (line : List ℕ) (step : FeedStep) → Order c lines steps → change_in c line ≡ Some step.change → Order c (lines ++ line ∷ []) (steps ++ step ∷ [])
order_more c lines steps line step order reads =
    map-append (change_in c) lines (line ∷ [])
    ∙ ap (λ (xs : List (Option Change)). xs ++ change_in c line ∷ []) order
    ∙ ap (λ (x : Option Change). map change_of steps ++ x ∷ []) reads
    ∙ sym (map-append change_of steps (step ∷ []))

answers_more : (a b d : Option (List ℕ)) (steps : List FeedStep) (step : FeedStep) → Appends a b (answers_of steps) → Appends b d (answer_of step) → Appends a d (answers_of (steps ++ step ∷ []))
answers_more a b d steps step written more =
    subst (Appends a d) (sym (flat_map-append answer_of steps (step ∷ [])))
    (appends_more a b d (answers_of steps) (answers_of (step ∷ [])) written (subst (Appends b d) (sym (append-nil (answer_of step))) more))

-- IMAGES

along_more : (digest : List ℕ) (s : Stand) (steps : List FeedStep) (step : FeedStep) (image : Content) → MayEndAlong digest s steps image → MayEndAlong digest s (steps ++ step ∷ []) image
along_more digest s [] step image may = inl may
along_more digest s (first ∷ steps) step image (inl may) = inl may
along_more digest s (first ∷ steps) step image (inr may) = inr (along_more digest first.after.stand steps step image may)

along_here : (digest : List ℕ) (s m : Pair) (steps : List FeedStep) (image : Content) → Follow s steps m → MayEndIn digest m.stand image → MayEndAlong digest s.stand steps image
along_here digest s m [] image f may = subst (λ (x : Pair). MayEndIn digest x.stand image) f may
along_here digest s m (first ∷ steps) image f may = inr (along_here digest first.after m steps image f.2 may)

along_next : (digest : List ℕ) (s : Stand) (steps : List FeedStep) (step : FeedStep) (image : Content) → MayEndIn digest step.after.stand image → MayEndAlong digest s (steps ++ step ∷ []) image
along_next digest s [] step image may = inr may
along_next digest s (first ∷ steps) step image may = inr (along_next digest first.after.stand steps step image may)

pub decided_in : (digest : List ℕ) (s t : Stand) (image : Content) → (t ≡ s) ⊎ (t ≡ decided s) → MayEndIn digest t image → MayEndIn digest s image
decided_in digest s t image (inl same) may = subst (λ (x : Stand). MayEndIn digest x image) same may
decided_in digest s t image (inr same) may = elim (subst (λ (x : Stand). MayEndIn digest x image) same may) [
  | inl ends ↦ inl ends
  | inr ends ↦ absurd (false≢true ends.0)
]

-- HOW FAR

-- since the start so many lines of the text are done, and the rest is not
pub record SoFar (told : Bool) (digest : List ℕ) (from mid : DiskState) (taken taken_now : Option (List ℕ)) (text : List ℕ) (s m : Pair) (lines : ℕ) (rest : List ℕ) : Type 0 where
  pub before : List (List ℕ)
  pub steps : List FeedStep
  pub split : lines_of text ≡ before ++ lines_of rest
  pub counted : lines ≡ length before
  pub order : Order s.cabinet.catalogue before steps
  pub follow : Follow s steps m
  pub written : Appends taken taken_now (answers_of steps)
  pub images : IsTrue told → Leaves from mid (MayEndAlong digest s.stand steps)
  pub same_catalogue : m.cabinet.catalogue ≡ s.cabinet.catalogue
  pub still_sound : IsSound s.cabinet → IsSound m.cabinet

pub far_start : (told : Bool) (digest : List ℕ) (from : DiskState) (taken : Option (List ℕ)) (text : List ℕ) (s : Pair) → SoFar told digest from from taken taken text s s 0 text
far_start told digest from taken text s = record {
  before = [];
  steps = [];
  split = refl;
  counted = refl;
  order = refl;
  follow = refl;
  written = appends_nothing taken;
  images = λ is. leaves_none from (MayEndIn digest s.stand);
  same_catalogue = refl;
  still_sound = λ sound. sound;
}

no_rest : (rest : List ℕ) → length rest ≡ 0 → lines_of rest ≡ []
no_rest [] e = refl
no_rest (b ∷ bs) e = absurd (omega arith)

-- no line is left
pub far_done : (told : Bool) (digest : List ℕ) (from to : DiskState) (o : OutputChange) (text rest : List ℕ) (s t : Pair) (lines : ℕ) → SoFar told digest from to o.from o.to text s t lines rest → length rest ≡ 0 → HasRunLines told digest from to o text s t lines_end.Done
far_done told digest from to o text rest s t lines f none =
    let all : lines_of text ≡ f.before = f.split ∙ ap (λ (xs : List (List ℕ)). f.before ++ xs) (no_rest rest none) ∙ append-nil f.before in
    record {
      steps = f.steps;
      last = t;
      follow = f.follow;
      ends = (subst (λ (xs : List (List ℕ)). Order s.cabinet.catalogue xs f.steps) (sym all) f.order, f.written);
      left = record { cabinet = refl; stand = inl refl; faults = omega arith; cabinet_faults = omega arith };
      images = f.images;
      still_sound = f.still_sound;
    }

module _ (told told' : Bool) (digest digest' : List ℕ) (from mid to : DiskState) (taken taken_mid taken_now : Option (List ℕ)) (faults mid_faults now_faults : ℕ) (text line rest next : List ℕ) (s m t : Pair) (lines : ℕ) (Stays : Type 0)
    (f : SoFar told digest from mid taken taken_mid text s m lines rest) (split : lines_of rest ≡ line ∷ lines_of next) (same_told : told' ≡ told) (same_digest : digest' ≡ digest)
    (goes : GoesTo told' digest' mid to m t) where
  abbrev o_line : OutputChange
  o_line = record { writes = counts mid_faults now_faults; from = taken_mid; to = taken_now }

  abbrev o_all : OutputChange
  o_all = record { writes = counts faults now_faults; from = taken; to = taken_now }

  split_here : lines_of text ≡ f.before ++ line ∷ lines_of next
  split_here = f.split ∙ ap (λ (xs : List (List ℕ)). f.before ++ xs) split

  goes_images : IsTrue told → Leaves mid to (λ image. MayEndIn digest m.stand image ⊎ MayEndIn digest t.stand image)
  goes_images is = subst (λ (d : List ℕ). Leaves mid to (λ image. MayEndIn d m.stand image ⊎ MayEndIn d t.stand image)) same_digest (goes.images (subst IsTrue (sym same_told) is))

  -- the same order, of the catalogue of now
  reads_first : (change : Option Change) → change_in m.cabinet.catalogue line ≡ change → change_in s.cabinet.catalogue line ≡ change
  reads_first change reads = subst (λ (c : Catalogue). change_in c line ≡ change) f.same_catalogue reads

  module _ (change : Change) (reply : Applied) (reads : change_in m.cabinet.catalogue line ≡ Some change) (cover : IsCoverOf m.cabinet.catalogue change.cover) (row : Applies m change reply t) where
    abbrev step : FeedStep
    step = record { change = change; reply = reply; after = t }

    step_images : IsTrue told → Leaves from to (MayEndAlong digest s.stand (f.steps ++ step ∷ []))
    step_images is =
        leaves_then from mid to (MayEndAlong digest s.stand (f.steps ++ step ∷ []))
        (leaves_as from mid (MayEndAlong digest s.stand f.steps) (MayEndAlong digest s.stand (f.steps ++ step ∷ [])) (f.images is) (along_more digest s.stand f.steps step))
        (leaves_as mid to (λ image. MayEndIn digest m.stand image ⊎ MayEndIn digest t.stand image) (MayEndAlong digest s.stand (f.steps ++ step ∷ [])) (goes_images is) (λ image may. elim may [
          | inl here ↦ along_more digest s.stand f.steps step image (along_here digest s m f.steps image f.follow here)
          | inr there ↦ along_next digest s.stand f.steps step image there
        ]))

    step_follow : Follow s (f.steps ++ step ∷ []) t
    step_follow = follow_more s m t f.steps change reply f.follow cover row

    step_order : Order s.cabinet.catalogue (f.before ++ line ∷ []) (f.steps ++ step ∷ [])
    step_order = order_more s.cabinet.catalogue f.before f.steps line step f.order (reads_first (Some change) reads)

    next_by : Appends taken_mid taken_now (answer_of step) → SoFar told digest from to taken taken_now text s t (lines + 1) next
    next_by sent = record {
      before = f.before ++ line ∷ [];
      steps = f.steps ++ step ∷ [];
      split = split_here ∙ sym (append_assoc f.before (line ∷ []) (lines_of next));
      counted = let e = length-append f.before (line ∷ []) in omega (arith, e, f.counted);
      order = step_order;
      follow = step_follow;
      written = answers_more taken taken_mid taken_now f.steps step f.written sent;
      images = step_images;
      same_catalogue = goes.same_catalogue ∙ f.same_catalogue;
      still_sound = λ sound. goes.still_sound (f.still_sound sound);
    }

  pub far_next : RunsLine line o_line Stays m t line_end.Told → SoFar told digest from to taken taken_now text s t (lines + 1) next
  far_next ran = next_by ran.0 ran.2.0 ran.1.reads ran.1.cover ran.2.1 ran.2.2

  pub far_cut : faults ≤ mid_faults → RunsLine line o_line Stays m t line_end.WriteFault → HasRunLines told digest from to o_all text s t lines_end.WriteFault
  far_cut later ran =
      let change = ran.0 in
      let reply = ran.2.0 in
      let made : FeedStep = record { change = change; reply = reply; after = t } in
      record {
        steps = f.steps ++ made ∷ [];
        last = t;
        follow = step_follow change reply ran.1.reads ran.1.cover ran.2.1;
        ends = (
          f.before,
          line,
          (lines_of next, split_here),
          step_order change reply ran.1.reads ran.1.cover ran.2.1,
          record {
            before = f.steps;
            last = made;
            whole = refl;
            sent = record { between = taken_mid; whole = f.written; part = ran.2.2.0 };
            failed = rose_before (2 ^ 64 - 1) faults mid_faults now_faults later ran.2.2.1;
          },
        );
        left = record { cabinet = refl; stand = inl refl; faults = omega arith; cabinet_faults = omega arith };
        images = step_images change reply ran.1.reads ran.1.cover ran.2.1;
        still_sound = λ sound. goes.still_sound (f.still_sound sound);
      }

  -- where nothing more was made
  stay_images : (t.stand ≡ m.stand) ⊎ (t.stand ≡ decided m.stand) → IsTrue told → Leaves from to (MayEndAlong digest s.stand f.steps)
  stay_images same is =
      leaves_then from mid to (MayEndAlong digest s.stand f.steps) (f.images is)
      (leaves_as mid to (λ image. MayEndIn digest m.stand image ⊎ MayEndIn digest t.stand image) (MayEndAlong digest s.stand f.steps) (goes_images is) (λ image may. elim may [
        | inl here ↦ along_here digest s m f.steps image f.follow here
        | inr there ↦ along_here digest s m f.steps image f.follow (decided_in digest m.stand t.stand image same there)
      ]))

  stay_written : taken_now ≡ taken_mid → Appends taken taken_now (answers_of f.steps)
  stay_written same = subst (λ (x : Option (List ℕ)). Appends taken x (answers_of f.steps)) (sym same) f.written

  left_here : t ≡ m → IsLeftAs m t
  left_here same = subst (IsLeftAs m) (sym same) (record { cabinet = refl; stand = inl refl; faults = omega arith; cabinet_faults = omega arith })

  pub far_refused : RunsLine line o_line Stays m t line_end.Refused → (Stays → taken_now ≡ taken_mid) → HasRunLines told digest from to o_all text s t (lines_end.Line (lines + 1))
  far_refused ran same = record {
    steps = f.steps;
    last = m;
    follow = f.follow;
    ends = (f.before, line, (lines_of next, split_here), f.order, ap (λ (n : ℕ). n + 1) f.counted, reads_first None ran.0, stay_written (same ran.2));
    left = left_here ran.1;
    images = stay_images (inl (ap (λ (x : Pair). x.stand) ran.1));
    still_sound = λ sound. goes.still_sound (f.still_sound sound);
  }

  pub far_starved : RunsLine line o_line Stays m t line_end.OutOfMemory → (Stays → taken_now ≡ taken_mid) → HasRunLines told digest from to o_all text s t lines_end.OutOfMemory
  far_starved ran same = record {
    steps = f.steps;
    last = m;
    follow = f.follow;
    ends = (f.before, line, (lines_of next, split_here), f.order, stay_written (same ran.1));
    left = ran.0;
    images = stay_images ran.0.stand;
    still_sound = λ sound. goes.still_sound (f.still_sound sound);
  }

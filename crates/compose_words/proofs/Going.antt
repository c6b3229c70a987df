-- How far the lines behind a recipe have come, one line more, and their ends.
use Rattle.std.proofs.Common.{◌≡◌, ℕ, ◌+◌, ◌-◌, ◌^◌, ◌≤◌, List, [], ◌∷◌, ◌++◌, length, map, Option, Some, None, refl, sym, subst, ap, ◌∙◌, arith, append_assoc, append-nil}
use Rattle.std.specs.Io.KnownBytes.{Appends}
use Rattle.std.specs.List.{AllByRecursion}
use Rattle.std.proofs.lemmas.List.{length-append, map-append}
use Rattle.cabinet.specs.State.{IsSound, State}
use Rattle.catalog.specs.declared.catalogue.Catalogue.{Catalogue}
use Rattle.composite_layers.specs.Parts.{CompositionMoment, moment}
use Rattle.http_wire.proofs.TakesOn.{rose_before}
use Rattle.layer_recipes.specs.declared.recipe.Part.{Part}
use Rattle.tile_requests.specs.Sent.{AppendsFront}
use Rattle.tile_requests.proofs.Known.{appends_more, appends_nothing}
use Rattle.tile_service.specs.Lines.{lines_of}
use Rattle.sessions.specs.Outside.{counts}
use Rattle.tile_service.specs.Session.{IsAtRest}
use Rattle.compose_words.specs.declared.line.CompositionLineEnd.TheVariants as line_end
use Rattle.compose_words.specs.declared.lines.CompositionLinesEnd.TheVariants as lines_end
use Rattle.compose_words.specs.declared.orders.CompositionOrder.{CompositionOrder}
use Rattle.compose_words.specs.declared.orders.CompositionOrder.TheVariants as order
use Rattle.compose_words.specs.declared.reply.CompositionReply.{CompositionReply}
use Rattle.compose_words.specs.declared.reply.CompositionReply.TheVariants as reply
use Rattle.compose_words.specs.Ends.{HasRunLines, Outer}
use Rattle.compose_words.specs.OneLine.{MomentGoesOn, RunsLine}
use Rattle.compose_words.specs.Orders.{order_of}
use Rattle.compose_words.specs.Run.{Answers, AreOrders, CompositionStep, Follow, IsPictured, IsPicturedAs, answers_from, answers_of}
use Rattle.compose_words.specs.Texts.{answer_text}
use Rattle.compose_words.specs.Written.{OutputChange}
use Rattle.compose_words.proofs.Leaving.{goes_then}
use Rattle.compose_words.proofs.Newness.{newer_all}

-- ONE STEP MORE

abbrev step_of : CompositionOrder → CompositionReply → CompositionMoment → CompositionStep
step_of o r n = record { order = o; reply = r; after = n }

follow_more : (told : Option ℕ) (parts : List Part) (s m n : CompositionMoment) (steps : List CompositionStep) (o : CompositionOrder) (r : CompositionReply) → Follow told parts s steps m → Answers told parts m o r n → Follow told parts s (steps ++ step_of o r n ∷ []) n
follow_more told parts s m n [] o r f row = subst (λ (x : CompositionMoment). Answers told parts x o r n × (n ≡ n)) f (row, refl)
follow_more told parts s m n (step ∷ steps) o r f row = (f.0, follow_more told parts step.after m n steps o r f.1 row)

abbrev order_in : CompositionStep → Option CompositionOrder
order_in step = Some step.order

orders_more : (c : Catalogue) (grid : ℕ) (lines : List (List ℕ)) (steps : List CompositionStep) (line : List ℕ) (step : CompositionStep) → AreOrders c grid lines steps → order_of c grid line ≡ Some step.order → AreOrders c grid (lines ++ line ∷ []) (steps ++ step ∷ [])
orders_more c grid lines steps line step orders reads =
    map-append (order_of c grid) lines (line ∷ [])
    ∙ ap (λ (xs : List (Option CompositionOrder)). xs ++ order_of c grid line ∷ []) orders
    ∙ ap (λ (x : Option CompositionOrder). map order_in steps ++ x ∷ []) reads
    ∙ sym (map-append order_in steps (step ∷ []))

answers_last : (n k : ℕ) (steps : List CompositionStep) (step : CompositionStep) → k ≡ n + length steps → answers_from n (steps ++ step ∷ []) ≡ answers_from n steps ++ answer_text k step.reply
answers_last n k [] step is = append-nil (answer_text n step.reply) ∙ ap (λ (j : ℕ). answer_text j step.reply) (omega (arith, is))
answers_last n k (first ∷ steps) step is =
    ap (λ (xs : List ℕ). answer_text n first.reply ++ xs) (answers_last (n + 1) k steps step (omega (arith, is)))
    ∙ sym (append_assoc (answer_text n first.reply) (answers_from (n + 1) steps) (answer_text k step.reply))

answers_more : (a b d : Option (List ℕ)) (steps : List CompositionStep) (step : CompositionStep) → Appends a b (answers_of steps) → Appends b d (answer_text (length steps + 2) step.reply) → Appends a d (answers_of (steps ++ step ∷ []))
answers_more a b d steps step written more =
    subst (Appends a d) (sym (answers_last 2 (length steps + 2) steps step (omega arith)))
    (appends_more a b d (answers_of steps) (answer_text (length steps + 2) step.reply) written more)

all_more : {A : Type 0} (P : A → Type 0) (xs : List A) (x : A) → AllByRecursion P xs → P x → AllByRecursion P (xs ++ x ∷ [])
all_more P [] x all p = (p, tt)
all_more P (y ∷ ys) x all p = (all.0, all_more P ys x all.1 p)

-- a tile of a sound cabinet is pictured
pictured_one : (told : Option ℕ) (parts : List Part) (m : CompositionMoment) (o : CompositionOrder) (r : CompositionReply) (n : CompositionMoment) → Answers told parts m o r n → told ≡ Some m.cabinet.catalogue.source → IsSound m.cabinet → IsPicturedAs m.cabinet.catalogue parts o r
pictured_one told parts m (order.Get place) (reply.Tile tile) n row tells sound = row.truth tells sound
pictured_one told parts m (order.Get place) reply.Fault n row tells sound = tt
pictured_one told parts m (order.Get place) reply.Spent n row tells sound = tt
pictured_one told parts m (order.Get place) (reply.Cut k) n row tells sound = tt
pictured_one told parts m (order.Get place) reply.Full n row tells sound = tt
pictured_one told parts m (order.Truncate cover) r n row tells sound = tt

-- HOW FAR

-- since the start, of a sound cabinet s in which no render ran, so many lines of the input are done, and the rest is not
pub record SoFar (told : Option ℕ) (grid : ℕ) (parts : List Part) (taken taken_now : Option (List ℕ)) (lines : List (List ℕ)) (s m : CompositionMoment) (number : ℕ) (rest : List ℕ) : Type 0 where
  pub before : List (List ℕ)
  pub steps : List CompositionStep
  pub split : lines ≡ before ++ lines_of rest
  pub counted : number ≡ length before + 1
  pub as_many : length steps ≡ length before
  pub orders : AreOrders s.cabinet.catalogue grid before steps
  pub follow : Follow told parts s steps m
  pub written : Appends taken taken_now (answers_of steps)
  pub pictured : told ≡ Some s.cabinet.catalogue.source → AllByRecursion (IsPictured s.cabinet.catalogue parts) steps
  pub no_disk : AllByRecursion (λ step. step.after.disk ≡ 0) steps
  pub goes : MomentGoesOn told s m
  pub sound : told ≡ Some s.cabinet.catalogue.source → IsSound m.cabinet

pub far_start : (told : Option ℕ) (grid : ℕ) (parts : List Part) (taken : Option (List ℕ)) (text : List ℕ) (s : CompositionMoment) → IsAtRest s.cabinet → IsSound s.cabinet → SoFar told grid parts taken taken (lines_of text) s s 1 text
far_start told grid parts taken text s rest sound = record {
  before = [];
  steps = [];
  split = refl;
  counted = refl;
  as_many = refl;
  orders = refl;
  follow = refl;
  written = appends_nothing taken;
  pictured = λ tells. tt;
  no_disk = tt;
  goes = record { later = omega arith; same_catalogue = refl; rests = rest; sound = λ tells s. s };
  sound = λ tells. sound;
}

no_rest : (rest : List ℕ) → length rest ≡ 0 → lines_of rest ≡ []
no_rest [] e = refl
no_rest (b ∷ bs) e = absurd (omega arith)

-- no line is left
pub far_done : (x : Outer) (grid : ℕ) (parts : List Part) (lines : List (List ℕ)) (s : State) (m : CompositionMoment) (number : ℕ) (rest : List ℕ) → SoFar x.told grid parts x.output.from x.output.to lines (moment s x.renders.before 0) m number rest → m.renders ≡ x.renders.after → length rest ≡ 0
    → HasRunLines x s grid parts lines lines_end.Done
far_done x grid parts lines s m number rest f last none =
    let all : lines ≡ f.before = f.split ∙ ap (λ (xs : List (List ℕ)). f.before ++ xs) (no_rest rest none) ∙ append-nil f.before in
    record {
      steps = f.steps;
      last = m;
      follow = f.follow;
      counted = omega (arith, last);
      ends = (subst (λ (xs : List (List ℕ)). AreOrders s.catalogue grid xs f.steps) (sym all) f.orders, f.written);
      pictured = f.pictured;
      newer = newer_all x.told parts (moment s x.renders.before 0) f.steps m f.follow;
      no_disk = f.no_disk;
    }

module _ (told : Option ℕ) (grid : ℕ) (parts : List Part) (taken taken_mid taken_now : Option (List ℕ)) (faults mid_faults now_faults : ℕ) (lines : List (List ℕ)) (line rest next : List ℕ) (first : State) (renders : ℕ) (m n : CompositionMoment) (number : ℕ) (Stays : Type 0)
    (f : SoFar told grid parts taken taken_mid lines (moment first renders 0) m number rest) (split : lines_of rest ≡ line ∷ lines_of next) (goes : MomentGoesOn told m n) (none : n.disk ≡ 0) where
  abbrev s : CompositionMoment
  s = moment first renders 0

  abbrev o_line : OutputChange
  o_line = record { writes = counts mid_faults now_faults; from = taken_mid; to = taken_now }

  abbrev x_all : Outer
  x_all = record { told = told; renders = counts renders n.renders; output = record { writes = counts faults now_faults; from = taken; to = taken_now } }

  split_here : lines ≡ f.before ++ line ∷ lines_of next
  split_here = f.split ∙ ap (λ (xs : List (List ℕ)). f.before ++ xs) split

  -- the same order, of the catalogue of the start
  reads_first : (o : Option CompositionOrder) → order_of m.cabinet.catalogue grid line ≡ o → order_of first.catalogue grid line ≡ o
  reads_first o reads = subst (λ (c : Catalogue). order_of c grid line ≡ o) f.goes.same_catalogue reads

  tells_here : told ≡ Some first.catalogue.source → told ≡ Some m.cabinet.catalogue.source
  tells_here tells = tells ∙ sym (ap (λ (c : Catalogue). Some c.source) f.goes.same_catalogue)

  module _ (o : CompositionOrder) (r : CompositionReply) (reads : order_of m.cabinet.catalogue grid line ≡ Some o) (row : Answers told parts m o r n) where
    step_orders : AreOrders first.catalogue grid (f.before ++ line ∷ []) (f.steps ++ step_of o r n ∷ [])
    step_orders = orders_more first.catalogue grid f.before f.steps line (step_of o r n) f.orders (reads_first (Some o) reads)

    step_follow : Follow told parts s (f.steps ++ step_of o r n ∷ []) n
    step_follow = follow_more told parts s m n f.steps o r f.follow row

    step_pictured : told ≡ Some first.catalogue.source → AllByRecursion (IsPictured first.catalogue parts) (f.steps ++ step_of o r n ∷ [])
    step_pictured tells =
        all_more (IsPictured first.catalogue parts) f.steps (step_of o r n) (f.pictured tells)
        (subst (λ (c : Catalogue). IsPicturedAs c parts o r) f.goes.same_catalogue (pictured_one told parts m o r n row (tells_here tells) (f.sound tells)))

    step_no_disk : AllByRecursion (λ step. step.after.disk ≡ 0) (f.steps ++ step_of o r n ∷ [])
    step_no_disk = all_more (λ step. step.after.disk ≡ 0) f.steps (step_of o r n) f.no_disk none

    step_number : number + 1 ≡ length f.steps + 2
    step_number = let a = f.counted in let b = f.as_many in omega (arith, a, b)

    next_by : Appends taken_mid taken_now (answer_text (number + 1) r) → SoFar told grid parts taken taken_now lines s n (number + 1) next
    next_by sent = record {
      before = f.before ++ line ∷ [];
      steps = f.steps ++ step_of o r n ∷ [];
      split = split_here ∙ sym (append_assoc f.before (line ∷ []) (lines_of next));
      counted = let e = length-append f.before (line ∷ []) in let a = f.counted in omega (arith, e, a);
      as_many = let e = length-append f.before (line ∷ []) in let d = length-append f.steps (step_of o r n ∷ []) in let a = f.as_many in omega (arith, e, d, a);
      orders = step_orders;
      follow = step_follow;
      written = answers_more taken taken_mid taken_now f.steps (step_of o r n) f.written (subst (λ (k : ℕ). Appends taken_mid taken_now (answer_text k r)) step_number sent);
      pictured = step_pictured;
      no_disk = step_no_disk;
      goes = goes_then told s m n f.goes goes;
      sound = λ tells. goes.sound (tells_here tells) (f.sound tells);
    }

  pub far_next : RunsLine told grid parts o_line Stays (number + 1) line m n line_end.Told → SoFar told grid parts taken taken_now lines s n (number + 1) next
  far_next ran = next_by ran.0 ran.2.0 ran.1 ran.2.1 ran.2.2

  pub far_cut : faults ≤ mid_faults → RunsLine told grid parts o_line Stays (number + 1) line m n line_end.WriteFault → HasRunLines x_all first grid parts lines lines_end.WriteFault
  far_cut later ran =
      let o = ran.0 in
      let r = ran.2.0 in
      let made : CompositionStep = step_of o r n in
      record {
        steps = f.steps ++ made ∷ [];
        last = n;
        follow = step_follow o r ran.1 ran.2.1;
        counted = omega arith;
        ends = (
          f.before,
          line,
          (lines_of next, split_here),
          step_orders o r ran.1 ran.2.1,
          record {
            before = f.steps;
            last = made;
            whole = refl;
            sent = record { between = taken_mid; whole = f.written; part = subst (λ (k : ℕ). AppendsFront taken_mid taken_now (answer_text k r)) (step_number o r ran.1 ran.2.1) ran.2.2.0 };
            failed = rose_before (2 ^ 64 - 1) faults mid_faults now_faults later ran.2.2.1;
          },
        );
        pictured = step_pictured o r ran.1 ran.2.1;
        newer = newer_all told parts s (f.steps ++ made ∷ []) n (step_follow o r ran.1 ran.2.1);
        no_disk = step_no_disk o r ran.1 ran.2.1;
      }

  stay_written : taken_now ≡ taken_mid → Appends taken taken_now (answers_of f.steps)
  stay_written same = subst (λ (x : Option (List ℕ)). Appends taken x (answers_of f.steps)) (sym same) f.written

  pub far_refused : RunsLine told grid parts o_line Stays (number + 1) line m n line_end.Refused → (Stays → taken_now ≡ taken_mid) → HasRunLines x_all first grid parts lines (lines_end.Line (number + 1))
  far_refused ran same = record {
    steps = f.steps;
    last = m;
    follow = f.follow;
    counted = goes.later;
    ends = (f.before, line, (lines_of next, split_here), f.orders, (let a = f.counted in omega (arith, a)), reads_first None ran.0, stay_written (same ran.2));
    pictured = f.pictured;
    newer = newer_all told parts s f.steps m f.follow;
    no_disk = f.no_disk;
  }

  pub far_starved : RunsLine told grid parts o_line Stays (number + 1) line m n line_end.OutOfMemory → (Stays → taken_now ≡ taken_mid) → HasRunLines x_all first grid parts lines lines_end.OutOfMemory
  far_starved ran same = record {
    steps = f.steps;
    last = m;
    follow = f.follow;
    counted = goes.later;
    ends = (f.before, line, (lines_of next, split_here), f.orders, stay_written (same ran));
    pictured = f.pictured;
    newer = newer_all told parts s f.steps m f.follow;
    no_disk = f.no_disk;
  }

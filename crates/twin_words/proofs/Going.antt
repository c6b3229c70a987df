-- Steps behind steps: how far a twin has come, a stretch of lines or a stop more, and the ends.
use Rattle.std.specs.Prelude.{IsTrue, ◌&&◌, ◌==◌, cond, true, false, min}
use Rattle.std.proofs.Common.{◌≡◌, ◌⊎◌, ℕ, ◌+◌, ◌-◌, ◌^◌, ◌≤◌, Bool, List, [], ◌∷◌, ◌++◌, length, map, Option, Some, refl, sym, subst, ap, ◌∙◌, arith, append_assoc, inl, inr}
use Rattle.std.specs.Io.KnownBytes.{Appends}
use Rattle.std.proofs.lemmas.List.{length-map, map-append}
use Rattle.cabinet.specs.State.{IsSound, State, now}
use Rattle.catalog.specs.declared.catalogue.Catalogue.{Catalogue}
use Rattle.base.specs.Causes.{Rose}
use Rattle.change_feed.specs.Files.{MayEndIn, Stand}
use Rattle.disk_model.specs.Content.{Content}
use Rattle.disk_model.specs.Images.{DiskState}
use Rattle.disk_model.specs.Moments.{leaves_as, leaves_none, leaves_then}
use Rattle.http_wire.proofs.TakesOn.{rose_before}
use Rattle.opened_cache.specs.Change.{DiskChange}
use Rattle.outbox.specs.Files.{MayOpenTo}
use Rattle.outbox.specs.Posts.{Outgoing}
use Rattle.tile_requests.proofs.Known.{appends_more}
use Rattle.tile_service.specs.Lines.{lines_of, onto_first}
use Rattle.truncation_list.proofs.Answering.{answers_itself, answers_through}
use Rattle.twin_lines.specs.declared.order.TwinOrder.{TwinOrder}
use Rattle.twin_lines.specs.declared.order.TwinOrder.TheVariants as order
use Rattle.twin_lines.specs.declared.order.LinkSide.{LinkSide}
use Rattle.twin_lines.specs.Ends.{AreOrdered, passage}
use Rattle.twin_lines.specs.Orders.{order_in}
use Rattle.twin_lines.specs.Steps.{AreTrue, Follow, IsLater, MayEndAlong, MayOpenAlong, MayOpenWhile, TwinAnswer, TwinMoment, TwinStep, answered, carried, order_of, posted, sent, stopped}
use Rattle.twin_lines.specs.Texts.{answer_text, answers_from}
use Rattle.twin_words.proofs.Composing.{left_before}
use Rattle.twin_words.specs.Opens.{GoesFurther, IsLeftFor, Restarts}
use Rattle.twin_words.specs.Works.{TwinPart, weight}

rose_after : (bound before mid after : ℕ) → min (before + 1) bound ≤ mid → mid ≤ after → min (before + 1) bound ≤ after
rose_after bound before mid after rose later = omega (arith, rose, later)

-- STEPS

pub follow_then : (told : Bool) (source : Option ℕ) (s m t : TwinMoment) (first next : List TwinStep) → Follow told source s first m → Follow told source m next t → Follow told source s (first ++ next) t
follow_then told source s m t [] next f g = subst (λ (x : TwinMoment). Follow told source x next t) f g
follow_then told source s m t (step ∷ steps) next f g = (f.0, f.1, follow_then told source step.after m t steps next f.2 g)

pub later_itself : (s : TwinMoment) → IsLater s.faults s.faults
later_itself s = record { source = omega arith; outbox = omega arith; marks = omega arith; cabinet = omega arith }

pub later_then : (a b c : TwinMoment) → IsLater a.faults b.faults → IsLater b.faults c.faults → IsLater a.faults c.faults
later_then a b c f g = record {
  source = omega (arith, f.source, g.source);
  outbox = omega (arith, f.outbox, g.outbox);
  marks = omega (arith, f.marks, g.marks);
  cabinet = omega (arith, f.cabinet, g.cabinet);
}

pub follow_later : (told : Bool) (source : Option ℕ) (s t : TwinMoment) (steps : List TwinStep) → Follow told source s steps t → IsLater s.faults t.faults
follow_later told source s t [] f = subst (λ (x : TwinMoment). IsLater s.faults x.faults) (sym f) (later_itself s)
follow_later told source s t (step ∷ steps) f = later_then s step.after t f.1 (follow_later told source step.after t steps f.2)

abbrev given : TwinStep → Option TwinOrder
given step = Some (order_of step.answer)

pub ordered_then : (c : Catalogue) (lines others : List (List ℕ)) (first next : List TwinStep) → AreOrdered c lines first → AreOrdered c others next → AreOrdered c (lines ++ others) (first ++ next)
ordered_then c lines others first next f g =
    map-append (order_in c) lines others
    ∙ ap (λ (xs : List (Option TwinOrder)). xs ++ map (order_in c) others) f
    ∙ ap (λ (xs : List (Option TwinOrder)). map given first ++ xs) g
    ∙ sym (map-append given first next)

pub ordered_length : (c : Catalogue) (lines : List (List ℕ)) (steps : List TwinStep) → AreOrdered c lines steps → length lines ≡ length steps
ordered_length c lines steps f = sym (length-map lines (order_in c)) ∙ ap length f ∙ length-map steps given

-- TEXTS

pub answers_then : (n : ℕ) (first next : List TwinStep) → answers_from n (first ++ next) ≡ answers_from n first ++ answers_from (n + length first) next
answers_then n [] next = ap (λ (k : ℕ). answers_from k next) (omega arith)
answers_then n (step ∷ steps) next =
    ap (λ (xs : List ℕ). answer_text n step.answer ++ xs) (answers_then (n + 1) steps next ∙ ap (λ (k : ℕ). answers_from (n + 1) steps ++ answers_from k next) (omega arith))
    ∙ sym (append_assoc (answer_text n step.answer) (answers_from (n + 1) steps) (answers_from (n + length (step ∷ steps)) next))

-- what was written of the first steps, and then of the next ones
pub written_then : (a b d : Option (List ℕ)) (n line : ℕ) (first next : List TwinStep) → Appends a b (answers_from n first) → Appends b d (answers_from line next) → line ≡ n + length first → Appends a d (answers_from n (first ++ next))
written_then a b d n line first next f g same =
    subst (Appends a d) (sym (answers_then n first next)) (appends_more a b d (answers_from n first) (answers_from (n + length first) next) f (subst (λ (k : ℕ). Appends b d (answers_from k next)) same g))

-- IMAGES

along_left : (digest : List ℕ) (s : Stand) (first next : List TwinStep) (image : Content) → MayEndAlong digest s first image → MayEndAlong digest s (first ++ next) image
along_left digest s [] [] image may = may
along_left digest s [] (step ∷ steps) image may = inl may
along_left digest s (step ∷ steps) next image (inl may) = inl may
along_left digest s (step ∷ steps) next image (inr may) = inr (along_left digest step.after.stands.stand steps next image may)

along_right : (told : Bool) (source : Option ℕ) (digest : List ℕ) (s m : TwinMoment) (first next : List TwinStep) (image : Content) → Follow told source s first m → MayEndAlong digest m.stands.stand next image → MayEndAlong digest s.stands.stand (first ++ next) image
along_right told source digest s m [] next image f may = subst (λ (x : TwinMoment). MayEndAlong digest x.stands.stand next image) f may
along_right told source digest s m (step ∷ steps) next image f may = inr (along_right told source digest step.after m steps next image f.2 may)

pub along_here : (told : Bool) (source : Option ℕ) (digest : List ℕ) (s m : TwinMoment) (steps : List TwinStep) (image : Content) → Follow told source s steps m → MayEndIn digest m.stands.stand image → MayEndAlong digest s.stands.stand steps image
along_here told source digest s m [] image f may = subst (λ (x : TwinMoment). MayEndIn digest x.stands.stand image) f may
along_here told source digest s m (step ∷ steps) image f may = inr (along_here told source digest step.after m steps image f.2 may)

while_at : (c : Catalogue) (s : Outgoing) (answer : TwinAnswer) (image : Content) → MayOpenTo c s image → MayOpenWhile c s answer image
while_at c s (posted cover reply) image may = inl may
while_at c s (sent place) image may = may
while_at c s (carried place arrival) image may = may
while_at c s (stopped which) image may = may
while_at c s (answered address reply) image may = may

posts_left : (c : Catalogue) (s : Outgoing) (first next : List TwinStep) (image : Content) → MayOpenAlong c s first image → MayOpenAlong c s (first ++ next) image
posts_left c s [] [] image may = may
posts_left c s [] (step ∷ steps) image may = inl (while_at c s step.answer image may)
posts_left c s (step ∷ steps) next image (inl may) = inl may
posts_left c s (step ∷ steps) next image (inr may) = inr (posts_left c step.after.stands.out steps next image may)

posts_right : (told : Bool) (source : Option ℕ) (c : Catalogue) (s m : TwinMoment) (first next : List TwinStep) (image : Content) → Follow told source s first m → MayOpenAlong c m.stands.out next image → MayOpenAlong c s.stands.out (first ++ next) image
posts_right told source c s m [] next image f may = subst (λ (x : TwinMoment). MayOpenAlong c x.stands.out next image) f may
posts_right told source c s m (step ∷ steps) next image f may = inr (posts_right told source c step.after m steps next image f.2 may)

-- PARTS

-- nothing happened
pub no_part : (c : Catalogue) (source : Option ℕ) (dt mt ot : Bool) (d m o : DiskState) (settled : Type 0) (s : TwinMoment) → TwinPart c source (passage dt d d) (passage mt m m) (passage ot o o) settled settled s s s [] []
no_part c source dt mt ot d m o settled s = record {
  ordered = refl;
  follow = refl;
  more = ([], λ l at. (l, at, refl));
  later = later_itself s;
  goes = λ is. record { later = omega arith; answers = answers_itself (now s.stands.cabinet).book };
  cache_images = λ is. leaves_none d (IsLeftFor c s.stands.cabinet);
  marks_along = λ is. leaves_none m (λ image. MayEndIn c.digest s.stands.stand image ⊎ MayEndIn c.digest s.stands.stand image);
  posts_along = λ is. leaves_none o (MayOpenTo c s.stands.out);
  sound = λ tells is settles sound. inr (settles, sound, tt);
}

all_then : (c : Catalogue) (first next : List TwinStep) → AreTrue c first → AreTrue c next → AreTrue c (first ++ next)
all_then c [] next f g = g
all_then c (step ∷ steps) next f g = (f.0, all_then c steps next f.1 g)

goes_then : (s m t : State) → GoesFurther s m → GoesFurther m t → GoesFurther s t
goes_then s m t f g = record { later = let a = f.later in let b = g.later in omega (arith, a, b); answers = answers_through (now t).book (now m).book (now s).book g.answers f.answers }

module _ (c : Catalogue) (source : Option ℕ) (dt mt ot : Bool) (d d_mid d_now m m_mid m_now o o_mid o_now : DiskState) (P Q R : Type 0) (s mid reached t : TwinMoment) (lines others : List (List ℕ)) (first next : List TwinStep)
    (f : TwinPart c source (passage dt d d_mid) (passage mt m m_mid) (passage ot o o_mid) P Q s mid mid lines first) (g : TwinPart c source (passage dt d_mid d_now) (passage mt m_mid m_now) (passage ot o_mid o_now) Q R mid reached t others next) where
  abbrev told : Bool
  told = dt && (mt && ot)

  abbrev Marks : Content → Type 0
  Marks image = MayEndAlong c.digest s.stands.stand (first ++ next) image ⊎ MayEndIn c.digest t.stands.stand image

  marks_first : (image : Content) → MayEndAlong c.digest s.stands.stand first image ⊎ MayEndIn c.digest mid.stands.stand image → Marks image
  marks_first image (inl may) = inl (along_left c.digest s.stands.stand first next image may)
  marks_first image (inr may) = inl (along_left c.digest s.stands.stand first next image (along_here told source c.digest s mid first image f.follow may))

  marks_next : (image : Content) → MayEndAlong c.digest mid.stands.stand next image ⊎ MayEndIn c.digest t.stands.stand image → Marks image
  marks_next image (inl may) = inl (along_right told source c.digest s mid first next image f.follow may)
  marks_next image (inr may) = inr may

  joined_sound : source ≡ Some c.source → IsTrue dt → P → IsSound s.stands.cabinet → Rose s.faults.cabinet t.faults.cabinet ⊎ (R × IsSound t.stands.cabinet × AreTrue c (first ++ next))
  joined_sound tells is settles sound = elim (f.sound tells is settles sound) [
    | inl rose ↦ inl (let a = g.later.cabinet in rose_after (2 ^ 64 - 1) s.faults.cabinet mid.faults.cabinet t.faults.cabinet rose a)
    | inr holds ↦ elim (g.sound tells is holds.0 holds.1) [
      | inl rose ↦ inl (rose_before (2 ^ 64 - 1) s.faults.cabinet mid.faults.cabinet t.faults.cabinet f.later.cabinet rose)
      | inr then_holds ↦ inr (then_holds.0, then_holds.1, all_then c first next holds.2 then_holds.2)
    ]
  ]

  -- a part behind one that led on
  pub part_then : TwinPart c source (passage dt d d_now) (passage mt m m_now) (passage ot o o_now) P R s reached t (lines ++ others) (first ++ next)
  part_then = record {
    ordered = ordered_then c lines others first next f.ordered g.ordered;
    follow = follow_then told source s mid reached first next f.follow g.follow;
    more = g.more;
    later = later_then s mid t f.later g.later;
    goes = λ is. goes_then s.stands.cabinet mid.stands.cabinet t.stands.cabinet (f.goes is) (g.goes is);
    cache_images = λ is.
        leaves_then d d_mid d_now (IsLeftFor c s.stands.cabinet) (f.cache_images is)
        (leaves_as d_mid d_now (IsLeftFor c mid.stands.cabinet) (IsLeftFor c s.stands.cabinet) (g.cache_images is) (λ image. left_before c s.stands.cabinet mid.stands.cabinet image (f.goes is)));
    marks_along = λ is.
        leaves_then m m_mid m_now Marks
        (leaves_as m m_mid (λ image. MayEndAlong c.digest s.stands.stand first image ⊎ MayEndIn c.digest mid.stands.stand image) Marks (f.marks_along is) marks_first)
        (leaves_as m_mid m_now (λ image. MayEndAlong c.digest mid.stands.stand next image ⊎ MayEndIn c.digest t.stands.stand image) Marks (g.marks_along is) marks_next);
    posts_along = λ is.
        leaves_then o o_mid o_now (MayOpenAlong c s.stands.out (first ++ next))
        (leaves_as o o_mid (MayOpenAlong c s.stands.out first) (MayOpenAlong c s.stands.out (first ++ next)) (f.posts_along is) (posts_left c s.stands.out first next))
        (leaves_as o_mid o_now (MayOpenAlong c mid.stands.out next) (MayOpenAlong c s.stands.out (first ++ next)) (g.posts_along is) (λ image. posts_right told source c s mid first next image f.follow));
    sound = joined_sound;
  }

-- A STOP as a part

pub stop_part : (c : Catalogue) (source : Option ℕ) (d m o : DiskChange) (P Q : Type 0) (which : LinkSide) (s t : TwinMoment) (line : List ℕ) → order_in c line ≡ Some (order.Stop which) → Restarts c source d m o P Q which s t
    → TwinPart c source (passage d.told d.from d.to) (passage m.told m.from m.to) (passage o.told o.from o.to) P Q s t t (line ∷ []) (record { answer = stopped which; after = t } ∷ [])
stop_part c source d m o P Q which s t line reads r = record {
  ordered = ap (λ (x : Option TwinOrder). x ∷ []) reads;
  follow = (r.runs, r.later, refl);
  more = ([], λ l at. (l, at, refl));
  later = r.later;
  goes = r.goes;
  cache_images = r.cache_images;
  marks_along = λ is. leaves_as m.from m.to (MayEndIn c.digest s.stands.stand) (λ image. (MayEndIn c.digest s.stands.stand image ⊎ MayEndIn c.digest t.stands.stand image) ⊎ MayEndIn c.digest t.stands.stand image) (r.marks_images is) (λ image may. inl (inl may));
  posts_along = λ is. leaves_as o.from o.to (MayOpenTo c s.stands.out) (λ image. MayOpenTo c s.stands.out image ⊎ MayOpenTo c t.stands.out image) (r.posts_images is) (λ image may. inl may);
  sound = λ tells is settles sound. inr (r.stays_settled settles, r.still_sound is settles sound, (tt, tt));
}

-- LINES

pub weight_then : (lines others : List (List ℕ)) → weight (lines ++ others) ≡ weight lines + weight others
weight_then [] others = omega arith
weight_then (line ∷ lines) others = let e = weight_then lines others in omega (arith, e)

pub weight_counts : (lines : List (List ℕ)) → length lines ≤ weight lines
weight_counts [] = omega arith
weight_counts (line ∷ lines) = let e = weight_counts lines in omega (arith, e)

weight_onto : (b n : ℕ) (lines : List (List ℕ)) → weight lines ≤ n + 1 → weight (onto_first b lines) ≤ n + 1 + 1
weight_onto b n [] few = omega arith
weight_onto b n (line ∷ lines) few = omega (arith, few)

weight_first : (b : ℕ) (bs : List ℕ) (v : Bool) → weight (lines_of bs) ≤ length bs + 1 → weight (cond v ([] ∷ lines_of bs) (onto_first b (lines_of bs))) ≤ length bs + 1 + 1
weight_first b bs true few = omega (arith, few)
weight_first b bs false few = weight_onto b (length bs) (lines_of bs) few

pub weight_of_text : (text : List ℕ) → weight (lines_of text) ≤ length text + 1
weight_of_text [] = omega arith
weight_of_text (b ∷ bs) = let e = weight_first b bs (b == 10) (weight_of_text bs) in omega (arith, e)

long_onto : (b n : ℕ) (lines : List (List ℕ)) → n ≤ weight lines → n + 1 ≤ weight (onto_first b lines)
long_onto b n [] long = omega (arith, long)
long_onto b n (line ∷ lines) long = omega (arith, long)

long_first : (b : ℕ) (bs : List ℕ) (v : Bool) → length bs ≤ weight (lines_of bs) → length bs + 1 ≤ weight (cond v ([] ∷ lines_of bs) (onto_first b (lines_of bs)))
long_first b bs true long = omega (arith, long)
long_first b bs false long = long_onto b (length bs) (lines_of bs) long

pub text_in_weight : (text : List ℕ) → length text ≤ weight (lines_of text)
text_in_weight [] = omega arith
text_in_weight (b ∷ bs) = let e = long_first b bs (b == 10) (text_in_weight bs) in omega (arith, e)

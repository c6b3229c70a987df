-- A made line is one of a schedule, and its actor may do what it says.
use Rattle.std.proofs.Common.{◌≡◌, ℕ, zero, suc, ◌+◌, ◌*◌, ltb, ◌%◌, ◌^◌, ◌/◌, ◌==◌, ◌<◌, ◌≤◌, not, Bool, true, false, cond, List, [], ◌∷◌, ◌++◌, length, take, drop, Option, Some, None, slice_get, slice_index, get_or, codes, refl, sym, ap, subst, ◌∙◌, arith}
use Rattle.std.specs.List.{AllByRecursion}
use Rattle.std.proofs.Math.Nat.{mod-le}
use Rattle.std.proofs.lemmas.Bool.{le-ltb, ne_eqb}
use Rattle.std.proofs.lemmas.Fmt.{decimal_digit}
use Rattle.std.proofs.lemmas.Option.{none-some, slice_get-get_or}
use Rattle.cabinet.proofs.Lists.{all_got}
use Rattle.catalog.specs.declared.catalogue.Catalogue.{Catalogue}
use Rattle.catalog.specs.declared.grid.Grid.{Grid}
use Rattle.catalog.specs.declared.layer.Layer.{Layer}
use Rattle.catalog.specs.declared.layer.Style.{Style}
use Rattle.catalog.specs.Valid.{IsLayer, IsNamedGrid, IsServed, IsStyle, IsValid}
use Rattle.schedule_text.specs.declared.line.TheConstants.{LINE_LIMIT}
use Rattle.schedule_text.specs.declared.verb.Verb.{Verb}
use Rattle.schedule_text.specs.declared.verb.Verb.TheVariants.{Get, Ask, Force, Step, Truncate, Expire}
use Rattle.schedule_text.specs.Line.{actor_of, digits_len, is_target, verb_of, word}
use Rattle.tile_drill.specs.Drill.{made}
use Rattle.tile_service.specs.Lines.{action_in, action_with, says_nothing}
use Rattle.tile_drill.specs.Made.{Aimed, aimed_at, cols_at, cover_text, drawn, line_of_actor, made_idle, next_x, rows_at, said, target_of}
use Rattle.tile_requests.specs.Requests.{Chance}
use Rattle.tile_service.specs.Run.{Answer, PendingRequest, RunState, if_free, line_done, stepped}
use Rattle.tile_drill.proofs.Plain.{plain_cover, plain_target}

-- LINES

-- the actor does something by the verb, with some rest
abbrev Does : ℕ → Verb → List ℕ → Type 0
Does actor verb line = (rest : List ℕ) × (action_in line ≡ Some (action_with actor verb rest))

does_by : (line text : List ℕ) (actor : ℕ) (verb : Verb) → length line ≤ LINE_LIMIT → says_nothing line ≡ false → digits_len line ≡ 1 → actor_of (take 1 line) ≡ Some actor → slice_index line 1 ≡ 32 → drop 2 line ≡ text
    → verb_of text ≡ Some verb → Does actor verb line
unfolding action_in
does_by line text actor verb short busy count named space rest spelt =
    (drop (1 + 1 + length (word verb)) line, rw (le-ltb _ _ short, busy, count, named, space, rest, spelt) refl)

none_empty : (b : ℕ) (bs : List ℕ) → (length (b ∷ bs) == 0) ≡ false
none_empty b bs = ne_eqb (length (b ∷ bs)) 0 (λ e. omega arith)

speaks_at : (actor : ℕ) (text : List ℕ) (verb : Verb) → actor < 4 → length ((48 + actor) ∷ 32 ∷ text) ≤ LINE_LIMIT → verb_of text ≡ Some verb → Does actor verb ((48 + actor) ∷ 32 ∷ text)
speaks_at zero text verb l short spelt = does_by (48 ∷ 32 ∷ text) text 0 verb short (rw (none_empty 48 (32 ∷ text)) refl) refl refl refl refl spelt
speaks_at (suc zero) text verb l short spelt = does_by (49 ∷ 32 ∷ text) text 1 verb short (rw (none_empty 49 (32 ∷ text)) refl) refl refl refl refl spelt
speaks_at (suc (suc zero)) text verb l short spelt = does_by (50 ∷ 32 ∷ text) text 2 verb short (rw (none_empty 50 (32 ∷ text)) refl) refl refl refl refl spelt
speaks_at (suc (suc (suc zero))) text verb l short spelt = does_by (51 ∷ 32 ∷ text) text 3 verb short (rw (none_empty 51 (32 ∷ text)) refl) refl refl refl refl spelt
speaks_at (suc (suc (suc (suc n)))) text verb l short spelt = absurd (omega (arith, l))

does_said : (actor : ℕ) (text : List ℕ) (verb : Verb) → actor < 4 → length text ≤ 2010 → verb_of text ≡ Some verb → Does actor verb (line_of_actor actor text)
does_said actor text verb l short spelt =
    let few : actor < 10 = omega arith in
    rw (decimal_digit actor few) (speaks_at actor text verb l (omega arith) spelt)

-- WHAT AN IDLE ACTOR SAYS

-- a short text of a verb by which something is sent
record Says (text : List ℕ) : Type 0 where
  verb : Verb
  spelt : verb_of text ≡ Some verb
  sends : verb ≡ Step → ⊥
  short : length text ≤ 2010

asks : (t : List ℕ) → is_target t ≡ true → verb_of (codes "ASK " ++ t) ≡ Some Ask
asks t e = rw e refl

gets : (t : List ℕ) → is_target t ≡ true → verb_of (codes "GET " ++ t) ≡ Some Get
gets t e = rw e refl

forces : (t : List ℕ) → is_target t ≡ true → verb_of (codes "FORCE " ++ t) ≡ Some Force
forces t e = rw e refl

truncates : (t : List ℕ) → not (length t == 0) ≡ true → verb_of (codes "TRUNCATE " ++ t) ≡ Some Truncate
truncates t e = rw e refl

says_either : (b : Bool) (x y : List ℕ) → Says x → Says y → Says (cond b x y)
says_either true x y s t = s
says_either false x y s t = t

module _ (aim : Aimed) (layer : IsLayer aim.layer) (style : IsStyle aim.style) (grid : IsNamedGrid aim.grid) (z row col : ℕ) (matrix : z < 2 ^ 31) (r : row < 2 ^ 31) (c : col < 2 ^ 31) where
  some_target : not (length (target_of aim z row col) == 0) ≡ true
  unfolding target_of
  some_target = ap not (none_empty 47 (drop 1 (target_of aim z row col)))

  some_cover : not (length (cover_text aim z) == 0) ≡ true
  unfolding cover_text
  some_cover = ap not (none_empty 123 (drop 1 (cover_text aim z)))

  is_one : is_target (target_of aim z row col) ≡ true
  is_one = let p = plain_target aim layer style grid z row col r c in rw (some_target, p.spaceless) refl

  says : (t : ℕ) → Says (said aim t z row col)
  unfolding said
  says t =
      let target = target_of aim z row col in
      let cover = cover_text aim z in
      let p = (plain_target aim layer style grid z row col r c).short in
      let q = (plain_cover aim layer style grid z matrix).short in
      let ask : Says (codes "ASK " ++ target) = record { verb = Ask; spelt = asks target is_one; sends = λ e. absurd (cc); short = omega (arith, p) } in
      let get : Says (codes "GET " ++ target) = record { verb = Get; spelt = gets target is_one; sends = λ e. absurd (cc); short = omega (arith, p) } in
      let force : Says (codes "FORCE " ++ target) = record { verb = Force; spelt = forces target is_one; sends = λ e. absurd (cc); short = omega (arith, p) } in
      let expire : Says (codes "EXPIRE") = record { verb = Expire; spelt = refl; sends = λ e. absurd (cc); short = omega arith } in
      let truncate : Says (codes "TRUNCATE " ++ cover) = record { verb = Truncate; spelt = truncates cover some_cover; sends = λ e. absurd (cc); short = omega (arith, q) } in
      says_either (ltb t 10) _ _ ask (says_either (t == 10) _ _ get (says_either (t == 11) _ _ force (says_either (ltb t 14) _ _ expire truncate)))

-- THE AIM

got : {A : Type 0} (P : A → Type 0) (xs : List A) (i : ℕ) → i < length xs → AllByRecursion P xs → (x : A) × (slice_get xs i ≡ Some x) × P x
got P [] i l a = absurd (omega arith)
got P (x ∷ xs) zero l a = (x, refl, a.0)
got P (x ∷ xs) (suc i) l a = got P xs i (omega arith) a.1

-- a valid catalogue has something to ask for
record Aims (c : Catalogue) : Type 0 where
  aim : Aimed
  aimed : aimed_at c ≡ Some aim
  layer : IsLayer aim.layer
  style : IsStyle aim.style
  grid : IsNamedGrid aim.grid

aimed_by : (c : Catalogue) (l : Layer) (s : Style) (n : ℕ) (g : Grid) → slice_get c.layers 0 ≡ Some l → slice_get l.styles 0 ≡ Some s → slice_get l.grids 0 ≡ Some n → slice_get c.grids n ≡ Some g
    → aimed_at c ≡ Some (record { layer = l; style = s; grid = g })
aimed_by c l s n g layer style number grid = rw (layer, style, number, grid) refl

aims : (c : Catalogue) → IsValid c → Aims c
aims c v =
    let l = got IsLayer c.layers 0 (omega (arith, v.layers_least)) v.layers in
    let s = got IsStyle l.0.styles 0 (omega (arith, l.2.styles_least)) l.2.styles in
    let served = all_got (IsServed c.grids) c.layers 0 l.0 v.served l.1 in
    let n = got (λ n. n < length c.grids) l.0.grids 0 (omega (arith, l.2.grids_least)) served.there in
    let g = got IsNamedGrid c.grids n.0 n.2 v.named_grids in
    record { aim = record { layer = l.0; style = s.0; grid = g.0 }; aimed = aimed_by c l.0 s.0 n.0 g.0 l.1 s.1 n.1 g.1; layer = l.2; style = s.2; grid = g.2 }

-- DRAWS

drawn_small : (m x : ℕ) → drawn m x < 2 ^ 31
unfolding drawn next_x
drawn_small m x =
    let l = mod-le ((x * 6364136223846793005 + 1442695040888963407) % 2 ^ 64 / 2 ^ 33) m in
    omega arith

drawn_actor : (x : ℕ) → drawn 4 x < 4
unfolding drawn
drawn_actor x = omega arith

-- NONE IS REFUSED

-- what an idle actor does
idle_does : (c : Catalogue) (a : Aims c) (actor x : ℕ) → actor < 4 → (verb : Verb) × (verb ≡ Step → ⊥) × Does actor verb (made_idle a.aim actor x).line
idle_does c a actor x l =
    let z = drawn (length a.aim.grid.matrices) (next_x x) in
    let row = drawn (rows_at a.aim.grid z) (next_x (next_x x)) in
    let col = drawn (cols_at a.aim.grid z) (next_x (next_x (next_x x))) in
    let s = says a.aim a.layer a.style a.grid z row col (drawn_small _ _) (drawn_small _ _) (drawn_small _ _) (drawn 16 x) in
    (s.verb, s.sends, does_said actor (said a.aim (drawn 16 x) z row col) s.verb l s.short s.spelt)

free_done : (o : Option (Option PendingRequest)) (d : RunState × List Answer) → o ≡ Some None → if_free o d ≡ None → ⊥
free_done o d free e = none-some d (sym e ∙ ap (λ p. if_free p d) free)

sends_done : (w : RunState) (n : ℕ) (c : Chance) (i : ℕ) (verb : Verb) (rest : List ℕ) → (verb ≡ Step → ⊥) → slice_get w.seats i ≡ Some None → line_done w n c (Some (action_with i verb rest)) ≡ None → ⊥
sends_done w n c i Get rest k free e = free_done _ _ free e
sends_done w n c i Ask rest k free e = free_done _ _ free e
sends_done w n c i Force rest k free e = free_done _ _ free e
sends_done w n c i Step rest k free e = k refl
sends_done w n c i Truncate rest k free e = free_done _ _ free e
sends_done w n c i Expire rest k free e = free_done _ _ free e

module _ (w : RunState) (n : ℕ) (c : Chance) (x : ℕ) (refused : line_done w n c (action_in (made w x).line) ≡ None) where
  refused_as : (line : List ℕ) (verb : Verb) (d : Does (drawn 4 x) verb line) → (made w x).line ≡ line → line_done w n c (Some (action_with (drawn 4 x) verb d.0)) ≡ None
  refused_as line verb d e = subst (λ o. line_done w n c o ≡ None) (ap action_in e ∙ d.1) refused

  idle_done : IsValid w.cabinet.catalogue → slice_get w.seats (drawn 4 x) ≡ Some None → ⊥
  idle_done v free =
      let a = aims w.cabinet.catalogue v in
      let d = idle_does w.cabinet.catalogue a (drawn 4 x) (next_x x) (drawn_actor x) in
      let line : (made w x).line ≡ (made_idle a.aim (drawn 4 x) (next_x x)).line = rw (free, a.aimed) refl in
      sends_done w n c (drawn 4 x) d.0 d.2.0 d.1 free (refused_as _ d.0 d.2 line)

  busy_done : (b : PendingRequest) → slice_get w.seats (drawn 4 x) ≡ Some (Some b) → ⊥
  busy_done b busy =
      let d = does_said (drawn 4 x) (codes "STEP") Step (drawn_actor x) (omega arith) refl in
      let line : (made w x).line ≡ line_of_actor (drawn 4 x) (codes "STEP") = rw busy refl in
      none-some _ (sym (refused_as _ Step d line) ∙ ap (λ o. stepped w n c (drawn 4 x) o) busy)

none_refused : (w : RunState) (n : ℕ) (c : Chance) (x : ℕ) → IsValid w.cabinet.catalogue → (seat : Option PendingRequest) → slice_get w.seats (drawn 4 x) ≡ Some seat → line_done w n c (action_in (made w x).line) ≡ None → ⊥
none_refused w n c x v None at e = idle_done w n c x e v at
none_refused w n c x v (Some b) at e = busy_done w n c x e b at

-- in a valid catalogue a made line is never refused
pub never_refused : (w : RunState) (n : ℕ) (c : Chance) (x : ℕ) → IsValid w.cabinet.catalogue → 4 ≤ length w.seats → line_done w n c (action_in (made w x).line) ≡ None → ⊥
never_refused w n c x v l e =
    let i = drawn_actor x in
    none_refused w n c x v (get_or w.seats (drawn 4 x) None) (slice_get-get_or w.seats (drawn 4 x) None (omega arith)) e

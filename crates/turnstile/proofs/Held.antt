-- What seats and passes know after the calls.
use Rattle.std.proofs.Common.{◌≡◌, ◌∙◌, ℕ, ◌+◌, ◌⊎◌, inl, inr, ⊎_elim, max, Bool, true, List, [], ◌∷◌, ◌++◌, All, length, length-append, sym, refl, ap, subst, arith}
use Rattle.std.proofs.lemmas.List.Elements.{All-pop, All-push, Contains-append_cases, Contains-append_left, Contains-append_right, Contains-push_cases}
use Rattle.std.specs.List.{Contains}
use Rattle.std.specs.Prelude.{Option, Some, None, IfSome}
use Rattle.atomic_table.specs.declared.shared.Seat.{Seat}
use Rattle.atomic_table.specs.Table.{Me}
use Rattle.truncation_list.specs.declared.book.FrontedBook.{FrontedBook}
use Rattle.truncation_list.specs.Books.{AnswersForFronted, last_seen}
use Rattle.truncation_list.proofs.Answering.{fronted_through, seen_of_both}
use Rattle.turnstile.specs.declared.view.Known.{Known}
use Rattle.turnstile.specs.declared.view.View.{View}
use Rattle.turnstile.specs.declared.view.Made.{Made}
use Rattle.turnstile.specs.declared.view.TurnStage.TheVariants.{Out}
use Rattle.turnstile.specs.Line.{AreAmong, AreInLine, IsLine}
use Rattle.turnstile.specs.Views.{after_turn, made_of, newcomer, notes, turns_in}
use Rattle.turnstile.specs.Steps.{Found, Gathers, HeardBy}
use Rattle.turnstile.specs.Passes.{Holding, IsReady, Stays, Turned, Unturned, holding_of, known_by, knows, seen_by}
use Rattle.turnstile.proofs.Notes.{in_none}

-- who gathered what two knew, and may find a chest: so may each of them
pub found_mine : {C H : Type 0} (charter : C → H) (sound : C → Type 0) (book : C → FrontedBook) (mine theirs both : Known H) (chest : C) → Gathers mine theirs both → Found charter sound book both chest → Found charter sound book mine chest
found_mine {C} {H} charter sound book mine theirs both chest g f = record {
  charter_is = sym (ap (λ (k : Known H). k.charter) g.is) ∙ f.charter_is;
  is_sound = λ t. f.is_sound (ap (λ (k : Known H). k.told) g.is ∙ t);
  answers = fronted_through _ _ _ f.answers g.answers_mine;
}

pub found_theirs : {C H : Type 0} (charter : C → H) (sound : C → Type 0) (book : C → FrontedBook) (mine theirs both : Known H) (chest : C) → Gathers mine theirs both → Found charter sound book both chest → Found charter sound book theirs chest
found_theirs {C} {H} charter sound book mine theirs both chest g f = record {
  charter_is = g.one_charter ∙ (sym (ap (λ (k : Known H). k.charter) g.is) ∙ f.charter_is);
  is_sound = λ t. f.is_sound (ap (λ (k : Known H). k.told) g.is ∙ (sym g.one_mark ∙ t));
  answers = fronted_through _ _ _ f.answers g.answers_theirs;
}

-- the greatest cut that was seen by one or the other
pub seen_by_both : {H : Type 0} (mine theirs both : Known H) (m n : ℕ) → m ≡ last_seen mine.book.book → n ≡ last_seen theirs.book.book → Gathers mine theirs both → max m n ≡ last_seen both.book.book
seen_by_both mine theirs both m n em en g =
    let k = seen_of_both both.book.book mine.book.book theirs.book.book g.answers_mine.book g.answers_theirs.book (of_books g.which) in
    omega arith
  where
    of_books : (both.book ≡ mine.book) ⊎ (both.book ≡ theirs.book) → (both.book.book ≡ mine.book.book) ⊎ (both.book.book ≡ theirs.book.book)
    of_books (inl e) = inl (ap (λ (b : FrontedBook). b.book) e)
    of_books (inr e) = inr (ap (λ (b : FrontedBook). b.book) e)

-- A TURN

module _ {S C H N : Type 0} where
  -- a seat after a turn: s before it, t with the turn, u after it
  pub record Ended (s u : Seat S (View C H N)) (left : FrontedBook) (gained : List (Made N)) : Type 0 where
    pub ready : IsReady 1 u
    pub seen : (knows u).own.book ≡ left
    pub shows : holding_of u ≡ seen_by (holding_of s) left gained

  pub ended : (s t u : Seat S (View C H N)) (chest : C) (xs : List (ℕ × S)) (left : FrontedBook) (gained : C → List (Made N)) → IsReady 1 s → t.me ≡ (record (knows s) { stage = Out chest }, xs) → t.table_id ≡ s.table_id
      → ((found : C) → (knows t).stage ≡ Out found → u.me ≡ (after_turn (knows t) left (gained found), [])) → u.table_id ≡ t.table_id → Ended s u left (gained chest)
  ended s t u chest xs left gained ready taken same given same' =
      let out : (knows t).stage ≡ Out chest = ap (λ (m : Me S (View C H N)). m.0.stage) taken in
      let after : u.me ≡ (after_turn (knows s) left (gained chest), []) = given chest out ∙ ap (λ (m : Me S (View C H N)). (after_turn m.0 left (gained chest), [])) taken in
      let table : u.table_id ≡ s.table_id = same' ∙ same in
      record {
        ready = record {
          live = ap (λ (m : Me S (View C H N)). m.0.live) after ∙ ready.live;
          parts_is = ap (λ (m : Me S (View C H N)). m.0.parts) after ∙ ready.parts_is;
          idle = ap (λ (m : Me S (View C H N)). m.0.stage) after;
          carries = ap (λ (m : Me S (View C H N)). m.1) after;
        };
        seen = ap (λ (m : Me S (View C H N)). m.0.own.book) after;
        shows = λ i. record { table = table i; charter = (after i).0.own.charter; told = (after i).0.own.told; book = (after i).0.own.book; made = (after i).0.made };
      }

-- a turn changes neither the table, nor the charter, nor the mark
pub stays_by : {S C H N : Type 0} (s u : Seat S (View C H N)) (left : FrontedBook) (gained : List (Made N)) (pass : Holding H N) → holding_of s ≡ pass → holding_of u ≡ seen_by (holding_of s) left gained → Stays pass (holding_of u)
stays_by {S} {C} {H} {N} s u left gained pass is shows = subst (λ (p : Holding H N). Stays p (holding_of u)) is
    record { table = ap (λ (p : Holding H N). p.table) shows; charter = ap (λ (p : Holding H N). p.charter) shows; told = ap (λ (p : Holding H N). p.told) shows }

pub of_some : {A : Type 0} (P : A → Type 0) (o : Option A) (a : A) → o ≡ Some a → IfSome o P → P a
of_some P None a e p = absurd (cc)
of_some P (Some b) a e p = let same : b ≡ a = cc in subst P same p

module _ {C N M R X : Type 0} (book : C → FrontedBook) (shown : C → X) (note : M → R → X → X → N) where
  pub one_note : (found left : C) (command : M) (reply : R) (xs : List M) (ys : List R) → xs ≡ command ∷ [] → ys ≡ reply ∷ [] → notes book shown note found left xs ys ≡ made_of book shown note command reply found left ∷ []
  one_note found left command reply xs ys p q = λ i. notes book shown note found left (p i) (q i)

  pub no_note : (found left : C) (command : M) (xs : List M) (ys : List R) → xs ≡ command ∷ [] → ys ≡ [] → notes book shown note found left xs ys ≡ []
  no_note found left command xs ys p q = λ i. notes book shown note found left (p i) (q i)

module _ {S C H N M R X : Type 0} (charter : C → H) (sound : C → Type 0) (book : C → FrontedBook) (shown : C → X) (note : M → R → X → X → N)
    (may_reply : H → Bool → X → X → M → R → Type 0) (keeps_sound : H → M → Type 0) where
  pub turned_by : (s u : Seat S (View C H N)) (found left : C) (command : M) (reply : R) (pass : Holding H N) → holding_of s ≡ pass
      → (pass.told ≡ true → IfSome pass.charter (λ h. keeps_sound h command))
      → Found charter sound book (knows s).own found → charter left ≡ charter found
      → ((told : Bool) → (told ≡ true → sound found) → may_reply (charter found) told (shown found) (shown left) command reply)
      → AnswersForFronted (book left) (book found) → (keeps_sound (charter found) command → sound found → sound left)
      → holding_of u ≡ seen_by (holding_of s) (book left) (made_of book shown note command reply found left ∷ [])
      → Turned charter sound book shown note may_reply pass (holding_of u) command reply
  turned_by s u found left command reply pass is keeps f same replies answers sound_after shows =
      subst (λ (p : Holding H N). (p.told ≡ true → IfSome p.charter (λ h. keeps_sound h command)) → Turned charter sound book shown note may_reply p (holding_of u) command reply) is
      (λ keeps. record {
        found = found;
        left = left;
        finds = f;
        same_charter = same;
        left_answers = answers;
        left_sound = λ t. sound_after (of_some (λ h. keeps_sound h command) (knows s).own.charter (charter found) f.charter_is (keeps t)) (f.is_sound t);
        replies = replies (knows s).own.told f.is_sound;
        is = shows;
      }) keeps

  pub unturned_by : (as_before : C → C → Type 0) (s u : Seat S (View C H N)) (found left : C) (pass : Holding H N) → holding_of s ≡ pass
      → Found charter sound book (knows s).own found → charter left ≡ charter found
      → as_before found left × (book left ≡ book found)
      → holding_of u ≡ seen_by (holding_of s) (book left) []
      → Unturned charter sound book as_before pass (holding_of u)
  unturned_by as_before s u found left pass is f same before shows =
      subst (λ (p : Holding H N). Unturned charter sound book as_before p (holding_of u)) is
      record {
        found = found;
        left = left;
        finds = f;
        same = before.0;
        same_charter = same;
        same_book = before.1;
        is = shows ∙ ap (λ (b : FrontedBook). seen_by (holding_of s) b []) before.1;
      }

-- PASSES THAT MEET

module _ {S C H N : Type 0} where
  -- a seat that heard a copy of another one's knowledge is ready, and has seen what either had
  pub heard_ready : (a b a1 told a2 : Seat S (View C H N)) (m n : ℕ) → IsReady 1 a → m ≡ last_seen (knows a).own.book.book → n ≡ last_seen (knows b).own.book.book
      → a1.me ≡ a.me → told.me ≡ (newcomer 0 (knows b), []) → a2.me.1 ≡ a1.me.1 → HeardBy (knows a1) (knows told) (knows a2)
      → IsReady 1 a2 × (max m n ≡ last_seen (knows a2).own.book.book)
  heard_ready a b a1 told a2 m n ready em en same copy carries h =
      let v : knows a1 ≡ knows a = ap (λ (z : Me S (View C H N)). z.0) same in
      let w : knows told ≡ newcomer 0 (knows b) = ap (λ (z : Me S (View C H N)). z.0) copy in
      let k : HeardBy (knows a) (newcomer 0 (knows b)) (knows a2) = subst (λ (z : View C H N × View C H N). HeardBy z.0 z.1 (knows a2)) (λ i. (v i, w i)) h in
      let parts : (knows a2).parts ≡ (knows a).parts + 0 = ap (λ (z : View C H N). z.parts) k.is in
      let one = ready.parts_is in
      let both : (knows a2).own ≡ k.both = ap (λ (z : View C H N). z.own) k.is in (
        record {
          live = ap (λ (z : View C H N). z.live) k.is ∙ ready.live;
          parts_is = omega arith;
          idle = ap (λ (z : View C H N). z.stage) k.is ∙ ready.idle;
          carries = carries ∙ (ap (λ (z : Me S (View C H N)). z.1) same ∙ ready.carries);
        },
        seen_by_both (knows a).own (knows b).own k.both m n em en k.gathers ∙ sym (ap (λ (z : Known H). last_seen z.book.book) both),
      )

-- PASSES GATHERED

module _ {S C H N : Type 0} where
  pub heard_more : (s t u : Seat S (View C H N)) → IsReady (knows s).parts s → IsReady 1 t → u.me.1 ≡ s.me.1 → HeardBy (knows s) (knows t) (knows u) → IsReady (knows u).parts u × ((knows u).parts ≡ (knows s).parts + 1)
  heard_more s t u ready one carries h = (
    record {
      live = ap (λ (z : View C H N). z.live) h.is ∙ ready.live;
      parts_is = refl;
      idle = ap (λ (z : View C H N). z.stage) h.is ∙ ready.idle;
      carries = carries ∙ ready.carries;
    },
    ap (λ (z : View C H N). z.parts) h.is ∙ ap (λ (k : ℕ). (knows s).parts + k) one.parts_is,
  )

  -- who heard of a pass, and may find a chest: so may the pass
  pub found_of_pass : (charter : C → H) (sound : C → Type 0) (book : C → FrontedBook) (s t u : Seat S (View C H N)) (pass : Holding H N) (chest : C) → holding_of t ≡ pass → HeardBy (knows s) (knows t) (knows u)
      → Found charter sound book (knows u).own chest → Found charter sound book (known_by pass) chest × Found charter sound book (knows s).own chest
  found_of_pass charter sound book s t u pass chest same h f =
      let both : (knows u).own ≡ h.both = ap (λ (z : View C H N). z.own) h.is in
      let f' : Found charter sound book h.both chest = subst (λ (k : Known H). Found charter sound book k chest) both f in (
        subst (λ (p : Holding H N). Found charter sound book (known_by p) chest) same (found_theirs charter sound book (knows s).own (knows t).own h.both chest h.gathers f'),
        found_mine charter sound book (knows s).own (knows t).own h.both chest h.gathers f',
      )

-- TURNS GATHERED

-- what is in a list is its last thing, or before that
pub last_or_before : {A : Type 0} (xs ys : List A) (a b : A) → xs ≡ ys ++ a ∷ [] → Contains xs b → Contains ys b ⊎ (a ≡ b)
last_or_before xs ys a b e c = Contains-push_cases ys a b (subst (λ zs. Contains zs b) e c)

module _ {S C H N : Type 0} where
  -- a seat tells of the turns of its own pass
  pub tells_own : (s : Seat S (View C H N)) (pass p : Holding H N) → holding_of s ≡ pass → pass ≡ p → AreAmong p.made (turns_in (knows s))
  tells_own s pass p same e m c = Contains-append_left (knows s).made (knows s).gathered m (subst (λ (h : Holding H N). Contains h.made m) (sym (same ∙ e)) c)

  -- a seat that heard another one tells of the turns of both
  pub tells_mine : (s t u : Seat S (View C H N)) → HeardBy (knows s) (knows t) (knows u) → AreAmong (turns_in (knows s)) (turns_in (knows u))
  tells_mine s t u h m c = subst (λ (v : View C H N). Contains (turns_in v) m) (sym h.is)
      (⊎_elim (λ (a : Contains (knows s).made m). Contains-append_left (knows s).made ((knows s).gathered ++ turns_in (knows t)) m a)
      (λ (b : Contains (knows s).gathered m). Contains-append_right (knows s).made ((knows s).gathered ++ turns_in (knows t)) m (Contains-append_left (knows s).gathered (turns_in (knows t)) m b))
      (Contains-append_cases (knows s).made (knows s).gathered m c))

  pub tells_theirs : (s t u : Seat S (View C H N)) → HeardBy (knows s) (knows t) (knows u) → AreAmong (turns_in (knows t)) (turns_in (knows u))
  tells_theirs s t u h m c = subst (λ (v : View C H N). Contains (turns_in v) m) (sym h.is)
      (Contains-append_right (knows s).made ((knows s).gathered ++ turns_in (knows t)) m (Contains-append_right (knows s).gathered (turns_in (knows t)) m c))

  -- one pass fewer waits to be heard
  pub fewer_wait : (s t u : Seat S (View C H N)) (rest left : List (Holding H N)) (pass p : Holding H N) → rest ≡ left ++ pass ∷ [] → holding_of t ≡ pass → HeardBy (knows s) (knows t) (knows u)
      → Contains rest p ⊎ AreAmong p.made (turns_in (knows s)) → Contains left p ⊎ AreAmong p.made (turns_in (knows u))
  fewer_wait s t u rest left pass p e same h (inl waits) = ⊎_elim (λ (w : Contains left p). inl w) (λ (is : pass ≡ p). inr (λ m c. tells_theirs s t u h m (tells_own t pass p same is m c))) (last_or_before rest left pass p e waits)
  fewer_wait s t u rest left pass p e same h (inr told) = inr (λ m c. tells_mine s t u h m (told m c))

  -- the first one is heard, and all others wait
  pub others_wait : (s : Seat S (View C H N)) (all left : List (Holding H N)) (pass p : Holding H N) → all ≡ left ++ pass ∷ [] → holding_of s ≡ pass → Contains all p → Contains left p ⊎ AreAmong p.made (turns_in (knows s))
  others_wait s all left pass p e same c = ⊎_elim (λ (w : Contains left p). inl w) (λ (is : pass ≡ p). inr (tells_own s pass p same is)) (last_or_before all left pass p e c)

  -- none waits any more
  pub none_waits : (s : Seat S (View C H N)) (left : List (Holding H N)) (p : Holding H N) → left ≡ [] → Contains left p ⊎ AreAmong p.made (turns_in (knows s)) → AreAmong p.made (turns_in (knows s))
  none_waits s left p e (inl waits) = absurd (in_none p (subst (λ ps. Contains ps p) e waits))
  none_waits s left p e (inr told) = told

-- the turns that a seat tells of stand in one line, and so do those of passes that are among them
pub line_of : {H N : Type 0} (turns : List (Made N)) (passes : List (Holding H N)) → IsLine turns → ((p : Holding H N) → Contains passes p → AreAmong p.made turns) → AreInLine passes
line_of turns passes line told p q cp cq m n cm cn = line m n (told p cp m cm) (told q cq n cn)

-- LISTS OF PASSES

pub pushed : {A : Type 0} (P : A → Type 0) (xs ys : List A) (a : A) → xs ≡ ys ++ a ∷ [] → All P ys → P a → All P xs
pushed P xs ys a e all last = subst (All P) (sym e) (All-push P ys a all last)

pub popped : {A : Type 0} (P : A → Type 0) (xs ys : List A) (a : A) → xs ≡ ys ++ a ∷ [] → All P xs → All P ys × P a
popped P xs ys a e all = All-pop P xs ys (Some a) e all

pub one_longer : {A : Type 0} (xs ys : List A) (a : A) → xs ≡ ys ++ a ∷ [] → length xs ≡ length ys + 1
one_longer xs ys a e = omega (arith, ap length e, length-append ys (a ∷ []))

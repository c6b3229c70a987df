-- The cabinets that a run passes through.
use Rattle.std.proofs.Common.{◌≡◌, ◌⊎◌, ℕ, zero, suc, List, [], ◌∷◌, ◌++◌, take, inl, inr, refl, sym, ap, subst, ◌∙◌, append_assoc, append-nil}
use Rattle.cabinet.specs.State.{State}
use Rattle.cache_core.specs.Lasting.{Lasting}
use Rattle.http_wire.specs.declared.message.Message.{Message}
use Rattle.tile_requests.specs.Requests.{Chance}
use Rattle.tile_service.specs.Passing.{LeadsThrough, AfterLines, AfterMessages}
use Rattle.tile_service.specs.Run.{RunState, run}
use Rattle.tile_service.specs.Session.{lone, session}

-- KEEPERS

module _ {K : Type 0} (state : K → State) (Outlasts : K → K → Type 0) where
  -- what a crash leaves from one keeper to another
  abbrev pub Lasts : K → K → Type 0
  Lasts a b = Lasting (Outlasts a b) (state a) (state b)

  -- the last keeper was the one between
  pub leads_here : (first then : K) → Lasts first then → Lasts then then → LeadsThrough K state Outlasts first then (state then)
  leads_here first then before itself = record { mid = then; same = refl; before = before; after = itself }

  -- and it went on
  pub leads_on : ((a b c : K) → Lasts a b → Lasts b c → Lasts a c) → (first then later : K) → Lasts then later → (s : State) → LeadsThrough K state Outlasts first then s → LeadsThrough K state Outlasts first later s
  leads_on on first then later next s l = record { mid = l.mid; same = l.same; before = l.before; after = on l.mid then later l.after next }

-- FRONTS OF LISTS

pub take_none : {X : Type 0} (n : ℕ) → take {A = X} n [] ≡ []
take_none zero = refl
take_none (suc n) = refl

-- a front of two lists ends in the first or in the second
pub take_seam : {X : Type 0} (n : ℕ) (xs : List X) (y : X) (ys : List X) → (take n (xs ++ y ∷ ys) ≡ take n xs) ⊎ ((m : ℕ) × (take n (xs ++ y ∷ ys) ≡ xs ++ y ∷ take m ys))
take_seam zero [] y ys = inl refl
take_seam zero (x ∷ xs) y ys = inl refl
take_seam (suc n) [] y ys = inr (n, refl)
take_seam (suc n) (x ∷ xs) y ys = more (take_seam n xs y ys)
  where
    more : (take n (xs ++ y ∷ ys) ≡ take n xs) ⊎ ((m : ℕ) × (take n (xs ++ y ∷ ys) ≡ xs ++ y ∷ take m ys))
        → (x ∷ take n (xs ++ y ∷ ys) ≡ x ∷ take n xs) ⊎ ((m : ℕ) × (x ∷ take n (xs ++ y ∷ ys) ≡ x ∷ (xs ++ y ∷ take m ys)))
    more (inl e) = inl (ap (λ zs. x ∷ zs) e)
    more (inr (m, e)) = inr (m, ap (λ zs. x ∷ zs) e)

-- a front of a list and one thing more
last_seam : {X : Type 0} (n : ℕ) (xs : List X) (y : X) → (take n (xs ++ y ∷ []) ≡ take n xs) ⊎ (take n (xs ++ y ∷ []) ≡ xs ++ y ∷ [])
last_seam n xs y = seam (take_seam n xs y [])
  where
    seam : (take n (xs ++ y ∷ []) ≡ take n xs) ⊎ ((m : ℕ) × (take n (xs ++ y ∷ []) ≡ xs ++ y ∷ take m [])) → (take n (xs ++ y ∷ []) ≡ take n xs) ⊎ (take n (xs ++ y ∷ []) ≡ xs ++ y ∷ [])
    seam (inl e) = inl e
    seam (inr (m, e)) = inr (e ∙ ap (λ zs. xs ++ y ∷ zs) (take_none m))

-- LINES

-- P holds of the cabinet after each number of these lines, whatever chances come behind these
abbrev pub SoFar : (State → Type 0) → RunState → List (List ℕ) → List Chance → Type 0
SoFar P w done made = (n : ℕ) (more : List Chance) → P (run w 1 (take n done) (made ++ more)).world.cabinet

pub passed_none : (P : State → Type 0) (w : RunState) → P w.cabinet → SoFar P w [] []
passed_none P w is n more = subst (λ (ls : List (List ℕ)). P (run w 1 ls more).world.cabinet) (sym (take_none n)) is

-- those are all of the lines
pub passed_all : (P : State → Type 0) (w : RunState) (lines : List (List ℕ)) (made : List Chance) → SoFar P w lines made → AfterLines P w lines made
passed_all P w lines made so n = subst (λ (cs : List Chance). P (run w 1 (take n lines) cs).world.cabinet) (append-nil made) (so n [])

-- one line more, which came to this cabinet
pub passed_next : (P Q : State → Type 0) (w : RunState) (done : List (List ℕ)) (made : List Chance) (line : List ℕ) (c : Chance) (t : State) → SoFar P w done made → ((s : State) → P s → Q s)
    → ((more : List Chance) → (run w 1 (done ++ line ∷ []) ((made ++ c ∷ []) ++ more)).world.cabinet ≡ t) → Q t → SoFar Q w (done ++ line ∷ []) (made ++ c ∷ [])
passed_next P Q w done made line c t so onward there is n more = by (last_seam n done line)
  where
    by : (take n (done ++ line ∷ []) ≡ take n done) ⊎ (take n (done ++ line ∷ []) ≡ done ++ line ∷ []) → Q (run w 1 (take n (done ++ line ∷ [])) ((made ++ c ∷ []) ++ more)).world.cabinet
    by (inl e) =
        let before : Q (run w 1 (take n done) ((made ++ c ∷ []) ++ more)).world.cabinet =
        subst (λ (cs : List Chance). Q (run w 1 (take n done) cs).world.cabinet) (sym (append_assoc made (c ∷ []) more)) (onward _ (so n (c ∷ more))) in
        subst (λ (ls : List (List ℕ)). Q (run w 1 ls ((made ++ c ∷ []) ++ more)).world.cabinet) (sym e) before
    by (inr e) = subst (λ (ls : List (List ℕ)). Q (run w 1 ls ((made ++ c ∷ []) ++ more)).world.cabinet) (sym e) (subst Q (sym (there more)) is)

-- the next line was refused, and the cabinet stayed
pub passed_refused : (P : State → Type 0) (w : RunState) (done : List (List ℕ)) (made : List Chance) (line : List ℕ) (rest : List (List ℕ)) (t : State) → SoFar P w done made
    → ((tail : List (List ℕ)) → (run w 1 (done ++ line ∷ tail) made).world.cabinet ≡ t) → P t → AfterLines P w (done ++ line ∷ rest) made
passed_refused P w done made line rest t so there is n = by (take_seam n done line rest)
  where
    by : (take n (done ++ line ∷ rest) ≡ take n done) ⊎ ((m : ℕ) × (take n (done ++ line ∷ rest) ≡ done ++ line ∷ take m rest)) → P (run w 1 (take n (done ++ line ∷ rest)) made).world.cabinet
    by (inl e) = subst (λ (ls : List (List ℕ)). P (run w 1 ls made).world.cabinet) (sym e) (passed_all P w done made so n)
    by (inr (m, e)) = subst (λ (ls : List (List ℕ)). P (run w 1 ls made).world.cabinet) (sym e) (subst P (sym (there (take m rest))) is)

-- said of something weaker
pub after_weaker : (P Q : State → Type 0) (w : RunState) (lines : List (List ℕ)) (chances : List Chance) → ((s : State) → P s → Q s) → AfterLines P w lines chances → AfterLines Q w lines chances
after_weaker P Q w lines chances onward after n = onward _ (after n)

-- MESSAGES

-- P holds of the cabinet after each number of these messages, whatever chances come behind these
abbrev pub ServedSoFar : (State → Type 0) → List ℕ → State → List Message → List Chance → Type 0
ServedSoFar P document s messages made = (n : ℕ) (more : List Chance) → P (session (lone s document) 1 (take n messages) (made ++ more)).0.cabinet

pub served_none : (P : State → Type 0) (document : List ℕ) (s : State) → P s → ServedSoFar P document s [] []
served_none P document s is n more = subst (λ (ms : List Message). P (session (lone s document) 1 ms more).0.cabinet) (sym (take_none n)) is

-- those are all of the messages
pub served_all : (P : State → Type 0) (document : List ℕ) (s : State) (messages : List Message) (made : List Chance) → ServedSoFar P document s messages made → AfterMessages P document s messages made
served_all P document s messages made so n = subst (λ (cs : List Chance). P (session (lone s document) 1 (take n messages) cs).0.cabinet) (append-nil made) (so n [])

-- one message more, which came to this cabinet
pub served_more : (P Q : State → Type 0) (document : List ℕ) (s : State) (messages : List Message) (made : List Chance) (m : Message) (c : Chance) (t : State) → ServedSoFar P document s messages made → ((u : State) → P u → Q u)
    → ((more : List Chance) → (session (lone s document) 1 (messages ++ m ∷ []) ((made ++ c ∷ []) ++ more)).0.cabinet ≡ t) → Q t → ServedSoFar Q document s (messages ++ m ∷ []) (made ++ c ∷ [])
served_more P Q document s messages made m c t so onward there is n more = by (last_seam n messages m)
  where
    by : (take n (messages ++ m ∷ []) ≡ take n messages) ⊎ (take n (messages ++ m ∷ []) ≡ messages ++ m ∷ []) → Q (session (lone s document) 1 (take n (messages ++ m ∷ [])) ((made ++ c ∷ []) ++ more)).0.cabinet
    by (inl e) =
        let before : Q (session (lone s document) 1 (take n messages) ((made ++ c ∷ []) ++ more)).0.cabinet =
        subst (λ (cs : List Chance). Q (session (lone s document) 1 (take n messages) cs).0.cabinet) (sym (append_assoc made (c ∷ []) more)) (onward _ (so n (c ∷ more))) in
        subst (λ (ms : List Message). Q (session (lone s document) 1 ms ((made ++ c ∷ []) ++ more)).0.cabinet) (sym e) before
    by (inr e) = subst (λ (ms : List Message). Q (session (lone s document) 1 ms ((made ++ c ∷ []) ++ more)).0.cabinet) (sym e) (subst Q (sym (there more)) is)

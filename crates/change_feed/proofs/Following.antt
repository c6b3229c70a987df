-- How bodies that lead to a mark go on.
use Rattle.std.proofs.Common.{◌≡◌, ℕ, zero, suc, ◌+◌, ◌<◌, ◌≤◌, List, [], ◌∷◌, ◌++◌, length, Option, Some, None, refl, sym, ◌∙◌, ap, subst, arith}
use Rattle.cache_file.specs.File.{readied}
use Rattle.gate_journal.specs.Opened.{Opening}
use Rattle.change_feed.specs.declared.mark.Mark.{Mark}
use Rattle.change_feed.specs.Files.{IsAboveZero}
use Rattle.change_feed.specs.Marks.{EndsAt, IsBadAt, IsNext, LeadsTo, last_of, mark_of}

-- one body more
pub leads_on : (first last : Option Mark) (bodies : List (List ℕ)) (body : List ℕ) (next : Mark) → LeadsTo first bodies last → IsNext last body next → LeadsTo first (bodies ++ body ∷ []) (Some next)
leads_on first last [] body next is one = (next, subst (λ (m : Option Mark). IsNext m body next) is one, refl)
leads_on first last (b ∷ bodies) body next leads one = (leads.0, leads.1, leads_on (Some leads.0) last bodies body next leads.2 one)

-- one that is bad
pub bad_there : (first last : Option Mark) (bodies : List (List ℕ)) (body : List ℕ) (slot : ℕ) → slot ≡ length bodies → LeadsTo first bodies last → ((next : Mark) → IsNext last body next → ⊥) → IsBadAt first (bodies ++ body ∷ []) slot
bad_there first last [] body zero is leads bad = λ next one. bad next (subst (λ (m : Option Mark). IsNext m body next) (sym leads) one)
bad_there first last [] body (suc slot) is leads bad = absurd (omega arith)
bad_there first last (b ∷ bodies) body zero is leads bad = absurd (omega arith)
bad_there first last (b ∷ bodies) body (suc slot) is leads bad = (leads.0, leads.1, bad_there (Some leads.0) last bodies body slot (omega arith) leads.2 bad)

-- a bad one stays the first
pub bad_still : (first : Option Mark) (bodies more : List (List ℕ)) (slot : ℕ) → IsBadAt first bodies slot → IsBadAt first (bodies ++ more) slot
bad_still first [] more slot bad = absurd bad
bad_still first (b ∷ bodies) more zero bad = bad
bad_still first (b ∷ bodies) more (suc slot) bad = (bad.0, bad.1, bad_still (Some bad.0) bodies more slot bad.2)

-- what is led to is above 0
pub leads_above : (first last : Option Mark) (bodies : List (List ℕ)) → IsAboveZero first → LeadsTo first bodies last → IsAboveZero last
leads_above first last [] above is = subst IsAboveZero (sym is) above
leads_above first last (b ∷ bodies) above leads = leads_above (Some leads.0) last bodies (omega (arith, leads.1.1)) leads.2

-- a body that spells none, or one that isn't above the last
pub none_next : (last : Option Mark) (body : List ℕ) (found : Option Mark) → found ≡ mark_of body → found ≡ None → (next : Mark) → IsNext last body next → ⊥
none_next last body found is none next one = absurd (omega (arith, one.1, ap last_of (sym none ∙ is ∙ one.0)))

pub low_next : (last : Option Mark) (body : List ℕ) (found : Option Mark) (mark : Mark) → found ≡ mark_of body → found ≡ Some mark → mark.number ≤ last_of last → (next : Mark) → IsNext last body next → ⊥
low_next last body found mark is some low next one = absurd (omega (arith, low, one.1, ap last_of (sym some ∙ is ∙ one.0)))

-- one mark alone
pub single : (mark : Mark) (body : List ℕ) → 0 < mark.number → mark_of body ≡ Some mark → LeadsTo None (body ∷ []) (Some mark)
single mark body above is = (mark, (is, above), refl)

-- the records as they are, or these in their place
pub readied_ends : (room : ℕ) (before : Opening) (bodies : List (List ℕ)) (mark : Option Mark) → EndsAt mark before → LeadsTo None bodies mark → EndsAt mark (readied room before bodies)
readied_ends zero before bodies mark ends leads = leads
readied_ends (suc room) before bodies mark ends leads = ends

-- what is one as an option is one
abbrev or_mark : Mark → Option Mark → Mark
or_mark m None = m
or_mark m (Some n) = n

pub some_mark : (m n : Mark) → Some m ≡ Some n → m ≡ n
some_mark m n is = ap (or_mark m) is

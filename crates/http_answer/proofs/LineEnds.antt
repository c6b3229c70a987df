-- The end of a chunk's data.
use Rattle.std.proofs.Common.{◌≡◌, ℕ, ◌+◌, List, ◌∷◌, ◌++◌, length, drop, get_or, false, ◌&&◌, ◌==◌, refl, sym, ap, ◌∙◌, subst, arith}
use Rattle.std.proofs.lemmas.List.{get_or-drop, get_or-append-add}
use Rattle.std.proofs.lemmas.Bool.{false≢true}

at_end : (bytes : List ℕ) (at size k b : ℕ) (body tail : List ℕ) → length body ≡ size → drop at bytes ≡ body ++ tail → get_or tail k 0 ≡ b → get_or bytes (at + (size + k)) 0 ≡ b
at_end bytes at size k b body tail l h e =
    let P : ℕ → Type 0 = λ n. get_or (body ++ tail) (n + k) 0 ≡ b in
    sym (get_or-drop at bytes (size + k) 0) ∙ ap (λ (s : List ℕ). get_or s (size + k) 0) h ∙ subst P l (get_or-append-add body tail k 0 ∙ e)

-- no CR and LF stand behind so many bytes
pub no_line_end : (bytes : List ℕ) (at size : ℕ) → false ≡ ((get_or bytes (at + size) 0 == 13) && (get_or bytes (at + size + 1) 0 == 10)) → (body next : List ℕ) → length body ≡ size → ¬ (drop at bytes ≡ body ++ (13 ∷ (10 ∷ next)))
no_line_end bytes at size told body next l h =
    let a : get_or bytes (at + size) 0 ≡ 13 = ap (λ (n : ℕ). get_or bytes n 0) (omega arith) ∙ at_end bytes at size 0 13 body (13 ∷ (10 ∷ next)) l h refl in
    let b : get_or bytes (at + size + 1) 0 ≡ 10 = ap (λ (n : ℕ). get_or bytes n 0) (omega arith) ∙ at_end bytes at size 1 10 body (13 ∷ (10 ∷ next)) l h refl in
    false≢true (told ∙ rw (a, b) refl)

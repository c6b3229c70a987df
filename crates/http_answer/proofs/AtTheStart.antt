-- Before the first byte came.
use Rattle.std.proofs.Common.{rules, ◌≡◌, ℕ, List, [], ◌∷◌, ◌++◌, sym, ◌∙◌, arith, inl, refl, append-nil, lit<}
use Rattle.std.specs.Prelude.{None}
use Rattle.httparse.specs.Grammar.{ResponseHead, IsResponseHead, print_response, print_blank, crlf}
use Rattle.httparse.proofs.GrammarLemmas.{print_response-append}
use Rattle.http_answer.specs.Answers.{IsWaiting}

something : (a : List ℕ) (b : ℕ) (more : List ℕ) → [] ≡ a ++ (b ∷ more) → ⊥
something [] b more e = cc
something (x ∷ a) b more e = cc

-- the least head of a 200
abbrev least : ResponseHead
least = record { blank = []; minor = 1; digits = 50 ∷ (48 ∷ (48 ∷ [])); reason = None; line_end = crlf; fields = []; last = crlf }

least_is_head : IsResponseHead least
least_is_head = record { minor = omega arith; digits = (refl, search rules); reason = search rules; fields = search rules }

pub nothing_came : IsWaiting []
nothing_came = inl (
  lit< tt,
  record {
    none = λ h rest x. something (print_blank h.blank) 72 _ (x.1 ∙ print_response-append h rest);
    may_become = (print_response least, least, (least_is_head, sym (append-nil (print_response least))));
  },
)

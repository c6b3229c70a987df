-- Texts that are written part by part: a label, and what stands after it.
use Rattle.std.proofs.Common.{◌≡◌, ℕ, List, ◌++◌, ◌∙◌, append_assoc}

module _ (t u v : List ℕ) (label value : List ℕ) where
  pub glued_first : u ≡ t ++ label ++ value → u ≡ t ++ (label ++ value)
  glued_first e = e ∙ append_assoc t label value

  -- after a part that is written already
  pub glued : (part : List ℕ) → u ≡ t ++ part → v ≡ u ++ label ++ value → v ≡ t ++ (part ++ label ++ value)
  glued part e f = f ∙ rw (e, append_assoc t part label) (append_assoc t (part ++ label) value)

-- the end of it
pub glued_end : (t u v part rest : List ℕ) → u ≡ t ++ part → v ≡ u ++ rest → v ≡ t ++ (part ++ rest)
glued_end t u v part rest e f = f ∙ rw e (append_assoc t part rest)

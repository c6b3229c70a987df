-- The end of a session by its answers.
use Rattle.std.proofs.Common.{◌≡◌, ℕ, List, [], ◌∷◌, ◌++◌, map, Option, inl, inr, refl, ap, ◌∙◌, subst}
use Rattle.std.proofs.lemmas.List.Folds.{flat_map-map}
use Rattle.std.specs.Io.KnownBytes.{Appends}
use Rattle.http_wire.specs.declared.message.Message.{Message}
use Rattle.sessions.specs.declared.session.SessionEnd.{SessionEnd}
use Rattle.sessions.specs.declared.session.SessionEnd.TheVariants.{Closed, Truncated, Bad, ReadFault, WriteFault, TooMany, OutOfMemory}
use Rattle.sessions.specs.Outside.{InputChange, OutputChange}
use Rattle.sessions.specs.Responses.{bad_text}
use Rattle.sessions.specs.SessionEnds.{Ends, IsCutOff, all_of}
use Rattle.tile_service.specs.Replays.{EndsIn, IsCutOffIn, replies}
use Rattle.tile_service.specs.Run.{Answer}
use Rattle.tile_service.specs.Session.{reply_text, responses}

-- THE LAST OF AN IMAGE

first_same : (x y : List ℕ) (xs ys : List (List ℕ)) → x ∷ xs ≡ y ∷ ys → y ≡ x
first_same x y xs ys e = cc

rest_same : (x y : List ℕ) (xs ys : List (List ℕ)) → x ∷ xs ≡ y ∷ ys → xs ≡ ys
rest_same x y xs ys e = cc

module _ (document : List ℕ) where
  abbrev text : Answer → List ℕ
  text a = reply_text document a

  -- what ends with the image of an answer ends with it
  abbrev HasLast : List Answer → List (List ℕ) → List ℕ → Type 0
  HasLast answers before last = (front : List Answer) × (a : Answer) × (answers ≡ front ++ a ∷ []) × (before ≡ map text front) × (last ≡ text a)

  last_of : (before : List (List ℕ)) (last : List ℕ) (answers : List Answer) → map text answers ≡ before ++ last ∷ [] → HasLast answers before last
  last_of [] last [] e = absurd (cc)
  last_of [] last (a ∷ []) e = ([], a, refl, refl, first_same (text a) last [] [] e)
  last_of [] last (a ∷ b ∷ more) e = let none = rest_same (text a) last (map text (b ∷ more)) [] e in absurd (cc)
  last_of (r ∷ before) last [] e = absurd (cc)
  last_of (r ∷ before) last (a ∷ answers) e =
      let same = first_same (text a) r (map text answers) (before ++ last ∷ []) e in
      let k = last_of before last answers (rest_same (text a) r (map text answers) (before ++ last ∷ []) e) in
      (a ∷ k.0, k.1, ap (λ (xs : List Answer). a ∷ xs) k.2, ap (λ (x : List ℕ). x ∷ before) same ∙ ap (λ (xs : List (List ℕ)). text a ∷ xs) k.3, k.4)

  all_sent : (answers : List Answer) → all_of (responses document answers) ≡ replies document answers
  all_sent answers = flat_map-map (λ (r : List ℕ). r) (reply_text document) answers

  -- THE ENDS

  module _ (i : InputChange) (o : OutputChange) (messages : List Message) (answers : List Answer) (held : List ℕ) (rest : Option (List ℕ)) where
    cut_off : (whole part : List ℕ) → IsCutOff messages (responses document answers) held rest whole part → IsCutOffIn document messages answers held rest whole part
    cut_off whole part (inl h) = let k = last_of h.2 part answers h.3 in inl (h.0, h.1, k.0, k.1, k.2, h.4 ∙ ap all_of k.3 ∙ all_sent k.0, k.4)
    cut_off whole part (inr h) = inr (h.0, h.1, h.2, h.3 ∙ all_sent answers, h.4)

    sent : Appends o.from o.to (all_of (responses document answers)) → Appends o.from o.to (replies document answers)
    sent h = subst (λ (bytes : List ℕ). Appends o.from o.to bytes) (all_sent answers) h

    pub ends : (end : SessionEnd) → Ends i o messages (responses document answers) held rest end → EndsIn i o document messages answers held rest end
    ends Closed h = (h.0, sent h.1)
    ends Truncated h = (h.0, h.1, sent h.2)
    ends (Bad status) h = (h.0, h.1, subst (λ (bytes : List ℕ). Appends o.from o.to (bytes ++ bad_text status)) (all_sent answers) h.2)
    ends TooMany h = (h.0, h.1, h.2, h.3, sent h.4)
    ends ReadFault h = (h.0, h.1, h.2, sent h.3)
    ends OutOfMemory h = (h.0, sent h.1)
    ends WriteFault h = (h.0, h.1, cut_off h.0 h.1 h.2, h.3, h.4)

-- What a draft is after a number was written at its end, and how what was written one after the other joins.
use Rattle.std.proofs.Common.{◌≡◌, ℕ, ◌+◌, ◌-◌, ◌≤◌, List, [], ◌++◌, length, take, drop, replicate, sym, ap, ◌∙◌, arith, append_assoc, length-append}
use Rattle.std.proofs.lemmas.List.{append-nil, drop_at, drop-replicate, take_at, take-replicate, length-take-le}

-- the bytes stand where there were zeros
pub filled_on : (body buf bytes : List ℕ) (e w : ℕ) → e + w ≤ 63 → length body ≡ 63 → length bytes ≡ w → body ≡ take e body ++ replicate (63 - e) 0 → buf ≡ bytes ++ drop w (take (63 - e) (drop e body)) → take e body ++ (buf ++ drop (63 - e) (drop e body)) ≡ (take e body ++ bytes) ++ replicate (63 - (e + w)) 0
filled_on body buf bytes e w room size width filled is =
    let front : length (take e body) ≡ e = length-take-le e body (omega (arith, size, room)) in
    let rear : drop e body ≡ replicate (63 - e) 0 = ap (drop e) filled ∙ drop_at (take e body) (replicate (63 - e) 0) e front in
    let middle : drop w (take (63 - e) (drop e body)) ≡ replicate (63 - e - w) 0 = ap (λ (l : List ℕ). drop w (take (63 - e) l)) rear ∙ ap (drop w) (take-replicate (63 - e) (63 - e) 0 (omega arith)) ∙ drop-replicate w (63 - e) 0 in
    let nothing : 63 - e - (63 - e) ≡ 0 = omega arith in
    let end : drop (63 - e) (drop e body) ≡ [] = ap (drop (63 - e)) rear ∙ drop-replicate (63 - e) (63 - e) 0 ∙ ap (λ (n : ℕ). replicate n 0) nothing in
    let left : 63 - e - w ≡ 63 - (e + w) = omega arith in
    let whole : buf ++ drop (63 - e) (drop e body) ≡ bytes ++ replicate (63 - (e + w)) 0 = ap (λ (l : List ℕ). buf ++ l) end ∙ append-nil buf ∙ is ∙ ap (λ (l : List ℕ). bytes ++ l) (middle ∙ ap (λ (n : ℕ). replicate n 0) left) in
    ap (λ (l : List ℕ). take e body ++ l) whole ∙ sym (append_assoc (take e body) bytes (replicate (63 - (e + w)) 0))

-- and are the written bytes with all before them
pub kept_on : (body buf bytes : List ℕ) (e w : ℕ) → e + w ≤ 63 → length body ≡ 63 → length bytes ≡ w → body ≡ take e body ++ replicate (63 - e) 0 → buf ≡ bytes ++ drop w (take (63 - e) (drop e body)) → take e body ++ (buf ++ drop (63 - e) (drop e body)) ≡ take (e + w) (take e body ++ (buf ++ drop (63 - e) (drop e body))) ++ replicate (63 - (e + w)) 0
kept_on body buf bytes e w room size width filled is =
    let whole = filled_on body buf bytes e w room size width filled is in
    let front : length (take e body) ≡ e = length-take-le e body (omega (arith, size, room)) in
    let written : length (take e body ++ bytes) ≡ e + w = length-append (take e body) bytes ∙ omega (arith, front, width) in
    whole ∙ ap (λ (l : List ℕ). l ++ replicate (63 - (e + w)) 0) (sym (ap (take (e + w)) whole ∙ take_at (take e body ++ bytes) (replicate (63 - (e + w)) 0) (e + w) written))

-- five writes
pub five : (d a b c e f r1 r2 r3 r4 r5 : List ℕ) → r1 ≡ d ++ a → r2 ≡ r1 ++ b → r3 ≡ r2 ++ c → r4 ≡ r3 ++ e → r5 ≡ r4 ++ f → r5 ≡ d ++ (a ++ (b ++ (c ++ (e ++ f))))
five d a b c e f r1 r2 r3 r4 r5 e1 e2 e3 e4 e5 =
    e5
    ∙ ap (λ (l : List ℕ). l ++ f) e4
    ∙ append_assoc r3 e f
    ∙ ap (λ (l : List ℕ). l ++ (e ++ f)) e3
    ∙ append_assoc r2 c (e ++ f)
    ∙ ap (λ (l : List ℕ). l ++ (c ++ (e ++ f))) e2
    ∙ append_assoc r1 b (c ++ (e ++ f))
    ∙ ap (λ (l : List ℕ). l ++ (b ++ (c ++ (e ++ f)))) e1
    ∙ append_assoc d a (b ++ (c ++ (e ++ f)))

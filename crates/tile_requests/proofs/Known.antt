-- What is known of bytes after one more write.
use Rattle.std.proofs.Common.{ℕ, ◌<◌, List, [], ◌++◌, length, take, drop, Option, Some, None, Result, IfErr, OnErr, sym, ◌∙◌, append_assoc, append-nil, arith}
use Rattle.std.specs.Bool.{⊤}
use Rattle.std.proofs.lemmas.Result.{IfErr-weaker}
use Rattle.http_wire.specs.declared.sending.Sent.{Sent}
use Rattle.std.proofs.lemmas.List.{length-drop, take-append-drop}
use Rattle.std.specs.Io.KnownBytes.{Appends}
use Rattle.tile_requests.specs.Sent.{AppendsFront}

pub appends_more : (a b c : Option (List ℕ)) (x y : List ℕ) → Appends a b x → Appends b c y → Appends a c (x ++ y)
appends_more None b c x y h k = tt
appends_more (Some xs) None c x y h k = absurd h
appends_more (Some xs) (Some ys) None x y h k = absurd k
appends_more (Some xs) (Some ys) (Some zs) x y h k = k ∙ rw h (append_assoc xs x y)

pub appends_nothing : (o : Option (List ℕ)) → Appends o o []
appends_nothing None = tt
appends_nothing (Some xs) = sym (append-nil xs)

-- the first so many are a front
pub front_taken : (a b : Option (List ℕ)) (x : List ℕ) (n : ℕ) → n < length x → Appends a b (take n x) → AppendsFront a b x
front_taken a b x n l h = record { front = take n x; rest = drop n x; whole = sym (take-append-drop n x); short = let e = length-drop n x in omega arith; grows = h }

-- what a write that failed leaves
pub front_sent : (a b : Option (List ℕ)) (x : List ℕ) (r : Result ⊤ Sent) → IfErr r (λ sent. (sent.0 < length x) × Appends a b (take sent.0 x)) → OnErr r (AppendsFront a b x)
front_sent a b x r h = IfErr-weaker r _ _ (λ sent k. front_taken a b x sent.0 k.0 k.1) h

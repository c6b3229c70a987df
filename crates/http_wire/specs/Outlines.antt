-- What the reader keeps of a head.
use Rattle.std.specs.Prelude.{◌≡◌, ℕ, ◌<◌, ◌≤◌, ◌⊎◌, List, ◌++◌, length, drop, true, false, Some, None, IsSome, Result, Ok, Err}
use Rattle.httparse.specs.Grammar.{RequestHead}
use Rattle.http_wire.specs.Fields.{values, has_named, said_length, content_length, transfer_encoding}
use Rattle.http_wire.specs.Messages.{BeginsWith, body_length, is_coded, is_last, method_of, IsBad}
use Rattle.http_wire.specs.declared.outline.Outline.{Outline}
use Rattle.http_wire.specs.declared.outline.Outlined.{Outlined}
use Rattle.http_wire.specs.declared.outline.Outlined.TheVariants.{Good, Refused}

-- how long the fields say that the body is, or which status refuses them
abbrev pub Judges : List (List ℕ × List ℕ) → Result ℕ ℕ → Type 0
Judges fields (Ok size) = (said_length (values content_length fields) ≡ Some size) × (has_named transfer_encoding fields ≡ false) × (size ≤ 65536)
Judges fields (Err status) =
    ((status ≡ 400) × (said_length (values content_length fields) ≡ None))
    ⊎ ((status ≡ 501) × IsSome (said_length (values content_length fields)) × (has_named transfer_encoding fields ≡ true))
    ⊎ ((status ≡ 413) × ((size : ℕ) × (said_length (values content_length fields) ≡ Some size) × (has_named transfer_encoding fields ≡ false) × (65536 < size)))

-- the bytes begin with a head of this outline
pub record IsOutline (held : List ℕ) (o : Outline) : Type 0 where
  pub head : RequestHead
  pub begins : BeginsWith held head (drop o.start held)
  pub fits : o.start ≤ length held
  pub said : body_length head ≡ Some o.size
  pub plain : is_coded head ≡ false
  pub bounded : o.size ≤ 65536
  pub method : o.method ≡ method_of head.method
  pub target : o.target ≡ head.target
  pub ends : o.last ≡ is_last head

abbrev pub Outlines : List ℕ → Outlined → Type 0
Outlines held (Good o) = IsOutline held o
Outlines held (Refused status) = (more : List ℕ) → IsBad (held ++ more) status

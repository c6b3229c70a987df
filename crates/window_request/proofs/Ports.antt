-- The number that a text writes, and the port.
use Rattle.std.proofs.Common.{◌≡◌, ℕ, List, Bool, ◌&&◌, nat_lt, Some, None, refl, sym}
use Rattle.std.specs.Prelude.{if◌then◌else◌}
use Rattle.window_request.specs.Addresses.{IsNumberOf, port_of}

pub no_number : (text : List ℕ) → IsNumberOf text None → port_of text ≡ None
no_number text h = rw h refl

pub number_is : (text : List ℕ) (n : ℕ) (b : Bool) → IsNumberOf text (Some n) → (nat_lt 0 n && nat_lt n 65536) ≡ b → port_of text ≡ (if b then Some n else None)
number_is text n b h e = rw (h.0, sym h.1, e) refl

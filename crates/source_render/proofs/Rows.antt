-- Values and rows of a picture.
use Rattle.std.proofs.Common.{◌≡◌, ℕ, ◌+◌, ◌*◌, ◌%◌, ap, arith}
use Rattle.std.proofs.Math.Nat.{add-mod-mod, mod-add-mod}

-- a value out of what its row and what its column adds
pub value_of_parts : (shade across down base share : ℕ) → base ≡ (shade + 13 * down) % 256 → share ≡ (17 * across) % 256 → (base + share) % 256 ≡ (shade + 17 * across + 13 * down) % 256
value_of_parts shade across down base share e f =
    let order : shade + 13 * down + 17 * across ≡ shade + 17 * across + 13 * down = omega arith in
    rw (e, f, add-mod-mod ((shade + 13 * down) % 256) (17 * across) 256, mod-add-mod (shade + 13 * down) 256 (17 * across)) (ap (λ (n : ℕ). n % 256) order)

-- The digest of the built-in catalogue is that of a text of no bytes.
use Rattle.std.proofs.Common.{◌≡◌, List, [], ◌∷◌, length, ℕ, refl}
use Rattle.sha2.specs.Sha256.{sha256, digest_bytes, hash_after, compress, rounds, schedule, first_words}
use Rattle.catalog.specs.Demo.{demo}
use Rattle.config_text.specs.Text.{digest_of}

demo_digest : demo.digest ≡ digest_of []
unfolding digest_of sha256 digest_bytes hash_after compress rounds schedule first_words
demo_digest = refl

pub empty_digest : (text : List ℕ) → length text ≡ 0 → demo.digest ≡ digest_of text
empty_digest [] e = demo_digest
empty_digest (b ∷ text) e = absurd cc

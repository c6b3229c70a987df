-- What clap makes of the words of the two options, where each number is read as a value.
use Rattle.std.proofs.Common.{◌≡◌, ℕ, List, [], ◌∷◌, true, false, Some, None, refl, codes}
use Rattle.std.specs.Str.{bytes_eq}
use Rattle.clap.specs.Lexer.{long_of, short_of, without_minus}
use Rattle.clap.specs.Takes.{takes}
use Rattle.clap.specs.ValueTests.{accepts}
use Rattle.clap.specs.Walk.{one_of}
use Rattle.clap.specs.Simple.{matches_of}
use Rattle.clap.proofs.OnLiterals.{clap_on_literals}
use Rattle.command_words.specs.ServeOptions.{numbers_to, serve_app}

-- the word is no flag, and passes as a number
pub record IsValue (most : ℕ) (word : List ℕ) : Type 0 where
  pub no_end : bytes_eq word (45 ∷ 45 ∷ []) ≡ false
  pub no_long : long_of word ≡ None
  pub no_short : short_of word ≡ None
  pub passes : accepts false (numbers_to most) word ≡ true

-- the words are taken, and the options hold these two
pub record Holds (words : List (List ℕ)) (port connections : List ℕ) : Type 0 where
  pub taken : takes serve_app words ≡ true
  pub port_held : one_of (codes "port") (matches_of serve_app words) ≡ Some (without_minus port)
  pub connections_held : one_of (codes "connections") (matches_of serve_app words) ≡ Some (without_minus connections)

module _ (port connections : List ℕ) (p : IsValue 65535 port) (c : IsValue 1000000 connections) where
  pub port_first : Holds (codes "--port" ∷ port ∷ codes "--connections" ∷ connections ∷ []) port connections
  unfolding clap_on_literals
  port_first = record {
    taken = rw (p.no_end, p.no_long, p.no_short, p.passes, c.no_end, c.no_long, c.no_short, c.passes) refl;
    port_held = rw (p.no_end, p.no_long, p.no_short, c.no_end, c.no_long, c.no_short) refl;
    connections_held = rw (p.no_end, p.no_long, p.no_short, c.no_end, c.no_long, c.no_short) refl;
  }

  pub connections_first : Holds (codes "--connections" ∷ connections ∷ codes "--port" ∷ port ∷ []) port connections
  unfolding clap_on_literals
  connections_first = record {
    taken = rw (c.no_end, c.no_long, c.no_short, c.passes, p.no_end, p.no_long, p.no_short, p.passes) refl;
    port_held = rw (c.no_end, c.no_long, c.no_short, p.no_end, p.no_long, p.no_short) refl;
    connections_held = rw (c.no_end, c.no_long, c.no_short, p.no_end, p.no_long, p.no_short) refl;
  }

-- Words of the plain form are UTF-8, and clap takes them.
use Rattle.std.proofs.Common.{◌≡◌, ◌∙◌, ℕ, zero, suc, Bool, true, false, List, [], ◌∷◌, Option, Some, None, refl, sym, ap, subst, arith, codes, nat_lt}
use Rattle.std.specs.Prelude.{All, IsUtf8, bytes_eq, ◌&&◌, if◌then◌else◌, unwrap_or}
use Rattle.std.specs.List.{list_all}
use Rattle.std.specs.Str.{IsAscii}
use Rattle.std.proofs.lemmas.Bool.{ltb-true, and_parts}
use Rattle.std.proofs.lemmas.Slice.Eq.{bytes_eq-Decides}
use Rattle.std.proofs.lemmas.Str.{IsUtf8-from_ascii}
use Rattle.command_words.specs.ServeWords.{plain_number, plain_pairs, plain_words, served}
use Rattle.command_words.specs.declared.server_words.ServeWords.{ServeWords}
use Rattle.command_words.proofs.PlainNumbers.{IsPlainNumber, ascii_digits, number_parts, plain_value}
use Rattle.command_words.proofs.ServeWalk.{Holds, connections_first, port_first}

-- the words of the plain form, by what clap holds of them
pub record IsPlain (words : List (List ℕ)) (w : ServeWords) : Type 0 where
  pub port : List ℕ
  pub connections : List ℕ
  pub holds : Holds words port connections
  pub port_number : IsPlainNumber 65535 port w.port
  pub connections_number : IsPlainNumber 1000000 connections w.connections
  pub texts : All IsUtf8 words

ascii_of : (text : List ℕ) → list_all (λ b. nat_lt b 128) text ≡ true → IsAscii text
ascii_of [] is i = omega arith
ascii_of (b ∷ bs) is zero = ltb-true _ _ (and_parts _ (list_all (λ b. nat_lt b 128) bs) is).0
ascii_of (b ∷ bs) is (suc i) = ascii_of bs (and_parts _ (list_all (λ b. nat_lt b 128) bs) is).1 i

all_four : (a b c d : List ℕ) → IsUtf8 a → IsUtf8 b → IsUtf8 c → IsUtf8 d → All IsUtf8 (a ∷ b ∷ c ∷ d ∷ [])
all_four a b c d ha hb hc hd zero x lt = ha
all_four a b c d ha hb hc hd (suc zero) x lt = hb
all_four a b c d ha hb hc hd (suc (suc zero)) x lt = hc
all_four a b c d ha hb hc hd (suc (suc (suc zero))) x lt = hd
all_four a b c d ha hb hc hd (suc (suc (suc (suc k)))) x lt = absurd (omega arith)

port_word : IsUtf8 (codes "--port")
port_word = IsUtf8-from_ascii (codes "--port") (ascii_of (codes "--port") refl)

connections_word : IsUtf8 (codes "--connections")
connections_word = IsUtf8-from_ascii (codes "--connections") (ascii_of (codes "--connections") refl)

number_word : (most : ℕ) (text : List ℕ) (n : ℕ) → IsPlainNumber most text n → IsUtf8 text
number_word most text n is = IsUtf8-from_ascii text (ascii_digits text is.digits)

-- two numbers in the one order and in the other
both_parts : (port connections : List ℕ) (w : ServeWords) → plain_pairs port connections ≡ Some w
    → IsPlainNumber 65535 port w.port × IsPlainNumber 1000000 connections w.connections
both_parts port connections w is = go (plain_number 65535 port) refl (plain_number 1000000 connections) refl is
  where
    go : (p : Option ℕ) → plain_number 65535 port ≡ p → (c : Option ℕ) → plain_number 1000000 connections ≡ c → served p c ≡ Some w
        → IsPlainNumber 65535 port w.port × IsPlainNumber 1000000 connections w.connections
    go None ep c ec e = cc
    go (Some p) ep None ec e = cc
    go (Some p) ep (Some c) ec e =
        let same : record { port = p; connections = c } ≡ w = ap (λ o. unwrap_or o w) e in (
          number_parts 65535 port w.port (ep ∙ ap (λ (v : ServeWords). Some v.port) same),
          number_parts 1000000 connections w.connections (ec ∙ ap (λ (v : ServeWords). Some v.connections) same),
        )

port_then_connections : (port connections : List ℕ) (w : ServeWords) → plain_pairs port connections ≡ Some w
    → IsPlain (codes "--port" ∷ port ∷ codes "--connections" ∷ connections ∷ []) w
port_then_connections port connections w is =
    let parts = both_parts port connections w is in
    record {
      port = port;
      connections = connections;
      holds = port_first port connections (plain_value 65535 port w.port (omega arith) parts.0) (plain_value 1000000 connections w.connections (omega arith) parts.1);
      port_number = parts.0;
      connections_number = parts.1;
      texts = all_four (codes "--port") port (codes "--connections") connections port_word (number_word 65535 port w.port parts.0) connections_word
          (number_word 1000000 connections w.connections parts.1);
    }

connections_then_port : (port connections : List ℕ) (w : ServeWords) → plain_pairs port connections ≡ Some w
    → IsPlain (codes "--connections" ∷ connections ∷ codes "--port" ∷ port ∷ []) w
connections_then_port port connections w is =
    let parts = both_parts port connections w is in
    record {
      port = port;
      connections = connections;
      holds = connections_first port connections (plain_value 65535 port w.port (omega arith) parts.0) (plain_value 1000000 connections w.connections (omega arith) parts.1);
      port_number = parts.0;
      connections_number = parts.1;
      texts = all_four (codes "--connections") connections (codes "--port") port connections_word (number_word 1000000 connections w.connections parts.1) port_word
          (number_word 65535 port w.port parts.0);
    }

pub plain_parts : (words : List (List ℕ)) (w : ServeWords) → plain_words words ≡ Some w → IsPlain words w
plain_parts [] w is = cc
plain_parts (a ∷ []) w is = cc
plain_parts (a ∷ b ∷ []) w is = cc
plain_parts (a ∷ b ∷ c ∷ []) w is = cc
plain_parts (a ∷ b ∷ c ∷ d ∷ e ∷ rest) w is = cc
plain_parts (a ∷ b ∷ c ∷ d ∷ []) w is =
    go (bytes_eq a (codes "--port") && bytes_eq c (codes "--connections")) refl (bytes_eq a (codes "--connections") && bytes_eq c (codes "--port")) refl is
  where
    named : (x y : List ℕ) → (bytes_eq a x && bytes_eq c y) ≡ true → IsPlain (x ∷ b ∷ y ∷ d ∷ []) w → IsPlain (a ∷ b ∷ c ∷ d ∷ []) w
    named x y test h =
        let parts = and_parts _ _ test in
        let first : a ≡ x = (bytes_eq-Decides a x).0 parts.0 in
        let second : c ≡ y = (bytes_eq-Decides c y).0 parts.1 in
        subst (λ (ws : List (List ℕ)). IsPlain ws w) (sym (ap (λ t. t ∷ b ∷ c ∷ d ∷ []) first ∙ ap (λ t. x ∷ b ∷ t ∷ d ∷ []) second)) h

    go : (s : Bool) → (bytes_eq a (codes "--port") && bytes_eq c (codes "--connections")) ≡ s
        → (t : Bool) → (bytes_eq a (codes "--connections") && bytes_eq c (codes "--port")) ≡ t
        → (if s then plain_pairs b d else if t then plain_pairs d b else None) ≡ Some w → IsPlain (a ∷ b ∷ c ∷ d ∷ []) w
    go true es t et e = named (codes "--port") (codes "--connections") es (port_then_connections b d w e)
    go false es true et e = named (codes "--connections") (codes "--port") et (connections_then_port d b w e)
    go false es false et e = cc

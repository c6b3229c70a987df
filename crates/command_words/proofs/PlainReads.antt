-- What words of the plain form come to.
use Rattle.std.proofs.Common.{◌≡◌, ◌∙◌, ℕ, List, Option, Some, None, Result, Ok, Err, refl, sym, ap, ap₂, codes, inl, inr, true}
use Rattle.std.specs.Prelude.{All, IfSome, IsUtf8, unwrap_or, ◌⊎◌}
use Rattle.std.specs.Str.Parse.{digits_value, without_leading_plus}
use Rattle.clap.specs.Matches.{found_of, one_text}
use Rattle.clap.specs.Simple.{App, HasMatchesOf, is_simple, matches_of}
use Rattle.clap.specs.Takes.{takes}
use Rattle.clap.specs.Values.{kind_of}
use Rattle.clap.specs.Walk.{one_of, rows_of}
use Rattle.clap.specs.declared.error.Error.{Error}
use Rattle.clap.specs.declared.error.kind.ErrorKind.TheVariants as kind
use Rattle.clap.specs.declared.parser.matches.ArgMatches.{ArgMatches}
use Rattle.clap.proofs.WalkLemmas.{one_text-rows}
use Rattle.command_words.specs.ServeOptions.{IsGiven, serve_app}
use Rattle.command_words.specs.ServeWords.{plain_words}
use Rattle.command_words.specs.declared.server_words.ServeFault.{ServeFault}
use Rattle.command_words.specs.declared.server_words.ServeFault.TheVariants.{Usage, OutOfMemory}
use Rattle.command_words.specs.declared.server_words.ServeWords.{ServeWords}
use Rattle.command_words.proofs.PlainNumbers.{IsPlainNumber, signless}
use Rattle.command_words.proofs.PlainWords.{IsPlain, plain_parts}

-- the words give these numbers, or memory ran out
abbrev pub Gives : Result ServeWords ServeFault → ServeWords → Type 0
Gives r w = (r ≡ Ok w) ⊎ (r ≡ Err OutOfMemory)

pub plain_from : (words : List (List ℕ)) (r : Result ServeWords ServeFault) → ((w : ServeWords) → IsPlain words w → Gives r w) → IfSome (plain_words words) (Gives r)
plain_from words r gives = go (plain_words words) refl
  where
    go : (o : Option ServeWords) → plain_words words ≡ o → IfSome o (Gives r)
    go None e = tt
    go (Some w) e = gives w (plain_parts words w e)

no_usage : (r : Result ServeWords ServeFault) (w : ServeWords) → Gives r w → r ≡ Err Usage → ⊥
no_usage r w (inl given) usage = cc
no_usage r w (inr memory) usage = cc

pub usage_from : (words : List (List ℕ)) (r : Result ServeWords ServeFault) → ((w : ServeWords) → IsPlain words w → Gives r w) → r ≡ Err Usage → plain_words words ≡ None
usage_from words r gives usage = go (plain_words words) refl
  where
    go : (o : Option ServeWords) → plain_words words ≡ o → o ≡ None
    go None e = refl
    go (Some w) e = absurd (no_usage r w (gives w (plain_parts words w e)) usage)

-- an option holds a plain number, and that number is given
same_number : (m : ArgMatches) (name text : List ℕ) (most n k : ℕ) → one_text (found_of m) name ≡ Some text → IsPlainNumber most text k → IsGiven m name most n → n ≡ k
same_number m name text most n k held is given =
    let same : given.text ≡ text = ap (λ o. unwrap_or o text) (sym given.held ∙ held) in
    sym given.value ∙ ap (λ t. digits_value 10 (without_leading_plus t)) same ∙ ap (digits_value 10) (signless text is.some is.digits).1 ∙ is.value

-- words that are no texts
pub unread_plain : (words : List (List ℕ)) (r : Result ServeWords ServeFault) (fault : ServeFault) → r ≡ Err fault → (fault ≡ Usage → All IsUtf8 words → ⊥)
    → (w : ServeWords) → IsPlain words w → Gives r w
unread_plain words r Usage e not_texts w is = absurd (not_texts refl is.texts)
unread_plain words r OutOfMemory e not_texts w is = inr e

module _ (app : App) (texts words : List (List ℕ)) (app_is : app ≡ serve_app) (texts_are : texts ≡ words) where
  -- what clap holds of the words is what is read
  pub read_plain : (m : ArgMatches) (n : ServeWords) → HasMatchesOf app texts m
      → IsGiven m (codes "port") 65535 n.port → IsGiven m (codes "connections") 1000000 n.connections → (w : ServeWords) → IsPlain words w → Gives (Ok n) w
  read_plain m n matches port connections w is =
      let simple : is_simple app ≡ true = rw app_is refl in
      let rows : rows_of (found_of m) ≡ matches_of serve_app words = (matches simple).0 ∙ ap₂ matches_of app_is texts_are in
      let port_held : one_text (found_of m) (codes "port") ≡ Some is.port =
      one_text-rows (found_of m) (codes "port") ∙ ap (one_of (codes "port")) rows ∙ is.holds.port_held ∙ ap (λ t. Some t) (signless is.port is.port_number.some is.port_number.digits).0 in
      let connections_held : one_text (found_of m) (codes "connections") ≡ Some is.connections =
      one_text-rows (found_of m) (codes "connections") ∙ ap (one_of (codes "connections")) rows ∙ is.holds.connections_held
      ∙ ap (λ t. Some t) (signless is.connections is.connections_number.some is.connections_number.digits).0 in
      let same_port = same_number m (codes "port") is.port 65535 n.port w.port port_held is.port_number port in
      let same_connections = same_number m (codes "connections") is.connections 1000000 n.connections w.connections connections_held is.connections_number connections in
      inl (λ i. Ok (record { port = same_port i; connections = same_connections i }))

  -- clap refuses the words only where memory runs out
  pub refused_plain : (e : Error) (fault : ServeFault) → (takes app texts ≡ true → kind_of e ≡ kind.OutOfMemory) → (kind_of e ≡ kind.OutOfMemory → fault ≡ OutOfMemory)
      → (w : ServeWords) → IsPlain words w → Gives (Err fault) w
  refused_plain e fault passes told w is = inr (ap (λ (f : ServeFault). Err f) (told (passes (ap₂ takes app_is texts_are ∙ is.holds.taken))))

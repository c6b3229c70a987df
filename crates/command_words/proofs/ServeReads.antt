-- A parse by the two options gives a number of each.
use Rattle.std.proofs.Common.{◌≡◌, ◌∙◌, ℕ, zero, suc, ◌<◌, ◌≤◌, Bool, true, false, List, [], ◌∷◌, ◌++◌, Some, refl, sym, ap, ap₂, subst, arith, codes, inl, inr}
use Rattle.std.specs.Prelude.{All, length, slice_index, slice_index_or, pos}
use Rattle.std.proofs.lemmas.List.Elements.{All-nil}
use Rattle.std.proofs.lemmas.Int.{ints}
use Rattle.std.proofs.lemmas.Slice.Eq.{bytes_eq-Decides}
use Rattle.std.specs.Str.Parse.{IsNumeral, digits_value, starts_with_minus, without_leading_plus}
use Rattle.clap.specs.Built.{AddsArg, HasDistinctIds, IsParsedFrom, IsPlain, IsPlainArg, SameRules}
use Rattle.clap.specs.Facts.{args_of, groups_of}
use Rattle.clap.specs.Lexer.{without_minus}
use Rattle.clap.specs.Matches.{found_of, one_text}
use Rattle.clap.specs.Simple.{app_of, app_of_fields, new_app, on_top, with_rule}
use Rattle.clap.specs.Values.{IsSignedIn}
use Rattle.clap.specs.Walk.{Rule}
use Rattle.clap.specs.declared.builder.action.ArgAction.TheVariants.{Set}
use Rattle.clap.specs.declared.builder.arg.Arg.{Arg}
use Rattle.clap.specs.declared.builder.command.Command.{Command}
use Rattle.clap.specs.declared.builder.command.Command.TheViews.{out-Command}
use Rattle.clap.specs.declared.parser.matches.ArgMatches.{ArgMatches}
use Rattle.clap.proofs.CallerLemmas.{added_plain}
use Rattle.clap.proofs.CallerReads.{required_reads}
use Rattle.command_words.specs.ServeOptions.{IsGiven, IsNumberOption, IsServeCommand, from_first_word, numbers_to, serve_app}

without_hyphen : (text : List ℕ) → starts_with_minus text ≡ false → without_minus text ≡ text
without_hyphen [] e = refl
without_hyphen (x ∷ xs) e = rw e refl

-- a text that passed has no hyphen, and its digits write a number in the range
passed : (most : ℕ) (text : List ℕ) → IsSignedIn (pos 1) (pos most) text
    → (without_minus text ≡ text) × IsNumeral 10 (without_leading_plus text) × (1 ≤ digits_value 10 (without_leading_plus text)) × (digits_value 10 (without_leading_plus text) ≤ most)
passed most text is = go (starts_with_minus text) refl
  where
    go : (b : Bool) → starts_with_minus text ≡ b
        → (without_minus text ≡ text) × IsNumeral 10 (without_leading_plus text) × (1 ≤ digits_value 10 (without_leading_plus text)) × (digits_value 10 (without_leading_plus text) ≤ most)
    go true e =
        let low = rw e at is.2 in
        absurd (omega (arith, ints))
    go false e =
        let low = rw e at is.2 in
        let high = rw e at is.3 in
        (without_hyphen text e, rw e at is.0, omega (arith, ints), omega (arith, ints))

-- an argument of the command that keeps the rules of such an option is given a number
given : (c : Command) (m : ArgMatches) → IsParsedFrom c m → IsPlain c → (out-Command c).has_globals ≡ false → (out-Command c).subcommand_negates_reqs ≡ false
    → HasDistinctIds (args_of c) → (k : ℕ) (a : Arg) (name : List ℕ) (most : ℕ) → IsNumberOption name most a → k < length (args_of c)
    → SameRules a (slice_index_or (args_of c) k a) → (name ≡ [] → ⊥) → (name ≡ codes "help" → ⊥) → (name ≡ codes "version" → ⊥)
    → (n : ℕ) × IsGiven m name most n
given c m parse plain globals negates distinct k a name most is lt same some no_help no_version =
    let b = slice_index_or (args_of c) k a in
    let id : b.id.now ≡ name = ap (λ x. x.now) same.id ∙ ap (λ (r : Rule). r.id) is.rule in
    let required : b.required ≡ true = same.required ∙ ap (λ (r : Rule). r.required) is.rule in
    let action : a.action ≡ Some Set = ap (λ (r : Rule). r.action) is.rule in
    let parser : a.value_parser ≡ Some (numbers_to most) = ap (λ (r : Rule). r.parser) is.rule in
    let read = required_reads c m parse plain globals negates k a lt required (same.action Set action) (same.val_delim ∙ is.whole) (same.least action is.least)
    (λ j e low eq. distinct j k a e low lt eq) (λ e. some (sym id ∙ e))
    (λ auto. elim auto [ inl h ↦ no_help (sym id ∙ h) | inr h ↦ no_version (sym id ∙ h) ])
    (numbers_to most) (same.parser (numbers_to most) parser) in
    let range = passed most read.0 read.2 in (
      digits_value 10 (without_leading_plus read.0),
      record {
        text = read.0;
        held = subst (λ (w : List ℕ). one_text (found_of m) w ≡ Some read.0) id (read.1 ∙ ap (λ (t : List ℕ). Some t) range.0);
        digits = range.1;
        value = refl;
        at_least = range.2;
        at_most = range.3;
      },
    )

-- two arguments of different ids
two_distinct : (x y : Arg) → (x.id.now ≡ y.id.now → ⊥) → HasDistinctIds (x ∷ y ∷ [])
two_distinct x y ne zero zero d e low high same = refl
two_distinct x y ne zero (suc zero) d e low high same = absurd (ne ((bytes_eq-Decides x.id.now y.id.now).0 same))
two_distinct x y ne (suc zero) zero d e low high same = absurd (ne (sym ((bytes_eq-Decides y.id.now x.id.now).0 same)))
two_distinct x y ne (suc zero) (suc zero) d e low high same = refl
two_distinct x y ne (suc (suc j)) k d e low high same = absurd (omega arith)
two_distinct x y ne zero (suc (suc k)) d e low high same = absurd (omega arith)
two_distinct x y ne (suc zero) (suc (suc k)) d e low high same = absurd (omega arith)

-- texts of different first bytes are two
apart : (x y : ℕ) (xs ys : List ℕ) → x < y → x ∷ xs ≡ y ∷ ys → ⊥
apart x y xs ys lt e = omega (arith, ap (λ (t : List ℕ). slice_index t 0) e)

module _ (fresh start middle c : Command) (fresh_is : app_of fresh ≡ new_app (codes "serve")) (empty : args_of fresh ≡ []) (no_groups : groups_of fresh ≡ [])
    (local : (out-Command fresh).has_globals ≡ false) (asks : (out-Command fresh).subcommand_negates_reqs ≡ false)
    (start_is : out-Command start ≡ record (out-Command fresh) { no_binary_name = true })
    (port connections : Arg) (port_is : IsNumberOption (codes "port") 65535 port) (connections_is : IsNumberOption (codes "connections") 1000000 connections)
    (one : AddsArg start port middle) (two : AddsArg middle connections c) where
  list : args_of c ≡ one.arg ∷ two.arg ∷ []
  list = two.args ∙ ap (λ xs. xs ++ two.arg ∷ []) (one.args ∙ ap (λ xs. xs ++ one.arg ∷ []) (ap (λ f. f.args.items) start_is ∙ empty))

  plain : IsPlain c
  plain =
      let from : IsPlain start = (subst (All IsPlainArg) (sym (ap (λ f. f.args.items) start_is ∙ empty)) (All-nil IsPlainArg), ap (λ f. f.groups.items) start_is ∙ no_groups) in
      added_plain middle c connections two (added_plain start middle port one from port_is.plain) connections_is.plain

  globals : (out-Command c).has_globals ≡ false
  globals = rw (two.globals, one.globals, start_is, local, port_is.local, connections_is.local) refl

  negates : (out-Command c).subcommand_negates_reqs ≡ false
  negates = rw (two.negates, one.negates, start_is) asks

  ids_differ : one.arg.id.now ≡ two.arg.id.now → ⊥
  ids_differ e =
      let p : one.arg.id.now ≡ codes "port" = ap (λ x. x.now) one.rules.id ∙ ap (λ (r : Rule). r.id) port_is.rule in
      let q : two.arg.id.now ≡ codes "connections" = ap (λ x. x.now) two.rules.id ∙ ap (λ (r : Rule). r.id) connections_is.rule in
      apart 99 112 _ _ (omega arith) (sym q ∙ (sym e ∙ p))

  distinct : HasDistinctIds (args_of c)
  distinct = subst HasDistinctIds (sym list) (two_distinct one.arg two.arg ids_differ)

  app : app_of c ≡ serve_app
  app =
      let start_app = ap app_of_fields start_is ∙ ap (on_top from_first_word) fresh_is in
      two.shape connections_is.local ∙ ap₂ with_rule (one.shape port_is.local ∙ ap₂ with_rule start_app port_is.rule) connections_is.rule

  pub is_serve_command : IsServeCommand c
  is_serve_command = record {
    app = app;
    gives = λ m parse.
        let first = given c m parse plain globals negates distinct 0 port (codes "port") 65535 port_is (rw list (omega arith)) (rw list one.rules)
        (λ e. cc) (λ e. apart 104 112 _ _ (omega arith) (sym e)) (λ e. apart 112 118 _ _ (omega arith) e) in
        let second = given c m parse plain globals negates distinct 1 connections (codes "connections") 1000000 connections_is (rw list (omega arith)) (rw list two.rules)
        (λ e. cc) (λ e. apart 99 104 _ _ (omega arith) e) (λ e. apart 99 118 _ _ (omega arith) e) in
        record { port = first.0; connections = second.0; port_given = first.1; connections_given = second.1 };
  }

-- The options that the words after `serve` are read by, and what they give.
use Rattle.std.specs.Prelude.{◌≡◌, ◌≤◌, ℕ, List, pos, true, false, Some, None, codes}
use Rattle.std.specs.Str.Parse.{IsNumeral, digits_value, without_leading_plus}
use Rattle.clap.specs.Built.{IsParsedFrom, IsPlainArg}
use Rattle.clap.specs.Facts.{least_values}
use Rattle.clap.specs.Matches.{found_of, one_text}
use Rattle.clap.specs.Walk.{Rule, rule_of}
use Rattle.clap.specs.Simple.{App, Shape, app_of, new_app, new_rule, on_top, with_rule}
use Rattle.clap.specs.declared.builder.action.ArgAction.TheVariants.{Set}
use Rattle.clap.specs.declared.builder.arg.Arg.{Arg}
use Rattle.clap.specs.declared.builder.command.Command.{Command}
use Rattle.clap.specs.declared.builder.value_parser.ValueParser.{ValueParser}
use Rattle.clap.specs.declared.builder.value_parser.ValueParser.TheVariants.{Signed}
use Rattle.clap.specs.declared.parser.matches.ArgMatches.{ArgMatches}

-- THE OPTIONS

-- the numbers of 1 up to the most
abbrev pub numbers_to : ℕ → ValueParser
numbers_to most = Signed (pos 1) (pos most)

-- a required option with one such number
abbrev pub option_rule : List ℕ → ℕ → Rule
option_rule name most =
    record (new_rule name) { long = Some name; action = Some Set; parser = Some (numbers_to most); required = true }

abbrev pub from_first_word : Shape → Shape
from_first_word s = record s { no_binary_name = true }

abbrev pub serve_app : App
serve_app =
    with_rule (with_rule (on_top from_first_word (new_app (codes "serve"))) (option_rule (codes "port") 65535))
    (option_rule (codes "connections") 1000000)

-- WHAT THEY GIVE

-- the option was given this number, of 1 up to the most; a plus may stand before its digits
pub record IsGiven (m : ArgMatches) (name : List ℕ) (most n : ℕ) : Type 0 where
  pub text : List ℕ
  pub held : one_text (found_of m) name ≡ Some text
  pub digits : IsNumeral 10 (without_leading_plus text)
  pub value : digits_value 10 (without_leading_plus text) ≡ n
  pub at_least : 1 ≤ n
  pub at_most : n ≤ most

pub record GivesBoth (m : ArgMatches) : Type 0 where
  pub port : ℕ
  pub connections : ℕ
  pub port_given : IsGiven m (codes "port") 65535 port
  pub connections_given : IsGiven m (codes "connections") 1000000 connections

-- the command has the two options, and a parse gives both
pub record IsServeCommand (c : Command) : Type 0 where
  pub app : app_of c ≡ serve_app
  pub gives : (m : ArgMatches) → IsParsedFrom c m → GivesBoth m

-- a required option that takes one value and excludes nothing
pub record IsNumberOption (name : List ℕ) (most : ℕ) (a : Arg) : Type 0 where
  pub rule : rule_of a ≡ option_rule name most
  pub plain : IsPlainArg a
  pub local : a.global ≡ false
  pub whole : a.val_delim ≡ None
  pub least : 1 ≤ least_values a

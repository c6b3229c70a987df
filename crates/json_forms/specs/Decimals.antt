-- Decimal numbers as texts.
use Rattle.std.specs.Prelude.{Option, Some, None, option_and_then, Result, Ok, Err}
use Rattle.exact_ratio.specs.Decimal.{decimal_of}
use Rattle.exact_ratio.specs.Values.{Scaled}
use Rattle.exact_ratio.specs.declared.decimal.DecimalFault.{DecimalFault}
use Rattle.exact_ratio.specs.declared.decimal.DecimalFault.TheVariants.{Empty, NotADigit, TooLong}
use Rattle.serde_json.specs.Data.{Data}
use Rattle.serde_json.specs.Find.{as_str}
use Rattle.json_forms.specs.declared.decimal.DecimalText.{DecimalText}
use Rattle.json_forms.specs.declared.decimal.DecimalText.TheVariants as texts

-- the form is met, however long the text is
abbrev pub text_of : Result Scaled DecimalFault → Option DecimalText
text_of (Ok x) = Some (texts.Number x)
text_of (Err TooLong) = Some texts.TooLong
text_of (Err Empty) = None
text_of (Err (NotADigit place)) = None

-- the decimal number that a value is as a text
abbrev pub decimal_text : Data → Option DecimalText
decimal_text d = option_and_then (λ text. text_of (decimal_of text)) (as_str d)

-- What the rows' results stand for, as the code holds them.
use Rattle.std.specs.Prelude.{ℕ, List, Result, Ok, Err}
use Rattle.std.specs.Borrow.{Bor}
use Rattle.std.specs.Str.Parse.{digits_value}
use Rattle.exception_report.specs.declared.code.Locator.TheVariants.{At}
use Rattle.wmts_kvp.specs.declared.end.ReadingEnd.{ReadingEnd}
use Rattle.wmts_kvp.specs.declared.end.ReadingEnd.TheVariants.{Document, Refusal}
use Rattle.wmts_kvp.specs.declared.query.Query.{Query}
use Rattle.wmts_kvp.specs.declared.query.Query.TheVariants.{Capabilities, Refused}
use Rattle.wmts_kvp.specs.Rows.{Row}

abbrev pub query_of : ReadingEnd → Query
query_of Document = Capabilities
query_of (Refusal code locator) = Refused code (At locator.now)

abbrev pub row_of : {A : Type 0} → Result A ReadingEnd → Row A
row_of (Ok x) = Ok x
row_of (Err end) = Err (query_of end)

-- a row that gives a text
abbrev pub text_row : Result (Bor (List ℕ)) ReadingEnd → Row (List ℕ)
text_row (Ok text) = Ok text.now
text_row (Err end) = Err (query_of end)

-- a row that gives the number of its digits
abbrev pub number_row : Result (Bor (List ℕ)) ReadingEnd → Row ℕ
number_row (Ok digits) = Ok (digits_value 10 digits.now)
number_row (Err end) = Err (query_of end)

-- The exception report of OGC 06-121r3, section 8, in version 1.1.0.
use Rattle.std.specs.Prelude.{ℕ, ◌&&◌, ◌||◌, ◌==◌, nat_lt, Bool, false, List, [], ◌∷◌, ◌++◌, codes, if◌then◌else◌}
use Rattle.exception_report.specs.declared.code.Code.{Code}
use Rattle.exception_report.specs.declared.code.Code.TheVariants.{OperationNotSupported, MissingParameterValue, InvalidParameterValue, TileOutOfRange, NoApplicableCode}
use Rattle.exception_report.specs.declared.code.Locator.{Locator}
use Rattle.exception_report.specs.declared.code.Locator.TheVariants.{Nowhere, At}

abbrev pub code_text : Code → List ℕ
code_text OperationNotSupported = codes "OperationNotSupported"
code_text MissingParameterValue = codes "MissingParameterValue"
code_text InvalidParameterValue = codes "InvalidParameterValue"
code_text TileOutOfRange = codes "TileOutOfRange"
code_text NoApplicableCode = codes "NoApplicableCode"

-- a byte of an attribute's value: the characters with a meaning in XML by their entities, a control character as `?`
abbrev pub escaped_byte : ℕ → List ℕ
escaped_byte b =
    if b == 38 then codes "&amp;"
    else if b == 60 then codes "&lt;"
    else if b == 62 then codes "&gt;"
    else if b == 34 then codes "&quot;"
    else if nat_lt b 32 then codes "?"
    else b ∷ []

-- U+FFFE and U+FFFF in UTF-8, which no XML may hold
abbrev pub is_noncharacter : ℕ → ℕ → ℕ → Bool
is_noncharacter a b c = a == 239 && b == 191 && (c == 190 || c == 191)

abbrev pub begins_with_noncharacter : List ℕ → Bool
begins_with_noncharacter [] = false
begins_with_noncharacter (a ∷ []) = false
begins_with_noncharacter (a ∷ b ∷ []) = false
begins_with_noncharacter (a ∷ b ∷ c ∷ rest) = is_noncharacter a b c

-- the value of an attribute, escaped
unfoldable pub escaped : List ℕ → List ℕ
escaped [] = []
escaped (a ∷ []) = escaped_byte a
escaped (a ∷ b ∷ []) = escaped_byte a ++ escaped_byte b
escaped (a ∷ b ∷ c ∷ rest) =
    if is_noncharacter a b c then codes "?" ++ escaped rest else escaped_byte a ++ escaped (b ∷ c ∷ rest)

abbrev pub locator_text : Locator → List ℕ
locator_text Nowhere = []
locator_text (At locator) = codes " locator=\"" ++ escaped locator ++ codes "\""

-- four lines, each with a line feed at its end
unfoldable pub report_of : Code → Locator → List ℕ
report_of code locator =
    codes "<?xml version=\"1.0\" encoding=\"UTF-8\"?>\n<ExceptionReport xmlns=\"http://www.opengis.net/ows/1.1\" version=\"1.1.0\">\n<Exception exceptionCode=\""
    ++ code_text code ++ codes "\"" ++ locator_text locator ++ codes "/>\n</ExceptionReport>\n"

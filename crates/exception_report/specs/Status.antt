-- The status of HTTP that goes with a code (RFC 9110, section 15).
use Rattle.std.specs.Prelude.{ℕ}
use Rattle.exception_report.specs.declared.code.Code.{Code}
use Rattle.exception_report.specs.declared.code.Code.TheVariants.{OperationNotSupported, MissingParameterValue, InvalidParameterValue, TileOutOfRange, NoApplicableCode}

abbrev pub status_of : Code → ℕ
status_of OperationNotSupported = 501
status_of MissingParameterValue = 400
status_of InvalidParameterValue = 400
status_of TileOutOfRange = 400
status_of NoApplicableCode = 500

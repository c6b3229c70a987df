use Rattle.std.proofs.Common.{◌∙◌, sym, ap}
use Rattle.record_text.specs.Reading.{entry_of}
use Rattle.record_text.proofs.Back.{entry_back}
use Rattle.record_text.proofs.Decoded.{same_entry}
use Rattle.record_text.proofs.Sizes.{length-spelling}
use Rattle.record_text.proofs.Older.{alike}
use Rattle.record_text.proofs.laws.laws_of_spellings.Goals as goal

pub returns-clause-distinct : goal.returns-clause-distinct
returns-clause-distinct c = λ a b fits_a fits_b same. same_entry a b (sym (entry_back a fits_a) ∙ ap entry_of same ∙ entry_back b fits_b)

pub returns-clause-size : goal.returns-clause-size
returns-clause-size c = λ entry fits. length-spelling entry fits

pub returns-clause-old : goal.returns-clause-old
returns-clause-old c = λ entry fits old. alike entry fits old

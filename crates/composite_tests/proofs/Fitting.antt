-- Passes of a new hall fit it.
use Rattle.std.proofs.Common.{false}
use Rattle.catalog.specs.declared.catalogue.Catalogue.{Catalogue}
use Rattle.catalog.specs.Valid.{IsValid}
use Rattle.truncation_list.specs.declared.book.FrontedBook.{FrontedBook}
use Rattle.turnstile.specs.Passes.{Identity}
use Rattle.cache_hall.specs.Opened.{IsFirstPass}
use Rattle.cache_hall.specs.Turned.{HallPass, IsPassOf}
use Rattle.composite_tests.specs.Fit.{IsFit}

pub fit_first : (t : Identity) (c : Catalogue) (book : FrontedBook) (p : HallPass) → IsPassOf t.table c p → IsFirstPass false book p → IsValid c → IsFit t c p
fit_first t c book p of first valid = record { of = of; untold = first.same_mark; valid = valid }

-- What comes from a source, piece by piece.
use Rattle.std.proofs.Common.{◌≡◌, ℕ, List, ◌++◌, Bool, true, false, Ok, Err, Option}
use Rattle.std.proofs.KnownBytes.{Consumes-trans}
use Rattle.std.specs.Io.KnownBytes.{Consumes, IsAtEnd}
use Rattle.std.proofs.lemmas.Bool.{false≢true}
use Rattle.std.specs.Prelude.{Result, Vec}
use Rattle.std.specs.declared.alloc.Global.{Global}
use Rattle.http_answer.specs.Answers.{IsAnswer}
use Rattle.renderer_link.specs.declared.exchange.ExchangeFault.{ExchangeFault}
use Rattle.renderer_link.specs.declared.exchange.ExchangeFault.TheVariants.{Link, Answer, OutOfMemory}
use Rattle.renderer_link.specs.Exchanges.{HasCome, Receives, TakesSo}

-- with the next piece
pub one_more : (start left after : Option (List ℕ)) (came piece : List ℕ) → Consumes start left came → Consumes left after piece → Consumes start after (came ++ piece)
one_more start left after came piece before here = Consumes-trans start left after came piece before here

never : (after : Option (List ℕ)) → false ≡ true → IsAtEnd after
never after e = absurd (false≢true e)

pub refused : (limit : ℕ) (start after : Option (List ℕ)) (came : List ℕ) (fault : ExchangeFault) → Consumes start after came → TakesSo limit came (Err fault) → Receives limit start after (Err fault)
refused limit start after came (Answer fault) bytes so = (came, false, record { bytes = bytes; at_end = never after }, so)
refused limit start after came Link bytes so = tt
refused limit start after came OutOfMemory bytes so = tt

pub whole : (limit : ℕ) (start after : Option (List ℕ)) (came : List ℕ) (body : Vec ℕ Global) → Consumes start after came → IsAnswer came false body.items → Receives limit start after (Ok body)
whole limit start after came body bytes so = (came, false, record { bytes = bytes; at_end = never after }, so)

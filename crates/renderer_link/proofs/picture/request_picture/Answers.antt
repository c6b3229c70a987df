use Rattle.std.proofs.Common.{ℕ, List, subst}
use Rattle.ppm_reading.specs.Form.{IsPixmap}
use Rattle.renderer_link.proofs.Refusing.{no_pixmap}
use Rattle.renderer_link.proofs.picture.request_picture.Goals as goal

pub returns-in-None-clause-shown : goal.returns-in-None-clause-shown
returns-in-None-clause-shown g c =
    let old = c.args.into.now in
    let none = subst (λ (bytes : List ℕ). (pixels : List ℕ) → ¬ IsPixmap old.width old.height bytes pixels) c.as_slice.ensures.value c.in-None.ensures.1 in
    no_pixmap c.args.limit _ _ old _ c.in-Ok.body c.in-Ok.ensures.received c.in-None.ensures.0 none

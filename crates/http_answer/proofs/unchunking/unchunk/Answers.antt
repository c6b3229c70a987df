use Rattle.std.proofs.Common.{◌≡◌, List, ℕ, length, ap, ◌∙◌, sym, subst}
use Rattle.http_answer.specs.Unchunking.{Unchunks}
use Rattle.http_answer.proofs.Moving.{lent_back}
use Rattle.http_answer.proofs.unchunking.unchunk.Goals as goal

pub returns : goal.returns
returns c =
    let count : length c.unchunk_slice.new.bytes ≡ c.args.bytes.now.len = c.unchunk_slice.ensures.len ∙ ap (λ (l : List ℕ). length l) c.as_mut_slice.ensures.value ∙ sym c.args.bytes.now.ok.0 in
    let P : List ℕ → Type 0 = λ new. Unchunks c.args.bytes.now.items c.args.from new c.unchunk_slice.result in
    let Q : List ℕ → Type 0 = λ old. Unchunks old c.args.from c.unchunk_slice.new.bytes c.unchunk_slice.result in
    subst P (sym (lent_back c.args.bytes.now.len c.args.bytes.now.items c.unchunk_slice.new.bytes count)) (subst Q c.as_mut_slice.ensures.value c.unchunk_slice.ensures.unchunks)

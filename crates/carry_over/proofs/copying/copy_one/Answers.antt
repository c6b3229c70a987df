use Rattle.std.proofs.Common.{rules, ◌≡◌, ℕ, length, sym, subst}
use Rattle.cache_file.specs.File.{IsApart}
use Rattle.carry_over.proofs.copying.copy_one.Goals as goal

pub returns-in-Err-put-clause-keeps : goal.returns-in-Err-put-clause-keeps
returns-in-Err-put-clause-keeps g c place blob told apart holds image now =
    let long : length c.as_slice.result.now ≡ c.args.kept.length = search rules in
    ((c.put.ensures.stays told).keeps image now).blobs place blob (subst (λ (n : ℕ). IsApart c.args.kept.place n place (length blob)) (sym long) apart) holds

pub returns-clause-keeps : goal.returns-clause-keeps
returns-clause-keeps g c place blob told apart holds image now =
    let long : length c.as_slice.result.now ≡ c.args.kept.length = search rules in
    ((c.put.ensures.stays told).keeps image now).blobs place blob (subst (λ (n : ℕ). IsApart c.args.kept.place n place (length blob)) (sym long) apart) holds

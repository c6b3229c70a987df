use Rattle.cabinet_chest.specs.Acts.{seen}
use Rattle.disk_words.proofs.Told.{by_text, ok_told}
use Rattle.disk_words.proofs.usage_word.told_usage.Goals as goal

pub returns-clause-text : goal.returns-clause-text
returns-clause-text g c =
    let K = g.C.Keeper in
    let x = seen (K.faults c.args.cabinet.now) (K.state c.args.cabinet.now) in
    let y = seen (K.faults c.usage_text.new.cache) (K.state c.usage_text.new.cache) in
    let laws = c.laws_of_lone_threads.ensures in
    ok_told c.usage_text.result (λ text told. (laws.usage x y told.turns text told.gains told.counted).0) c.usage_text.ensures.told

pub returns-clause-same : goal.returns-clause-same
returns-clause-same g c =
    let K = g.C.Keeper in
    let x = seen (K.faults c.args.cabinet.now) (K.state c.args.cabinet.now) in
    let y = seen (K.faults c.usage_text.new.cache) (K.state c.usage_text.new.cache) in
    let laws = c.laws_of_lone_threads.ensures in
    by_text c.usage_text.result (λ text told. (laws.usage x y told.turns text told.gains told.counted).1) (λ vain. laws.counts x y vain.turns vain.gains vain.counts) c.usage_text.ensures.told c.usage_text.ensures.vain

use Rattle.std.proofs.Common.{Some, ap, refl, sym, ◌∙◌}
use Rattle.command_words.specs.declared.words.Word.TheVariants as word
use Rattle.tile_command.proofs.Commanding.{commands, no_command}
use Rattle.tile_command.proofs.command.run_command.Goals as goal

pub returns-in-Some-InMemory : goal.returns-in-Some-InMemory
returns-in-Some-InMemory g c =
    rw c.without_job.ensures
    (commands _ _ _ _ _ _ (word.InMemory c.in-Some-InMemory.word) 0 c.in_memory.result (c.in_memory.ensures, refl) refl (λ other. refl) _ (sym c.word_of.ensures ∙ c.in-Some-InMemory.is ∙ ap (λ w. Some w) c.in-Some-InMemory.field-0-is))

pub returns-in-Some-Kept : goal.returns-in-Some-Kept
returns-in-Some-Kept g c =
    rw c.without_job-in-Some-Kept.ensures
    (commands _ _ _ _ _ _ (word.Kept c.in-Some-Kept.word) 0 c.on_disk.result c.on_disk.ensures.tells c.on_disk.ensures.lasts (λ other. refl) _ (sym c.word_of.ensures ∙ c.in-Some-Kept.is ∙ ap (λ w. Some w) c.in-Some-Kept.field-0-is))

pub returns-in-Some-Upkeep : goal.returns-in-Some-Upkeep
returns-in-Some-Upkeep g c =
    rw c.without_job-in-Some-Upkeep.ensures
    (commands _ _ _ _ _ _ (word.Upkeep c.in-Some-Upkeep.word) 0 c.kept_up.result (c.kept_up.ensures.tells, refl, refl) c.kept_up.ensures.lasts (λ other. refl) _
    (sym c.word_of.ensures ∙ c.in-Some-Upkeep.is ∙ ap (λ w. Some w) c.in-Some-Upkeep.field-0-is))

pub returns-in-Some-Job : goal.returns-in-Some-Job
returns-in-Some-Job g c =
    commands _ _ _ _ _ _ word.Job c.job_run.result.unkept c.job_run.result.status (c.job_run.ensures.tells, refl) c.job_run.ensures.lasts (λ other. absurd (other refl)) _ (sym c.word_of.ensures ∙ c.in-Some-Job.is ∙ ap (λ w. Some w) c.in-Some-Job.field-0-is)

pub returns-in-None : goal.returns-in-None
returns-in-None g c =
    rw c.without_job-in-None.ensures
    (no_command _ _ _ _ _ _ refl refl refl refl refl refl _ (sym c.word_of.ensures ∙ c.in-None.is))

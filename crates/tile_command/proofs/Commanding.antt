-- What a command came to, as one record.
use Rattle.std.proofs.Common.{ℕ, ◌≡◌, ◌≢◌, Option, Some, None, ap, refl, subst, sym}
use Rattle.cabinet.specs.State.{State}
use Rattle.base.specs.Readings.{Readings}
use Rattle.command_status.specs.declared.status.Status.TheVariants as status
use Rattle.command_status.specs.declared.status.Status.{Status}
use Rattle.command_words.specs.declared.words.Word.{Word}
use Rattle.command_words.specs.declared.words.Word.TheVariants as word
use Rattle.opened_cache.specs.Change.{DiskChange}
use Rattle.tile_command.proofs.Caused.{caused, completed}
use Rattle.tile_command.proofs.Serving.{exactly_usage}
use Rattle.tile_command.proofs.Tests.{exact}
use Rattle.tile_command.specs.Causes.{HasCause}
use Rattle.tile_command.specs.Change.{CommandChange, Stays}
use Rattle.tile_command.specs.Command.{CommandRun, Commands, HasLastedBy, StatusSays}

module _ (P : State → Type 0) (h : CommandChange) (stays : Stays) (d : DiskChange) (DiskStays : Type 0) (clock : Readings) where
  abbrev seen : Option Word → ℕ → Status → CommandRun
  seen read unkept s = record { change = h; stays = stays; disk = d; disk_stays = DiskStays; clock = clock; word = read; status = s; unkept = unkept }

  -- the words are a command
  pub commands : (w : Word) (unkept : ℕ) (s : Status) → StatusSays P h stays d DiskStays clock (Some w) unkept s → HasLastedBy h d DiskStays (Some w) → (w ≢ word.Job → unkept ≡ 0) → (read : Option Word) → read ≡ Some w → Commands P (seen read unkept s)
  commands w unkept s served lasts no_job read is = subst (λ r. Commands P (seen r unkept s)) (sym is) (record {
    usage = exactly_usage P h stays d DiskStays clock w unkept s served (Some w) refl;
    served = served;
    no_job = λ other. no_job (λ job. other (ap (λ x. Some x) job));
    cause = because;
    complete = completed h d clock (Some w) s because;
    exact = exact h d clock (Some w) s because;
    lasts = lasts;
  })
    where
      because : HasCause h d clock (Some w) s
      because = caused P h stays d DiskStays clock w unkept s served (Some w) refl

  -- they are none
  pub no_command : stays.catalogue → stays.capabilities → stays.input → stays.output → stays.source → DiskStays → (read : Option Word) → read ≡ None → Commands P (seen read 0 status.Usage)
  no_command catalogue capabilities input output source disk read is = subst (λ r. Commands P (seen r 0 status.Usage)) (sym is) (record {
    usage = ((λ usage. refl), (λ none. refl));
    served = (catalogue, capabilities, input, output, source, disk);
    no_job = λ other. refl;
    cause = refl;
    complete = tt;
    exact = tt;
    lasts = disk;
  })

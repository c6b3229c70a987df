-- Each test that what is handed in doesn't pass is told.
use Rattle.std.specs.Prelude.{Option, Some, None}
use Rattle.base.specs.Readings.{Readings}
use Rattle.command_status.specs.declared.status.Status.{Status}
use Rattle.command_words.specs.declared.words.Word.{Word}
use Rattle.opened_cache.specs.Change.{DiskChange}
use Rattle.tile_command.specs.Causes.{HasCause, IsCaused, NothingFails}
use Rattle.tile_command.specs.Change.{CommandChange}
use Rattle.tile_command.specs.Exact.{AreModelled, IsExact, TellsTests}
use Rattle.tile_command.proofs.Disks.{cuts_told, not_kept_out, refused_told}
use Rattle.tile_command.proofs.Exact as files
use Rattle.tile_command.proofs.Inputs.{ill_told, lines_told, stream_told}

tests_told : (h : CommandChange) (d : DiskChange) (clock : Readings) (m : AreModelled h) (quiet : NothingFails h d) (w : Word) (s : Status) → IsCaused h d clock w s → TellsTests h d clock w s
tests_told h d clock m quiet w s x =
    record {
      long_catalogue = λ long. files.long_told h d clock m quiet s long (files.of_catalogue h d clock m quiet w s x);
      catalogue = λ fault faulty. files.faulty_told h d clock m quiet s fault faulty (files.of_catalogue h d clock m quiet w s x);
      long_document = λ long. files.document_told h d clock m quiet w s x long;
      long_input = λ modelled long. files.input_told h d clock m quiet w s x long (not_kept_out h d clock m quiet w modelled long);
      form = λ fault bad. files.form_told h d clock m quiet w s fault x bad;
      cache = λ told cause bad. refused_told h d clock m quiet told cause w s x bad;
      cuts = λ told full. cuts_told h d clock m quiet told w s x full;
      lines = λ modelled n all. lines_told h d clock m quiet w s x modelled n all;
      ill_line = λ modelled n ill. ill_told h d clock m quiet w s x modelled n ill;
      stream = λ modelled end breaks. stream_told h d clock m quiet w s x modelled end breaks;
    }

pub exact : (h : CommandChange) (d : DiskChange) (clock : Readings) (read : Option Word) (s : Status) → HasCause h d clock read s → IsExact h d clock read s
exact h d clock None s cause = tt
exact h d clock (Some w) s cause = λ modelled quiet. tests_told h d clock modelled quiet w s cause

use Rattle.std.proofs.Common.{refl}
use Rattle.command_setup.proofs.Fitting.{may_be}
use Rattle.server_workers.specs.First.{first_pass}
use Rattle.server_command.proofs.Closing.{ended_over}
use Rattle.server_command.proofs.Unready.{unready_ended}
use Rattle.server_command.proofs.server.run_server.Goals as goal

pub serve_hall-requires-clause-supplied : goal.serve_hall-requires-clause-supplied
serve_hall-requires-clause-supplied g c κs within =
    let st = c.in-Ok.ensures.staged in
    let catalogue = c.in-Ok.stage.world.hall.catalogue in
    record {
      first = first_pass c.in-Ok.stage.world.hall.turnstile.table catalogue c.args.told.value st.first.opened;
      of = refl;
      charter = refl;
      unused = refl;
      supplies = record { passes_are = st.first.first; boards_are = c.in-Ok.ensures.boards.first; sources_tell = λ i e inside told. (c.requires.told told).2 catalogue (may_be _ _ st.read.read) i e inside };
    }

pub returns-in-Err : goal.returns-in-Err
returns-in-Err g c = unready_ended _ _ _ _ _ refl _ c.in-Err.ensures.refused

pub returns : goal.returns
returns g c =
    let st = c.in-Ok.ensures.staged in
    let catalogue = c.in-Ok.stage.world.hall.catalogue in
    let first = first_pass c.in-Ok.stage.world.hall.turnstile.table catalogue c.args.told.value st.first.opened in
    ended_over _ _ catalogue c.in-Ok.stage.world.capabilities c.in-Ok.stage.world.recipes c.in-Ok.stage.world.hall.turnstile.table c.in-Ok.stage.world.board.turnstile.table st.first.opened _ _ _ c.serve_hall.result c.status_of_service.result c.status_of_service.ensures st.read st.recites st.first.is_opened
    (c.serve_hall.ensures first
    (record { passes_are = st.first.first; boards_are = c.in-Ok.ensures.boards.first; sources_tell = λ i e inside told. (c.requires.told told).2 catalogue (may_be _ _ st.read.read) i e inside }))

use Rattle.tile_service.proofs.streams.replay_streams.Given as goal

abbrev pub ghosts-replay_over : goal.ghosts-replay_over
ghosts-replay_over g a = record { input = a.ends.input.ghost_name; output = a.ends.output.ghost_name }

use Rattle.server_command.proofs.server.run_server.Given as goal

abbrev pub ghost-made_ready : goal.ghost-made_ready
ghost-made_ready g a = a._mark.now.value

use Rattle.std.proofs.lemmas.Result.{IfOk-weaker}
use Rattle.command_words.proofs.ServeReads.{is_serve_command}
use Rattle.command_words.proofs.server_words.serve_command.Goals as goal

pub returns : goal.returns
returns c =
    let fresh = c.new.ensures in
    IfOk-weaker c.arg-2.result _ _ (λ command. is_serve_command c.new.result c.no_binary_name.result c.in_ok-arg.field-0 command fresh.app fresh.empty.0 fresh.empty.1 fresh.local fresh.negates
    c.no_binary_name.ensures c.port_option.result c.connections_option.result c.port_option.ensures c.connections_option.ensures c.in_ok-arg.ensures) c.arg-2.ensures

use Rattle.std.proofs.Common.{◌≡◌, drop}
use Rattle.std.specs.List.{list_all}
use Rattle.window_request.specs.Addresses.{is_host_byte}
use Rattle.window_request.proofs.address.is_host.Given as goal

abbrev pub invariant-loop-byte : goal.invariant-loop-byte
invariant-loop-byte l = list_all is_host_byte (drop l.byte-index l.text) ≡ list_all is_host_byte l.text

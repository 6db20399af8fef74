-- The loop's invariant: what is left decides as the whole.
use Rattle.std.proofs.Common.{◌≡◌, drop}
use Rattle.names.specs.Names.{is_module_name, module_rest}
use Rattle.names.proofs.is_module_name.Given as goal

abbrev pub invariant-loop-b : goal.invariant-loop-b
invariant-loop-b l = module_rest l.escaped (drop l.b-index l.name) ≡ is_module_name l.name

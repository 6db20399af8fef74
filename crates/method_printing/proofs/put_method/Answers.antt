use Prim.Native.Nat.{ℕ}
use native.Mathlib.Omega.{arith}
use lib.ListN.{length-set}
use Rattle.method_printing.specs.Printing.{parts_of}
use Rattle.method_printing.proofs.Laws.{method_length, method_written}
use Rattle.method_printing.proofs.put_method.Goals as goal

pub put_part-requires : goal.put_part-requires
put_part-requires c =
    (c.requires.0, omega (arith, length-set {A = ℕ}, method_length c.args.text.now (parts_of c.args.records.now) c.args.returned c.requires.0))

pub returns : goal.returns
returns c =
    method_written c.args.text.now (parts_of c.args.records.now) c.args.returned c.args.out.now _ _ _ c.put_parameters-close.ensures.writes c.put_parameters-close.ensures.ends c.put_part.ensures

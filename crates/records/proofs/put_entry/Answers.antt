use native.Mathlib.Numerals.{towards_suc}
use native.Mathlib.Omega.{arith}
use lib.ListN.{length-set}
use Rattle.records.proofs.put_entry.Goals as goal

pub bounds-entries-at-2 : goal.bounds-entries-at-2
bounds-entries-at-2 c = simp length-set (omega arith)

pub returns : goal.returns
returns c = simp towards_suc

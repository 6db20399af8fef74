use native.Mathlib.Numerals.{towards_suc}
use native.Mathlib.Omega.{arith}
use lib.ListN.{length-set}
use Rattle.records.proofs.put_record.Goals as goal

pub bounds-records-at-2 : goal.bounds-records-at-2
bounds-records-at-2 c = simp length-set (omega arith)

pub bounds-records-at-3 : goal.bounds-records-at-3
bounds-records-at-3 c = simp length-set (omega arith)

pub bounds-records-at-4 : goal.bounds-records-at-4
bounds-records-at-4 c = simp length-set (omega arith)

pub bounds-records-at-5 : goal.bounds-records-at-5
bounds-records-at-5 c = simp length-set (omega arith)

pub bounds-records-at-6 : goal.bounds-records-at-6
bounds-records-at-6 c = simp length-set (omega arith)

pub returns : goal.returns
returns c = simp towards_suc

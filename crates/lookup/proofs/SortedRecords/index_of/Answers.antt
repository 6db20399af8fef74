use Rattle.std.proofs.Common.{◌∙◌, arith}
use Rattle.lookup.proofs.First.{fewer, no_record, at_middle, left_half, right_half}
use Rattle.lookup.proofs.SortedRecords.index_of.Goals as goal

pub returns-then-there-offset : goal.returns-then-there-offset
returns-then-there-offset c =
    at_middle _ _ _ _ _ (fewer c.args.self.sorted (omega arith)) (omega arith, omega arith) c.offset_at-there.ensures (omega arith) c.if-there-offset.true
    ∙ c.loop-span.invariant.same

pub loop-span-preserved-then-offset-there : goal.loop-span-preserved-then-offset-there
loop-span-preserved-then-offset-there c = record {
  within = omega arith;
  same =
      left_half _ _ _ _ _ (fewer c.args.self.sorted (omega arith)) (omega arith, omega arith) c.offset_at-there.ensures _ (omega arith) c.if-offset-there.true
      ∙ c.loop-span.invariant.same;
}

pub loop-span-preserved : goal.loop-span-preserved
loop-span-preserved c = record {
  within = omega arith;
  same =
      right_half _ _ _ _ _ (fewer c.args.self.sorted (omega arith)) (omega arith, omega arith) c.offset_at-there.ensures _ _ (omega arith) (omega arith) (omega arith)
      ∙ c.loop-span.invariant.same;
}

pub returns : goal.returns
returns c = no_record _ _ _ (omega arith) ∙ c.loop-span.invariant.same

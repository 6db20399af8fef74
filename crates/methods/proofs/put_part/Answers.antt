use Rattle.std.proofs.Common.{arith, ◌*◌, ◌∙◌}
use Rattle.store.proofs.Records.{part_replaced}
use Rattle.methods.specs.Texts.{words}
use Rattle.methods.proofs.Laws.{words_are}
use Rattle.methods.proofs.put_part.Goals as goal

pub returns : goal.returns
returns c =
    part_replaced (c.args.index * 4) _ _ _ (words c.args.part) (omega (arith, c.requires)) (omega arith)
    (c.copy_from_slice.ensures.after ∙ words_are c.args.part (omega arith) (omega arith) (omega arith) (omega arith))

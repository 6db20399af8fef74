use Rattle.std.proofs.Common.{◌-◌, ◌+◌, ◌∙◌, ap, replicate, arith}
use Rattle.std.proofs.lemmas.List.{length-replicate}
use Rattle.output.proofs.Writing.{part_replaced, length_part}
use Rattle.output.proofs.put_run.Goals as goal

pub returns : goal.returns
returns c =
    let filled = c.fill.ensures.after (λ y same. same) in
    let bytes = replicate c.args.count c.args.byte in
    let long = length-replicate c.args.count c.args.byte in
    part_replaced c.args.at (c.args.at + c.args.count - c.args.at) _ _ bytes (omega (arith, c.requires)) (omega (arith, long))
    (filled ∙ ap (λ n. replicate n c.args.byte) (length_part c.args.at c.args.count _ c.requires))

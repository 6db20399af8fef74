use native.Mathlib.Omega.{arith}
use Rattle.method_printing.proofs.Laws.{putting_end, putting_fits, putting_more}
use Rattle.method_printing.proofs.put_parameters.Goals as goal

pub put_part-requires : goal.put_part-requires
put_part-requires c = putting_fits _ _ _ c.args.at _ _ _ c.loop-words.invariant c.loop-words-test.true _ c.part_of-part.ensures c.requires.1

pub overflow_add-next : goal.overflow_add-next
overflow_add-next c =
    let fits = putting_fits _ _ c.args.out.now c.args.at _ _ _ c.loop-words.invariant c.loop-words-test.true _ c.part_of-part.ensures c.requires.1 in
    omega (arith, fits.1, c.part_length-next.ensures, c.loop-words.invariant.kept)

pub loop-words-preserved : goal.loop-words-preserved
loop-words-preserved c =
    putting_more _ _ _ _ _ _ _ c.loop-words.invariant c.loop-words-test.true _ c.part_of-part.ensures _ c.put_part.ensures _ c.part_length-next.ensures

pub returns : goal.returns
returns c =
    let r = putting_end _ _ _ _ _ _ _ c.loop-words.invariant c.loop-words-test.false in
    record { ends = r.0; writes = r.1 }

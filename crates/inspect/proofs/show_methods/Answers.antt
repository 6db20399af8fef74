use Rattle.std.proofs.Common.{arith}
use Rattle.inspect.proofs.Laws.{found_inside, found_ends}
use Rattle.inspect.proofs.show_methods.Goals as goal

pub show_method-requires : goal.show_method-requires
show_method-requires g c = found_inside _ _ (rw c.in-Ok-Some.field-0-is at c.in-Ok-Some.ensures)

pub loop-sections-smaller : goal.loop-sections-smaller
loop-sections-smaller g c =
    let ends = found_ends _ _ (rw c.in-Ok-Some.field-0-is at c.in-Ok-Some.ensures) in
    omega (arith, ends.0, ends.1)

pub loop-sections-preserved : goal.loop-sections-preserved
loop-sections-preserved g c =
    let ends = found_ends _ _ (rw c.in-Ok-Some.field-0-is at c.in-Ok-Some.ensures) in
    record { inside = ends.1; short = omega (arith, ends.0); some = omega arith }

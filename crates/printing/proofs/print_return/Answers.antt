use Rattle.printing.proofs.Laws.{text_over}
use Rattle.printing.proofs.print_return.Goals as goal

pub returns-in_err-new : goal.returns-in_err-new
returns-in_err-new c =
    let r = text_over _ _ _ _ _ _ c.from_residual.ensures.1 c.in_err-new.ensures in
    record { answers = r.0; writes = r.1 }

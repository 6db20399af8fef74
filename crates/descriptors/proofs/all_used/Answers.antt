use Rattle.std.proofs.Common.{rules}
use Rattle.descriptors.proofs.Laws.{error_whole, left_whole}
use Rattle.descriptors.proofs.all_used.Goals as goal

pub returns-in_err-read : goal.returns-in_err-read
returns-in_err-read g c = error_whole _ c.in_err-read.was (search rules)

pub returns-then-used-length : goal.returns-then-used-length
returns-then-used-length g c = left_whole _ c.in_ok-read.was c.if-used-length.true c.at.ensures

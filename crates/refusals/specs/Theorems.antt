-- A number stands for one reason, so an answer that says the number says the reason. Proved in proofs/Numbers.antt.
use Rattle.std.specs.Prelude.{◌≡◌}
use Rattle.refusals.specs.declared.Reason.{Reason}
use Rattle.refusals.specs.Numbers.{number_of}

-- proved as `numbers_differ`
abbrev pub NumbersDiffer : Type 0
NumbersDiffer = (r s : Reason) → number_of r ≡ number_of s → r ≡ s

use mathlib.Core.List.{append_assoc}
use native.Mathlib.Omega.{arith}
use Rattle.phrases.proofs.Wrote.{wrote_then, wrote_as}
use Rattle.listing.specs.Lines.{refusal}
use Rattle.listing.proofs.put_refusal.Goals as goal

-- by hand: the tactic stops at the depth of these texts
pub returns : goal.returns
unfolding refusal
returns c = wrote_as (simp append_assoc) (omega arith) (wrote_then (wrote_then c.put_number.ensures c.put_number-2.ensures) c.put_number-3.ensures)

-- The clauses of `lines_from` by their tests.
use Prim.Native.Nat.{ℕ, zero, suc, ◌≤◌, ◌<◌}
use mathlib.Core.List.{List}
use mathlib.Core.Path.{◌≡◌, refl}
use borrow.Author.Tests.{lt-ltb, le-ltb}
use lib.ListN.{length}
use Rattle.read.specs.declared.CodeOffset.{CodeOffset}
use Rattle.ordinary.specs.declared.Instruction.{Instruction}
use Rattle.std.specs.Prelude.{Ok, Err}
use Rattle.refusals.specs.declared.Refusal.{Refusal}
use Rattle.instruction.specs.Steps.{step_of}
use Rattle.lines.specs.Lines.{Lines, lines_from}

module _ (code pool : List ℕ) (at : CodeOffset) where
  module _ (most : ℕ) (h : at.0 < length code) where
    pub lines_more : {i : Instruction} {next : CodeOffset} → step_of code pool at ≡ Ok (i, next) → lines_from code pool (suc most) at ≡ Lines.line (record { at = at; instruction = i; next = next }) (lines_from code pool most next)
    unfolding lines_from
    lines_more e = rw (lt-ltb _ _ h, e, lines_from)

    pub lines_stop : {r : Refusal CodeOffset} → step_of code pool at ≡ Err r → lines_from code pool (suc most) at ≡ Lines.stop r
    unfolding lines_from
    lines_stop e = rw (lt-ltb _ _ h, e, lines_from)

  pub lines_end : (most : ℕ) → length code ≤ at.0 → lines_from code pool most at ≡ Lines.end
  unfolding lines_from
  lines_end zero h = refl
  lines_end (suc most) h = rw (le-ltb _ _ h, lines_from)

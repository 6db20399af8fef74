-- The lines depend on the pool table only through the entries that the instructions name.
use Prim.Native.Nat.{ℕ, zero, suc, ◌<◌}
use mathlib.Core.Bool.{Bool, true, false}
use mathlib.Core.List.{List}
use mathlib.Core.Path.{◌≡◌, refl, sym, ap, ◌∙◌}
use borrow.Author.Tests.{leb-true, leb-false}
use lib.Dec.{leb}
use lib.ListN.{length}
use Rattle.laws.specs.Bytes.{In}
use Rattle.read.specs.declared.CodeOffset.{CodeOffset}
use Rattle.pool.specs.Entries.{entry_at}
use Rattle.std.specs.Prelude.{Ok, Err}
use Rattle.ordinary.specs.Ordinary.{Step}
use Rattle.instruction.specs.Steps.{step_of}
use Rattle.instruction.specs.Names.{names_at}
use Rattle.instruction.proofs.Pool.{step_pool}
use Rattle.lines.specs.Lines.{Lines, lines_from, Reached}
use Rattle.lines.specs.Theorems.{LinesPool}
use Rattle.lines.proofs.Laws.{lines_more, lines_stop, lines_end}

module _ (code pool other : List ℕ) (agree : (at : CodeOffset) → Reached code pool at → (i : ℕ) → In i (names_at code at) → entry_at pool i ≡ entry_at other i) where
  abbrev Same : ℕ → Type 0
  Same most = (at : CodeOffset) → Reached code pool at → lines_from code pool most at ≡ lines_from code other most at

  lines_same : (most : ℕ) → Same most
  unfolding lines_from
  lines_same zero at r = refl
  lines_same (suc most) at r = go (leb (length code) at.0) refl (lines_same most)
    where
      on : at.0 < length code → (s : Step) → step_of code pool at ≡ s → step_of code other at ≡ s → Same most → lines_from code pool (suc most) at ≡ lines_from code other (suc most) at
      on inside (Ok found) e f rest =
          lines_more code pool at most inside e
          ∙ ap (Lines.line (record { at = at; instruction = found.0; next = found.1 })) (rest found.1 (Reached.next r e))
          ∙ sym (lines_more code other at most inside f)
      on inside (Err why) e f rest = lines_stop code pool at most inside e ∙ sym (lines_stop code other at most inside f)

      go : (past : Bool) → leb (length code) at.0 ≡ past → Same most → lines_from code pool (suc most) at ≡ lines_from code other (suc most) at
      go true q rest = lines_end code pool at (suc most) (leb-true _ _ q) ∙ sym (lines_end code other at (suc most) (leb-true _ _ q))
      go false q rest = on (leb-false _ _ q) (step_of code pool at) refl (sym (step_pool code pool other at (agree at r))) rest

pub lines_pool : LinesPool
lines_pool code pool other agree = lines_same code pool other agree (length code) (record { 0 = 0 }) Reached.first

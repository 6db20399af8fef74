-- The lines of a code are the consecutive ones from 0 on.
use Prim.Native.Nat.{ℕ, zero, suc, ◌+◌, ◌≤◌, ◌<◌}
use mathlib.Core.Bool.{Bool, true, false}
use mathlib.Core.List.{List}
use mathlib.Core.Path.{◌≡◌, refl, sym, ap, ap₂, ◌∙◌, subst}
use native.Mathlib.Omega.{arith}
use borrow.Author.Tests.{leb-true, leb-false}
use lib.Dec.{leb}
use lib.ListN.{length}
use Rattle.read.specs.declared.CodeOffset.{CodeOffset}
use Rattle.std.specs.Prelude.{Ok, Err}
use Rattle.ordinary.specs.Ordinary.{Step}
use Rattle.instruction.specs.Steps.{step_of}
use Rattle.instruction.proofs.Exactly.{step_within}
use Rattle.lines.specs.Lines.{Lines, lines_from, Consecutive}
use Rattle.lines.specs.Theorems.{LinesExactly}
use Rattle.lines.proofs.Laws.{lines_more, lines_stop, lines_end}

module _ (code pool : List ℕ) where
  abbrev Reads : ℕ → Type 0
  Reads most = (at : CodeOffset) → at.0 ≤ length code → length code ≤ at.0 + most → Consecutive code pool at (lines_from code pool most at)

  -- what is read is consecutive, where no more bytes are left than lines are allowed
  pub reads_consecutive : (most : ℕ) → Reads most
  reads_consecutive zero at h k =
      let over : at.0 ≡ length code = omega arith in
      let past : length code ≤ at.0 = omega arith in
      subst (Consecutive code pool at) (sym (lines_end code pool at zero past)) over
  reads_consecutive (suc most) at h k = go (leb (length code) at.0) refl (reads_consecutive most)
    where
      on : at.0 < length code → (s : Step) → step_of code pool at ≡ s → Reads most → Consecutive code pool at (lines_from code pool (suc most) at)
      on inside (Ok found) e rest =
          let next = found.1 in
          let w = step_within code pool at found.0 next e in
          let fewer : length code ≤ next.0 + most = omega (arith, w.longer) in
          subst (Consecutive code pool at) (sym (lines_more code pool at most inside e)) (refl, inside, e, rest next w.ends fewer)
      on inside (Err r) e rest = subst (Consecutive code pool at) (sym (lines_stop code pool at most inside e)) (inside, e)

      go : (t : Bool) → leb (length code) at.0 ≡ t → Reads most → Consecutive code pool at (lines_from code pool (suc most) at)
      go true q rest =
          let past : length code ≤ at.0 = leb-true _ _ q in
          let over : at.0 ≡ length code = omega arith in
          subst (Consecutive code pool at) (sym (lines_end code pool at (suc most) past)) over
      go false q rest = on (leb-false _ _ q) (step_of code pool at) refl rest

  -- and what is consecutive is what is read
  consecutive_read : (ls : Lines) (most : ℕ) (at : CodeOffset) → length code ≤ at.0 + most → Consecutive code pool at ls → lines_from code pool most at ≡ ls
  consecutive_read (Lines.line l rest) zero at k f = let inside : at.0 < length code = f.1 in absurd (omega arith)
  consecutive_read (Lines.line l rest) (suc most) at k f =
      let w = step_within code pool at l.instruction l.next f.2 in
      let fewer : length code ≤ l.next.0 + most = omega (arith, w.longer) in
      lines_more code pool at most f.1 f.2
      ∙ ap₂ Lines.line (ap (λ (a : CodeOffset). record { at = a; instruction = l.instruction; next = l.next }) (sym f.0)) (consecutive_read rest most l.next fewer f.3)
  consecutive_read Lines.end most at k f = let past : length code ≤ at.0 = omega (arith, f) in lines_end code pool at most past
  consecutive_read (Lines.stop r) zero at k f = let inside : at.0 < length code = f.0 in absurd (omega arith)
  consecutive_read (Lines.stop r) (suc most) at k f = lines_stop code pool at most f.0 f.1

pub lines_exactly : LinesExactly
lines_exactly code pool ls = (
  λ e. subst (Consecutive code pool (record { 0 = 0 })) e (reads_consecutive code pool (length code) (record { 0 = 0 }) (omega arith) (omega arith)),
  λ f. consecutive_read code pool ls (length code) (record { 0 = 0 }) (omega arith) f,
)

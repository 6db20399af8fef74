-- Lines that stand one after the other are the lines of the code, and their jumps are those that are read.
use Prim.Native.Nat.{ℕ, zero, suc, ◌+◌, ◌-◌, ◌≤◌, ◌<◌}
use mathlib.Core.List.{List, [], ◌∷◌, map}
use mathlib.Core.Path.{◌≡◌, refl, sym, ap, ap₂, ◌∙◌, subst}
use native.Mathlib.Omega.{arith}
use lib.ListN.{length, length-map}
use Rattle.std.specs.Prelude.{Ok}
use Rattle.read.specs.declared.CodeOffset.{CodeOffset}
use Rattle.ordinary.specs.declared.Instruction.{Instruction}
use Rattle.ordinary.specs.declared.Instruction.TheVariants as instruction
use Rattle.records.specs.declared.SwitchEntry.{SwitchEntry}
use Rattle.switches.specs.Entries.{entries_in}
use Rattle.instruction.specs.Steps.{step_of}
use Rattle.instruction.specs.Entries.{entries_of}
use Rattle.instruction.proofs.Exactly.{step_exactly, step_within}
use Rattle.instruction.proofs.Drawn.{read_drawn}
use Rattle.lines.specs.Lines.{Line, Lines, lines_from, lines_of, list_of, Consecutive}
use Rattle.lines.proofs.Exactly.{lines_exactly, reads_consecutive}
use Rattle.jumps.specs.Jumps.{Jumps}
use Rattle.bytecode.specs.Decoding.{fitting, run_from, jump_words, line_jumps}
use Rattle.bytecode.proofs.Laws.{fit_line}
use Rattle.exactly.specs.Standing.{Standing, lines_in, total_entries, LinesTile, jumps_with, jumps_drawn, all_jumps_drawn}

-- lines, and what comes after them
unfoldable pub onto : List Line → Lines → Lines
onto [] rest = rest
onto (l ∷ ls) rest = Lines.line l (onto ls rest)

pub list_onto : (ls : List Line) → list_of (onto ls Lines.end) ≡ ls
unfolding onto list_of
list_onto [] = refl
list_onto (l ∷ ls) = ap (λ (more : List Line). l ∷ more) (list_onto ls)

-- they are run before it
pub run_onto : (ls : List Line) (rest : Lines) (k m : ℕ) → run_from k m (onto ls rest) ≡ run_from (k + length ls) (m + total_entries ls) rest
unfolding onto run_from total_entries
run_onto [] rest k m = ap₂ (λ (x y : ℕ). run_from x y rest) (let none : k ≡ k + 0 = omega arith in none) (let none : m ≡ m + 0 = omega arith in none)
run_onto (l ∷ ls) rest k m =
    let one : k + 1 + length ls ≡ k + suc (length ls) = omega arith in
    let own : m + entries_of l.instruction + total_entries ls ≡ m + (entries_of l.instruction + total_entries ls) = omega arith in
    run_onto ls rest (k + 1) (m + entries_of l.instruction) ∙ ap₂ (λ (x y : ℕ). run_from x y rest) one own

-- and where there is room for them, it has the room that they leave
pub fit_onto : (ls : List Line) (rest : Lines) (records entries : ℕ) → length ls ≤ records → total_entries ls ≤ entries → fitting records entries (onto ls rest) ≡ onto ls (fitting (records - length ls) (entries - total_entries ls) rest)
unfolding onto total_entries
fit_onto [] rest records entries h k = ap₂ (λ (x y : ℕ). fitting x y rest) (let none : records ≡ records - 0 = omega arith in none) (let none : entries ≡ entries - 0 = omega arith in none)
fit_onto (l ∷ ls) rest zero entries h k = absurd (omega arith)
fit_onto (l ∷ ls) rest (suc records) entries h k =
    let one : records - length ls ≡ suc records - suc (length ls) = omega arith in
    let own : entries - entries_of l.instruction - total_entries ls ≡ entries - (entries_of l.instruction + total_entries ls) = omega arith in
    fit_line l (onto ls rest) entries records (omega arith)
    ∙ ap (Lines.line l) (fit_onto ls rest records (entries - entries_of l.instruction) (omega arith) (omega arith) ∙ ap₂ (λ (x y : ℕ). onto ls (fitting x y rest)) one own)

module _ (code pool : List ℕ) where
  -- a line that stands is decoded, and the other way
  pub decoded_line : (s : Standing code pool) → step_of code pool s.line.at ≡ Ok (s.line.instruction, s.line.next)
  decoded_line s = (step_exactly code pool s.line.at s.line.instruction s.line.next).1 s.stands

  abbrev pub standing_line : (l : Line) → step_of code pool l.at ≡ Ok (l.instruction, l.next) → Standing code pool
  standing_line l e = record { line = l; stands = (step_exactly code pool l.at l.instruction l.next).0 e }

  one_before : (s : Standing code pool) (at : CodeOffset) (rest : Lines) → s.line.at ≡ at → Consecutive code pool s.line.next rest → Consecutive code pool at (Lines.line s.line rest)
  one_before s at rest e c =
      let w = step_within code pool s.line.at s.line.instruction s.line.next (decoded_line s) in
      let inside : s.line.at.0 < length code = omega (arith, w.longer, w.ends) in
      subst (λ (a : CodeOffset). Consecutive code pool a (Lines.line s.line rest)) e (refl, inside, decoded_line s, c)

  consecutive : (ls : List (Standing code pool)) (at end : CodeOffset) (rest : Lines) → LinesTile at ls end → Consecutive code pool end rest → Consecutive code pool at (onto (lines_in ls) rest)
  unfolding onto
  consecutive [] at end rest e c = subst (λ (a : CodeOffset). Consecutive code pool a rest) (sym e) c
  consecutive (s ∷ ls) at end rest h c = one_before s at (onto (lines_in ls) rest) h.0 (consecutive ls s.line.next end rest h.1 c)

  -- so they are the first lines of the code
  pub lines_are : (ls : List (Standing code pool)) (end : CodeOffset) (rest : Lines) → LinesTile (record { 0 = 0 }) ls end → Consecutive code pool end rest → lines_of code pool ≡ onto (lines_in ls) rest
  lines_are ls end rest h c = (lines_exactly code pool (onto (lines_in ls) rest)).1 (consecutive ls (record { 0 = 0 }) end rest h c)

  -- a line that stands, and what follows it in the code
  abbrev pub lines_past : Standing code pool → Lines
  lines_past s = lines_from code pool (length code) s.line.next

  pub after_line : (s : Standing code pool) → Consecutive code pool s.line.at (Lines.line s.line (lines_past s))
  after_line s =
      let w = step_within code pool s.line.at s.line.instruction s.line.next (decoded_line s) in
      one_before s s.line.at (lines_past s) refl (reads_consecutive code pool (length code) s.line.next w.ends (omega arith))

  -- the jumps that the picture draws are those that are read
  words_with : (i : Instruction) → jump_words code i ≡ jumps_with (entries_in code i) i
  unfolding jump_words
  words_with (instruction.Ordinary kind a b) = refl
  words_with (instruction.TableSwitch default low high from count) = refl
  words_with (instruction.LookupSwitch default from count) = refl

  pub jumps_drawn_lem : (s : Standing code pool) → jumps_drawn s ≡ line_jumps code s.line
  jumps_drawn_lem s =
      let l = s.line in
      ap (λ (words : List ℕ). record { at = l.at; words = words })
      (sym (words_with l.instruction ∙ ap (λ (es : List SwitchEntry). jumps_with es l.instruction) (read_drawn code pool l.at l.instruction l.next s.stands)))

  pub all_jumps_drawn_lem : (ls : List (Standing code pool)) → all_jumps_drawn ls ≡ map (line_jumps code) (lines_in ls)
  all_jumps_drawn_lem [] = refl
  all_jumps_drawn_lem (s ∷ ls) = ap₂ (λ (j : Jumps) (more : List Jumps). j ∷ more) (jumps_drawn_lem s) (all_jumps_drawn_lem ls)

pub count_lines : {code pool : List ℕ} (ls : List (Standing code pool)) → length (lines_in ls) ≡ length ls
count_lines {code} {pool} ls = length-map ls (λ (s : Standing code pool). s.line)

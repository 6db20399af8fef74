-- The check finds the first jump that fails, and the kinds with a jump are those of the formats with one.
use Prim.Native.Nat.{ℕ, ◌+◌, zero-le}
use mathlib.Core.Bool.{Bool, true, false, false≢true}
use mathlib.Core.List.{List}
use mathlib.Core.Logic.{◌↔◌}
use mathlib.Core.Path.{◌≡◌, refl, sym, ap, ◌∙◌, subst}
use native.Mathlib.Omega.{arith}
use borrow.Author.Tests.{not-true}
use lib.IntN.{ℤ, pos, negsuc}
use lib.ListN.{length}
use Rattle.laws.specs.Bytes.{one_of}
use Rattle.laws.specs.Listed.{listed}
use Rattle.laws.proofs.Bools.{so_not}
use Rattle.laws.proofs.Bytes.{one_of_lem}
use Rattle.laws.proofs.Listed.{listed_same}
use Rattle.read.specs.declared.CodeOffset.{CodeOffset}
use Rattle.opcodes.specs.Formats.{formats, format_of}
use Rattle.opcodes.specs.InstructionKinds.{instruction_kinds, kind_of}
use Rattle.std.specs.Prelude.{Err}
use Rattle.refusals.specs.declared.Reason.{Reason}
use Rattle.refusals.specs.declared.Reason.TheVariants as reason
use Rattle.refusals.proofs.Numbers.{numbers_differ}
use Rattle.jumps.specs.declared.Failure.{Failure}
use Rattle.jumps.specs.Jumps.{Jumps, placed, target_of, failure, good, jump_check, jumps_check, starts_of, check}
use Rattle.jumps.specs.Stored.{has_jump}
use Rattle.jumps.specs.Landing.{Lands, AllLand, Fails, FirstFailing}
use Rattle.jumps.specs.Theorems.{GoodExactly, BadExactly, jumps_by, JumpKinds}
use Rattle.jumps.proofs.Laws.{jump_below, jump_lands, jump_nowhere, words_go, jumps_go}
use Rattle.jumps.proofs.First.{First, all_fine, first}

-- one jump
module _ (starts : List ℕ) (at : CodeOffset) (second : ℕ) where
  data Judged (z : ℤ) : Type 0 where
    lands : Lands starts z → good ≡ jump_check starts at second z → Judged z
    fails : (why : Reason) → Fails starts z why → Err (failure why at second) ≡ jump_check starts at second z → Judged z

  judged : (z : ℤ) → Judged z
  judged (negsuc t) = Judged.fails reason.BelowZero (Fails.below_zero t refl refl) (jump_below starts at second (negsuc t) refl)
  judged (pos t) = go (one_of starts t) refl
    where
      go : (found : Bool) → one_of starts t ≡ found → Judged (pos t)
      go true e = Judged.lands (record { start = t; is = refl; listed = (one_of_lem starts t).0 e }) (jump_lands starts at second (pos t) refl e)
      go false e = Judged.fails reason.NoTarget (Fails.nowhere t refl (λ m. false≢true (sym e ∙ (one_of_lem starts t).1 m)) refl) (jump_nowhere starts at second (pos t) refl e)

  lands_exactly : (z : ℤ) → (jump_check starts at second z ≡ good) ↔ Lands starts z
  lands_exactly z = (
    λ h. go (judged z) h,
    λ l. sym (jump_lands starts at second z (sym (ap placed l.is)) ((one_of_lem starts _).1 l.listed)),
  )
    where
      go : Judged z → jump_check starts at second z ≡ good → Lands starts z
      go (Judged.lands l e) h = l
      go (Judged.fails why f e) h = absurd (let clash : Err (failure why at second) ≡ good = e ∙ h in cc)

  module _ (why : Reason) (p : CodeOffset) (s : ℕ) where
    record Found (z : ℤ) : Type 0 where
      wrong : Fails starts z why
      place : p ≡ at
      number : s ≡ second

    failed : (z : ℤ) → Fails starts z why → Err (failure why at second) ≡ jump_check starts at second z
    failed z (Fails.below_zero t e q) = rw (numbers_differ why reason.BelowZero q) (jump_below starts at second z (sym (ap placed e)))
    failed z (Fails.nowhere t e out q) =
        rw (numbers_differ why reason.NoTarget q) (jump_nowhere starts at second z (sym (ap placed e)) (not-true _ ((so_not _).1 (λ h. out ((one_of_lem starts t).0 h)))))

    fails_exactly : (z : ℤ) → (jump_check starts at second z ≡ Err (failure why p s)) ↔ Found z
    fails_exactly z = (λ h. go (judged z) h, λ f. rw (f.place, f.number) (sym (failed z f.wrong)))
      where
        go : Judged z → jump_check starts at second z ≡ Err (failure why p s) → Found z
        go (Judged.lands l e) h = absurd (let clash : good ≡ Err (failure why p s) = e ∙ h in cc)
        go (Judged.fails k f e) h =
            let both : Err (failure k at second) ≡ Err (failure why p s) = e ∙ h in
            let same : failure k at second ≡ failure why p s = cc in
            record { wrong = subst (Fails starts z) (ap (λ (f : Failure). f.reason) same) f; place = sym (ap (λ (f : Failure). f.place) same); number = sym (ap (λ (f : Failure). f.second) same) }

words_land : (starts : List ℕ) (k : ℕ) (j : Jumps) → (jumps_check starts j ≡ good) ↔ AllLand starts j.at j.words
words_land starts k j = all_fine (words_go starts j.at) (λ i word. lands_exactly starts j.at i (target_of j.at word)) 0 j.words

pub good_exactly : GoodExactly
good_exactly js = all_fine (jumps_go (starts_of js)) (words_land (starts_of js)) 0 js

module _ (js : List Jumps) (why : Reason) (place : CodeOffset) (second : ℕ) where
  abbrev starts : List ℕ
  starts = starts_of js

  abbrev WrongWord : CodeOffset → ℕ → ℕ → Type 0
  WrongWord at k word = Found starts at k why place second (target_of at word)

  abbrev WrongJumps : ℕ → Jumps → Type 0
  WrongJumps k j = First (λ (word : ℕ). Lands starts (target_of j.at word)) (WrongWord j.at) 0 j.words

  abbrev FirstWrong : Type 0
  FirstWrong = First (λ (j : Jumps). AllLand starts j.at j.words) WrongJumps 0 js

  found : (check js ≡ Err (failure why place second)) ↔ FirstWrong
  found =
      first (jumps_go starts) (words_land starts) (failure why place second) WrongJumps
      (λ k j. first (words_go starts j.at) (λ i word. lands_exactly starts j.at i (target_of j.at word)) (failure why place second) (WrongWord j.at) (λ i word. fails_exactly starts j.at i why place second (target_of j.at word)) 0 j.words)
      0 js

  shown : FirstWrong → FirstFailing js why place second
  shown f =
      let w = f.here in
      record {
        before = f.before;
        at = f.at;
        after = f.after;
        split = f.split;
        land = f.all;
        earlier = w.before;
        word = w.at;
        later = w.after;
        words = w.split;
        earlier_land = w.all;
        fails = w.here.wrong;
        placed = w.here.place;
        counted = omega (arith, w.here.number);
      }

  told : FirstFailing js why place second → FirstWrong
  told f =
      let counted : second ≡ 0 + length f.earlier = omega (arith, f.counted) in
      record {
        before = f.before;
        at = f.at;
        after = f.after;
        split = f.split;
        all = f.land;
        here = record {
          before = f.earlier;
          at = f.word;
          after = f.later;
          split = f.words;
          all = f.earlier_land;
          here = record { wrong = f.fails; place = f.placed; number = counted };
        };
      }

pub bad_exactly : BadExactly
bad_exactly js why place second = (
  λ h. shown js why place second ((found js why place second).0 h),
  λ f. (found js why place second).1 (told js why place second f),
)

-- the kinds with a jump, computed for all bytes
abbrev by_kind : ℕ → Bool
by_kind byte = has_jump (kind_of byte)

abbrev by_format : ℕ → Bool
by_format byte = jumps_by (format_of byte)

all_bytes_lem : listed by_kind 0 256 ≡ listed by_format 0 256
unfolding listed formats format_of instruction_kinds kind_of has_jump
all_bytes_lem = refl

pub jump_kinds : JumpKinds
jump_kinds byte small = listed_same by_kind by_format 256 0 all_bytes_lem byte zero-le (omega arith)

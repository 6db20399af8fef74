-- An operand is refused exactly for its own fault.
use Prim.Native.Nat.{ℕ, ◌+◌, ◌<◌}
use mathlib.Core.Bool.{Bool, true, false}
use mathlib.Core.List.{List}
use mathlib.Core.Logic.{◌↔◌, ◌⊎◌, inl, inr, ⊎_elim}
use mathlib.Core.Path.{◌≡◌, refl, sym, ap, ◌∙◌}
use native.Mathlib.Omega.{arith}
use borrow.Author.Tests.{leb-true, leb-false, lt-leb, eqb-false, ne_eqb}
use lib.Dec.{leb, eqb}
use lib.ListN.{length, drop, length-drop}
use lib.Seq.{length-take-le}
use Rattle.read.specs.declared.CodeOffset.{CodeOffset}
use Rattle.read.specs.Reads.{Read, big_endian, bytes_at, after, read_of}
use Rattle.read.proofs.Laws.{read_past, read_found}
use Rattle.pool.specs.declared.Kinds.{Kinds}
use Rattle.pool.specs.Entries.{Entry, entry_of_kind}
use Rattle.std.specs.Prelude.{Option, Some, None, Ok, Err}
use Rattle.refusals.specs.declared.Reason.{Reason}
use Rattle.refusals.specs.declared.Reason.TheVariants as reason
use Rattle.refusals.specs.Numbers.{refused, number_of}
use Rattle.refusals.proofs.Numbers.{numbers_differ}
use Rattle.pool.proofs.Exactly.{no_entry_exactly, wrong_kind_exactly, two_refusals}
use Rattle.opcodes.specs.Operands.{Meaning, Operand}
use Rattle.operands.specs.Checks.{signed_read, unless_fault, fault_in, index_fault, zero_fault, array_tag_fault, meant}
use Rattle.operands.specs.Faults.{WrongIndex, Wrong, BytesFault, OperandRefusedExactly}
use Rattle.operands.proofs.Exactly.{finds, found}
use Rattle.operands.proofs.Parts.{clash, same_first, same_reason, same_place}

-- a read is refused exactly where the code ends within its bytes
pub read_refused : (k : ℕ) (code : List ℕ) (at : CodeOffset) (why : Reason) (place : CodeOffset) → (read_of k code at ≡ Err (refused why place)) ↔ ((number_of why ≡ 3) × (place ≡ at) × (length code < at.0 + k))
read_refused k code at why place = (λ e. to (leb (at.0 + k) (length code)) refl e, λ h. read_past k code at h.2 ∙ rw (numbers_differ why reason.PastEnd h.0, h.1))
  where
    to : (t : Bool) → leb (at.0 + k) (length code) ≡ t → read_of k code at ≡ Err (refused why place) → (number_of why ≡ 3) × (place ≡ at) × (length code < at.0 + k)
    to true q e = absurd (clash (sym e ∙ read_found k code at (leb-true _ _ q)))
    to false q e =
        let past : length code < at.0 + k = leb-false _ _ q in
        let same = sym e ∙ read_past k code at past in
        (ap number_of (same_reason same), same_place same, past)

-- a checked read is refused as the read is, or its number is bad
data Turned (Bad : ℕ → Reason → Type 0) (at : CodeOffset) (found : Read) (why : Reason) (place : CodeOffset) : Type 0 where
  early : found ≡ Err (refused why place) → Turned Bad at found why place
  own : (v : ℕ) (next : CodeOffset) → found ≡ Ok (v, next) → Bad v why → place ≡ at → Turned Bad at found why place

-- a fault says what is bad
abbrev Tells : (ℕ → Option Reason) → (ℕ → Reason → Type 0) → Type 0
Tells fault Bad = (v : ℕ) (why : Reason) → (fault v ≡ Some why) ↔ Bad v why

module _ {fault : ℕ → Option Reason} {Bad : ℕ → Reason → Type 0} (tells : Tells fault Bad) (at : CodeOffset) where
  checked : (found : Read) (why : Reason) (place : CodeOffset) → (unless_fault fault at found ≡ Err (refused why place)) ↔ Turned Bad at found why place
  unfolding unless_fault
  checked (Err r) why place = (λ e. Turned.early e, from)
    where
      from : Turned Bad at (Err r) why place → ◌≡◌ {A = Read} (Err r) (Err (refused why place))
      from (Turned.early e) = e
      from (Turned.own v next e bad at_it) = absurd (clash e)
  checked (Ok f) why place = (λ e. to (fault f.0) refl e, from)
    where
      to : (k : Option Reason) → fault f.0 ≡ k → unless_fault fault at (Ok f) ≡ Err (refused why place) → Turned Bad at (Ok f) why place
      to None q e = absurd (let z : ◌≡◌ {A = Read} (Err (refused why place)) (Ok f) = sym e ∙ rw q in clash z)
      to (Some other) q e =
          let same : ◌≡◌ {A = Read} (Err (refused other at)) (Err (refused why place)) = sym (rw q) ∙ e in
          Turned.own f.0 f.1 refl ((tells f.0 why).0 (q ∙ ap (λ (r : Reason). Some r) (same_reason same))) (sym (same_place same))

      from : Turned Bad at (Ok f) why place → unless_fault fault at (Ok f) ≡ Err (refused why place)
      from (Turned.early e) = absurd (clash (sym e))
      from (Turned.own v next e bad there) =
          let bad_here : fault f.0 ≡ Some why = ap fault (same_first e) ∙ (tells v why).1 bad in
          rw (bad_here, there)

index_tells : (pool : List ℕ) (kinds : Kinds) → Tells (index_fault pool kinds) (WrongIndex pool kinds)
index_tells pool kinds v why = (λ h. to (entry_of_kind pool kinds v) refl h, from)
  where
    to : (e : Entry) → entry_of_kind pool kinds v ≡ e → fault_in (entry_of_kind pool kinds v) ≡ Some why → WrongIndex pool kinds v why
    to (Ok tag) q e = absurd (let z : None ≡ Some why = ap fault_in (sym q) ∙ e in cc)
    to (Err other) q e =
        let same : other ≡ why = (let z : Some other ≡ Some why = ap fault_in (sym q) ∙ e in cc) in
        let is : entry_of_kind pool kinds v ≡ Err why = q ∙ ap (λ (r : Reason). Err r) same in
        ⊎_elim
        (λ none. WrongIndex.no_entry none ((no_entry_exactly pool kinds v).0 (is ∙ ap (λ (r : Reason). Err r) (numbers_differ why reason.NoEntry none))))
        (λ wrong.
        let w = (wrong_kind_exactly pool kinds v).0 (is ∙ ap (λ (r : Reason). Err r) (numbers_differ why reason.WrongKind wrong)) in
        WrongIndex.wrong_kind wrong w.0 w.1 w.2)
        (two_refusals pool kinds v why is)

    from : WrongIndex pool kinds v why → fault_in (entry_of_kind pool kinds v) ≡ Some why
    from (WrongIndex.no_entry none h) = ap fault_in ((no_entry_exactly pool kinds v).1 h) ∙ ap (λ (r : Reason). Some r) (sym (numbers_differ why reason.NoEntry none))
    from (WrongIndex.wrong_kind wrong some inside other) = ap fault_in ((wrong_kind_exactly pool kinds v).1 (some, inside, other)) ∙ ap (λ (r : Reason). Some r) (sym (numbers_differ why reason.WrongKind wrong))

-- the number of a fault that is there
same_fault : {why : Reason} (other : Reason) → Some other ≡ Some why → number_of why ≡ number_of other
same_fault {why} other e = ap number_of (let same : why ≡ other = cc in same)

zero_tells : Tells zero_fault (λ v why. (number_of why ≡ 8) × (v ≡ 0 → ⊥))
zero_tells v why = (λ h. to (eqb v 0) refl h, λ h. rw (ne_eqb v 0 h.1, zero_fault) (ap (λ (r : Reason). Some r) (sym (numbers_differ why reason.NotZero h.0))))
  where
    to : (t : Bool) → eqb v 0 ≡ t → zero_fault v ≡ Some why → (number_of why ≡ 8) × (v ≡ 0 → ⊥)
    to true q e = absurd (let z : None ≡ Some why = sym (rw (q, zero_fault)) ∙ e in cc)
    to false q e = (same_fault reason.NotZero (sym (rw (q, zero_fault)) ∙ e), eqb-false v 0 q)

tag_tells : Tells array_tag_fault (λ v why. (number_of why ≡ 9) × ((v < 4) ⊎ (11 < v)))
tag_tells v why = (λ h. to (leb 4 v) refl (leb v 11) refl h, from)
  where
    to : (t : Bool) → leb 4 v ≡ t → (u : Bool) → leb v 11 ≡ u → array_tag_fault v ≡ Some why → (number_of why ≡ 9) × ((v < 4) ⊎ (11 < v))
    to true p true q e = absurd (let z : None ≡ Some why = sym (rw (p, q, array_tag_fault)) ∙ e in cc)
    to true p false q e = (same_fault reason.NoArrayTag (sym (rw (p, q, array_tag_fault)) ∙ e), inr (leb-false _ _ q))
    to false p u q e = (same_fault reason.NoArrayTag (sym (rw (p, array_tag_fault)) ∙ e), inl (leb-false _ _ p))

    below : (t : Bool) → leb 4 v ≡ t → 11 < v → array_tag_fault v ≡ Some reason.NoArrayTag
    below true p h = rw (p, lt-leb v 11 h, array_tag_fault)
    below false p h = rw (p, array_tag_fault)

    from : (number_of why ≡ 9) × ((v < 4) ⊎ (11 < v)) → array_tag_fault v ≡ Some why
    from h =
        ⊎_elim (λ (low : v < 4). rw (lt-leb 4 v low, array_tag_fault)) (λ (high : 11 < v). below (leb 4 v) refl high) h.1
        ∙ ap (λ (r : Reason). Some r) (sym (numbers_differ why reason.NoArrayTag h.0))

meant_refused : (pool : List ℕ) (k : ℕ) (meaning : Meaning) (at : CodeOffset) (found : Read) (why : Reason) (place : CodeOffset) → (meant pool k meaning at found ≡ Err (refused why place)) ↔ Turned (Wrong pool meaning) at found why place
unfolding signed_read
meant_refused pool k Meaning.unsigned at found why place = (λ e. Turned.early e, from)
  where
    from : Turned (Wrong pool Meaning.unsigned) at found why place → found ≡ Err (refused why place)
    from (Turned.early e) = e
    from (Turned.own v next e bad there) = absurd bad
meant_refused pool k Meaning.signed at (Err r) why place = (λ e. Turned.early e, from)
  where
    from : Turned (Wrong pool Meaning.signed) at (Err r) why place → ◌≡◌ {A = Read} (Err r) (Err (refused why place))
    from (Turned.early e) = e
    from (Turned.own v next e bad there) = absurd bad
meant_refused pool k Meaning.signed at (Ok f) why place = (λ e. absurd (clash (sym e)), from)
  where
    from : Turned (Wrong pool Meaning.signed) at (Ok f) why place → signed_read k (Ok f) ≡ Err (refused why place)
    from (Turned.early e) = absurd (clash (sym e))
    from (Turned.own v next e bad there) = absurd bad
meant_refused pool k (Meaning.index kinds) at found why place = checked (index_tells pool kinds) at found why place
meant_refused pool k Meaning.zero at found why place = checked zero_tells at found why place
meant_refused pool k Meaning.array_tag at found why place = checked tag_tells at found why place

pub operand_refused_exactly : OperandRefusedExactly
operand_refused_exactly code pool (Operand.implied k) at why place = (λ e. absurd (clash (sym e)), λ h. absurd h.0)
operand_refused_exactly code pool (Operand.bytes k meaning) at why place = (λ e. to ((meant_refused pool k meaning at (read_of k code at) why place).0 e), λ h. (meant_refused pool k meaning at (read_of k code at) why place).1 (from h.0 h.1))
  where
    to : Turned (Wrong pool meaning) at (read_of k code at) why place → BytesFault code pool k meaning at why × (place ≡ at)
    to (Turned.early e) = let r = (read_refused k code at why place).0 e in (BytesFault.short r.0 r.2, r.1)
    to (Turned.own v next e bad there) =
        let f = finds k code at v next e in
        let all : length (bytes_at k code at.0) ≡ k = length-take-le k (drop at.0 code) (rw length-drop (let w = f.within in omega arith)) in
        (BytesFault.wrong (bytes_at k code at.0) all (record { within = rw all f.within; there = ap (λ (m : ℕ). bytes_at m code at.0) all }) (rw (sym f.number) bad), there)

    from : BytesFault code pool k meaning at why → place ≡ at → Turned (Wrong pool meaning) at (read_of k code at) why place
    from (BytesFault.short three past) there = Turned.early ((read_refused k code at why place).1 (three, there, past))
    from (BytesFault.wrong bytes all stand bad) there =
        let same : bytes_at k code at.0 ≡ bytes = ap (λ (m : ℕ). bytes_at m code at.0) (sym all) ∙ stand.there in
        Turned.own (big_endian bytes) (after k at) (found k code at (big_endian bytes) (after k at) (record { within = rw (sym all) stand.within; number = ap big_endian (sym same); place = refl })) bad there

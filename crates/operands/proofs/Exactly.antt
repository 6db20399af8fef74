-- An operand is read exactly where its picture stands.
use Prim.Native.Nat.{ℕ, ◌+◌, ◌*◌, ◌^◌, ◌≤◌}
use mathlib.Core.Bool.{Bool, true, false, and-eq-true_iff}
use mathlib.Core.List.{List, [], ◌∷◌, head-eq_of_cons-eq}
use mathlib.Core.Logic.{◌↔◌}
use mathlib.Core.Path.{◌≡◌, refl, sym, ap, ◌∙◌, subst}
use native.Mathlib.Omega.{arith}
use borrow.Author.Tests.{leb-true, leb-false, le-leb, eqb-true, eq-eqb}
use lib.Dec.{leb, eqb}
use lib.ListN.{length, get_or, drop, length-drop}
use lib.Seq.{length-take-le}
use Rattle.read.specs.declared.CodeOffset.{CodeOffset}
use Rattle.read.specs.Reads.{Read, big_endian, bytes_at, after, read_of}
use Rattle.read.proofs.Laws.{read_past, read_found}
use Rattle.std.specs.Prelude.{Option, Some, None, Ok, Err}
use Rattle.refusals.specs.declared.Reason.{Reason}
use Rattle.refusals.specs.declared.Reason.TheVariants as reason
use Rattle.refusals.specs.Numbers.{refused}
use Rattle.pool.specs.declared.Kinds.{Kinds}
use Rattle.pool.specs.Entries.{Entry, entry_of_kind, HasKind}
use Rattle.pool.proofs.Exactly.{entry_found_exactly}
use Rattle.opcodes.specs.Operands.{Meaning, Operand}
use Rattle.operands.specs.Checks.{signed_read, unless_fault, fault_in, index_fault, zero_fault, is_array_tag, array_tag_fault, meant, operand_at}
use Rattle.operands.specs.Pictures.{value_of, Keeps, Named, Stand, Stands}
use Rattle.operands.specs.Theorems.{OperandExactly}
use Rattle.operands.proofs.Parts.{clash, same_first, same_end}

-- a read of n bytes finds exactly the number of those that stand there
pub record Finds (n : ℕ) (code : List ℕ) (at : CodeOffset) (v : ℕ) (next : CodeOffset) : Type 0 where
  pub within : at.0 + n ≤ length code
  pub number : v ≡ big_endian (bytes_at n code at.0)
  pub place : next ≡ after n at

module _ (n : ℕ) (code : List ℕ) (at : CodeOffset) (v : ℕ) (next : CodeOffset) where
  pub finds : read_of n code at ≡ Ok (v, next) → Finds n code at v next
  finds e = go (leb (at.0 + n) (length code)) refl
    where
      go : (t : Bool) → leb (at.0 + n) (length code) ≡ t → Finds n code at v next
      go true q =
          let fits = leb-true _ _ q in
          let same : ◌≡◌ {A = Read} (Ok (v, next)) (Ok (big_endian (bytes_at n code at.0), after n at)) = sym e ∙ read_found n code at fits in
          record { within = fits; number = same_first same; place = same_end same }
      go false q = absurd (clash (sym (read_past n code at (leb-false _ _ q)) ∙ e))

  pub found : Finds n code at v next → read_of n code at ≡ Ok (v, next)
  found f = read_found n code at f.within ∙ rw (f.number, f.place)

-- a read that is checked is accepted exactly where it finds a number without a fault
module _ (fault : ℕ → Option Reason) (at : CodeOffset) where
  unless_exactly : (found : Read) (v : ℕ) (next : CodeOffset) → (unless_fault fault at found ≡ Ok (v, next)) ↔ ((found ≡ Ok (v, next)) × (fault v ≡ None))
  unfolding unless_fault
  unless_exactly (Err r) v next = (λ e. absurd (clash e), λ h. absurd (clash h.0))
  unless_exactly (Ok f) v next = (λ e. to (fault f.0) refl e, λ h. from h)
    where
      to : (k : Option Reason) → fault f.0 ≡ k → unless_fault fault at (Ok f) ≡ Ok (v, next) → (◌≡◌ {A = Read} (Ok f) (Ok (v, next))) × (fault v ≡ None)
      to None q e =
          let same : ◌≡◌ {A = Read} (Ok f) (Ok (v, next)) = sym (rw q) ∙ e in
          (same, ap fault (sym (same_first same)) ∙ q)
      to (Some why) q e = absurd (let z : ◌≡◌ {A = Read} (Err (refused why at)) (Ok (v, next)) = sym (rw q) ∙ e in clash z)

      from : (◌≡◌ {A = Read} (Ok f) (Ok (v, next))) × (fault v ≡ None) → unless_fault fault at (Ok f) ≡ Ok (v, next)
      from h =
          let none : fault f.0 ≡ None = ap fault (same_first h.0) ∙ h.1 in
          rw none h.0

-- what a read of n bytes must have found for its meaning to have the value v
pub record Means (pool : List ℕ) (n : ℕ) (meaning : Meaning) (found : Read) (v : ℕ) (next : CodeOffset) : Type 0 where
  pub number : ℕ
  pub reads : found ≡ Ok (number, next)
  pub value : v ≡ value_of n meaning number
  pub keeps : Keeps meaning number
  pub named : Named pool (Operand.bytes n meaning) v

index_fault_lem : (pool : List ℕ) (kinds : Kinds) (v : ℕ) → (index_fault pool kinds v ≡ None) ↔ HasKind pool kinds v
index_fault_lem pool kinds v = (λ e. to (entry_of_kind pool kinds v) refl e, λ h. ap fault_in ((entry_found_exactly pool kinds v (get_or pool v 0)).1 (h, refl)))
  where
    to : (e : Entry) → entry_of_kind pool kinds v ≡ e → fault_in (entry_of_kind pool kinds v) ≡ None → HasKind pool kinds v
    to (Ok tag) q e = ((entry_found_exactly pool kinds v tag).0 q).0
    to (Err why) q e = absurd (let z : Some why ≡ None = ap fault_in (sym q) ∙ e in cc)

zero_fault_lem : (v : ℕ) → (zero_fault v ≡ None) ↔ (v ≡ 0)
zero_fault_lem v = (λ e. to (eqb v 0) refl e, λ e. rw (eq-eqb v 0 e, zero_fault))
  where
    to : (t : Bool) → eqb v 0 ≡ t → zero_fault v ≡ None → v ≡ 0
    to true q e = eqb-true v 0 q
    to false q e = absurd (let z : Some reason.NotZero ≡ None = sym (rw (q, zero_fault)) ∙ e in cc)

tag_fault : (v : ℕ) → (array_tag_fault v ≡ None) ↔ ((4 ≤ v) × (v ≤ 11))
tag_fault v = (λ e. to (is_array_tag v) refl e, λ h. rw ((and-eq-true_iff (leb 4 v) (leb v 11)).1 (le-leb 4 v h.0, le-leb v 11 h.1), array_tag_fault))
  where
    to : (t : Bool) → is_array_tag v ≡ t → array_tag_fault v ≡ None → (4 ≤ v) × (v ≤ 11)
    to true q e =
        let both = (and-eq-true_iff (leb 4 v) (leb v 11)).0 q in
        (leb-true 4 v both.0, leb-true v 11 both.1)
    to false q e = absurd (let z : Some reason.NoArrayTag ≡ None = sym (rw (q, array_tag_fault)) ∙ e in cc)

meant_exactly : (pool : List ℕ) (n : ℕ) (meaning : Meaning) (at : CodeOffset) (found : Read) (v : ℕ) (next : CodeOffset) → (meant pool n meaning at found ≡ Ok (v, next)) ↔ Means pool n meaning found v next
unfolding signed_read
meant_exactly pool n Meaning.unsigned at found v next = (
  λ e. record { number = v; reads = e; value = refl; keeps = tt; named = tt },
  λ m. m.reads ∙ ap (λ (x : ℕ). Ok (x, next)) (sym m.value),
)
meant_exactly pool n Meaning.signed at (Err r) v next = (λ e. absurd (clash e), λ m. absurd (clash m.reads))
meant_exactly pool n Meaning.signed at (Ok f) v next = (
  λ e. record { number = f.0; reads = ap (λ (end : CodeOffset). Ok (f.0, end)) (same_end e); value = sym (same_first e); keeps = tt; named = tt },
  λ h. ap (signed_read n) h.reads ∙ ap (λ (x : ℕ). Ok (x, next)) (sym h.value),
)
meant_exactly pool n (Meaning.index kinds) at found v next =
    let exactly = unless_exactly (index_fault pool kinds) at found v next in (
      λ e. record { number = v; reads = (exactly.0 e).0; value = refl; keeps = tt; named = (index_fault_lem pool kinds v).0 (exactly.0 e).1 },
      λ m. exactly.1 (m.reads ∙ ap (λ (x : ℕ). Ok (x, next)) (sym m.value), (index_fault_lem pool kinds v).1 m.named),
    )
meant_exactly pool n Meaning.zero at found v next =
    let exactly = unless_exactly zero_fault at found v next in (
      λ e. record { number = v; reads = (exactly.0 e).0; value = refl; keeps = (zero_fault_lem v).0 (exactly.0 e).1; named = tt },
      λ m. exactly.1 (m.reads ∙ ap (λ (x : ℕ). Ok (x, next)) (sym m.value), (zero_fault_lem v).1 (m.value ∙ m.keeps)),
    )
meant_exactly pool n Meaning.array_tag at found v next =
    let exactly = unless_exactly array_tag_fault at found v next in (
      λ e. record { number = v; reads = (exactly.0 e).0; value = refl; keeps = (tag_fault v).0 (exactly.0 e).1; named = tt },
      λ m. exactly.1 (m.reads ∙ ap (λ (x : ℕ). Ok (x, next)) (sym m.value), (tag_fault v).1 (rw m.value m.keeps)),
    )

pub nowhere : (at : CodeOffset) → at ≡ after 0 at
nowhere at = ap (λ (i : ℕ). record { 0 = i }) (let same : at.0 ≡ at.0 + 0 = omega arith in same)

pub operand_exactly : OperandExactly
operand_exactly code pool (Operand.implied k) at v next h = (
  λ e.
      let same : next ≡ at = sym (same_end e) in
      record { bytes = []; drawn = (sym (same_first e), refl); named = tt; stand = record { within = omega arith; there = refl }; place = same ∙ nowhere at },
  λ s. implied s,
)
  where
    implied : Stands code pool (Operand.implied k) at v next → ◌≡◌ {A = Read} (Ok (k, at)) (Ok (v, next))
    implied s =
        let none : s.bytes ≡ [] = s.drawn.1 in
        let same : next ≡ at = s.place ∙ ap (λ (b : List ℕ). after (length b) at) none ∙ sym (nowhere at) in
        rw (s.drawn.0, same)
operand_exactly code pool (Operand.bytes n meaning) at v next h = (λ e. to ((meant_exactly pool n meaning at (read_of n code at) v next).0 e), from)
  where
    to : Means pool n meaning (read_of n code at) v next → Stands code pool (Operand.bytes n meaning) at v next
    to m =
        let f = finds n code at m.number next m.reads in
        let all : length (bytes_at n code at.0) ≡ n = length-take-le n (drop at.0 code) (rw length-drop (let w = f.within in omega arith)) in
        record {
          bytes = bytes_at n code at.0;
          drawn = (all, m.value ∙ ap (value_of n meaning) f.number, subst (Keeps meaning) f.number m.keeps);
          named = m.named;
          stand = record { within = rw all f.within; there = ap (λ (k : ℕ). bytes_at k code at.0) all };
          place = f.place ∙ ap (λ (k : ℕ). after k at) (sym all);
        }

    from : Stands code pool (Operand.bytes n meaning) at v next → operand_at code pool (Operand.bytes n meaning) at ≡ Ok (v, next)
    from s =
        let all : length s.bytes ≡ n = s.drawn.0 in
        let there : bytes_at n code at.0 ≡ s.bytes = ap (λ (k : ℕ). bytes_at k code at.0) (sym all) ∙ s.stand.there in
        let f : Finds n code at (big_endian s.bytes) next = record { within = rw (sym all) s.stand.within; number = ap big_endian (sym there); place = s.place ∙ ap (λ (k : ℕ). after k at) all } in
        (meant_exactly pool n meaning at (read_of n code at) v next).1 (record { number = big_endian s.bytes; reads = found n code at (big_endian s.bytes) next f; value = s.drawn.1; keeps = s.drawn.2; named = s.named })

-- a single byte is the number that it stands for
single : (s : List ℕ) → length s ≡ 1 → s ≡ big_endian s ∷ []
unfolding big_endian
single [] e = absurd (omega arith)
single (b ∷ []) e = ap (λ (x : ℕ). x ∷ []) (let same : b ≡ b * 256 ^ 0 + 0 = omega arith in same)
single (b ∷ c ∷ s) e = absurd (omega arith)

pub byte_there : (code : List ℕ) (at : CodeOffset) (byte : ℕ) (next : CodeOffset) → read_of 1 code at ≡ Ok (byte, next) → Stand code at (byte ∷ []) × (next ≡ after 1 at)
byte_there code at byte next e =
    let f = finds 1 code at byte next e in
    let all : length (bytes_at 1 code at.0) ≡ 1 = length-take-le 1 (drop at.0 code) (rw length-drop (let w = f.within in omega arith)) in
    (record { within = f.within; there = single (bytes_at 1 code at.0) all ∙ ap (λ (x : ℕ). x ∷ []) (sym f.number) }, f.place)

pub byte_read : (code : List ℕ) (at : CodeOffset) (byte : ℕ) → Stand code at (byte ∷ []) → read_of 1 code at ≡ Ok (byte, after 1 at)
byte_read code at byte s =
    let number : byte ∷ [] ≡ big_endian (byte ∷ []) ∷ [] = single (byte ∷ []) refl in
    let same : byte ≡ big_endian (bytes_at 1 code at.0) = head-eq_of_cons-eq number ∙ ap big_endian (sym s.there) in
    found 1 code at byte (after 1 at) (record { within = s.within; number = same; place = refl })

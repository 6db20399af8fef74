-- The readings of field descriptors and the grammar agree, and the grammar derives a text in one way.
use Prim.Native.Nat.{ℕ, ◌+◌, ◌-◌, ◌≤◌, ◌<◌}
use mathlib.Core.Bool.{Bool, true, false, Bool-set, false≢true}
use mathlib.Core.List.Memᴰ
use mathlib.Core.List.{List, [], ◌∷◌, ◌++◌, append_assoc, append-nil, append_cancel_right, head-eq_of_cons-eq, tail-eq_of_cons-eq}
use mathlib.Core.Logic.{⊎_elim}
use mathlib.Core.Path.{◌≡◌, refl, sym, ap, ap₂, ◌∙◌, path_j}
use native.Mathlib.Omega.{arith}
use native.Mathlib.Decide.{ℕ_discrete}
use mathlib.Core.HLevel.{hedberg}
use borrow.Author.Tests.{eqb-true, eqb-false}
use lib.Dec.{eqb}
use lib.ListN.{length, drop, length-append, length-drop}
use Rattle.std.specs.Prelude.{Result, Ok, Err}
use Rattle.refusals.specs.declared.Refusal.{Refusal}
use Rattle.laws.specs.Bytes.{byte, In}
use Rattle.names.specs.Rules.{Joined}
use Rattle.names.proofs.Joined.{split_once, text_set}
use Rattle.class_names.specs.declared.NameEnd.{NameEnd}
use Rattle.class_names.specs.declared.NameEnd.TheVariants as name_end
use Rattle.class_names.specs.Names.{name_from}
use Rattle.class_names.specs.Rules.{barred_bytes, ClassName}
use Rattle.class_names.proofs.Rules.{ends_exactly, one_class_name}
use Rattle.descriptors.specs.declared.FieldDescriptor.{FieldDescriptor}
use Rattle.descriptors.specs.Texts.{max_dimensions, object, is_base_type, object_of, object_from, type_from, field_from}
use Rattle.descriptors.specs.Grammar.{FieldType, dimensions, parts_at}
use Rattle.descriptors.specs.Theorems.{OneDerivation, OneBeginning, BeginsField, FieldExactly}
use Rattle.descriptors.proofs.Laws.{clash, same_read, same_place, object_letter, base_letter, no_letter, type_first, bracket_256, bracket_first, type_due}

-- the letter of a base type is neither L nor [
base_not : (b c : ℕ) → is_base_type b ≡ true → is_base_type c ≡ false → b ≡ c → ⊥
base_not b c p n e = false≢true (sym n ∙ sym (ap is_base_type e) ∙ p)

-- From a reading to a derivation.
module _ (d at b : ℕ) (s : List ℕ) (f : FieldDescriptor) (next : ℕ) (few : d ≤ max_dimensions) where
  object_begins : b ≡ byte "L" → object_from d (at + 1) s ≡ Ok (f, next) → BeginsField d at (b ∷ s) f next
  unfolding object_of dimensions parts_at
  object_begins l h = go (name_from false (at + 1) s) refl h
    where
      go : (r : Result NameEnd (Refusal ℕ)) → name_from false (at + 1) s ≡ r → object_of d (at + 1) r ≡ Ok (f, next) → BeginsField d at (b ∷ s) f next
      go (Ok (name_end.Semicolon e)) q h =
          let n = (ends_exactly (at + 1) s e).0 q in
          let parts = same_read h in
          let place = same_place h in
          let long : e - (at + 1) ≡ length n.name = omega (arith, n.place) in
          record {
            text = b ∷ n.name ++ byte ";" ∷ [];
            rest = n.rest;
            tree = FieldType.object_type n.name l n.rule refl;
            split = ap (λ (t : List ℕ). b ∷ t) (n.split ∙ sym (append_assoc n.name (byte ";" ∷ []) n.rest));
            few = omega arith;
            parts = sym parts ∙ ap (object d (at + 1)) long;
            place = rw length-append (omega (arith, n.place));
          }
      go (Ok (name_end.TextEnd e)) q h = clash h
      go (Err r) q h = clash h

  type_begins : type_from d at b s ≡ Ok (f, next) → BeginsField d at (b ∷ s) f next
  unfolding dimensions parts_at
  type_begins h = go (eqb b (byte "L")) refl (is_base_type b) refl
    where
      go : (l : Bool) → eqb b (byte "L") ≡ l → (t : Bool) → is_base_type b ≡ t → BeginsField d at (b ∷ s) f next
      go true l t q = object_begins (eqb-true _ _ l) (sym (object_letter d at b s (eqb-true _ _ l)) ∙ h)
      go false l true q =
          let is = sym (base_letter d at b s (eqb-false _ _ l) q) ∙ h in
          let parts = same_read is in
          let place = same_place is in
          record { text = b ∷ []; rest = s; tree = FieldType.base_type q; split = refl; few = omega arith; parts = sym parts; place = sym place }
      go false l false q = clash (sym (no_letter d at b s (eqb-false _ _ l) q) ∙ h)

pub field_begins : (d at : ℕ) (s : List ℕ) (f : FieldDescriptor) (next : ℕ) → d ≤ max_dimensions → field_from d at s ≡ Ok (f, next) → BeginsField d at s f next
unfolding dimensions parts_at
field_begins d at [] f next few h = clash (sym (type_due d at) ∙ h)
field_begins d at (b ∷ s) f next few h = go (field_begins (d + 1) (at + 1) s f next) (eqb b (byte "[")) refl (eqb d max_dimensions) refl
  where
    go :
        (d + 1 ≤ max_dimensions → field_from (d + 1) (at + 1) s ≡ Ok (f, next) → BeginsField (d + 1) (at + 1) s f next)
        → (l : Bool) → eqb b (byte "[") ≡ l → (m : Bool) → eqb d max_dimensions ≡ m → BeginsField d at (b ∷ s) f next
    go more false l m q = type_begins d at b s f next few (sym (type_first d at b s (eqb-false _ _ l)) ∙ h)
    go more true l true q = clash (sym (bracket_256 d at b s (eqb-true _ _ l) (eqb-true _ _ q)) ∙ h)
    go more true l false q =
        let n = eqb-false d max_dimensions q in
        let r = more (omega arith) (sym (bracket_first d at b s (eqb-true _ _ l) n) ∙ h) in
        record {
          text = b ∷ r.text;
          rest = r.rest;
          tree = FieldType.array_type (eqb-true _ _ l) r.tree;
          split = ap (λ (t : List ℕ). b ∷ t) r.split;
          few = omega (arith, r.few);
          parts = r.parts;
          place = omega (arith, r.place);
        }

-- a field descriptor has a byte, and ends in the text
pub some_text : {s : List ℕ} → FieldType s → 0 < length s
some_text (FieldType.base_type p) = omega arith
some_text (FieldType.object_type name e c q) = omega arith
some_text (FieldType.array_type e t) = omega arith

-- it ends in what is left, and if it ends with it, it is all of it
module _ {d at : ℕ} {s : List ℕ} {f : FieldDescriptor} {next : ℕ} (b : BeginsField d at s f next) where
  long : length s ≡ length b.text + length b.rest
  long = ap length b.split ∙ length-append b.text b.rest

  pub begins_within : next ≤ at + length s
  begins_within = omega (arith, b.place, long)

  pub begins_all : next ≡ at + length s → s ≡ b.text
  begins_all all = b.split ∙ ap (λ (l : List ℕ). b.text ++ l) (nothing b.rest (omega (arith, b.place, long))) ∙ append-nil b.text
    where
      nothing : (l : List ℕ) → length l ≡ 0 → l ≡ []
      nothing [] h = refl
      nothing (x ∷ l) h = absurd (omega arith)

pub field_ends_in : (t : List ℕ) (at : ℕ) (f : FieldDescriptor) (next : ℕ) → at ≤ length t → field_from 0 at (drop at t) ≡ Ok (f, next) → (at < next) × (next ≤ length t)
field_ends_in t at f next h q =
    let b = field_begins 0 at (drop at t) f next (omega arith) q in
    omega (arith, b.place, some_text b.tree, length-drop at t, begins_within b)

-- From a derivation to a reading.
pub field_run : (d at : ℕ) {text : List ℕ} (tree : FieldType text) (rest : List ℕ) → d + dimensions tree ≤ max_dimensions → field_from d at (text ++ rest) ≡ Ok (parts_at d at tree, at + length text)
unfolding dimensions parts_at object_of
field_run d at (FieldType.base_type {b} p) rest few =
    type_first d at b rest (base_not b (byte "[") p refl) ∙ base_letter d at b rest (base_not b (byte "L") p refl) p
field_run d at (FieldType.object_type {l} {s} name e c q) rest few =
    type_first d at l (s ++ rest) (λ x. omega arith)
    ∙ object_letter d at l (s ++ rest) e
    ∙ ap (object_of d (at + 1)) ((ends_exactly (at + 1) (s ++ rest) (at + 1 + length name)).1 (record { name = name; rest = rest; rule = c; split = rw q (append_assoc name (byte ";" ∷ []) rest); place = refl }))
    ∙ ap₂ (λ (n p : ℕ). Ok (object d (at + 1) n, p)) (omega arith) (rw (q, length-append) (omega arith))
field_run d at (FieldType.array_type {a} {s} e t) rest few =
    bracket_first d at a (s ++ rest) e (λ x. omega arith)
    ∙ field_run (d + 1) (at + 1) t rest (omega arith)
    ∙ ap (λ (n : ℕ). Ok (parts_at (d + 1) (at + 1) t, n)) (omega arith)

pub field_exactly : FieldExactly
field_exactly d at s f next few = (field_begins d at s f next few, λ b. rw (b.split, b.parts, b.place) (field_run d at b.tree b.rest b.few))

-- One derivation.
semicolon_barred : In (byte ";") barred_bytes
semicolon_barred = Memᴰ.tail (Memᴰ.head refl)

class_no_semicolon : {n : List ℕ} → ClassName n → In (byte ";") n → ⊥
class_no_semicolon (Joined.last seg) m = seg.none (byte ";") m semicolon_barred
class_no_semicolon (Joined.more {w = w} {t = t} seg c e) m =
    ⊎_elim
    (λ i. seg.none (byte ";") i semicolon_barred)
    (λ i. ⊎_elim (λ q. omega arith) (class_no_semicolon c) (Memᴰ.cases_cons i))
    (Memᴰ.append_cases w (rw e at m))

ℕ_set : IsSet ℕ
ℕ_set = hedberg ℕ_discrete

same_object :
    {l : ℕ} {s : List ℕ} {m n : List ℕ} → m ≡ n → (d e : l ≡ byte "L") (b : ClassName m) (c : ClassName n) (p : s ≡ m ++ byte ";" ∷ []) (q : s ≡ n ++ byte ";" ∷ [])
    → FieldType.object_type m d b p ≡ FieldType.object_type n e c q
same_object {l} {s} {m} same d e b c p q =
    path_j (λ n same. (c : ClassName n) (q : s ≡ n ++ byte ";" ∷ []) → FieldType.object_type m d b p ≡ FieldType.object_type n e c q)
    (λ c q i. FieldType.object_type m (ℕ_set l (byte "L") d e i) (one_class_name m b c i) (text_set s (m ++ byte ";" ∷ []) p q i))
    same c q

pub one_derivation : OneDerivation
one_derivation s = one
  where
    one : {s : List ℕ} (t u : FieldType s) → t ≡ u
    one (FieldType.base_type p) (FieldType.base_type q) = ap FieldType.base_type (Bool-set _ _ p q)
    one (FieldType.base_type p) (FieldType.object_type name e c q) = absurd (base_not _ (byte "L") p refl e)
    one (FieldType.base_type p) (FieldType.array_type e u) = absurd (base_not _ (byte "[") p refl e)
    one (FieldType.object_type name e c q) (FieldType.base_type p) = absurd (base_not _ (byte "L") p refl e)
    one (FieldType.object_type m d b p) (FieldType.object_type n e c q) = same_object (append_cancel_right m n (byte ";" ∷ []) (sym p ∙ q)) d e b c p q
    one (FieldType.object_type name e c q) (FieldType.array_type f u) = absurd (omega arith)
    one (FieldType.array_type e t) (FieldType.base_type p) = absurd (base_not _ (byte "[") p refl e)
    one (FieldType.array_type f t) (FieldType.object_type name e c q) = absurd (omega arith)
    one (FieldType.array_type e t) (FieldType.array_type f u) = λ i. FieldType.array_type (ℕ_set _ (byte "[") e f i) (one t u i)

pub one_beginning : OneBeginning
one_beginning s t u v = one u v
  where
    one : {s t : List ℕ} (u v : List ℕ) → FieldType s → FieldType t → s ++ u ≡ t ++ v → (s ≡ t) × (u ≡ v)
    one u v (FieldType.base_type p) (FieldType.base_type q) h = (ap (λ (b : ℕ). b ∷ []) (head-eq_of_cons-eq h), tail-eq_of_cons-eq h)
    one u v (FieldType.base_type p) (FieldType.object_type name e c q) h = absurd (base_not _ (byte "L") p refl (head-eq_of_cons-eq h ∙ e))
    one u v (FieldType.base_type p) (FieldType.array_type e b) h = absurd (base_not _ (byte "[") p refl (head-eq_of_cons-eq h ∙ e))
    one u v (FieldType.object_type name e c q) (FieldType.base_type p) h = absurd (base_not _ (byte "L") p refl (sym (head-eq_of_cons-eq h) ∙ e))
    one u v (FieldType.object_type {l} {s} m d b p) (FieldType.object_type {l = k} {s = t} n e c q) h =
        let tails : m ++ byte ";" ∷ u ≡ n ++ byte ";" ∷ v = sym (rw p (append_assoc m (byte ";" ∷ []) u)) ∙ tail-eq_of_cons-eq h ∙ rw q (append_assoc n (byte ";" ∷ []) v) in
        let same = split_once (byte ";") m n (class_no_semicolon b) (class_no_semicolon c) tails in
        (ap₂ ◌∷◌ (head-eq_of_cons-eq h) (p ∙ ap (λ (w : List ℕ). w ++ byte ";" ∷ []) same.0 ∙ sym q), same.1)
    one u v (FieldType.object_type name e c q) (FieldType.array_type f b) h = let x = head-eq_of_cons-eq h in absurd (omega arith)
    one u v (FieldType.array_type e a) (FieldType.base_type p) h = absurd (base_not _ (byte "[") p refl (sym (head-eq_of_cons-eq h) ∙ e))
    one u v (FieldType.array_type f a) (FieldType.object_type name e c q) h = let x = head-eq_of_cons-eq h in absurd (omega arith)
    one u v (FieldType.array_type e a) (FieldType.array_type f b) h =
        let same = one u v a b (tail-eq_of_cons-eq h) in
        (ap₂ ◌∷◌ (head-eq_of_cons-eq h) same.0, same.1)

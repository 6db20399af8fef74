-- The clauses of the readings by their tests.
use Prim.Native.Nat.{ℕ, ◌+◌, ◌-◌, ◌≤◌, ◌<◌}
use mathlib.Core.Bool.{Bool, true, false, So, false≢true}
use mathlib.Core.List.{List, [], ◌∷◌}
use mathlib.Core.Logic.{◌↔◌, ⊎_elim}
use mathlib.Core.Path.{◌≡◌, refl, sym, ap, ap₂, ◌∙◌}
use borrow.Author.Tests.{eq-eqb, ne_eqb, lt-ltb, le-ltb, le-leb, lt-leb, leb-true, leb-false, ltb-true, ltb-false}
use native.Mathlib.Omega.{arith}
use lib.Dec.{eqb, leb, ltb}
use lib.ListN.{length, get_or, drop, length-drop}
use lib.Seq.{take_all}
use Rattle.std.specs.Prelude.{Option, Some, None, Result, Ok, Err, is_ok}
use Rattle.refusals.specs.declared.Reason.TheVariants as reason
use Rattle.refusals.specs.declared.Refusal.{Refusal}
use Rattle.refusals.specs.Numbers.{refused}
use Rattle.laws.specs.Bytes.{byte, ascii, begins_with, same_text, text_limit}
use Rattle.laws.proofs.Lists.{here, done, begins_at, begins_past}
use Rattle.names.proofs.Laws.{same_pointwise}
use denote.Ref.{Bor}
use lib.Pointwise.{pointwise}
use Rattle.std.specs.Option.{option_eq}
use Rattle.std.specs.Bool.{nat_eq}
use Rattle.std.specs.Slice.{IsGetRangeResult, IsItemAt}
use Rattle.class_names.specs.declared.NameEnd.TheVariants as name_end
use Rattle.class_names.specs.Names.{name_from}
use Rattle.descriptors.specs.declared.FieldDescriptor.{FieldDescriptor}
use Rattle.descriptors.specs.Texts.{Parsed, Field, max_dimensions, base, object, void, is_base_type, is_void, object_of, object_from, type_from, field_from, return_from, whole, field_prefix, field_text, return_prefix, array_of, array_text}

module _ (d at b : ℕ) (s : List ℕ) where
  pub object_letter : b ≡ byte "L" → type_from d at b s ≡ object_from d (at + 1) s
  unfolding type_from
  object_letter e = rw (eq-eqb _ _ e, type_from)

  pub base_letter : (b ≡ byte "L" → ⊥) → is_base_type b ≡ true → type_from d at b s ≡ Ok (base d b, at + 1)
  unfolding type_from
  base_letter n p = rw (ne_eqb b (byte "L") n, p, type_from)

  pub no_letter : (b ≡ byte "L" → ⊥) → is_base_type b ≡ false → type_from d at b s ≡ Err (refused reason.NoSuchType at)
  unfolding type_from
  no_letter n p = rw (ne_eqb b (byte "L") n, p, type_from)

  pub type_first : (b ≡ byte "[" → ⊥) → field_from d at (b ∷ s) ≡ type_from d at b s
  unfolding field_from
  type_first n = rw (ne_eqb b (byte "[") n, field_from)

  pub bracket_256 : b ≡ byte "[" → d ≡ max_dimensions → field_from d at (b ∷ s) ≡ Err (refused reason.Dimension256 at)
  unfolding field_from
  bracket_256 e f = rw (eq-eqb _ _ e, eq-eqb _ _ f, field_from)

  pub bracket_first : b ≡ byte "[" → (d ≡ max_dimensions → ⊥) → field_from d at (b ∷ s) ≡ field_from (d + 1) (at + 1) s
  unfolding field_from
  bracket_first e n = rw (eq-eqb _ _ e, ne_eqb d max_dimensions n, field_from)

pub type_due : (d at : ℕ) → field_from d at [] ≡ Err (refused reason.TypeDue at)
unfolding field_from
type_due d at = refl

-- The answers of the readers, by what was found at a place.
module _ (d at : ℕ) (s : List ℕ) where
  pub object_refused : {r : Refusal ℕ} → Err r ≡ name_from false at s → {a : Field} → a ≡ Err r → a ≡ object_from d at s
  unfolding object_of
  object_refused q e = e ∙ ap (object_of d at) q

  pub object_named : {e : ℕ} → Ok (name_end.Semicolon e) ≡ name_from false at s → {f : FieldDescriptor} → f ≡ object d at (e - at) → Ok (f, e + 1) ≡ object_from d at s
  unfolding object_of
  object_named {e} q f = ap (λ (g : FieldDescriptor). Ok (g, e + 1)) f ∙ ap (object_of d at) q

  pub object_not_ended : {e : ℕ} → Ok (name_end.TextEnd e) ≡ name_from false at s → {r : Refusal ℕ} → r ≡ refused reason.NameNotEnded e → Err r ≡ object_from d at s
  unfolding object_of
  object_not_ended q e = ap Err e ∙ ap (object_of d at) q

  module _ (b : ℕ) where
    pub object_read : b ≡ byte "L" → {a : Field} → a ≡ object_from d (at + 1) s → a ≡ type_from d at b s
    object_read l e = e ∙ sym (object_letter d at b s l)

    module _ (n : b ≡ byte "L" → ⊥) where
      pub base_read : is_base_type b ≡ true → {f : FieldDescriptor} → f ≡ base d b → Ok (f, at + 1) ≡ type_from d at b s
      base_read p e = ap (λ (f : FieldDescriptor). Ok (f, at + 1)) e ∙ sym (base_letter d at b s n p)

      pub no_type_read : is_base_type b ≡ false → {r : Refusal ℕ} → r ≡ refused reason.NoSuchType at → Err r ≡ type_from d at b s
      no_type_read p e = ap Err e ∙ sym (no_letter d at b s n p)

-- The loop over dimensions: what is left at the place `at` decides as the whole.
module _ (d at : ℕ) (s : List ℕ) {all : Field} (left : field_from d at (drop at s) ≡ all) where
  module _ (inside : at < length s) where
    first : {a : Field} → field_from d at (get_or s at 0 ∷ drop (at + 1) s) ≡ a → a ≡ all
    first e = sym (here (field_from d at) s at inside ∙ e) ∙ left

    pub type_there : (get_or s at 0 ≡ byte "[" → ⊥) → {a : Field} → a ≡ type_from d at (get_or s at 0) (drop (at + 1) s) → a ≡ all
    type_there n e = e ∙ first (type_first d at _ _ n)

    pub bracket_256_there : get_or s at 0 ≡ byte "[" → d ≡ max_dimensions → {r : Refusal ℕ} → r ≡ refused reason.Dimension256 at → Err r ≡ all
    bracket_256_there b m e = ap Err e ∙ first (bracket_256 d at _ _ b m)

    pub bracket_there : get_or s at 0 ≡ byte "[" → (d ≡ max_dimensions → ⊥) → field_from (d + 1) (at + 1) (drop (at + 1) s) ≡ all
    bracket_there b m = first (bracket_first d at _ _ b m)

  pub end_there : length s ≤ at → {end : ℕ} → end ≡ at → {r : Refusal ℕ} → r ≡ refused reason.TypeDue end → Err r ≡ all
  end_there past h e = ap Err (e ∙ ap (refused reason.TypeDue) h) ∙ sym (done (field_from d at) s at past ∙ type_due d at) ∙ left

module _ (at : ℕ) (s : List ℕ) where
  pub return_void : is_void s ≡ true → return_from at s ≡ Ok (void, at + 1)
  unfolding return_from
  return_void e = rw (e, return_from)

  pub return_value : is_void s ≡ false → return_from at s ≡ field_from 0 at s
  unfolding return_from
  return_value e = rw (e, return_from)

-- Two readings that are equal.
pub clash {ℓ} : {A : Type ℓ} {T : Type 0} {r : Refusal ℕ} {t : T} → ◌≡◌ {A = Result T (Refusal ℕ)} (Err r) (Ok t) → A
clash h = absurd (let z : ◌≡◌ {A = ℕ} 0 1 = cc in omega arith)

module _ {T : Type 0} {t u : T} {m n : ℕ} (h : ◌≡◌ {A = Parsed T} (Ok (t, m)) (Ok (u, n))) where
  pub same_read : t ≡ u
  same_read = ap read_of h
    where
      read_of : Parsed T → T
      read_of (Ok r) = r.0
      read_of (Err r) = t

  pub same_place : m ≡ n
  same_place = ap place_of h
    where
      place_of : Parsed T → ℕ
      place_of (Ok r) = r.1
      place_of (Err r) = m

-- A reading that must use all of n bytes.
module _ {T : Type 0} (n : ℕ) where
  module _ (t : T) (used : ℕ) where
    pub some_left : used < n → whole {T = T} n (Ok (t, used)) ≡ Err (refused reason.LeftOver used)
    unfolding whole
    some_left h = rw (lt-ltb _ _ h, whole)

    pub none_left : n ≤ used → whole {T = T} n (Ok (t, used)) ≡ Ok (t, used)
    unfolding whole
    none_left h = rw (le-ltb _ _ h, whole)

  pub none_read : (r : Refusal ℕ) → whole {T = T} n (Err r) ≡ Err r
  unfolding whole
  none_read r = refl

  pub whole_read : (r : Parsed T) (t : T) (used : ℕ) → whole n r ≡ Ok (t, used) → (r ≡ Ok (t, used)) × (n ≤ used)
  whole_read (Err r) t used h = clash (sym (none_read r) ∙ h)
  whole_read (Ok r) t used h = go (ltb r.1 n) refl
    where
      go : (left : Bool) → ltb r.1 n ≡ left → ◌≡◌ {A = Parsed T} (Ok r) (Ok (t, used)) × (n ≤ used)
      go true e = clash (sym (some_left r.0 r.1 (ltb-true _ _ e)) ∙ h)
      go false e =
          let none = ltb-false r.1 n e in
          let is : ◌≡◌ {A = Parsed T} (Ok r) (Ok (t, used)) = sym (none_left r.0 r.1 none) ∙ h in
          (is, omega (arith, same_place is))

  -- the same where the reading is known by an equation
  module _ {r : Parsed T} where
    pub error_whole : {x : Refusal ℕ} {a : Parsed T} → r ≡ Err x → a ≡ Err x → a ≡ whole n r
    error_whole e q = q ∙ sym (ap (whole n) e ∙ none_read _)

    module _ {t : T} {used : ℕ} (e : r ≡ Ok (t, used)) where
      pub left_whole : used < n → {x : Refusal ℕ} → x ≡ refused reason.LeftOver used → Err x ≡ whole n r
      left_whole h q = ap Err q ∙ sym (ap (whole n) e ∙ some_left t used h)

      pub used_whole : n ≤ used → Ok (t, used) ≡ whole n r
      used_whole h = sym (ap (whole n) e ∙ none_left t used h)

  -- where a reading uses no more than there is
  pub whole_is : {r : Parsed T} (t : T) (used : ℕ) → (r ≡ Ok (t, used) → used ≤ n) → (whole n r ≡ Ok (t, used)) ↔ ((r ≡ Ok (t, used)) × (used ≡ n))
  whole_is {r} t used bound = (
    λ h.
        let w = whole_read r t used h in
        let b = bound w.0 in
        (w.0, omega (arith, w.1)),
    λ h. ap (whole n) h.0 ∙ none_left t used (omega (arith, h.1)),
  )

-- Yes or no.
pub accepted_is : {T : Type 0} (r : Parsed T) → So (is_ok r) ↔ ((t : T) × (used : ℕ) × (r ≡ Ok (t, used)))
accepted_is (Ok r) = (λ h. (r.0, r.1, refl), λ h. refl)
accepted_is (Err r) = (λ h. absurd (false≢true h), λ h. clash h.2)

module _ (s : List ℕ) where
  pub field_within : length s ≤ text_limit → field_prefix s ≡ field_from 0 0 s
  unfolding field_prefix
  field_within h = rw (le-leb _ _ h, field_prefix)

  pub field_over : text_limit < length s → field_prefix s ≡ Err (refused reason.OverTheLimit 0)
  unfolding field_prefix
  field_over h = rw (lt-leb _ _ h, field_prefix)

  pub return_within : length s ≤ text_limit → return_prefix s ≡ return_from 0 s
  unfolding return_prefix
  return_within h = rw (le-leb _ _ h, return_prefix)

  pub return_over : text_limit < length s → return_prefix s ≡ Err (refused reason.OverTheLimit 0)
  unfolding return_prefix
  return_over h = rw (lt-leb _ _ h, return_prefix)

  pub array_over : text_limit < length s → array_text s ≡ Err (refused reason.OverTheLimit 0)
  unfolding array_text
  array_over h = rw (lt-leb _ _ h, array_text)

  module _ (short : length s ≤ text_limit) where
    pub array_none : begins_with (byte "[") s ≡ false → array_text s ≡ Ok None
    unfolding array_text
    array_none e = rw (le-leb _ _ short, e, array_text)

    pub array_some : begins_with (byte "[") s ≡ true → array_text s ≡ array_of (field_text s)
    unfolding array_text
    array_some e = rw (le-leb _ _ short, e, array_text)

module _ (at : ℕ) (s : List ℕ) where
  pub void_read : is_void s ≡ true → {f : FieldDescriptor} → f ≡ void → Ok (f, at + 1) ≡ return_from at s
  void_read v e = ap (λ (f : FieldDescriptor). Ok (f, at + 1)) e ∙ sym (return_void at s v)

  pub value_read : is_void s ≡ false → {a : Field} → a ≡ field_from 0 at s → a ≡ return_from at s
  value_read v e = e ∙ sym (return_value at s v)

-- The answers of the entries: over the limit, and of a text t within it.
module _ (s : List ℕ) {r : Refusal ℕ} (over : r ≡ refused reason.OverTheLimit 0) (long : text_limit < length s) where
  pub field_too_long : {a : Field} → a ≡ Err r → a ≡ field_prefix s
  field_too_long e = e ∙ ap Err over ∙ sym (field_over s long)

  pub return_too_long : {a : Field} → a ≡ Err r → a ≡ return_prefix s
  return_too_long e = e ∙ ap Err over ∙ sym (return_over s long)

  pub array_too_long : {a : Result (Option FieldDescriptor) (Refusal ℕ)} → a ≡ Err r → a ≡ array_text s
  array_too_long e = e ∙ ap Err over ∙ sym (array_over s long)

module _ {t s : List ℕ} (same : t ≡ s) (short : length t ≤ text_limit) where
  pub field_short : {a : Field} → a ≡ field_from 0 0 t → a ≡ field_prefix s
  field_short e = e ∙ sym (field_within t short) ∙ ap field_prefix same

  pub return_short : {a : Field} → a ≡ return_from 0 t → a ≡ return_prefix s
  return_short e = e ∙ sym (return_within t short) ∙ ap return_prefix same

  pub array_short_none : begins_with (byte "[") t ≡ false → Ok None ≡ array_text s
  array_short_none b = sym (array_none t short b) ∙ ap array_text same

  module _ (b : begins_with (byte "[") t ≡ true) where
    pub array_short_read : {f : FieldDescriptor} {used : ℕ} → Ok (f, used) ≡ field_text t → Ok (Some f) ≡ array_text s
    unfolding array_of
    array_short_read e = ap array_of e ∙ sym (array_some t short b) ∙ ap array_text same

    pub array_short_refused : {r : Refusal ℕ} → Err r ≡ field_text t → {a : Result (Option FieldDescriptor) (Refusal ℕ)} → a ≡ Err r → a ≡ array_text s
    unfolding array_of
    array_short_refused e q = q ∙ ap array_of e ∙ sym (array_some t short b) ∙ ap array_text same

-- V alone at a place of the text.
module _ (t : List ℕ) (at : ℕ) where
  pub void_past : length t ≤ at → is_void (drop at t) ≡ false
  unfolding same_text
  void_past h = done is_void t at h

  pub void_in : is_void (drop at t) ≡ true → at < length t
  void_in e = go (leb (length t) at) refl
    where
      go : (past : Bool) → leb (length t) at ≡ past → at < length t
      go true q = absurd (false≢true (sym (void_past (leb-true _ _ q)) ∙ e))
      go false q = leb-false _ _ q

-- The library's lookups: the byte at a place, and all that stands from a place on.
module _ (s : List ℕ) (at : ℕ) where
  pub begins_got : (b : Bor ℕ) (got : Option (Bor ℕ)) {r : Bool} → r ≡ option_eq (λ (x y : Bor ℕ). nat_eq x.now y.now) got (Some b) → IsItemAt s at got → r ≡ begins_with b.now (drop at s)
  begins_got b got e h = e ∙ go got h
    where
      go : (got : Option (Bor ℕ)) → IsItemAt s at got → option_eq (λ (x y : Bor ℕ). nat_eq x.now y.now) got (Some b) ≡ begins_with b.now (drop at s)
      go None h = sym (begins_past b.now s at h.3)
      go (Some x) h = ap (λ (c : ℕ). nat_eq c b.now) (h.4 (omega arith) 0) ∙ sym (begins_at b.now s at h.3.0)

  pub void_got : (v : Bor (List ℕ)) (got : Option (Bor (List ℕ))) {r : Bool} → r ≡ option_eq (λ (x y : Bor (List ℕ)). pointwise nat_eq x.now y.now) got (Some v) → v.now ≡ ascii "V" → IsGetRangeResult s at (length s) got → r ≡ is_void (drop at s)
  void_got v got q e h = q ∙ go got h
    where
      go : (got : Option (Bor (List ℕ))) → IsGetRangeResult s at (length s) got → option_eq (λ (x y : Bor (List ℕ)). pointwise nat_eq x.now y.now) got (Some v) ≡ is_void (drop at s)
      go None h = sym (void_past s at (⊎_elim (λ past. omega arith) (λ never. omega arith) h.0))
      go (Some x) h =
          let all : x.now ≡ drop at s = h.0.2 ∙ take_all (length s - at) (drop at s) (omega (arith, length-drop at s)) in
          same_pointwise x.now v.now ∙ ap₂ same_text all e

-- The theorems on whole texts, from those on what begins one.
use Prim.Native.Nat.{ℕ, ◌+◌, ◌≤◌, ◌<◌}
use mathlib.Core.Bool.{Bool, true, false, So, and-eq-true_iff}
use mathlib.Core.List.{List, [], append-nil}
use mathlib.Core.Logic.{◌↔◌, ◌⊎◌, inl, inr, ⊎_elim}
use mathlib.Core.Path.{◌≡◌, refl, sym, ap, ◌∙◌, subst}
use native.Mathlib.Nat.{zero-add}
use native.Mathlib.Omega.{arith}
use borrow.Author.Tests.{leb-true, leb-false}
use lib.Dec.{leb}
use lib.ListN.{length}
use Rattle.std.specs.Prelude.{Option, Some, None, Result, Ok, Err, is_ok}
use Rattle.refusals.specs.declared.Reason.TheVariants as reason
use Rattle.refusals.specs.declared.Refusal.{Refusal}
use Rattle.refusals.specs.Numbers.{refused}
use Rattle.laws.specs.Bytes.{byte, ascii, begins_with, text_limit}
use Rattle.laws.proofs.Lists.{begins_cons}
use Rattle.laws.proofs.Bytes.{same_text_lem, other_text}
use Rattle.descriptors.specs.declared.FieldDescriptor.{FieldDescriptor}
use Rattle.descriptors.specs.Texts.{Field, void, is_void, type_from, field_from, return_from, field_prefix, field_text, return_prefix, return_text, array_of, array_text}
use Rattle.descriptors.specs.Theorems.{BeginsField, ReturnExactly, DerivedField, FieldTextExactly, ReturnTextExactly, ArrayTextExactly, FieldWholeIsPrefix, ReturnWholeIsPrefix, FieldCheckAgrees, ReturnCheckAgrees, ArrayCheckAgrees}
use Rattle.descriptors.proofs.Laws.{clash, same_read, same_place, whole_is, accepted_is, array_over, array_none, array_some, return_void, return_value, field_within, field_over, return_within, return_over}
use Rattle.descriptors.proofs.Grammar.{field_exactly, field_begins, begins_within, begins_all}

-- V is no field descriptor, whatever the place
void_no_field : (at : ℕ) {f : FieldDescriptor} {next : ℕ} → field_from 0 at (ascii "V") ≡ Ok (f, next) → ⊥
unfolding field_from type_from
void_no_field at h = clash h

pub return_exactly : ReturnExactly
return_exactly at s f next = (λ h. to h (is_void s) refl, ⊎_elim from_void from_field)
  where
    to : return_from at s ≡ Ok (f, next) → (v : Bool) → is_void s ≡ v → ((s ≡ ascii "V") × (f ≡ void) × (next ≡ at + 1)) ⊎ BeginsField 0 at s f next
    to h true e =
        let is = sym (return_void at s e) ∙ h in
        inl ((same_text_lem s (ascii "V")).0 e, sym (same_read is), sym (same_place is))
    to h false e = inr (field_begins 0 at s f next (omega arith) (sym (return_value at s e) ∙ h))

    from_void : (s ≡ ascii "V") × (f ≡ void) × (next ≡ at + 1) → return_from at s ≡ Ok (f, next)
    from_void h = return_void at s ((same_text_lem s (ascii "V")).1 h.0) ∙ rw (h.1, h.2)

    from_field : BeginsField 0 at s f next → return_from at s ≡ Ok (f, next)
    from_field b =
        let read = (field_exactly 0 at s f next (omega arith)).1 b in
        return_value at s (other_text s (ascii "V") (λ e. void_no_field at (rw e at read))) ∙ read

module _ (s : List ℕ) (f : FieldDescriptor) (used : ℕ) where
  -- a reading that is refused over the limit
  within_limit : {r prefix : Field} → (length s ≤ text_limit → prefix ≡ r) → (text_limit < length s → prefix ≡ Err (refused reason.OverTheLimit 0)) → prefix ≡ Ok (f, used) → (length s ≤ text_limit) × (r ≡ Ok (f, used))
  within_limit {r} within over h = go (leb (length s) text_limit) refl
    where
      go : (t : Bool) → leb (length s) text_limit ≡ t → (length s ≤ text_limit) × (r ≡ Ok (f, used))
      go true e = let short = leb-true _ _ e in (short, sym (within short) ∙ h)
      go false e = clash (sym (over (leb-false _ _ e)) ∙ h)

  field_read : field_prefix s ≡ Ok (f, used) → (length s ≤ text_limit) × BeginsField 0 0 s f used
  field_read h =
      let read = within_limit (field_within s) (field_over s) h in
      (read.0, field_begins 0 0 s f used (omega arith) read.1)

  begins_short : BeginsField 0 0 s f used → used ≤ length s
  begins_short b = omega (arith, begins_within b)

  -- what begins a text and is as long is the text
  begins_derived : length s ≤ text_limit → used ≡ length s → BeginsField 0 0 s f used → DerivedField s f used
  begins_derived short all b =
      let is : s ≡ b.text = begins_all b (omega arith) in
      subst (λ (t : List ℕ). DerivedField t f used) (sym is)
      (record { short = rw is at short; tree = b.tree; few = rw zero-add at b.few; parts = b.parts; all = rw zero-add at b.place })

  derived_begins : DerivedField s f used → BeginsField 0 0 s f used
  derived_begins d = record { text = s; rest = []; tree = d.tree; split = sym (append-nil s); few = omega (arith, d.few); parts = d.parts; place = omega (arith, d.all) }

  derived_prefix : DerivedField s f used → field_prefix s ≡ Ok (f, used)
  derived_prefix d = field_within s d.short ∙ (field_exactly 0 0 s f used (omega arith)).1 (derived_begins d)

pub field_whole_is_prefix : FieldWholeIsPrefix
field_whole_is_prefix s f used = whole_is (length s) f used (λ h. begins_short s f used (field_read s f used h).1)

return_within_text : (s : List ℕ) (f : FieldDescriptor) (used : ℕ) → return_prefix s ≡ Ok (f, used) → used ≤ length s
return_within_text s f used h =
    let read = within_limit s f used (return_within s) (return_over s) h in
    ⊎_elim (λ v. rw v.0 (omega (arith, v.2))) (begins_short s f used) ((return_exactly 0 s f used).0 read.1)

pub return_whole_is_prefix : ReturnWholeIsPrefix
return_whole_is_prefix s f used = whole_is (length s) f used (return_within_text s f used)

pub field_text_exactly : FieldTextExactly
field_text_exactly s f used = (
  λ h.
      let w = (field_whole_is_prefix s f used).0 h in
      let read = field_read s f used w.0 in
      begins_derived s f used read.0 w.1 read.1,
  λ d. (field_whole_is_prefix s f used).1 (derived_prefix s f used d, d.all),
)

pub return_text_exactly : ReturnTextExactly
return_text_exactly s f used = (to, ⊎_elim from_void from_field)
  where
    to : return_text s ≡ Ok (f, used) → ((s ≡ ascii "V") × (f ≡ void) × (used ≡ 1)) ⊎ DerivedField s f used
    to h =
        let w = (return_whole_is_prefix s f used).0 h in
        let read = within_limit s f used (return_within s) (return_over s) w.0 in
        ⊎_elim inl (λ b. inr (begins_derived s f used read.0 w.1 b)) ((return_exactly 0 s f used).0 read.1)

    from : length s ≤ text_limit → used ≡ length s → ((s ≡ ascii "V") × (f ≡ void) × (used ≡ 1)) ⊎ BeginsField 0 0 s f used → return_text s ≡ Ok (f, used)
    from short all h = (return_whole_is_prefix s f used).1 (return_within s short ∙ (return_exactly 0 s f used).1 h, all)

    from_void : (s ≡ ascii "V") × (f ≡ void) × (used ≡ 1) → return_text s ≡ Ok (f, used)
    from_void h = from (rw h.0 (omega arith)) (rw h.0 h.2) (inl h)

    from_field : DerivedField s f used → return_text s ≡ Ok (f, used)
    from_field d = from d.short d.all (inr (derived_begins s f used d))

-- Yes or no.
pub field_check_agrees : FieldCheckAgrees
field_check_agrees s = accepted_is (field_text s)

pub return_check_agrees : ReturnCheckAgrees
return_check_agrees s = accepted_is (return_text s)

-- Arrays.
not_array {ℓ} : {A : Type ℓ} {f : FieldDescriptor} → ◌≡◌ {A = Result (Option FieldDescriptor) (Refusal ℕ)} (Ok None) (Ok (Some f)) → A
not_array h = absurd (let z : ◌≡◌ {A = ℕ} 0 1 = cc in omega arith)

array_parsed : (r : Field) (f : FieldDescriptor) → array_of r ≡ Ok (Some f) → (used : ℕ) × (r ≡ Ok (f, used))
unfolding array_of
array_parsed (Ok g) f h =
    let same : g.0 ≡ f = cc in
    (g.1, ap (λ (p : FieldDescriptor). Ok (p, g.1)) same)
array_parsed (Err r) f h = clash h

array_whole : (s : List ℕ) (f : FieldDescriptor) → (array_text s ≡ Ok (Some f)) ↔ (So (begins_with (byte "[") s) × (field_text s ≡ Ok (f, length s)))
array_whole s f = (λ h. to h (leb (length s) text_limit) refl (begins_with (byte "[") s) refl, from)
  where
    to : array_text s ≡ Ok (Some f) → (t : Bool) → leb (length s) text_limit ≡ t → (o : Bool) → begins_with (byte "[") s ≡ o → So (begins_with (byte "[") s) × (field_text s ≡ Ok (f, length s))
    to h false e o q = clash (sym (array_over s (leb-false _ _ e)) ∙ h)
    to h true e false q = not_array (sym (array_none s (leb-true _ _ e) q) ∙ h)
    to h true e true q =
        let read = array_parsed (field_text s) f (sym (array_some s (leb-true _ _ e) q) ∙ h) in
        (q, read.1 ∙ ap (λ (n : ℕ). Ok (f, n)) ((field_text_exactly s f read.0).0 read.1).all)

    from : So (begins_with (byte "[") s) × (field_text s ≡ Ok (f, length s)) → array_text s ≡ Ok (Some f)
    from h = array_some s ((field_text_exactly s f (length s)).0 h.1).short h.0 ∙ ap array_of h.1 ∙ unfold array_of in refl

pub array_text_exactly : ArrayTextExactly
array_text_exactly s f = (
  λ h.
      let a = (array_whole s f).0 h in
      let o = (begins_cons (byte "[") s).0 a.0 in
      (o.0, o.1, (field_text_exactly s f (length s)).0 a.1),
  λ h. (array_whole s f).1 ((begins_cons (byte "[") s).1 (h.0, h.1), (field_text_exactly s f (length s)).1 h.2),
)

pub array_check_agrees : ArrayCheckAgrees
array_check_agrees s = (
  λ h.
      let both = (and-eq-true_iff (begins_with (byte "[") s) (is_ok (field_text s))).0 h in
      let read = (accepted_is (field_text s)).0 both.1 in
      let all : read.1 ≡ length s = ((field_text_exactly s read.0 read.1).0 read.2).all in
      (read.0, (array_whole s read.0).1 (both.0, read.2 ∙ ap (λ (n : ℕ). Ok (read.0, n)) all)),
  λ h.
      let a = (array_whole s h.0).0 h.1 in
      (and-eq-true_iff (begins_with (byte "[") s) (is_ok (field_text s))).1 (a.0, (accepted_is (field_text s)).1 (h.0, length s, a.1)),
)

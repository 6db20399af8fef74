-- The rules of parts, their bytes and the answers of printing by their tests.
use Prim.Native.Nat.{ℕ, ◌+◌, ◌-◌, ◌≤◌, ◌<◌}
use mathlib.Core.Bool.{Bool, true, false, So, ◌&&◌, and-eq-true_iff}
use mathlib.Core.List.{List, [], ◌∷◌, ◌++◌, append_assoc}
use mathlib.Core.Logic.{◌↔◌, ◌⊎◌, inl, inr, ⊎_elim}
use mathlib.Core.Path.{◌≡◌, refl, sym, ap, ◌∙◌}
use native.Mathlib.Nat.{add-sub_cancel_left}
use native.Mathlib.Omega.{arith}
use borrow.Author.Tests.{eqb-true, eqb-false, eq-eqb, ne_eqb, leb-true, leb-false, le-leb, lt-leb, ltb-true}
use lib.Dec.{eqb, leb, ltb}
use lib.ListN.{length, take, drop, set, replicate, length-append, length-replicate, length-drop}
use lib.Seq.{sets, length-take-le}
use Rattle.laws.specs.Bytes.{byte, ascii, every, text_limit}
use Rattle.laws.proofs.Bools.{so_or}
use Rattle.laws.proofs.Bytes.{one_of_lem}
use Rattle.laws.proofs.Lists.{every_in}
use Rattle.class_names.specs.Names.{is_class_name}
use Rattle.class_names.specs.Rules.{ClassName}
use Rattle.class_names.proofs.Rules.{class_name_exactly}
use Rattle.descriptors.specs.declared.FieldDescriptor.{FieldDescriptor}
use Rattle.descriptors.specs.Texts.{max_dimensions, void, is_base_type}
use Rattle.std.specs.Prelude.{Ok, Err, IsErrAnd}
use Rattle.refusals.specs.declared.Reason.TheVariants as reason
use Rattle.refusals.specs.declared.Refusal.{Refusal}
use Rattle.refusals.specs.Numbers.{refused}
use Rattle.output.specs.Output.{Output, writing, output_after}
use Rattle.output.proofs.Writing.{sets_append, sets_more, writing_fits, writing_too_short, written_after, passed_on}
use Rattle.printing.specs.Printing.{name_of, type_bytes, part_bytes, part_length, has_name, has_no_name, is_type_part, is_field_part, is_void_part, is_return_part, check_room, printing}

-- The rules by their tests.
module _ (text : List ℕ) (f : FieldDescriptor) where
  pub object_rule : f.letter ≡ byte "L" → is_type_part text f ≡ has_name text f
  unfolding is_type_part
  object_rule e = rw (eq-eqb _ _ e, is_type_part)

  pub base_rule : (f.letter ≡ byte "L" → ⊥) → is_type_part text f ≡ (is_base_type f.letter && has_no_name f)
  unfolding is_type_part
  base_rule n = rw (ne_eqb f.letter (byte "L") n, is_type_part)

  pub few_dimensions : f.dimensions ≤ max_dimensions → is_type_part text f ≡ is_field_part text f
  few_dimensions h = rw (le-leb _ _ h)

  -- The bytes and their length.
  pub object_bytes : f.letter ≡ byte "L" → type_bytes text f ≡ byte "L" ∷ name_of text f ++ byte ";" ∷ []
  unfolding type_bytes
  object_bytes e = rw (eq-eqb _ _ e, type_bytes)

  pub letter_bytes : (f.letter ≡ byte "L" → ⊥) → type_bytes text f ≡ f.letter ∷ []
  unfolding type_bytes
  letter_bytes n = rw (ne_eqb f.letter (byte "L") n, type_bytes)

module _ (f : FieldDescriptor) where
  pub object_length : f.letter ≡ byte "L" → part_length f ≡ f.dimensions + f.length + 2
  unfolding part_length
  object_length e = rw (eq-eqb _ _ e, part_length)

  pub letter_length : (f.letter ≡ byte "L" → ⊥) → part_length f ≡ f.dimensions + 1
  unfolding part_length
  letter_length n = rw (ne_eqb f.letter (byte "L") n, part_length)

  pub some_length : f.dimensions + 1 ≤ part_length f
  some_length = go (eqb f.letter (byte "L")) refl
    where
      go : (t : Bool) → eqb f.letter (byte "L") ≡ t → f.dimensions + 1 ≤ part_length f
      go true e = omega (arith, object_length (eqb-true _ _ e))
      go false e = omega (arith, letter_length (eqb-false _ _ e))

-- What the rules say of a part.
pub data FieldPart (text : List ℕ) (f : FieldDescriptor) : Type 0 where
  base_part : f.dimensions ≤ max_dimensions → (f.letter ≡ byte "L" → ⊥) → So (is_base_type f.letter) → f.start ≡ 0 → f.length ≡ 0 → FieldPart text f
  object_part : f.dimensions ≤ max_dimensions → f.letter ≡ byte "L" → f.start + f.length ≤ length text → ClassName (name_of text f) → FieldPart text f

abbrev pub ReturnPart : List ℕ → FieldDescriptor → Type 0
ReturnPart text f = (f ≡ void) ⊎ FieldPart text f

no_name : (f : FieldDescriptor) → So (has_no_name f) ↔ ((f.start ≡ 0) × (f.length ≡ 0))
no_name f = (
  λ h. let both = (and-eq-true_iff (eqb f.start 0) (eqb f.length 0)).0 h in (eqb-true _ _ both.0, eqb-true _ _ both.1),
  λ h. (and-eq-true_iff (eqb f.start 0) (eqb f.length 0)).1 (eq-eqb _ _ h.0, eq-eqb _ _ h.1),
)

pub field_part : (text : List ℕ) (f : FieldDescriptor) → So (is_field_part text f) ↔ FieldPart text f
field_part text f = (to, from)
  where
    to : So (is_field_part text f) → FieldPart text f
    to h = go (eqb f.letter (byte "L")) refl
      where
        both : So (leb f.dimensions max_dimensions) × So (is_type_part text f)
        both = (and-eq-true_iff (leb f.dimensions max_dimensions) (is_type_part text f)).0 h

        few : f.dimensions ≤ max_dimensions
        few = leb-true _ _ both.0

        go : (t : Bool) → eqb f.letter (byte "L") ≡ t → FieldPart text f
        go true e =
            let l = eqb-true _ _ e in
            let name = (and-eq-true_iff (leb (f.start + f.length) (length text)) (is_class_name (name_of text f))).0 (sym (object_rule text f l) ∙ both.1) in
            FieldPart.object_part few l (leb-true _ _ name.0) ((class_name_exactly (name_of text f)).0 name.1)
        go false e =
            let n = eqb-false _ _ e in
            let type = (and-eq-true_iff (is_base_type f.letter) (has_no_name f)).0 (sym (base_rule text f n) ∙ both.1) in
            let none = (no_name f).0 type.1 in
            FieldPart.base_part few n type.0 none.0 none.1

    from : FieldPart text f → So (is_field_part text f)
    from (FieldPart.base_part few n b s l) =
        sym (few_dimensions text f few) ∙ base_rule text f n ∙ (and-eq-true_iff (is_base_type f.letter) (has_no_name f)).1 (b, (no_name f).1 (s, l))
    from (FieldPart.object_part few l r c) =
        sym (few_dimensions text f few) ∙ object_rule text f l
        ∙ (and-eq-true_iff (leb (f.start + f.length) (length text)) (is_class_name (name_of text f))).1 (le-leb _ _ r, (class_name_exactly (name_of text f)).1 c)

pub void_part : (f : FieldDescriptor) → So (is_void_part f) ↔ (f ≡ void)
void_part f = (to, λ e. ap is_void_part e)
  where
    to : So (is_void_part f) → f ≡ void
    to h =
        let whole = (and-eq-true_iff (eqb f.letter (byte "V") && eqb f.dimensions 0) (has_no_name f)).0 h in
        let front = (and-eq-true_iff (eqb f.letter (byte "V")) (eqb f.dimensions 0)).0 whole.0 in
        let none = (no_name f).0 whole.1 in
        let letter = eqb-true f.letter (byte "V") front.0 in
        let dimensions = eqb-true f.dimensions 0 front.1 in
        λ i. record { dimensions = dimensions i; letter = letter i; start = none.0 i; length = none.1 i }

pub return_part : (text : List ℕ) (f : FieldDescriptor) → So (is_return_part text f) ↔ ReturnPart text f
return_part text f = (
  λ h. ⊎_elim (λ v. inl ((void_part f).0 v)) (λ p. inr ((field_part text f).0 p)) ((so_or (is_void_part f) (is_field_part text f)).0 h),
  λ h. (so_or (is_void_part f) (is_field_part text f)).1 (⊎_elim (λ v. inl ((void_part f).1 v)) (λ p. inr ((field_part text f).1 p)) h),
)

-- the bytes of a part that keeps the rules are as many as it says
module _ (text : List ℕ) (f : FieldDescriptor) where
  pub name_length : f.start + f.length ≤ length text → length (name_of text f) ≡ f.length
  name_length h = length-take-le f.length (drop f.start text) (rw (length-drop f.start text) (omega arith))

  pub name_copied : f.start + f.length ≤ length text → length (take (f.start + f.length - f.start) (drop f.start text)) ≡ f.length
  name_copied h = ap (λ (n : ℕ). length (take n (drop f.start text))) (add-sub_cancel_left f.start f.length) ∙ name_length h

  part_letter_length : (f.letter ≡ byte "L" → ⊥) → length (part_bytes text f) ≡ part_length f
  part_letter_length n = rw (letter_bytes text f n, length-append (replicate f.dimensions (byte "[")) (f.letter ∷ []), length-replicate, letter_length f n)

  part_object_length : f.letter ≡ byte "L" → f.start + f.length ≤ length text → length (part_bytes text f) ≡ part_length f
  part_object_length l r =
      let type : length (type_bytes text f) ≡ f.length + 2 = ap length (object_bytes text f l) ∙ rw (length-append (byte "L" ∷ name_of text f) (byte ";" ∷ []), name_length r) (omega arith) in
      length-append (replicate f.dimensions (byte "[")) (type_bytes text f) ∙ rw (length-replicate, type, object_length f l) (omega arith)

  pub part_length_lem : ReturnPart text f → length (part_bytes text f) ≡ part_length f
  part_length_lem (inl v) = part_letter_length (λ l. omega (arith, ap (λ (g : FieldDescriptor). g.letter) v))
  part_length_lem (inr (FieldPart.base_part few n b s l)) = part_letter_length n
  part_length_lem (inr (FieldPart.object_part few l r c)) = part_object_length l r

-- The writing of such a part: its letter is a byte, and its name lies in the text.
base_byte : (b : ℕ) → So (is_base_type b) → b < 256
base_byte b h = ltb-true b 256 ((every_in (λ (x : ℕ). ltb x 256) (ascii "BCDFIJSZ")).0 small b ((one_of_lem (ascii "BCDFIJSZ") b).0 h))
  where
    small : So (every (λ (x : ℕ). ltb x 256) (ascii "BCDFIJSZ"))
    small = unfold every in refl

pub part_byte : (text : List ℕ) (f : FieldDescriptor) → ReturnPart text f → f.letter < 256
part_byte text f (inl v) = omega (arith, ap (λ (g : FieldDescriptor). g.letter) v)
part_byte text f (inr (FieldPart.base_part few n b s l)) = base_byte f.letter b
part_byte text f (inr (FieldPart.object_part few l r c)) = omega (arith, l)

pub part_range : (text : List ℕ) (f : FieldDescriptor) → ReturnPart text f → f.letter ≡ byte "L" → f.start + f.length ≤ length text
part_range text f (inl v) l = absurd (omega (arith, l, ap (λ (g : FieldDescriptor). g.letter) v))
part_range text f (inr (FieldPart.base_part few n b s e)) l = absurd (n l)
part_range text f (inr (FieldPart.object_part few e r c)) l = r

module _ (text : List ℕ) (f : FieldDescriptor) (out first : List ℕ) (at : ℕ) (run : first ≡ sets out at (replicate f.dimensions (byte "["))) where
  front : List ℕ
  front = replicate f.dimensions (byte "[") ++ f.letter ∷ []

  front_length : length front ≡ f.dimensions + 1
  unfolding front
  front_length = length-append (replicate f.dimensions (byte "[")) (f.letter ∷ []) ∙ rw length-replicate

  lettered : set first (at + f.dimensions) f.letter ≡ sets out at front
  unfolding front
  lettered =
      ap (λ (o : List ℕ). set o (at + f.dimensions) f.letter) run
      ∙ sets_more out at f.dimensions f.letter (replicate f.dimensions (byte "[")) (length-replicate f.dimensions (byte "["))

  pub letter_written : (f.letter ≡ byte "L" → ⊥) → set first (at + f.dimensions) f.letter ≡ sets out at (part_bytes text f)
  unfolding front
  letter_written n = lettered ∙ ap (λ (l : List ℕ). sets out at (replicate f.dimensions (byte "[") ++ l)) (sym (letter_bytes text f n))

  module _ (l : f.letter ≡ byte "L") (r : f.start + f.length ≤ length text) (third : List ℕ) where
    named : sets (set first (at + f.dimensions) f.letter) (at + f.dimensions + 1) (name_of text f) ≡ sets out at (front ++ name_of text f)
    named =
        let place : at + f.dimensions + 1 ≡ at + length front = omega (arith, front_length) in
        rw (lettered, place) (sets_append out at front (name_of text f))

    ended : set (sets out at (front ++ name_of text f)) (at + f.dimensions + 1 + f.length) (byte ";") ≡ sets out at (front ++ name_of text f ++ byte ";" ∷ [])
    ended =
        let long : length (front ++ name_of text f) ≡ f.dimensions + 1 + f.length = length-append front (name_of text f) ∙ rw (front_length, name_length text f r) in
        let place : at + f.dimensions + 1 + f.length ≡ at + (f.dimensions + 1 + f.length) = omega arith in
        rw place (sets_more out at (f.dimensions + 1 + f.length) (byte ";") (front ++ name_of text f) long)

    bytes : front ++ name_of text f ++ byte ";" ∷ [] ≡ part_bytes text f
    unfolding front
    bytes =
        append_assoc front (name_of text f) (byte ";" ∷ [])
        ∙ append_assoc (replicate f.dimensions (byte "[")) (f.letter ∷ []) (name_of text f ++ byte ";" ∷ [])
        ∙ ap (λ (b : ℕ). replicate f.dimensions (byte "[") ++ (b ∷ name_of text f ++ byte ";" ∷ [])) l
        ∙ ap (λ (t : List ℕ). replicate f.dimensions (byte "[") ++ t) (sym (object_bytes text f l))

    pub object_written :
        third ≡ sets (set first (at + f.dimensions) f.letter) (at + f.dimensions + 1) (take (f.start + f.length - f.start) (drop f.start text))
        → set third (at + f.dimensions + 1 + f.length) (byte ";") ≡ sets out at (part_bytes text f)
    object_written e =
        let copied : take (f.start + f.length - f.start) (drop f.start text) ≡ name_of text f = ap (λ (n : ℕ). take n (drop f.start text)) (add-sub_cancel_left f.start f.length) in
        ap (λ (o : List ℕ). set o (at + f.dimensions + 1 + f.length) (byte ";")) (e ∙ ap (sets (set first (at + f.dimensions) f.letter) (at + f.dimensions + 1)) copied ∙ named)
        ∙ ended
        ∙ ap (sets out at) bytes

-- The answers of printing by their tests.
module _ (text : List ℕ) (kept : Bool) (bytes : List ℕ) (room : ℕ) where
  pub print_over : text_limit < length text → printing text kept bytes room ≡ Err (refused reason.OverTheLimit 0)
  unfolding printing
  print_over h = rw (lt-leb _ _ h, printing)

  module _ (short : length text ≤ text_limit) where
    pub print_broken : kept ≡ false → printing text kept bytes room ≡ Err (refused reason.BrokenParts 0)
    unfolding printing
    print_broken k = rw (le-leb _ _ short, k, printing)

    pub print_long : kept ≡ true → text_limit < length bytes → printing text kept bytes room ≡ Err (refused reason.OverTheLimit 0)
    unfolding printing
    print_long k h = rw (le-leb _ _ short, k, lt-leb _ _ h, printing)

    pub print_within : kept ≡ true → length bytes ≤ text_limit → printing text kept bytes room ≡ writing bytes room
    unfolding printing
    print_within k h = rw (le-leb _ _ short, k, le-leb _ _ h, printing)

-- the end of an entry whose text is over the limit
pub text_over :
    (text : List ℕ) (kept : Bool) (bytes out : List ℕ) (returned : Output) (r : Refusal ℕ) → IsErrAnd returned (λ (e : Refusal ℕ). e ≡ r) → (r ≡ refused reason.OverTheLimit 0) × (text_limit < length text)
    → (returned ≡ printing text kept bytes (length out)) × (out ≡ output_after (printing text kept bytes (length out)) bytes out)
text_over text kept bytes out returned r is over = passed_on _ bytes out returned r is (rw over.0 (print_over text kept bytes (length out) over.1))

module _ (n room : ℕ) where
  pub room_long : text_limit < n → check_room n room ≡ Err (refused reason.OverTheLimit 0)
  unfolding check_room
  room_long h = rw (lt-leb _ _ h, check_room)

  pub room_short : n ≤ text_limit → room < n → check_room n room ≡ Err (refused reason.TooShort 0)
  unfolding check_room
  room_short h k = rw (le-leb _ _ h, lt-leb _ _ k, check_room)

  pub room_enough : n ≤ text_limit → n ≤ room → check_room n room ≡ Ok tt
  unfolding check_room
  room_enough h k = rw (le-leb _ _ h, le-leb _ _ k, check_room)

-- a number that is the length of these bytes, if it is within the limit
pub record Measures (n : ℕ) (bytes : List ℕ) : Type 0 where
  pub within : n ≤ text_limit → n ≡ length bytes
  pub over : text_limit < n → text_limit < length bytes

pub measures : (n : ℕ) (bytes : List ℕ) → n ≡ length bytes → Measures n bytes
measures n bytes e = record { within = λ h. e; over = λ h. omega arith }

-- The answer by the check of such a length.
module _ (text : List ℕ) (kept : Bool) (bytes : List ℕ) (room : ℕ) (short : length text ≤ text_limit) (k : kept ≡ true) (n : ℕ) (m : Measures n bytes) where
  pub print_refused : (r : Refusal ℕ) → Err r ≡ check_room n room → printing text kept bytes room ≡ Err r
  print_refused r told = go (leb n text_limit) refl (leb n room) refl
    where
      go : (t : Bool) → leb n text_limit ≡ t → (u : Bool) → leb n room ≡ u → printing text kept bytes room ≡ Err r
      go false e u q =
          let over : text_limit < n = leb-false _ _ e in
          let same : r ≡ refused reason.OverTheLimit 0 = cc (told ∙ room_long n room over) in
          print_long text kept bytes room short k (m.over over) ∙ ap Err (sym same)
      go true e false q =
          let within : n ≤ text_limit = leb-true _ _ e in
          let more : room < length bytes = omega (arith, leb-false n room q, m.within within) in
          let same : r ≡ refused reason.TooShort 0 = cc (told ∙ room_short n room within (leb-false n room q)) in
          print_within text kept bytes room short k (omega (arith, m.within within)) ∙ writing_too_short bytes room more ∙ ap Err (sym same)
      go true e true q = cc (told ∙ room_enough n room (leb-true _ _ e) (leb-true _ _ q))

  pub print_fits : Ok tt ≡ check_room n room → (n ≡ length bytes) × (n ≤ room)
  print_fits told = go (leb n text_limit) refl (leb n room) refl
    where
      go : (t : Bool) → leb n text_limit ≡ t → (u : Bool) → leb n room ≡ u → (n ≡ length bytes) × (n ≤ room)
      go false e u q = absurd (cc (told ∙ room_long n room (leb-false _ _ e)))
      go true e false q = absurd (cc (told ∙ room_short n room (leb-true n text_limit e) (leb-false n room q)))
      go true e true q = (m.within (leb-true _ _ e), leb-true _ _ q)

  pub print_written : Ok tt ≡ check_room n room → printing text kept bytes room ≡ Ok n
  print_written told = go (leb n text_limit) refl
    where
      go : (t : Bool) → leb n text_limit ≡ t → printing text kept bytes room ≡ Ok n
      go false e = absurd (cc (told ∙ room_long n room (leb-false _ _ e)))
      go true e =
          let fits = print_fits told in
          print_within text kept bytes room short k (omega (arith, fits.0, leb-true n text_limit e)) ∙ writing_fits bytes room (omega (arith, fits)) ∙ ap Ok (sym fits.0)

-- The ends of the printing of a part.
module _ (text : List ℕ) (f : FieldDescriptor) (kept : Bool) (out : List ℕ) (short : length text ≤ text_limit) (k : kept ≡ true) (rules : So kept → So (is_return_part text f)) (n : ℕ) (long : n ≡ part_length f) where
  measured : Measures n (part_bytes text f)
  measured = measures n (part_bytes text f) (long ∙ sym (part_length_lem text f ((return_part text f).0 (rules k))))

  abbrev answer : Output
  answer = printing text kept (part_bytes text f) (length out)

  pub part_refused : (r : Refusal ℕ) → Err r ≡ check_room n (length out) → answer ≡ Err r
  part_refused r told = print_refused text kept (part_bytes text f) (length out) short k n measured r told

  module _ (told : Ok tt ≡ check_room n (length out)) where
    pub part_fits : So (is_return_part text f) × (0 + part_length f ≤ length out)
    part_fits = (rules k, omega (arith, long, (print_fits text kept (part_bytes text f) (length out) short k n measured told).1))

    pub part_printed : (last : List ℕ) → last ≡ sets out 0 (part_bytes text f) → (Ok n ≡ answer) × (last ≡ output_after answer (part_bytes text f) out)
    part_printed last e =
        let fits = print_fits text kept (part_bytes text f) (length out) short k n measured told in
        written_after answer (part_bytes text f) out last n (print_written text kept (part_bytes text f) (length out) short k n measured told) fits.0 fits.1 e

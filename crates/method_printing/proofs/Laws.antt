-- The parts in the records of a store, the length of their bytes as it grows, and their writing.
use Prim.Native.Nat.{ℕ, zero, suc, ◌+◌, ◌*◌, ◌≤◌, ◌<◌}
use mathlib.Core.Bool.{Bool, true, false, So, ◌&&◌, and-eq-true_iff}
use mathlib.Core.List.{List, [], ◌∷◌, ◌++◌, append_assoc}
use mathlib.Core.Logic.{inl, inr}
use mathlib.Core.Path.{◌≡◌, refl, sym, ap, ap₂, ◌∙◌}
use native.Mathlib.Nat.{add-zero}
use native.Mathlib.Numerals.{add-one}
use native.Mathlib.Omega.{arith}
use borrow.Author.Tests.{le-leb, lt-leb}
use lib.ListN.{length, get_or, take, drop, set, length-append}
use lib.Seq.{sets, drop-cons, length-sets}
use Rattle.std.specs.Prelude.{Ok, Err}
use Rattle.std.specs.Simd.{first_chunks}
use Rattle.std.proofs.lemmas.List.{drop_all}
use Rattle.refusals.specs.declared.Reason.TheVariants as reason
use Rattle.refusals.specs.declared.Refusal.{Refusal}
use Rattle.refusals.specs.Numbers.{refused}
use Rattle.laws.specs.Bytes.{byte, every, text_limit}
use Rattle.descriptors.specs.declared.FieldDescriptor.{FieldDescriptor}
use Rattle.descriptors.specs.Texts.{void}
use Rattle.methods.specs.Texts.{part_words, room_of}
use Rattle.output.specs.Output.{Output, output_after}
use Rattle.output.proofs.Writing.{sets_append, sets_more, written_after}
use Rattle.printing.specs.Printing.{part_bytes, part_length, is_field_part, is_return_part, check_room, printing}
use Rattle.printing.proofs.Laws.{object_length, letter_length, FieldPart, ReturnPart, field_part, return_part, part_length_lem, Measures, print_refused, print_fits, print_written}
use Rattle.method_printing.specs.Printing.{all_bytes, method_bytes, first_part, parts_of, parts_in, keep_rules, are_method_parts, capped, length_from, print_parts, parts_output, print_method, method_output}

-- The records of a store, cut off four words at a time, have its parts.
first_of : (store : List ℕ) → first_part (take part_words store) ≡ first_part store
first_of [] = refl
first_of (a ∷ []) = refl
first_of (a ∷ b ∷ []) = refl
first_of (a ∷ b ∷ c ∷ []) = refl
first_of (a ∷ b ∷ c ∷ d ∷ rest) = refl

pub parts_of_records : (count room : ℕ) (store : List ℕ) → count ≤ room → parts_of (take count (first_chunks part_words room store)) ≡ parts_in count store
unfolding parts_in
parts_of_records zero room store h = refl
parts_of_records (suc count) zero store h = absurd (omega arith)
parts_of_records (suc count) (suc room) store h = ap₂ ◌∷◌ (first_of store) (parts_of_records count room (drop part_words store) (omega arith))

-- the parts of the records from the i-th on
abbrev pub left : List (List ℕ) → ℕ → List FieldDescriptor
left records i = parts_of (drop i records)

left_next : (records : List (List ℕ)) (i : ℕ) → i < length records → left records i ≡ first_part (get_or records i []) ∷ left records (i + 1)
left_next records i h = rw add-one (ap parts_of (drop-cons records i [] h))

left_none : (records : List (List ℕ)) (i : ℕ) → length records ≤ i → left records i ≡ []
left_none records i h = ap parts_of (drop_all i records h)

-- One parameter more.
module _ (text : List ℕ) (before : ℕ) (f : FieldDescriptor) (fs : List FieldDescriptor) where
  pub length_broken : is_field_part text f ≡ false → length_from text before (f ∷ fs) ≡ Err (refused reason.BrokenParts 0)
  unfolding length_from
  length_broken e = rw (e, length_from)

  pub length_kept : is_field_part text f ≡ true → length_from text before (f ∷ fs) ≡ length_from text (capped (before + part_length f)) fs
  unfolding length_from
  length_kept e = rw (e, length_from)

pub field_bound : (text : List ℕ) (f : FieldDescriptor) → length text ≤ text_limit → So (is_field_part text f) → part_length f ≤ 2 * text_limit
field_bound text f short k = go ((field_part text f).0 k)
  where
    go : FieldPart text f → part_length f ≤ 2 * text_limit
    go (FieldPart.base_part few n b s l) = omega (arith, few, letter_length f n)
    go (FieldPart.object_part few l r c) = omega (arith, few, r, short, object_length f l)

-- The loop that adds lengths up.
pub record Summing (text : List ℕ) (records : List (List ℕ)) (before i : ℕ) : Type 0 where
  pub bound : before ≤ text_limit + 1
  pub decides : length_from text before (left records i) ≡ length_from text 0 (parts_of records)

module _ (text : List ℕ) (records : List (List ℕ)) (before i : ℕ) (s : Summing text records before i) where
  pub summing_end : length records ≤ i → Ok before ≡ length_from text 0 (parts_of records)
  unfolding length_from
  summing_end h = sym (ap (length_from text before) (left_none records i h)) ∙ s.decides

  module _ (h : i < length records) (f : FieldDescriptor) (is : f ≡ first_part (get_or records i [])) where
    here : length_from text before (f ∷ left records (i + 1)) ≡ length_from text 0 (parts_of records)
    here = ap (λ (g : FieldDescriptor). length_from text before (g ∷ left records (i + 1))) is ∙ sym (ap (length_from text before) (left_next records i h)) ∙ s.decides

    pub summing_broken : false ≡ is_field_part text f → Err (refused reason.BrokenParts 0) ≡ length_from text 0 (parts_of records)
    summing_broken k = sym (length_broken text before f (left records (i + 1)) (sym k)) ∙ here

    pub summing_more : true ≡ is_field_part text f → (l : ℕ) → l ≡ part_length f → (n : ℕ) → n ≡ capped (before + l) → Summing text records n (i + 1)
    summing_more k l long n e =
        let more : n ≡ capped (before + part_length f) = e ∙ ap (λ (x : ℕ). capped (before + x)) long in
        record {
          bound = omega arith;
          decides = ap (λ (x : ℕ). length_from text x (left records (i + 1))) more ∙ sym (length_kept text before f (left records (i + 1)) (sym k)) ∙ here;
        }

-- The loop that writes parameters.
pub record Putting (text : List ℕ) (records : List (List ℕ)) (out₀ : List ℕ) (at : ℕ) (out : List ℕ) (next i : ℕ) : Type 0 where
  pub kept : length out ≡ length out₀
  pub keeps : So (every (is_field_part text) (left records i))
  pub ends : next + length (all_bytes text (left records i)) ≡ at + length (all_bytes text (parts_of records))
  pub writes : sets out next (all_bytes text (left records i)) ≡ sets out₀ at (all_bytes text (parts_of records))

module _ (text : List ℕ) (records : List (List ℕ)) (out₀ : List ℕ) (at : ℕ) (out : List ℕ) (next i : ℕ) (p : Putting text records out₀ at out next i) where
  pub putting_end : length records ≤ i → (next ≡ at + length (all_bytes text (parts_of records))) × (out ≡ sets out₀ at (all_bytes text (parts_of records)))
  unfolding all_bytes
  putting_end h =
      let none = left_none records i h in (
        sym (add-zero next) ∙ sym (ap (λ (l : List FieldDescriptor). next + length (all_bytes text l)) none) ∙ p.ends,
        sym (ap (λ (l : List FieldDescriptor). sets out next (all_bytes text l)) none) ∙ p.writes,
      )

  module _ (h : i < length records) (f : FieldDescriptor) (is : f ≡ first_part (get_or records i [])) where
    next_left : left records i ≡ f ∷ left records (i + 1)
    next_left = left_next records i h ∙ ap (λ (g : FieldDescriptor). g ∷ left records (i + 1)) (sym is)

    both_keep : So (is_field_part text f) × So (every (is_field_part text) (left records (i + 1)))
    unfolding every
    both_keep = (and-eq-true_iff (is_field_part text f) (every (is_field_part text) (left records (i + 1)))).0 (sym (ap (every (is_field_part text)) next_left) ∙ p.keeps)

    return_keeps : ReturnPart text f
    return_keeps = inr ((field_part text f).0 both_keep.0)

    ends_next : next + part_length f + length (all_bytes text (left records (i + 1))) ≡ at + length (all_bytes text (parts_of records))
    unfolding all_bytes
    ends_next =
        let long : length (all_bytes text (left records i)) ≡ part_length f + length (all_bytes text (left records (i + 1))) =
        ap (λ (l : List FieldDescriptor). length (all_bytes text l)) next_left ∙ length-append (part_bytes text f) (all_bytes text (left records (i + 1))) ∙ ap (λ (n : ℕ). n + length (all_bytes text (left records (i + 1)))) (part_length_lem text f return_keeps) in
        omega (arith, long, p.ends)

    pub putting_fits : at + length (all_bytes text (parts_of records)) ≤ length out₀ → So (is_return_part text f) × (next + part_length f ≤ length out)
    putting_fits room = ((return_part text f).1 return_keeps, omega (arith, ends_next, p.kept))

    pub putting_more : (last : List ℕ) → last ≡ sets out next (part_bytes text f) → (l : ℕ) → l ≡ part_length f → Putting text records out₀ at last (next + l) (i + 1)
    unfolding all_bytes
    putting_more last e l long =
        let place : next + l ≡ next + length (part_bytes text f) = ap (λ (n : ℕ). next + n) (long ∙ sym (part_length_lem text f return_keeps)) in
        record {
          kept = ap length e ∙ length-sets out next (part_bytes text f) ∙ p.kept;
          keeps = both_keep.1;
          ends = ap (λ (n : ℕ). next + n + length (all_bytes text (left records (i + 1)))) long ∙ ends_next;
          writes = ap₂ (λ (o : List ℕ) (n : ℕ). sets o n (all_bytes text (left records (i + 1)))) e place
              ∙ sets_append out next (part_bytes text f) (all_bytes text (left records (i + 1)))
              ∙ sym (ap (λ (fs : List FieldDescriptor). sets out next (all_bytes text fs)) next_left)
              ∙ p.writes;
        }

-- The whole descriptor.
module _ (text : List ℕ) (ps : List FieldDescriptor) (r : FieldDescriptor) where
  pub method_length : So (is_return_part text r) → length (method_bytes text ps r) ≡ length (all_bytes text ps) + part_length r + 2
  method_length k =
      let all = length-append (byte "(" ∷ all_bytes text ps) (byte ")" ∷ part_bytes text r) in
      let last = part_length_lem text r ((return_part text r).0 k) in
      omega (arith, all, last)

  pub method_written :
      (out second last : List ℕ) (close : ℕ) → second ≡ sets (set out 0 (byte "(")) 1 (all_bytes text ps) → close ≡ 1 + length (all_bytes text ps)
      → last ≡ sets (set second close (byte ")")) (close + 1) (part_bytes text r) → last ≡ sets out 0 (method_bytes text ps r)
  method_written out second last close e c f =
      let front : List ℕ = byte "(" ∷ all_bytes text ps in
      let opened : second ≡ sets out 0 front = e ∙ sets_append out 0 (byte "(" ∷ []) (all_bytes text ps) in
      let place : close ≡ 0 + length front = omega arith in
      let closed : set second close (byte ")") ≡ sets out 0 (front ++ byte ")" ∷ []) = ap₂ (λ (o : List ℕ) (i : ℕ). set o i (byte ")")) opened place ∙ sets_more out 0 (length front) (byte ")") front refl in
      let next : close + 1 ≡ 0 + length (front ++ byte ")" ∷ []) = rw (length-append front (byte ")" ∷ [])) (omega arith) in
      f ∙ ap₂ (λ (o : List ℕ) (i : ℕ). sets o i (part_bytes text r)) closed next ∙ sets_append out 0 (front ++ byte ")" ∷ []) (part_bytes text r) ∙ ap (sets out 0) (append_assoc front (byte ")" ∷ []) (part_bytes text r))

-- Parameters that all keep the rules have a length, and others have none.
length_caps :
    (text : List ℕ) (fs : List FieldDescriptor) (before m n : ℕ) → before ≡ capped m → length_from text before fs ≡ Ok n
    → So (every (is_field_part text) fs) × (n ≡ capped (m + length (all_bytes text fs)))
unfolding length_from every all_bytes
length_caps text [] before m n c h =
    let same : before ≡ n = cc in
    (refl, omega arith)
length_caps text (f ∷ fs) before m n c h = go (length_caps text fs (capped (before + part_length f)) (m + part_length f) n (omega arith)) (is_field_part text f) refl
  where
    go :
        (length_from text (capped (before + part_length f)) fs ≡ Ok n → So (every (is_field_part text) fs) × (n ≡ capped (m + part_length f + length (all_bytes text fs))))
        → (t : Bool) → is_field_part text f ≡ t → So (every (is_field_part text) (f ∷ fs)) × (n ≡ capped (m + length (all_bytes text (f ∷ fs))))
    go more false e = absurd (cc (sym (length_broken text before f fs e) ∙ h))
    go more true e = unfold every all_bytes in
        let rest = more (sym (length_kept text before f fs e) ∙ h) in
        let long : m + part_length f + length (all_bytes text fs) ≡ m + length (part_bytes text f ++ all_bytes text fs) = rw (length-append (part_bytes text f) (all_bytes text fs), part_length_lem text f (inr ((field_part text f).0 e))) (omega arith) in
        ((and-eq-true_iff (is_field_part text f) (every (is_field_part text) fs)).1 (e, rest.0), rest.1 ∙ ap capped long)

length_none : (text : List ℕ) (fs : List FieldDescriptor) (before : ℕ) (r : Refusal ℕ) → length_from text before fs ≡ Err r → (every (is_field_part text) fs ≡ false) × (r ≡ refused reason.BrokenParts 0)
unfolding length_from every
length_none text [] before r h = absurd (cc h)
length_none text (f ∷ fs) before r h = go (length_none text fs (capped (before + part_length f)) r) (is_field_part text f) refl
  where
    go : (length_from text (capped (before + part_length f)) fs ≡ Err r → (every (is_field_part text) fs ≡ false) × (r ≡ refused reason.BrokenParts 0)) → (t : Bool) → is_field_part text f ≡ t → (every (is_field_part text) (f ∷ fs) ≡ false) × (r ≡ refused reason.BrokenParts 0)
    go more false e = unfold every in (ap (λ (b : Bool). b && every (is_field_part text) fs) e, cc (sym h ∙ length_broken text before f fs e))
    go more true e = unfold every in
        let rest = more (sym (length_kept text before f fs e) ∙ h) in
        (ap₂ ◌&&◌ e rest.0, rest.1)

-- The ends of the printing of parts.
module _ (text : List ℕ) (ps : List FieldDescriptor) (r : FieldDescriptor) where
  abbrev keeps : Bool
  keeps = keep_rules text ps r

  pub return_broken : false ≡ is_return_part text r → keeps ≡ false
  return_broken e = rw (sym e)

  module _ (e : true ≡ is_return_part text r) where
    pub parameters_broken : (x : Refusal ℕ) → Err x ≡ length_from text 0 ps → (keeps ≡ false) × (x ≡ refused reason.BrokenParts 0)
    parameters_broken x h =
        let none = length_none text ps 0 x (sym h) in
        (rw (sym e) none.0, none.1)

    module _ (short : length text ≤ text_limit) (n : ℕ) (h : Ok n ≡ length_from text 0 ps) where
      counted : So (every (is_field_part text) ps) × (n ≡ capped (0 + length (all_bytes text ps)))
      counted = length_caps text ps 0 0 n (omega arith) (sym h)

      all_kept : keeps ≡ true
      all_kept = rw (sym e) counted.0

      return_bound : part_length r ≤ 2 * text_limit
      return_bound = go ((return_part text r).0 (sym e))
        where
          go : ReturnPart text r → part_length r ≤ 2 * text_limit
          go (inl v) = rw v (omega (arith, letter_length void (λ l. omega arith)))
          go (inr p) = field_bound text r short ((field_part text r).1 p)

      pub method_bound : n + part_length r + 2 ≤ 4 * text_limit
      method_bound = omega (arith, counted.1, return_bound)

      module _ (l : ℕ) (long : l ≡ part_length r) (out : List ℕ) where
        measured : Measures (n + l + 2) (method_bytes text ps r)
        measured =
            record {
              within = λ k. omega (arith, counted.1, long, method_length text ps r (sym e));
              over = λ k. omega (arith, counted.1, long, k, method_length text ps r (sym e));
            }

        abbrev answer : Output
        answer = printing text keeps (method_bytes text ps r) (length out)

        pub method_refused : (x : Refusal ℕ) → Err x ≡ check_room (n + l + 2) (length out) → answer ≡ Err x
        method_refused = print_refused text keeps (method_bytes text ps r) (length out) short all_kept (n + l + 2) measured

        module _ (told : Ok tt ≡ check_room (n + l + 2) (length out)) where
          fits : (n + l + 2 ≡ length (method_bytes text ps r)) × (n + l + 2 ≤ length out)
          fits = print_fits text keeps (method_bytes text ps r) (length out) short all_kept (n + l + 2) measured told

          pub method_fits : So (is_return_part text r) × So (every (is_field_part text) ps) × (length (method_bytes text ps r) ≤ length out)
          method_fits = (sym e, counted.0, omega (arith, fits.0, fits.1))

          pub method_printed : (last : List ℕ) → last ≡ sets out 0 (method_bytes text ps r) → (Ok (n + l + 2) ≡ answer) × (last ≡ output_after answer (method_bytes text ps r) out)
          method_printed last q =
              written_after answer (method_bytes text ps r) out last (n + l + 2) (print_written text keeps (method_bytes text ps r) (length out) short all_kept (n + l + 2) measured told) fits.0 fits.1 q

-- The records there, a method's parts keep the rules where these do.
module _ (text store : List ℕ) (count : ℕ) (r : FieldDescriptor) where
  pub records_missing : room_of store < count → are_method_parts text store count r ≡ false
  records_missing h = rw (lt-leb _ _ h)

  pub records_there : count ≤ room_of store → keep_rules text (parts_in count store) r ≡ are_method_parts text store count r
  records_there h = rw (le-leb _ _ h)

  module _ (there : count ≤ room_of store) (out : List ℕ) where
    pub method_answer : print_parts text (parts_in count store) r (length out) ≡ print_method text store count r (length out)
    method_answer = ap (λ (keep : Bool). printing text keep (method_bytes text (parts_in count store) r) (length out)) (records_there there)

    -- the answer and the output of the entry are those of its parts
    pub method_ends : (near : List ℕ) (records : List (List ℕ)) → near ≡ text → records ≡ first_chunks part_words (room_of store) store → (answer : Output) (last : List ℕ)
        → answer ≡ print_parts near (parts_of (take count records)) r (length out) → last ≡ parts_output near (parts_of (take count records)) r out
        → (answer ≡ print_method text store count r (length out)) × (last ≡ method_output text store count r out)
    method_ends near records same cut given last a w =
        let parts : parts_of (take count records) ≡ parts_in count store = ap (λ (rs : List (List ℕ)). parts_of (take count rs)) cut ∙ parts_of_records count (room_of store) store there in (
          a ∙ ap₂ (λ (t : List ℕ) (ps : List FieldDescriptor). print_parts t ps r (length out)) same parts ∙ method_answer,
          w ∙ ap₂ (λ (t : List ℕ) (ps : List FieldDescriptor). parts_output t ps r out) same parts ∙ ap (λ (x : Output). output_after x (method_bytes text (parts_in count store) r) out) method_answer,
        )

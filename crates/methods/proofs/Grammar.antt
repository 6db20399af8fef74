-- The readings of method descriptors and the grammar agree, and the grammar derives a text in one way.
use Prim.Native.Nat.{ℕ, zero, suc, ◌+◌, ◌-◌, ◌<◌}
use mathlib.Core.Bool.{false, So, false≢true}
use mathlib.Core.List.{List, [], ◌∷◌, ◌++◌, append_assoc, append-nil, tail-eq_of_cons-eq}
use mathlib.Core.Path.{◌≡◌, refl, sym, ap, ap₂, ◌∙◌, subst, path_j}
use native.Mathlib.Nat.{zero-add}
use native.Mathlib.Omega.{arith}
use borrow.Author.Tests.{ne_eqb}
use lib.ListN.{length, drop, length-append}
use lib.Seq.{drop_at}
use Rattle.std.specs.Prelude.{Result, Ok, Err}
use Rattle.refusals.specs.declared.Refusal.{Refusal}
use Rattle.laws.specs.Bytes.{byte, ascii, begins_with}
use Rattle.laws.proofs.Lists.{begins_cons}
use Rattle.names.proofs.Joined.{text_set}
use Rattle.descriptors.specs.declared.FieldDescriptor.{FieldDescriptor}
use Rattle.descriptors.specs.Texts.{is_base_type}
use Rattle.descriptors.specs.Grammar.{FieldType, ReturnDescriptor, parts_at}
use Rattle.descriptors.specs.Theorems.{BeginsField}
use Rattle.descriptors.proofs.Grammar.{field_begins, field_run, some_text, one_derivation as one_field, one_beginning as one_field_beginning}
use Rattle.descriptors.proofs.Entries.{return_exactly}
use Rattle.methods.specs.declared.Next.{Next}
use Rattle.methods.specs.declared.Next.TheVariants as next
use Rattle.methods.specs.Texts.{parameter_of, return_of, next_from, Reading, rest_from, opening, method_reading}
use Rattle.methods.specs.Grammar.{Parameters, MethodDescriptor, FewDimensions, reading_at}
use Rattle.methods.specs.Theorems.{accepted, BeginsReturn, BeginsRest, BeginsMethod, MethodExactly, OneDerivation, OneBeginning}
use Rattle.methods.proofs.Laws.{next_return, next_parameter, is_parameter, is_return, rest_none, rest_parameter, rest_return, rest_refused, opening_facts, opening_good, opened_reading, reading_refused}

-- From a reading to a derivation.
no_reading : {x : Refusal ℕ} {r : Reading} → r ≡ Reading.refused x → So (accepted r) → ⊥
no_reading e h = false≢true (sym (ap accepted e) ∙ h)

module _ (most at : ℕ) (s : List ℕ) where
  return_begins : (f : FieldDescriptor) (used : ℕ) → next_from at s ≡ Ok (next.Return f used) → BeginsRest at s (rest_from (suc most) at s)
  unfolding reading_at
  return_begins f used e =
      let r = is_return at s f used e in
      let here : at + 1 ≡ at + 0 + 1 = omega arith in
      record {
        parameters = [];
        follows = r.0;
        trees = Parameters.none;
        few = tt;
        split = r.1;
        return = f;
        used = used;
        returns = rw (← here) ((return_exactly (at + 1) r.0 f used).0 r.2);
        reading = rest_return at s most f used e;
      }

  parameter_begins :
      (f : FieldDescriptor) (after : ℕ) → next_from at s ≡ Ok (next.Parameter f after)
      → BeginsRest after (drop (after - at) s) (rest_from most after (drop (after - at) s)) → BeginsRest at s (rest_from (suc most) at s)
  unfolding reading_at
  parameter_begins f after e b =
      record {
        parameters = p.text ++ b.parameters;
        follows = b.follows;
        trees = Parameters.more p.text b.parameters p.tree b.trees refl;
        few = (rw zero-add at p.few, b.few);
        split = p.split ∙ ap (λ (l : List ℕ). p.text ++ l) (sym left ∙ b.split) ∙ sym (append_assoc p.text b.parameters (byte ")" ∷ b.follows));
        return = b.return;
        used = b.used;
        returns = subst (λ (i : ℕ). BeginsReturn i b.follows b.return b.used) place b.returns;
        reading = rest_parameter at s most f after e ∙ ap₂ (Reading.parameter at) p.parts (b.reading ∙ ap (λ (i : ℕ). reading_at i b.trees (Reading.ended b.return b.used)) p.place);
      }
    where
      p : BeginsField 0 at s f after
      p = field_begins 0 at s f after (omega arith) (is_parameter at s f after e)

      left : drop (after - at) s ≡ p.rest
      left =
          let long : length p.text ≡ after - at = omega (arith, p.place) in
          ap (drop (after - at)) p.split ∙ drop_at p.text p.rest (after - at) long

      place : after + length b.parameters + 1 ≡ at + length (p.text ++ b.parameters) + 1
      place = rw length-append (omega (arith, p.place))

rest_begins : (most at : ℕ) (s : List ℕ) → So (accepted (rest_from most at s)) → BeginsRest at s (rest_from most at s)
rest_begins zero at s h = absurd (no_reading (rest_none at s) h)
rest_begins (suc most) at s h = go (λ after. rest_begins most after (drop (after - at) s)) (next_from at s) refl
  where
    go : ((after : ℕ) → So (accepted (rest_from most after (drop (after - at) s))) → BeginsRest after (drop (after - at) s) (rest_from most after (drop (after - at) s))) → (x : Result Next (Refusal ℕ)) → next_from at s ≡ x → BeginsRest at s (rest_from (suc most) at s)
    go more (Ok (next.Parameter f after)) e = parameter_begins most at s f after e (more after (subst (λ (r : Reading). So (accepted r)) (rest_parameter at s most f after e) h))
    go more (Ok (next.Return f used)) e = return_begins most at s f used e
    go more (Err r) e = absurd (no_reading (rest_refused at s most r e) h)

-- From a derivation to a reading. No field descriptor begins with a ) or a V.
module _ (c : ℕ) (base : is_base_type c ≡ false) (object : c ≡ byte "L" → ⊥) (array : c ≡ byte "[" → ⊥) where
  other_first : {p : List ℕ} → FieldType p → (s : List ℕ) → begins_with c (p ++ s) ≡ false
  unfolding begins_with
  other_first (FieldType.base_type {b} p) s = ne_eqb b c (λ e. false≢true (sym base ∙ sym (ap is_base_type e) ∙ p))
  other_first (FieldType.object_type {l} name e n q) s = ne_eqb l c (λ x. object (sym x ∙ e))
  other_first (FieldType.array_type {a} e t) s = ne_eqb a c (λ x. array (sym x ∙ e))

  not_first : {p : List ℕ} → FieldType p → (s t : List ℕ) → c ∷ s ≡ p ++ t → ⊥
  not_first tree s t e = false≢true (sym (other_first tree t) ∙ (begins_cons c _).1 (s, sym e))

no_close : {p : List ℕ} → FieldType p → (s : List ℕ) → begins_with (byte ")") (p ++ s) ≡ false
no_close = other_first (byte ")") refl (λ e. omega arith) (λ e. omega arith)

close_first : {p : List ℕ} → FieldType p → (s t : List ℕ) → byte ")" ∷ s ≡ p ++ t → ⊥
close_first = not_first (byte ")") refl (λ e. omega arith) (λ e. omega arith)

void_first : {p : List ℕ} → FieldType p → (s t : List ℕ) → byte "V" ∷ s ≡ p ++ t → ⊥
void_first = not_first (byte "V") refl (λ e. omega arith) (λ e. omega arith)

rest_run :
    (most at : ℕ) {p : List ℕ} (trees : Parameters p) → FewDimensions trees → (s : List ℕ) (f : FieldDescriptor) (used : ℕ)
    → BeginsReturn (at + length p + 1) s f used → length p < most → rest_from most at (p ++ byte ")" ∷ s) ≡ reading_at at trees (Reading.ended f used)
unfolding reading_at
rest_run zero at trees few s f used r h = absurd (omega arith)
rest_run (suc most) at Parameters.none few s f used r h =
    let here : at + 0 + 1 ≡ at + 1 = omega arith in
    rest_return at (byte ")" ∷ s) most f used
    (next_return at (byte ")" ∷ s) ((begins_cons (byte ")") (byte ")" ∷ s)).1 (s, refl)) ∙ ap return_of ((return_exactly (at + 1) s f used).1 (rw here at r)))
rest_run (suc most) at (Parameters.more {s = p} q rest t ts e) few s f used r h =
    ap (λ (l : List ℕ). rest_from (suc most) at (l ++ byte ")" ∷ s)) e
    ∙ ap (rest_from (suc most) at) (append_assoc q rest (byte ")" ∷ s))
    ∙ rest_parameter at (q ++ follows) most (parts_at 0 at t) (at + length q) parameter
    ∙ ap (Reading.parameter at (parts_at 0 at t)) (ap (rest_from most (at + length q)) left ∙ rest_run most (at + length q) ts few.1 s f used (subst (λ (i : ℕ). BeginsReturn i s f used) place r) short)
  where
    follows : List ℕ
    follows = rest ++ byte ")" ∷ s

    parameter : next_from at (q ++ follows) ≡ Ok (next.Parameter (parts_at 0 at t) (at + length q))
    parameter = next_parameter at (q ++ follows) (no_close t follows) ∙ ap parameter_of (field_run 0 at t follows (rw zero-add few.0))

    left : drop (at + length q - at) (q ++ follows) ≡ follows
    left = drop_at q follows (at + length q - at) (omega arith)

    long : length p ≡ length q + length rest
    long = ap length e ∙ length-append q rest

    place : at + length p + 1 ≡ at + length q + length rest + 1
    place = omega (arith, long)

    short : length rest < most
    short = omega (arith, long, some_text t)

opened : (s : List ℕ) → So (accepted (method_reading s)) → opening s ≡ Ok tt
opened s h = go (opening s) refl
  where
    go : (o : Result (Unit {0}) (Refusal ℕ)) → opening s ≡ o → opening s ≡ Ok tt
    go (Ok u) e = e
    go (Err r) e = absurd (no_reading (reading_refused s e) h)

accepted_run : (at : ℕ) {p : List ℕ} (trees : Parameters p) (f : FieldDescriptor) (used : ℕ) → So (accepted (reading_at at trees (Reading.ended f used)))
unfolding reading_at
accepted_run at Parameters.none f used = refl
accepted_run at (Parameters.more p rest t ts e) f used = accepted_run (at + length p) ts f used

pub method_exactly : MethodExactly
method_exactly s r = (to, from)
  where
    to : (method_reading s ≡ r) × So (accepted r) → BeginsMethod s r
    to h =
        let is : So (accepted (method_reading s)) = rw h.0 h.1 in
        let open_s = opened s is in
        let facts = opening_facts s open_s in
        let c = (begins_cons (byte "(") s).0 facts.1 in
        let read : method_reading s ≡ rest_from (length s) 1 c.0 = sym (opened_reading (refl, open_s)) ∙ ap (λ (l : List ℕ). rest_from (length s) 1 (drop 1 l)) c.1 in
        record {
          short = facts.0;
          rest = c.0;
          opens = c.1;
          begins = subst (BeginsRest 1 c.0) (sym read ∙ h.0) (rest_begins (length s) 1 c.0 (rw read at is));
        }

    from : BeginsMethod s r → (method_reading s ≡ r) × So (accepted r)
    from b =
        let m = b.begins in
        let open_s = opening_good s b.short ((begins_cons (byte "(") s).1 (b.rest, b.opens)) in
        let long : length s ≡ suc (length m.parameters + suc (length m.follows)) = ap length b.opens ∙ ap suc (ap length m.split ∙ length-append m.parameters (byte ")" ∷ m.follows)) in
        let run = rest_run (length s) 1 m.trees m.few m.follows m.return m.used m.returns (omega arith) in (
          sym (opened_reading (refl, open_s)) ∙ ap (λ (l : List ℕ). rest_from (length s) 1 (drop 1 l)) b.opens ∙ ap (rest_from (length s) 1) m.split ∙ run ∙ sym m.reading,
          rw m.reading (accepted_run 1 m.trees m.return m.used),
        )

-- One derivation.
some_parameter : {p : List ℕ} → FieldType p → (rest : List ℕ) → [] ≡ p ++ rest → ⊥
some_parameter {p} t rest e = omega (arith, some_text t, ap length e ∙ length-append p rest)

same_parameters :
    {s p q t u : List ℕ} → p ≡ q → t ≡ u → (a : FieldType p) (b : FieldType q) (c : Parameters t) (d : Parameters u) (e : s ≡ p ++ t) (f : s ≡ q ++ u)
    → ((x : Parameters t) → c ≡ x) → Parameters.more p t a c e ≡ Parameters.more q u b d f
same_parameters {s} {p} {q} {t} {u} pq tu a b c d e f one =
    path_j (λ q pq. (b : FieldType q) (f : s ≡ q ++ u) → Parameters.more p t a c e ≡ Parameters.more q u b d f)
    (λ b f. path_j (λ u tu. (d : Parameters u) (f : s ≡ p ++ u) → Parameters.more p t a c e ≡ Parameters.more p u b d f) (λ d f. at b d f) tu d f)
    pq b f
  where
    at : (b : FieldType p) (d : Parameters t) (f : s ≡ p ++ t) → Parameters.more p t a c e ≡ Parameters.more p t b d f
    at b d f = λ i. Parameters.more p t (one_field p a b i) (one d i) (text_set s (p ++ t) e f i)

one_list : {s : List ℕ} (c d : Parameters s) → c ≡ d
one_list Parameters.none Parameters.none = refl
one_list Parameters.none (Parameters.more q u b d f) = absurd (some_parameter b u f)
one_list (Parameters.more p t a c e) Parameters.none = absurd (some_parameter a t e)
one_list (Parameters.more p t a c e) (Parameters.more q u b d f) =
    let same = one_field_beginning p q t u a b (sym e ∙ f) in
    same_parameters same.0 same.1 a b c d e f (one_list c)

-- parameters that a ) ends are parted from what follows in one way
one_list_beginning : {p q : List ℕ} → Parameters p → Parameters q → (s t : List ℕ) → p ++ byte ")" ∷ s ≡ q ++ byte ")" ∷ t → (p ≡ q) × (s ≡ t)
one_list_beginning Parameters.none Parameters.none s t h = (refl, tail-eq_of_cons-eq h)
one_list_beginning Parameters.none (Parameters.more q u b d f) s t h = absurd (close_first b s _ (h ∙ ap (λ (l : List ℕ). l ++ byte ")" ∷ t) f ∙ append_assoc q u (byte ")" ∷ t)))
one_list_beginning (Parameters.more p v a c e) Parameters.none s t h = absurd (close_first a t _ (sym h ∙ ap (λ (l : List ℕ). l ++ byte ")" ∷ s) e ∙ append_assoc p v (byte ")" ∷ s)))
one_list_beginning (Parameters.more p v a c e) (Parameters.more q u b d f) s t h =
    let lined : p ++ (v ++ byte ")" ∷ s) ≡ q ++ (u ++ byte ")" ∷ t) = sym (rw e (append_assoc p v (byte ")" ∷ s))) ∙ h ∙ rw f (append_assoc q u (byte ")" ∷ t)) in
    let first = one_field_beginning p q (v ++ byte ")" ∷ s) (u ++ byte ")" ∷ t) a b lined in
    let rest = one_list_beginning c d s t first.1 in
    (e ∙ ap₂ ◌++◌ first.0 rest.0 ∙ sym f, rest.1)

one_return : {s : List ℕ} (a b : ReturnDescriptor s) → a ≡ b
one_return {s} (ReturnDescriptor.value t) (ReturnDescriptor.value u) = ap ReturnDescriptor.value (one_field s t u)
one_return {s} (ReturnDescriptor.value t) (ReturnDescriptor.void e) = absurd (void_first t [] [] (sym e ∙ sym (append-nil s)))
one_return {s} (ReturnDescriptor.void e) (ReturnDescriptor.value t) = absurd (void_first t [] [] (sym e ∙ sym (append-nil s)))
one_return {s} (ReturnDescriptor.void e) (ReturnDescriptor.void f) = ap ReturnDescriptor.void (text_set s (ascii "V") e f)

one_return_beginning : {p q : List ℕ} → ReturnDescriptor p → ReturnDescriptor q → (s t : List ℕ) → p ++ s ≡ q ++ t → (p ≡ q) × (s ≡ t)
one_return_beginning {p} {q} (ReturnDescriptor.value a) (ReturnDescriptor.value b) s t h = one_field_beginning p q s t a b h
one_return_beginning (ReturnDescriptor.value a) (ReturnDescriptor.void f) s t h = absurd (void_first a t s (sym (h ∙ ap (λ (l : List ℕ). l ++ t) f)))
one_return_beginning (ReturnDescriptor.void e) (ReturnDescriptor.value b) s t h = absurd (void_first b s t (sym (ap (λ (l : List ℕ). l ++ s) e) ∙ h))
one_return_beginning (ReturnDescriptor.void e) (ReturnDescriptor.void f) s t h = (e ∙ sym f, tail-eq_of_cons-eq (sym (ap (λ (l : List ℕ). l ++ s) e) ∙ h ∙ ap (λ (l : List ℕ). l ++ t) f))

same_method :
    {s p q r t : List ℕ} → p ≡ q → r ≡ t → (a : Parameters p) (b : Parameters q) (c : ReturnDescriptor r) (d : ReturnDescriptor t)
    (e : s ≡ byte "(" ∷ p ++ byte ")" ∷ r) (f : s ≡ byte "(" ∷ q ++ byte ")" ∷ t) → MethodDescriptor.method p r a c e ≡ MethodDescriptor.method q t b d f
same_method {s} {p} {q} {r} {t} pq rt a b c d e f =
    path_j (λ q pq. (b : Parameters q) (f : s ≡ byte "(" ∷ q ++ byte ")" ∷ t) → MethodDescriptor.method p r a c e ≡ MethodDescriptor.method q t b d f)
    (λ b f. path_j (λ t rt. (d : ReturnDescriptor t) (f : s ≡ byte "(" ∷ p ++ byte ")" ∷ t) → MethodDescriptor.method p r a c e ≡ MethodDescriptor.method p t b d f) (λ d f. at b d f) rt d f)
    pq b f
  where
    at : (b : Parameters p) (d : ReturnDescriptor r) (f : s ≡ byte "(" ∷ p ++ byte ")" ∷ r) → MethodDescriptor.method p r a c e ≡ MethodDescriptor.method p r b d f
    at b d f = λ i. MethodDescriptor.method p r (one_list a b i) (one_return c d i) (text_set s (byte "(" ∷ p ++ byte ")" ∷ r) e f i)

pub one_derivation : OneDerivation
one_derivation s (MethodDescriptor.method p r a c e) (MethodDescriptor.method q t b d f) =
    let same = one_list_beginning a b r t (tail-eq_of_cons-eq (sym e ∙ f)) in
    same_method same.0 same.1 a b c d e f

pub one_beginning : OneBeginning
one_beginning s t u v (MethodDescriptor.method p r a c e) (MethodDescriptor.method q w b d f) h =
    let lined : byte "(" ∷ p ++ byte ")" ∷ (r ++ u) ≡ byte "(" ∷ q ++ byte ")" ∷ (w ++ v) = sym (rw e (append_assoc (byte "(" ∷ p) (byte ")" ∷ r) u)) ∙ h ∙ rw f (append_assoc (byte "(" ∷ q) (byte ")" ∷ w) v) in
    let first = one_list_beginning a b (r ++ u) (w ++ v) (tail-eq_of_cons-eq lined) in
    let last = one_return_beginning c d u v first.1 in
    (e ∙ ap₂ (λ (x y : List ℕ). byte "(" ∷ x ++ byte ")" ∷ y) first.0 last.0 ∙ sym f, last.1)

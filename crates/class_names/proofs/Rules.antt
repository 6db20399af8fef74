-- The readings of class names and their rule agree.
use Prim.Native.Nat.{ℕ, suc, ◌+◌, ◌-◌, ◌≤◌, ◌<◌}
use mathlib.Core.Bool.{Bool, true, false, So, false≢true, not, and-eq-true_iff}
use mathlib.Core.List.Memᴰ
use mathlib.Core.List.{List, [], ◌∷◌, ◌++◌, append_assoc, append-nil}
use mathlib.Core.Logic.{◌↔◌, ◌⊎◌, inl, inr, ⊎_elim}
use mathlib.Core.Path.{◌≡◌, refl, sym, ap, ◌∙◌, subst}
use native.Mathlib.Omega.{arith}
use borrow.Author.Tests.{leb-true, leb-false, eqb-true, eqb-false, eq-eqb, ne_eqb, ltb-true, lt-ltb, not-true}
use lib.Dec.{leb, ltb, eqb}
use lib.ListN.{length, get_or, drop, length-append, length-drop}
use lib.Seq.{get_or-append-add}
use Rattle.laws.specs.Bytes.{byte, ascii, In, text_limit}
use Rattle.laws.proofs.Bools.{so_not}
use Rattle.laws.proofs.Bytes.{one_of_lem}
use Rattle.names.specs.Rules.{Joined}
use Rattle.names.proofs.Joined.{joined_prop}
use Rattle.std.specs.Prelude.{Result, Ok, Err}
use Rattle.refusals.specs.declared.Refusal.{Refusal}
use Rattle.class_names.specs.declared.NameEnd.{NameEnd}
use Rattle.class_names.specs.declared.NameEnd.TheVariants as name_end
use Rattle.class_names.specs.Names.{is_separator, is_barred, name_from, alone_of, class_name, ends_in_segment, is_named_by}
use Rattle.class_names.specs.Rules.{barred_bytes, Segment, ClassName, LoneClassName}
use Rattle.class_names.specs.Theorems.{Begins, EndsExactly, AloneExactly, ClassNameExactly, OneClassName}
use Rattle.class_names.proofs.Laws.{empty_segment, semicolon, next_segment, barred_byte, name_byte_lem, alone, alone_over}

-- a byte of a segment is neither a separator nor barred
segment_byte : (b : ℕ) → (In b barred_bytes → ⊥) ↔ ((is_separator b ≡ false) × (is_barred b ≡ false))
segment_byte b = (
  λ n. (no (is_separator b) (λ h. n (from (inl h))), no (is_barred b) (λ h. n (from (inr h)))),
  λ p m. ⊎_elim (λ h. false≢true (sym p.0 ∙ h)) (λ h. false≢true (sym p.1 ∙ h)) (to m),
)
  where
    no : (t : Bool) → (So t → ⊥) → t ≡ false
    no t h = not-true t ((so_not t).1 h)

    to : In b barred_bytes → So (is_separator b) ⊎ So (is_barred b)
    to m = ⊎_elim (λ i. inl ((one_of_lem (ascii "/;") b).1 i)) (λ i. inr ((one_of_lem (ascii ".[<>") b).1 i)) (Memᴰ.append_cases (ascii "/;") m)

    from : So (is_separator b) ⊎ So (is_barred b) → In b barred_bytes
    from = ⊎_elim (λ h. Memᴰ.append_left (ascii ".[<>") ((one_of_lem (ascii "/;") b).0 h)) (λ h. Memᴰ.append_right (ascii "/;") ((one_of_lem (ascii ".[<>") b).0 h))

module _ (b : ℕ) (sep : is_separator b ≡ false) (bar : is_barred b ≡ false) where
  one_byte : Segment (b ∷ [])
  one_byte = record { some = omega arith; none = λ x m i. (segment_byte b).1 (sep, bar) (Memᴰ.cast (sym (Memᴰ.eq_of_singleton m)) i) }

  byte_more : {w : List ℕ} → Segment w → Segment (w ++ b ∷ [])
  byte_more {w} n =
      record {
        some = rw (length-append w (b ∷ [])) (omega arith);
        none = λ x m i. ⊎_elim (λ m. n.none x m i) (λ m. one_byte.none x m i) (Memᴰ.append_cases w m);
      }

-- what may be left, where the first segment may have begun before with the bytes w
Left : (List ℕ → Type 0) → Bool → List ℕ → Type 0
Left Rule false n = Rule n
Left Rule true n = (w : List ℕ) → Segment w → Rule (w ++ n)

-- what each end of a reading says of the text
record Closed (started : Bool) (at : ℕ) (s : List ℕ) (e : ℕ) : Type 0 where
  name : List ℕ
  rest : List ℕ
  rule : Left ClassName started name
  split : s ≡ name ++ byte ";" ∷ rest
  place : e ≡ at + length name

Reached : Bool → ℕ → List ℕ → Result NameEnd (Refusal ℕ) → Type 0
Reached started at s (Ok (name_end.Semicolon e)) = Closed started at s e
Reached started at s (Ok (name_end.TextEnd p)) = Left LoneClassName started s
Reached started at s (Err x) = Unit {0}

module _ (at b : ℕ) (s : List ℕ) where
  closed_more : (before started : Bool) (e : ℕ) → ((n : List ℕ) → Left ClassName started n → Left ClassName before (b ∷ n)) → Closed started (at + 1) s e → Closed before at (b ∷ s) e
  closed_more before started e rule c =
      record { name = b ∷ c.name; rest = c.rest; rule = rule c.name c.rule; split = ap (λ (l : List ℕ). b ∷ l) c.split; place = c.place ∙ omega arith }

  -- a byte of a segment goes into the segment
  byte_first : (started : Bool) → is_separator b ≡ false → is_barred b ≡ false → (r : Result NameEnd (Refusal ℕ)) → Reached true (at + 1) s r → Reached started at (b ∷ s) r
  unfolding Reached
  byte_first started sep bar r = go r
    where
      into : (Rule : List ℕ → Type 0) (started : Bool) (n : List ℕ) → Left Rule true n → Left Rule started (b ∷ n)
      into Rule false n f = unfold Left in f (b ∷ []) (one_byte b sep bar)
      into Rule true n f = unfold Left in λ w seg. subst Rule (append_assoc w (b ∷ []) n) (f (w ++ b ∷ []) (byte_more b sep bar seg))

      go : (r : Result NameEnd (Refusal ℕ)) → Reached true (at + 1) s r → Reached started at (b ∷ s) r
      go (Ok (name_end.Semicolon e)) c = closed_more started true e (into ClassName started) c
      go (Ok (name_end.TextEnd p)) c = into LoneClassName started s c
      go (Err x) c = tt

  -- a / after a segment begins the next
  slash_first : b ≡ byte "/" → (r : Result NameEnd (Refusal ℕ)) → Reached false (at + 1) s r → Reached true at (b ∷ s) r
  unfolding Reached Left
  slash_first e (Ok (name_end.Semicolon p)) c = closed_more true false p (λ n rule w seg. Joined.more seg rule (ap (λ (x : ℕ). w ++ x ∷ n) e)) c
  slash_first e (Ok (name_end.TextEnd p)) c = λ w seg. lone w seg c
    where
      lone : (w : List ℕ) → Segment w → LoneClassName s → LoneClassName (w ++ b ∷ s)
      lone w seg (LoneClassName.closed c) = LoneClassName.closed (Joined.more seg c (ap (λ (x : ℕ). w ++ x ∷ s) e))
      lone w seg (LoneClassName.empty q) = LoneClassName.trailing (Joined.last seg) (rw (e, q))
      lone w seg (LoneClassName.trailing {t} c q) =
          LoneClassName.trailing (Joined.more seg c refl) (rw (e, q) (sym (append_assoc w (byte "/" ∷ t) (byte "/" ∷ []))))
  slash_first e (Err x) c = tt

slash : (b : ℕ) → is_separator b ≡ true → (b ≡ byte ";" → ⊥) → b ≡ byte "/"
slash b p n = ⊎_elim (λ e. e) (λ m. absurd (n (Memᴰ.eq_of_singleton m))) (Memᴰ.cases_cons ((one_of_lem (ascii "/;") b).0 p))

clash : {r : Refusal ℕ} {u : Unit {0}} → ◌≡◌ {A = Result (Unit {0}) (Refusal ℕ)} (Err r) (Ok u) → ⊥
clash h = let z : ◌≡◌ {A = ℕ} 0 1 = cc in omega arith

reached : (started : Bool) (at : ℕ) (s : List ℕ) → Reached started at s (name_from started at s)
unfolding name_from Reached Left
reached false at [] = LoneClassName.empty refl
reached true at [] = λ w seg. LoneClassName.closed (Joined.last (subst Segment (sym (append-nil w)) seg))
reached started at (b ∷ s) = go started (reached true (at + 1) s) (reached false (at + 1) s) (is_separator b) refl (eqb b (byte ";")) refl (is_barred b) refl
  where
    to : (t : Bool) {r : Result NameEnd (Refusal ℕ)} → name_from t at (b ∷ s) ≡ r → Reached t at (b ∷ s) r → Reached t at (b ∷ s) (name_from t at (b ∷ s))
    to t e h = subst (Reached t at (b ∷ s)) (sym e) h

    go :
        (t : Bool) → Reached true (at + 1) s (name_from true (at + 1) s) → Reached false (at + 1) s (name_from false (at + 1) s)
        → (sep : Bool) → is_separator b ≡ sep → (semi : Bool) → eqb b (byte ";") ≡ semi → (bar : Bool) → is_barred b ≡ bar
        → Reached t at (b ∷ s) (name_from t at (b ∷ s))
    go false more next true p semi u bar v = to false (empty_segment false at b s p refl) tt
    go true more next true p true u bar v =
        to true (semicolon true at b s p refl (eqb-true _ _ u))
        (record { name = []; rest = s; rule = λ w seg. Joined.last (subst Segment (sym (append-nil w)) seg); split = ap (λ (x : ℕ). x ∷ s) (eqb-true _ _ u); place = omega arith })
    go true more next true p false u bar v =
        let n = eqb-false b (byte ";") u in
        to true (next_segment true at b s p refl n) (slash_first at b s (slash b p n) (name_from false (at + 1) s) next)
    go t more next false p semi u true v = to t (barred_byte t at b s p v) tt
    go t more next false p semi u false v = to t (name_byte_lem t at b s p v) (byte_first at b s t p v (name_from true (at + 1) s) more)

-- The other way: the bytes of a segment, and then of a class name, are read on.
segment_run : (started : Bool) (at : ℕ) (w s : List ℕ) → ((x : ℕ) → In x w → In x barred_bytes → ⊥) → 0 < length w → name_from started at (w ++ s) ≡ name_from true (at + length w) s
segment_run started at [] s n h = absurd (omega arith)
segment_run started at (b ∷ w) s n h =
    let p = (segment_byte b).0 (n b (Memᴰ.head refl)) in
    name_byte_lem started at b (w ++ s) p.0 p.1 ∙ go w (segment_run true (at + 1) w s (λ x m. n x (Memᴰ.tail m)))
  where
    go : (w : List ℕ) → (0 < length w → name_from true (at + 1) (w ++ s) ≡ name_from true (at + 1 + length w) s) → name_from true (at + 1) (w ++ s) ≡ name_from true (at + length (b ∷ w)) s
    go [] f = refl
    go (c ∷ w) f = f (omega arith) ∙ ap (λ (i : ℕ). name_from true i s) (omega arith)

pub class_run : {n : List ℕ} → ClassName n → (at : ℕ) (s : List ℕ) → name_from false at (n ++ s) ≡ name_from true (at + length n) s
class_run (Joined.last {s = n} seg) at s = segment_run false at n s seg.none seg.some
class_run (Joined.more {s = n} {w} {t} seg c e) at s =
    rw (e, append_assoc w (byte "/" ∷ t) s, length-append w (byte "/" ∷ t))
    (segment_run false at w (byte "/" ∷ t ++ s) seg.none seg.some
    ∙ next_segment true (at + length w) (byte "/") (t ++ s) refl refl (λ x. omega arith)
    ∙ class_run c (at + length w + 1) s
    ∙ ap (λ (i : ℕ). name_from true i s) (omega arith))

pub ends_exactly : EndsExactly
ends_exactly at s e = (to, from)
  where
    to : name_from false at s ≡ Ok (name_end.Semicolon e) → Begins at s e
    to h =
        let c : Closed false at s e = unfold Reached in subst (Reached false at s) h (reached false at s) in
        record { name = c.name; rest = c.rest; rule = unfold Left in c.rule; split = c.split; place = c.place }

    from : Begins at s e → name_from false at s ≡ Ok (name_end.Semicolon e)
    from b =
        rw (b.split, b.place)
        (class_run b.rule at (byte ";" ∷ b.rest) ∙ semicolon true (at + length b.name) (byte ";") b.rest refl refl refl)

-- the ; lies in the text
pub ends_in : (t : List ℕ) (start e : ℕ) → start ≤ length t → name_from false start (drop start t) ≡ Ok (name_end.Semicolon e) → (start ≤ e) × (e < length t)
ends_in t start e h q =
    let b = (ends_exactly start (drop start t) e).0 q in
    let long : length t - start ≡ length b.name + suc (length b.rest) = sym (length-drop start t) ∙ ap length b.split ∙ length-append b.name (byte ";" ∷ b.rest) in
    omega (arith, b.place)

pub one_class_name : OneClassName
one_class_name s = joined_prop barred_bytes (Memᴰ.head refl)

alone_ended : (s : List ℕ) (r : Result NameEnd (Refusal ℕ)) → alone_of r ≡ Ok tt → Reached false 0 s r → LoneClassName s
unfolding alone_of Reached Left
alone_ended s (Ok (name_end.Semicolon e)) h c = absurd (clash h)
alone_ended s (Ok (name_end.TextEnd e)) h c = c
alone_ended s (Err x) h c = absurd (clash h)

alone_run : {s : List ℕ} → LoneClassName s → (p : ℕ) × (name_from false 0 s ≡ Ok (name_end.TextEnd p))
unfolding name_from
alone_run {s} (LoneClassName.closed c) = (_, rw append-nil at (class_run c 0 []))
alone_run {s} (LoneClassName.empty e) = (_, ap (name_from false 0) e)
alone_run {s} (LoneClassName.trailing {t} c e) =
    (_, ap (name_from false 0) e ∙ class_run c 0 (byte "/" ∷ []) ∙ next_segment true (0 + length t) (byte "/") [] refl refl (λ x. omega arith))

pub alone_exactly : AloneExactly
unfolding alone_of
alone_exactly s = (λ h. to h (leb (length s) text_limit) refl, λ h. let run = alone_run h.1 in sym (alone s (Ok (name_end.TextEnd run.0)) h.0 (sym run.1)))
  where
    to : class_name s ≡ Ok tt → (short : Bool) → leb (length s) text_limit ≡ short → (length s ≤ text_limit) × LoneClassName s
    to h true e =
        let short = leb-true (length s) text_limit e in
        (short, alone_ended s (name_from false 0 s) (alone s _ short refl ∙ h) (reached false 0 s))
    to h false e = absurd (clash (alone_over s (leb-false _ _ e) ∙ h))

-- The last byte of a class name is one of its last segment, so it is no / .
abbrev last_byte : List ℕ → ℕ
last_byte s = get_or s (length s - 1) 0

last_append : (w t : List ℕ) → 0 < length t → last_byte (w ++ t) ≡ last_byte t
last_append w t h =
    let place : length (w ++ t) - 1 ≡ length w + (length t - 1) = rw (length-append w t) (omega arith) in
    ap (λ (i : ℕ). get_or (w ++ t) i 0) place ∙ get_or-append-add w t (length t - 1) 0

last_in : (s : List ℕ) → 0 < length s → In (last_byte s) s
last_in [] h = absurd (omega arith)
last_in (b ∷ []) h = Memᴰ.head refl
last_in (b ∷ c ∷ s) h = Memᴰ.tail (Memᴰ.cast (last_append (b ∷ []) (c ∷ s) (omega arith)) (last_in (c ∷ s) (omega arith)))

class_some : {s : List ℕ} → ClassName s → 0 < length s
class_some (Joined.last seg) = seg.some
class_some (Joined.more {w = w} {t} seg c e) = rw (e, length-append w (byte "/" ∷ t)) (omega arith)

class_last : {s : List ℕ} → ClassName s → last_byte s ≡ byte "/" → ⊥
class_last {s} (Joined.last seg) h = seg.none (last_byte s) (last_in s seg.some) (Memᴰ.head h)
class_last (Joined.more {w = w} {t} seg c e) h =
    class_last c (sym (last_append (byte "/" ∷ []) t (class_some c)) ∙ sym (last_append w (byte "/" ∷ t) (omega arith)) ∙ sym (ap last_byte e) ∙ h)

ends_in_segment_lem : {s : List ℕ} → ClassName s → So (ends_in_segment s)
ends_in_segment_lem {s} c =
    (and-eq-true_iff (ltb 0 (length s)) (not (eqb (last_byte s) (byte "/")))).1
    (lt-ltb _ _ (class_some c), ap not (ne_eqb (last_byte s) (byte "/") (class_last c)))

lone_ended : {s : List ℕ} → LoneClassName s → So (ends_in_segment s) → ClassName s
lone_ended {s} l h = go l
  where
    both : So (ltb 0 (length s)) × So (not (eqb (last_byte s) (byte "/")))
    both = (and-eq-true_iff (ltb 0 (length s)) (not (eqb (last_byte s) (byte "/")))).0 h

    go : LoneClassName s → ClassName s
    go (LoneClassName.closed c) = c
    go (LoneClassName.empty e) = absurd (omega (arith, ltb-true 0 (length s) both.0, ap length e))
    go (LoneClassName.trailing {t} c e) =
        let slash_last : last_byte s ≡ byte "/" = ap last_byte e ∙ last_append t (byte "/" ∷ []) (omega arith) in
        absurd (false≢true (sym (not-true _ both.1) ∙ eq-eqb (last_byte s) (byte "/") slash_last))

named_ended : (s : List ℕ) (r : Result NameEnd (Refusal ℕ)) → So (is_named_by s r) → Reached false 0 s r → ClassName s
unfolding is_named_by Reached Left
named_ended s (Ok (name_end.Semicolon e)) h c = absurd (false≢true h)
named_ended s (Ok (name_end.TextEnd e)) h c = lone_ended c h
named_ended s (Err x) h c = absurd (false≢true h)

pub class_name_exactly : ClassNameExactly
unfolding is_named_by
class_name_exactly s = (
  λ h. named_ended s (name_from false 0 s) h (reached false 0 s),
  λ c. ap (is_named_by s) (alone_run (LoneClassName.closed c)).1 ∙ ends_in_segment_lem c,
)

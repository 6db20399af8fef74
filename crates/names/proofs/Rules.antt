-- The checks' answers and the rules of JVMS 4.2 agree.
use Prim.Native.Nat.{ℕ, ◌≤◌, ◌<◌}
use mathlib.Core.Bool.{Bool, true, false, not, So, ◌&&◌, ◌||◌, and-eq-true_iff, false≢true, or_assoc, or-false}
use mathlib.Core.List.Memᴰ
use mathlib.Core.List.{List, [], ◌∷◌, ◌++◌, append-nil}
use mathlib.Core.Logic.Iff
use mathlib.Core.Logic.{◌↔◌, ◌⊎◌, inl, inr, ⊎_elim}
use mathlib.Core.Path.{◌≡◌, refl, sym, ap, ap₂, ◌∙◌, subst}
use native.Mathlib.Omega.{arith}
use borrow.Author.Tests.{leb-true, le-leb, ltb-true, ltb-false, eqb-true, eqb-false, not-true}
use lib.Dec.{ltb, eqb}
use lib.ListN.{length}
use Rattle.laws.specs.Bytes.{byte, ascii, In, one_of, every, same_text, text_limit, within_limit}
use Rattle.laws.proofs.Bools.{so_or, so_not, so_nor}
use Rattle.laws.proofs.Bytes.{one_of_lem, same_text_lem}
use Rattle.laws.proofs.Lists.{every_in}
use Rattle.names.proofs.Laws.{slash_segments, byte_segments, plain_first, opens_first}
use Rattle.names.specs.Names.{name_byte, name_text, is_unqualified_name, is_method_name, before, segments, is_binary_name, plain_module_byte, escapable, module_rest, is_module_name}
use Rattle.names.specs.Rules.{Name, UnqualifiedName, MethodName, Joined, BinaryName, PlainModuleByte, ModuleName}
use Rattle.names.specs.Theorems.{UnqualifiedExactly, MethodExactly, BinaryExactly, ModuleExactly}

-- a test under the limit, from the test alone
limited : (s : List ℕ) (test : Bool) {Rule : Type 0} → So test ↔ Rule → So (within_limit s && test) ↔ ((length s ≤ text_limit) × Rule)
limited s test agree = Iff.trans (and-eq-true_iff (within_limit s) test) (Iff.and (leb-true _ _, le-leb _ _) agree)

-- the bytes that a name may not hold
abbrev barred_bytes : Bool → List ℕ
barred_bytes false = ascii ".;[/"
barred_bytes true = ascii ".;[/<>"

name_byte_lem : (in_method : Bool) (b : ℕ) → So (name_byte in_method b) ↔ (In b (barred_bytes in_method) → ⊥)
name_byte_lem in_method b = rw (is in_method) (Iff.trans (so_not (one_of (barred_bytes in_method) b)) (Iff.not (one_of_lem (barred_bytes in_method) b)))
  where
    is : (in_method : Bool) → name_byte in_method b ≡ not (one_of (barred_bytes in_method) b)
    is false = ap not (or-false (one_of (barred_bytes false) b))
    is true = ap not (sym (or_assoc (one_of (ascii ".;[/") b) (eqb b (byte "<")) (eqb b (byte ">"))))

name_text_lem : (in_method : Bool) (s : List ℕ) → So (name_text in_method s) ↔ Name (barred_bytes in_method) s
unfolding name_text
name_text_lem in_method [] = (λ h. absurd (false≢true h), λ n. absurd (omega arith))
name_text_lem in_method (a ∷ s) = (
  λ h. record { some = omega arith; none = λ b m. (name_byte_lem in_method b).0 ((every_in _ (a ∷ s)).0 h b m) },
  λ n. (every_in _ (a ∷ s)).1 (λ b m. (name_byte_lem in_method b).1 (n.none b m)),
)

pub unqualified_exactly : UnqualifiedExactly
unfolding is_unqualified_name
unqualified_exactly s = limited s (name_text false s) (name_text_lem false s)

pub method_exactly : MethodExactly
unfolding is_method_name
method_exactly init clinit s = limited s (is_init || is_clinit || name_text true s) (to, from)
  where
    is_init : Bool
    is_init = init && same_text s (ascii "<init>")

    is_clinit : Bool
    is_clinit = clinit && same_text s (ascii "<clinit>")

    special : (flag : Bool) (name : List ℕ) → So (flag && same_text s name) ↔ (So flag × (s ≡ name))
    special flag name = Iff.trans (and-eq-true_iff flag (same_text s name)) (Iff.and (λ h. h, λ h. h) (same_text_lem s name))

    either : So (is_init || is_clinit) → MethodName init clinit s
    either h =
        ⊎_elim
        (λ i. let n = (special init (ascii "<init>")).0 i in MethodName.instance_initializer n.0 n.1)
        (λ i. let n = (special clinit (ascii "<clinit>")).0 i in MethodName.class_initializer n.0 n.1)
        ((so_or is_init is_clinit).0 h)

    to : So (is_init || is_clinit || name_text true s) → MethodName init clinit s
    to h = ⊎_elim either (λ n. MethodName.plain ((name_text_lem true s).0 n)) ((so_or (is_init || is_clinit) (name_text true s)).0 h)

    from : MethodName init clinit s → So (is_init || is_clinit || name_text true s)
    from m = (so_or (is_init || is_clinit) (name_text true s)).1 (which m)
      where
        which : MethodName init clinit s → So (is_init || is_clinit) ⊎ So (name_text true s)
        which (MethodName.plain n) = inr ((name_text_lem true s).1 n)
        which (MethodName.instance_initializer i e) = inl ((so_or is_init is_clinit).1 (inl ((special init (ascii "<init>")).1 (i, e))))
        which (MethodName.class_initializer i e) = inl ((so_or is_init is_clinit).1 (inr ((special clinit (ascii "<clinit>")).1 (i, e))))

-- Modules. A byte by itself, then a text, in pairs where one opens.
plain_byte : (b : ℕ) → So (plain_module_byte b) ↔ PlainModuleByte b
plain_byte b = (
  λ h.
      let no = (so_nor (ltb b 0x20) (one_of (ascii ":@\\") b)).0 h in
      record { printable = ltb-false b 0x20 (not-true _ ((so_not (ltb b 0x20)).1 no.0)); unreserved = λ m. no.1 ((one_of_lem (ascii ":@\\") b).1 m) },
  λ p.
      (so_nor (ltb b 0x20) (one_of (ascii ":@\\") b)).1 (
        λ l.
            let below : b < 0x20 = ltb-true b 0x20 l in
            let above : 0x20 ≤ b = p.printable in
            omega arith,
        λ o. p.unreserved ((one_of_lem (ascii ":@\\") b).0 o),
      ),
)

module_sound : (s : List ℕ) → So (module_rest false s) → ModuleName s
unfolding module_rest
module_sound [] h = ModuleName.empty
module_sound (b ∷ []) h = go (eqb b (byte "\\")) refl
  where
    go : (opens : Bool) → eqb b (byte "\\") ≡ opens → ModuleName (b ∷ [])
    go true e = absurd (false≢true (rw (e, module_rest) at h))
    go false e = ModuleName.plain ((plain_byte b).0 ((and-eq-true_iff (plain_module_byte b) true).0 (sym (plain_first b [] (eqb-false _ _ e)) ∙ h)).0) ModuleName.empty
module_sound (b ∷ c ∷ s) h = go (module_sound s) (module_sound (c ∷ s)) (eqb b (byte "\\")) refl
  where
    go : (So (module_rest false s) → ModuleName s) → (So (module_rest false (c ∷ s)) → ModuleName (c ∷ s)) → (opens : Bool) → eqb b (byte "\\") ≡ opens → ModuleName (b ∷ c ∷ s)
    go two one true e =
        let both = (and-eq-true_iff (escapable c) (module_rest false s)).0 (sym (opens_first b (c ∷ s) (eqb-true _ _ e)) ∙ h) in
        ModuleName.pair (eqb-true _ _ e) ((one_of_lem (ascii "\\:@") c).0 both.0) (two both.1)
    go two one false e =
        let both = (and-eq-true_iff (plain_module_byte b) (module_rest false (c ∷ s))).0 (sym (plain_first b (c ∷ s) (eqb-false _ _ e)) ∙ h) in
        ModuleName.plain ((plain_byte b).0 both.0) (one both.1)

module_complete : {s : List ℕ} → ModuleName s → So (module_rest false s)
unfolding module_rest
module_complete ModuleName.empty = refl
module_complete (ModuleName.plain {b} {s} p m) =
    plain_first b s (λ e. p.unreserved (Memᴰ.tail (Memᴰ.tail (Memᴰ.head e))))
    ∙ (and-eq-true_iff (plain_module_byte b) (module_rest false s)).1 ((plain_byte b).1 p, module_complete m)
module_complete (ModuleName.pair {e} {b} {s} o i m) =
    opens_first e (b ∷ s) o
    ∙ (and-eq-true_iff (escapable b) (module_rest false s)).1 ((one_of_lem (ascii "\\:@") b).1 i, module_complete m)

pub module_exactly : ModuleExactly
unfolding is_module_name
module_exactly s = limited s (module_rest false s) (module_sound s, module_complete)

-- Binary names. The segments of a text, and the text that segments join to.
join : List (List ℕ) → List ℕ
join [] = []
join (w ∷ []) = w
join (w ∷ v ∷ ws) = w ++ byte "/" ∷ join (v ∷ ws)

join_before : (b : ℕ) (ws : List (List ℕ)) → join (before b ws) ≡ b ∷ join ws
unfolding join before
join_before b [] = refl
join_before b (w ∷ []) = refl
join_before b (w ∷ v ∷ ws) = refl

join_slash : (ws : List (List ℕ)) → 0 < length ws → join ([] ∷ ws) ≡ byte "/" ∷ join ws
unfolding join
join_slash [] h = absurd (omega arith)
join_slash (w ∷ ws) h = refl

some_segment : (s : List ℕ) → 0 < length (segments s)
unfolding segments before
some_segment [] = omega arith
some_segment (b ∷ s) = go (segments s) (eqb b (byte "/"))
  where
    go : (ws : List (List ℕ)) (slash : Bool) → 0 < length {A = List ℕ} (elim slash as (λ t. List (List ℕ)) [ true ↦ [] ∷ ws | false ↦ before b ws ])
    go ws true = omega arith
    go [] false = omega arith
    go (w ∷ ws) false = omega arith

join_segments : (s : List ℕ) → join (segments s) ≡ s
join_segments [] = unfold join segments in refl
join_segments (b ∷ s) = go (join_segments s) (eqb b (byte "/")) refl
  where
    go : join (segments s) ≡ s → (slash : Bool) → eqb b (byte "/") ≡ slash → join (segments (b ∷ s)) ≡ b ∷ s
    go ih true e =
        ap join (slash_segments b s (eqb-true _ _ e)) ∙ join_slash (segments s) (some_segment s) ∙ ap₂ ◌∷◌ (sym (eqb-true _ _ e)) ih
    go ih false e = ap join (byte_segments b s (eqb-false _ _ e)) ∙ join_before b (segments s) ∙ ap (λ (t : List ℕ). b ∷ t) ih

names_join : (w : List ℕ) (ws : List (List ℕ)) → So (every (name_text false) (w ∷ ws)) → BinaryName (join (w ∷ ws))
unfolding join every
names_join w [] h = Joined.last ((name_text_lem false w).0 ((and-eq-true_iff (name_text false w) true).0 h).0)
names_join w (v ∷ ws) h =
    let both = (and-eq-true_iff (name_text false w) (every (name_text false) (v ∷ ws))).0 h in
    Joined.more ((name_text_lem false w).0 both.0) (names_join v ws both.1) refl

binary_sound : (s : List ℕ) → So (every (name_text false) (segments s)) → BinaryName s
binary_sound s h = subst BinaryName (join_segments s) (go (segments s) (some_segment s) h)
  where
    go : (ws : List (List ℕ)) → 0 < length ws → So (every (name_text false) ws) → BinaryName (join ws)
    go [] n h = absurd (omega arith)
    go (w ∷ ws) n h = names_join w ws h

-- a name without / is the first segment of a text that begins with it
module _ (t : List ℕ) (ws : List (List ℕ)) (v : List ℕ) (first : segments t ≡ v ∷ ws) where
  word_segments : (w : List ℕ) → (In (byte "/") w → ⊥) → segments (w ++ t) ≡ (w ++ v) ∷ ws
  word_segments [] n = first
  word_segments (b ∷ w) n =
      byte_segments b (w ++ t) (λ e. n (Memᴰ.head (sym e)))
      ∙ rw (word_segments w (λ m. n (Memᴰ.tail m))) (unfold before in refl)

no_slash : {w : List ℕ} → UnqualifiedName w → In (byte "/") w → ⊥
no_slash n m = n.none (byte "/") m ((one_of_lem (ascii ".;[/") (byte "/")).0 refl)

binary_complete : {s : List ℕ} → BinaryName s → So (every (name_text false) (segments s))
unfolding every
binary_complete (Joined.last {s} n) =
    let alone : segments s ≡ s ∷ [] = rw append-nil at (word_segments [] [] [] (unfold segments in refl) s (no_slash n)) in
    rw alone ((and-eq-true_iff (name_text false s) true).1 ((name_text_lem false s).1 n, refl))
binary_complete (Joined.more {s} {w} {t} n m e) =
    rw (e, word_segments (byte "/" ∷ t) (segments t) [] (slash_segments _ t refl) w (no_slash n), append-nil w)
    ((and-eq-true_iff (name_text false w) (every (name_text false) (segments t))).1 ((name_text_lem false w).1 n, binary_complete m))

pub binary_exactly : BinaryExactly
unfolding is_binary_name
binary_exactly s = limited s (every (name_text false) (segments s)) (binary_sound s, binary_complete)

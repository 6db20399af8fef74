-- The answers at a place of the text: the byte at i decides with the rest from i + 1 on.
use Prim.Native.Nat.{ℕ, ◌+◌, ◌≤◌, ◌<◌}
use mathlib.Core.Bool.{Bool, true, false, not, false≢true, ◌&&◌, and_assoc, and-false}
use mathlib.Core.List.{List, [], ◌∷◌}
use mathlib.Core.Path.{◌≡◌, refl, sym, ap, ◌∙◌}
use native.Mathlib.Omega.{arith}
use borrow.Author.Tests.{eq-eqb, ne_eqb, eqb-true, eqb-false, le-leb, lt-leb}
use lib.Dec.{eqb}
use lib.Pointwise.{pointwise}
use lib.ListN.{length, get_or, drop}
use Rattle.laws.specs.Bytes.{byte, ascii, every, same_text, within_limit, text_limit}
use Rattle.laws.proofs.Bytes.{same_text_lem}
use Rattle.laws.proofs.Lists.{here, done}
use Rattle.std.specs.Bool.{◌==◌, nat_eq}
use Rattle.std.specs.List.{list_all}
use Rattle.names.specs.Names.{name_byte, name_text, is_method_name, segments, before, is_unqualified_name, is_binary_name, is_module_name, plain_module_byte, escapable, module_rest}

-- the library's test on all elements
pub every_list_all : {A : Type 0} (p : A → Bool) (s : List A) → list_all p s ≡ every p s
unfolding every
every_list_all p [] = refl
every_list_all p (a ∷ s) = ap (λ (t : Bool). p a && t) (every_list_all p s)

-- the text of a name, by all of its bytes
pub some_bytes : (in_method : Bool) (s : List ℕ) → (length s == 0) ≡ false → list_all (name_byte in_method) s ≡ name_text in_method s
unfolding name_text
some_bytes in_method [] e = absurd (false≢true (sym e))
some_bytes in_method (b ∷ s) e = every_list_all (name_byte in_method) (b ∷ s)

pub no_bytes : (in_method : Bool) (s : List ℕ) → (length s == 0) ≡ true → false ≡ name_text in_method s
unfolding name_text
no_bytes in_method [] e = refl
no_bytes in_method (b ∷ s) e = absurd (omega (arith, eqb-true (length (b ∷ s)) 0 e))

-- the special names pass as their flags say: < bars them elsewhere
pub init_alone : (init clinit : Bool) → is_method_name init clinit (ascii "<init>") ≡ init
unfolding is_method_name same_text name_text every
init_alone true clinit = refl
init_alone false true = refl
init_alone false false = refl

pub clinit_alone : (init clinit : Bool) → is_method_name init clinit (ascii "<clinit>") ≡ clinit
unfolding is_method_name same_text name_text every
clinit_alone true true = refl
clinit_alone true false = refl
clinit_alone false true = refl
clinit_alone false false = refl

pub same_pointwise : (s t : List ℕ) → pointwise nat_eq s t ≡ same_text s t
unfolding same_text
same_pointwise [] [] = refl
same_pointwise [] (c ∷ t) = refl
same_pointwise (b ∷ s) [] = refl
same_pointwise (b ∷ s) (c ∷ t) = ap (λ (same : Bool). eqb b c && same) (same_pointwise s t)

-- the answers by the comparisons with the two special names
module _ (init clinit : Bool) (s : List ℕ) {t : List ℕ} (special : t ≡ ascii "<init>") where
  pub is_init : pointwise nat_eq s t ≡ true → init ≡ is_method_name init clinit s
  is_init e = sym (ap (is_method_name init clinit) ((same_text_lem s t).0 (sym (same_pointwise s t) ∙ e) ∙ special) ∙ init_alone init clinit)

  module _ {u : List ℕ} (special₂ : u ≡ ascii "<clinit>") where
    pub is_clinit : pointwise nat_eq s u ≡ true → clinit ≡ is_method_name init clinit s
    is_clinit e = sym (ap (is_method_name init clinit) ((same_text_lem s u).0 (sym (same_pointwise s u) ∙ e) ∙ special₂) ∙ clinit_alone init clinit)

    pub neither_special : pointwise nat_eq s t ≡ false → pointwise nat_eq s u ≡ false → (within_limit s && name_text true s) ≡ is_method_name init clinit s
    unfolding is_method_name
    neither_special i c =
        let no_init : same_text s (ascii "<init>") ≡ false = ap (same_text s) (sym special) ∙ sym (same_pointwise s t) ∙ i in
        let no_clinit : same_text s (ascii "<clinit>") ≡ false = ap (same_text s) (sym special₂) ∙ sym (same_pointwise s u) ∙ c in
        rw (no_init, no_clinit, and-false init, and-false clinit)

pub slash_segments : (b : ℕ) (s : List ℕ) → b ≡ byte "/" → segments (b ∷ s) ≡ [] ∷ segments s
unfolding segments
slash_segments b s e = rw (eq-eqb _ _ e, segments)

pub byte_segments : (b : ℕ) (s : List ℕ) → (b ≡ byte "/" → ⊥) → segments (b ∷ s) ≡ before b (segments s)
unfolding segments
byte_segments b s e = rw (ne_eqb b (byte "/") e, segments)

-- the segments that are left, where the first of them may have begun before
pub names_left : Bool → List (List ℕ) → Bool
names_left started [] = true
names_left true (w ∷ ws) = every (name_byte false) w && every (name_text false) ws
names_left false (w ∷ ws) = every (name_text false) (w ∷ ws)

pub none_begun : (s : List ℕ) → names_left false (segments s) ≡ every (name_text false) (segments s)
unfolding names_left every
none_begun s = go (segments s)
  where
    go : (ws : List (List ℕ)) → names_left false ws ≡ every (name_text false) ws
    go [] = refl
    go (w ∷ ws) = refl

slash_first : (started : Bool) (ws : List (List ℕ)) → names_left started ([] ∷ ws) ≡ (started && names_left false ws)
unfolding names_left every name_text
slash_first true [] = refl
slash_first true (w ∷ ws) = refl
slash_first false ws = refl

byte_first : (started : Bool) (b : ℕ) (ws : List (List ℕ)) → names_left started (before b ws) ≡ (name_byte false b && names_left true ws)
unfolding names_left before every name_text
byte_first true b [] = and_assoc (name_byte false b) true true
byte_first false b [] = and_assoc (name_byte false b) true true
byte_first true b (w ∷ ws) = and_assoc (name_byte false b) (every (name_byte false) w) (every (name_text false) ws)
byte_first false b (w ∷ ws) = and_assoc (name_byte false b) (every (name_byte false) w) (every (name_text false) ws)

-- The loop of a binary name: the segments that are left at the place i decide as the whole.
module _ (started : Bool) (i : ℕ) (s : List ℕ) {whole : Bool} (left : names_left started (segments (drop i s)) ≡ whole) where
  module _ (inside : i < length s) where
    at_slash : {t : Bool} → get_or s i 0 ≡ byte "/" → (started && names_left false (segments (drop (i + 1) s))) ≡ t → t ≡ whole
    at_slash e p = sym (ap (names_left started) (here segments s i inside ∙ slash_segments _ _ e) ∙ slash_first started _ ∙ p) ∙ left

    at_byte : {t : Bool} → (get_or s i 0 ≡ byte "/" → ⊥) → (name_byte false (get_or s i 0) && names_left true (segments (drop (i + 1) s))) ≡ t → t ≡ whole
    at_byte e p = sym (ap (names_left started) (here segments s i inside ∙ byte_segments _ _ e) ∙ byte_first started _ _ ∙ p) ∙ left

    pub empty_there : get_or s i 0 ≡ byte "/" → started ≡ false → false ≡ whole
    empty_there e none = at_slash e (rw none)

    pub slash_there : get_or s i 0 ≡ byte "/" → started ≡ true → names_left false (segments (drop (i + 1) s)) ≡ whole
    slash_there e some = at_slash e (rw some)

    pub barred_there : (get_or s i 0 ≡ byte "/" → ⊥) → name_byte false (get_or s i 0) ≡ false → false ≡ whole
    barred_there e p = at_byte e (rw p)

    pub name_byte_there : (get_or s i 0 ≡ byte "/" → ⊥) → name_byte false (get_or s i 0) ≡ true → names_left true (segments (drop (i + 1) s)) ≡ whole
    name_byte_there e p = at_byte e (rw p)

  pub names_end : length s ≤ i → started ≡ whole
  unfolding names_left segments every name_text
  names_end past = sym (done (λ t. names_left started (segments t)) s i past ∙ go started) ∙ left
    where
      go : (begun : Bool) → names_left begun (segments []) ≡ begun
      go true = refl
      go false = refl

module _ (s : List ℕ) where
  pub unqualified_within : length s ≤ text_limit → name_text false s ≡ is_unqualified_name s
  unfolding is_unqualified_name
  unqualified_within h = rw (le-leb _ _ h)

  pub unqualified_over : text_limit < length s → false ≡ is_unqualified_name s
  unfolding is_unqualified_name
  unqualified_over h = rw (lt-leb _ _ h)

  pub binary_within : length s ≤ text_limit → names_left false (segments s) ≡ is_binary_name s
  unfolding is_binary_name
  binary_within h = none_begun s ∙ rw (le-leb _ _ h)

  pub binary_over : text_limit < length s → false ≡ is_binary_name s
  unfolding is_binary_name
  binary_over h = rw (lt-leb _ _ h)

  pub module_within : length s ≤ text_limit → module_rest false s ≡ is_module_name s
  unfolding is_module_name
  module_within h = rw (le-leb _ _ h)

  pub module_over : text_limit < length s → false ≡ is_module_name s
  unfolding is_module_name
  module_over h = rw (lt-leb _ _ h)

pub opens_first : (b : ℕ) (s : List ℕ) → b ≡ byte "\\" → module_rest false (b ∷ s) ≡ module_rest true s
unfolding module_rest
opens_first b s o = rw (eq-eqb _ _ o, module_rest)

pub plain_first : (b : ℕ) (s : List ℕ) → (b ≡ byte "\\" → ⊥) → module_rest false (b ∷ s) ≡ (plain_module_byte b && module_rest false s)
unfolding module_rest
plain_first b s o =
    ap (λ (opens : Bool). elim opens as (λ t. Bool) [ true ↦ module_rest true s | false ↦ plain_module_byte b && module_rest false s ]) (ne_eqb _ _ o)

-- The loop of a module's name: what is left at the place i decides as the whole.
module _ (escaped : Bool) (i : ℕ) (s : List ℕ) {whole : Bool} (left : module_rest escaped (drop i s) ≡ whole) where
  module _ (inside : i < length s) where
    first : {t : Bool} → module_rest escaped (get_or s i 0 ∷ drop (i + 1) s) ≡ t → t ≡ whole
    first e = sym (here (module_rest escaped) s i inside ∙ e) ∙ left

    escaped_first : escaped ≡ true → module_rest escaped (get_or s i 0 ∷ drop (i + 1) s) ≡ (escapable (get_or s i 0) && module_rest false (drop (i + 1) s))
    unfolding module_rest
    escaped_first e = rw e

    pub bad_pair_there : escaped ≡ true → escapable (get_or s i 0) ≡ false → false ≡ whole
    bad_pair_there e p = first (escaped_first e ∙ rw p)

    pub pair_there : escaped ≡ true → escapable (get_or s i 0) ≡ true → module_rest false (drop (i + 1) s) ≡ whole
    pair_there e p = first (escaped_first e ∙ rw p)

    pub opens_there : escaped ≡ false → get_or s i 0 ≡ byte "\\" → module_rest true (drop (i + 1) s) ≡ whole
    opens_there e o = first (rw e (opens_first _ _ o))

    pub bad_plain_there : escaped ≡ false → (get_or s i 0 ≡ byte "\\" → ⊥) → plain_module_byte (get_or s i 0) ≡ false → false ≡ whole
    bad_plain_there e o p = first (rw e (plain_first _ _ o ∙ rw p))

    pub plain_there : escaped ≡ false → (get_or s i 0 ≡ byte "\\" → ⊥) → plain_module_byte (get_or s i 0) ≡ true → module_rest escaped (drop (i + 1) s) ≡ whole
    plain_there e o p = first (rw e (plain_first _ _ o ∙ rw p))

  pub end_there : length s ≤ i → not escaped ≡ whole
  unfolding module_rest
  end_there past = sym (done (module_rest escaped) s i past) ∙ left

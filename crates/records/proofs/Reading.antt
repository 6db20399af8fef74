-- What a store holds where something was written, and before it.
use Prim.Native.Nat.{ℕ, zero, suc, ◌+◌, ◌*◌, ◌≤◌, ◌<◌}
use mathlib.Core.List.{List, [], ◌∷◌}
use mathlib.Core.Path.{◌≡◌, refl, ap, ap₂, ◌∙◌}
use native.Mathlib.Nat.{add-zero}
use native.Mathlib.Omega.{arith}
use lib.ListN.{length, get_or, set, length-set}
use lib.Seq.{sets, get_or-set_same, get_or-set_other}
use Rattle.laws.specs.Listed.{listed}
use Rattle.records.specs.declared.SwitchEntry.{SwitchEntry}
use Rattle.records.specs.Records.{record_words, entry_words, entry_room, index, words_of, entry_at, all_entry_words}
use Rattle.records.specs.Theorems.{RecordThere, RecordBefore, EntriesThere, EntryBefore}

word_before : (words store : List ℕ) (i j : ℕ) → j < i → get_or (sets store i words) j 0 ≡ get_or store j 0
word_before [] store i j h = refl
word_before (w ∷ words) store i j h =
    word_before words (set store i w) (suc i) j (omega arith) ∙ get_or-set_other store i j w 0 (λ e. omega arith)

word_here : (w : ℕ) (words store : List ℕ) (i : ℕ) → i < length store → get_or (sets store i (w ∷ words)) i 0 ≡ w
word_here w words store i h = word_before words (set store i w) (suc i) i (omega arith) ∙ get_or-set_same store i w 0 h

word_there : (words store : List ℕ) (i k : ℕ) → i + length words ≤ length store → k < length words → get_or (sets store i words) (i + k) 0 ≡ get_or words k 0
word_there [] store i k h l = absurd (omega arith)
word_there (w ∷ words) store i zero h l = rw add-zero (word_here w words store i (omega arith))
word_there (w ∷ words) store i (suc k) h l =
    let same : i + suc k ≡ suc i + k = omega arith in
    ap (λ (n : ℕ). get_or (sets (set store i w) (suc i) words) n 0) same
    ∙ word_there words (set store i w) (suc i) k (simp length-set (omega arith)) (omega arith)

pub record_before : RecordBefore
record_before records words i j h =
    rw (w (j * record_words) (omega arith), w (j * record_words + 1) (omega arith), w (j * record_words + 2) (omega arith), w (j * record_words + 3) (omega arith), w (j * record_words + 4) (omega arith), w (j * record_words + 5) (omega arith))
  where
    w : (n : ℕ) → n < i * record_words → get_or (sets records (i * record_words) words) n 0 ≡ get_or records n 0
    w n l = word_before words records (i * record_words) n l

pub record_there : RecordThere
record_there records i r h = rw (word_here r.offset _ records (i * record_words) (omega arith), w 1 (omega arith), w 2 (omega arith), w 3 (omega arith), w 4 (omega arith), w 5 (omega arith))
  where
    w : (k : ℕ) → k < record_words → get_or (sets records (i * record_words) (words_of r)) (i * record_words + k) 0 ≡ get_or (words_of r) k 0
    w k l = word_there (words_of r) records (i * record_words) k (omega (arith, h)) l

pub entry_before : EntryBefore
entry_before entries words first j h =
    rw (word_before words entries (first * entry_words) (j * entry_words) (omega arith), word_before words entries (first * entry_words) (j * entry_words + 1) (omega arith))

-- the entries from the i-th on
entries_from :
    (es : List SwitchEntry) (entries : List ℕ) (first i : ℕ) → first + i + length es ≤ entry_room entries
    → listed (λ (k : ℕ). entry_at (sets entries ((first + i) * entry_words) (all_entry_words es)) (index (first + k))) i (length es) ≡ es
unfolding listed all_entry_words
entries_from [] entries first i h = refl
entries_from (e ∷ es) entries first i h = ap₂ (λ (a : SwitchEntry) (l : List SwitchEntry). a ∷ l) head (tail (entries_from es after first (i + 1) (simp length-set (omega arith))))
  where
    at : ℕ
    at = (first + i) * entry_words

    after : List ℕ
    after = set (set entries at e.key) (suc at) e.jump

    rest : List ℕ
    rest = all_entry_words es

    head : entry_at (sets after (suc (suc at)) rest) (index (first + i)) ≡ e
    head =
        let next : at + 1 ≡ suc at = omega arith in
        rw (word_here e.key (e.jump ∷ rest) entries at (omega (arith, h)), next, word_here e.jump rest (set entries at e.key) (suc at) (simp length-set (omega (arith, h))))

    tail :
        listed (λ (k : ℕ). entry_at (sets after ((first + (i + 1)) * entry_words) rest) (index (first + k))) (i + 1) (length es) ≡ es
        → listed (λ (k : ℕ). entry_at (sets after (suc (suc at)) rest) (index (first + k))) (i + 1) (length es) ≡ es
    tail h =
        let same : (first + (i + 1)) * entry_words ≡ suc (suc at) = omega arith in
        rw same at h

pub entries_there : EntriesThere
entries_there entries first es h =
    let none : first + 0 ≡ first = omega arith in
    let all : first + 0 + length es ≤ entry_room entries = omega arith in
    rw none at (entries_from es entries first 0 all)

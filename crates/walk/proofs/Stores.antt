-- The words of the stores tell the nodes: a record tells its jumps, and the next record starts where its instruction ends.
use Prim.Native.Nat.{ℕ, zero, suc, ◌+◌, ◌≤◌, ◌<◌}
use mathlib.Core.Bool.{true, false}
use mathlib.Core.List.{List, [], ◌∷◌, map-map, nil≢cons, cons≢nil, head-eq_of_cons-eq, tail-eq_of_cons-eq}
use mathlib.Core.Path.{◌≡◌, refl, sym, ap, ap₂, ◌∙◌, subst}
use native.Mathlib.Omega.{arith}
use borrow.Author.Tests.{le-ltb, lt-ltb}
use lib.Dec.{ltb}
use lib.ListN.{length}
use Rattle.laws.specs.Listed.{listed}
use Rattle.lines.specs.Lines.{lines_of, list_of}
use Rattle.records.specs.Records.{record_room, entry_room, index, record_at}
use Rattle.jumps.specs.Jumps.{Jumps}
use Rattle.jumps.specs.Stored.{stored_jumps}
use Rattle.bytecode.specs.Decoding.{records_after, entries_after}
use Rattle.bytecode.proofs.Accepted.{stores_say}
use Rattle.walk.specs.Walk.{Node, Tiles, Along, Safe}
use Rattle.walk.specs.Nodes.{node_of, nodes_of, nodes_in}
use Rattle.walk.specs.Theorems.{StoresTell, StoresSafe}
use Rattle.walk.proofs.Accepted.{jumps_at, accepted_meets}

-- nodes that tile up to the end, told by their jumps alone
module _ (jumps : ℕ → Jumps) (count end : ℕ) where
  abbrev next_by : ℕ → ℕ
  next_by i = elim (ltb (i + 1) count) [ true ↦ (jumps (i + 1)).at.0 | false ↦ end ]

  abbrev node_by : ℕ → Node
  node_by i = record { jumps = jumps i; next = next_by i }

  next_told : (nodes : List Node) (i n from : ℕ) → i + 1 + n ≡ count → Tiles from nodes end → listed jumps (i + 1) n ≡ jumps_at nodes → next_by i ≡ from
  unfolding listed
  next_told [] i zero from c t e =
      let last : count ≤ i + 1 = omega arith in
      rw (le-ltb _ _ last, next_by) (sym t)
  next_told (x ∷ nodes) i (suc n) from c t e =
      let more : i + 1 < count = omega arith in
      rw (lt-ltb _ _ more, next_by) (ap (λ (j : Jumps). j.at.0) (head-eq_of_cons-eq e) ∙ t.0)
  next_told [] i (suc n) from c t e = absurd (cons≢nil e)
  next_told (x ∷ nodes) i zero from c t e = absurd (nil≢cons e)

  all_told : (nodes : List Node) (i n from : ℕ) → i + n ≡ count → Tiles from nodes end → listed jumps i n ≡ jumps_at nodes → listed node_by i n ≡ nodes
  unfolding listed
  all_told [] i zero from c t e = refl
  all_told (x ∷ nodes) i (suc n) from c t e =
      let rest = tail-eq_of_cons-eq e in
      ap₂ (λ (a : Node) (more : List Node). a ∷ more)
      (ap₂ (λ (j : Jumps) (next : ℕ). record { jumps = j; next = next }) (head-eq_of_cons-eq e) (next_told nodes i n x.next (omega arith) t.2 rest))
      (all_told nodes (i + 1) n x.next (omega arith) t.2 rest)
  all_told [] i (suc n) from c t e = absurd (cons≢nil e)
  all_told (x ∷ nodes) i zero from c t e = absurd (nil≢cons e)

pub stores_tell : StoresTell
stores_tell code pool records entries answer records' entries' k m d =
    let accepted = sym d.answers ∙ d.accepted in
    let covers = (accepted_meets code pool (record_room records) (entry_room entries) k m accepted).covers in
    ap₂ (λ (r e : List ℕ). nodes_in r k e (length code)) d.stores_records d.stores_entries
    ∙ all_told
    (λ (i : ℕ). stored_jumps (entries_after code pool records entries) (record_at (records_after code pool records entries) (index i))) k (length code)
    (nodes_of code pool) 0 k 0 (omega arith) covers
    (stores_say code pool records entries k m accepted ∙ sym (map-map _ (node_of code) (list_of (lines_of code pool))))

pub stores_safe : StoresSafe
stores_safe code pool records entries answer records' entries' k m d =
    let meets = accepted_meets code pool (record_room records) (entry_room entries) k m (sym d.answers ∙ d.accepted) in
    subst (λ (nodes : List Node). Tiles 0 nodes (length code) × Safe nodes (Along nodes) (length code)) (sym (stores_tell code pool records entries answer records' entries' k m d))
    (meets.covers, meets.walks)

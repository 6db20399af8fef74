-- Nodes that tile, whatever they are: each byte lies in one node, and walks stay on the nodes.
use Prim.Native.Nat.{ℕ, suc, ◌≤◌, ◌<◌}
use mathlib.Core.Bool.{Bool, true, false}
use mathlib.Core.List.Memᴰ
use mathlib.Core.List.{List, [], ◌∷◌, ◌++◌, Memᴰ}
use mathlib.Core.Logic.{◌⊎◌, inl, inr, ⊎_elim}
use mathlib.Core.Path.{◌≡◌, refl, sym, ap, subst}
use native.Mathlib.Omega.{arith}
use borrow.Author.Tests.{le-leb, lt-leb, le-ltb, ltb-true, ltb-false}
use lib.Dec.{ltb}
use lib.IntN.{ℤ, pos, nat_abs}
use lib.ListN.{length}
use Rattle.walk.specs.Walk.{Node, start, Tiles, On, Following, Step, Walk, Last}
use Rattle.walk.specs.Theorems.{AnyWalk, nodes_at, OneNode}

ends_after : (nodes : List Node) (from end : ℕ) → Tiles from nodes end → from ≤ end
ends_after [] from end t = omega arith
ends_after (n ∷ nodes) from end t = let h = ends_after nodes n.next end t.2 in omega arith

-- how many nodes a byte lies in
module _ (i : ℕ) where
  before_all : (nodes : List Node) (from end : ℕ) → Tiles from nodes end → i < from → length (nodes_at i nodes) ≡ 0
  unfolding nodes_at
  before_all [] from end t h = refl
  before_all (n ∷ nodes) from end t h =
      let under : i < start n = omega (arith, t.0) in
      rw (lt-leb _ _ under, nodes_at) (before_all nodes n.next end t.2 (omega (arith, t.1)))

  past_all : (nodes : List Node) (from end : ℕ) → Tiles from nodes end → end ≤ i → length (nodes_at i nodes) ≡ 0
  unfolding nodes_at
  past_all [] from end t h = refl
  past_all (n ∷ nodes) from end t h =
      let inside = ends_after nodes n.next end t.2 in
      let over : n.next ≤ i = omega arith in
      let under : start n ≤ i = omega (arith, t.1) in
      rw (le-leb _ _ under, le-ltb _ _ over, nodes_at) (past_all nodes n.next end t.2 h)

  in_one : (nodes : List Node) (from end : ℕ) → Tiles from nodes end → from ≤ i → i < end → length (nodes_at i nodes) ≡ 1
  unfolding nodes_at
  in_one [] from end t a b = absurd (omega arith)
  in_one (n ∷ nodes) from end t a b = go (ltb i n.next) refl (in_one nodes n.next end t.2)
    where
      under : start n ≤ i
      under = omega (arith, t.0)

      go : (here : Bool) → ltb i n.next ≡ here → (n.next ≤ i → i < end → length (nodes_at i nodes) ≡ 1) → length (nodes_at i (n ∷ nodes)) ≡ 1
      go true e later = rw (le-leb _ _ under, e, nodes_at) (ap suc (before_all nodes n.next end t.2 (ltb-true _ _ e)))
      go false e later = rw (le-leb _ _ under, e, nodes_at) (later (ltb-false _ _ e) b)

pub one_node : OneNode
one_node nodes end tiled i = (in_one i nodes 0 end tiled (omega arith), past_all i nodes 0 end tiled)

-- a node with those before it and those after it, which tile from its end on
record Part (nodes : List Node) (end : ℕ) (n : Node) : Type 0 where
  before : List Node
  after : List Node
  split : nodes ≡ before ++ (n ∷ after)
  long : start n < n.next
  tiled : Tiles n.next after end

part : (nodes : List Node) (from end : ℕ) → Tiles from nodes end → {n : Node} → Memᴰ n nodes → Part nodes end n
part [] from end t m = absurd (Memᴰ.not-nil m)
part (x ∷ nodes) from end t m =
    ⊎_elim
    (λ e. subst (Part (x ∷ nodes) end) (sym e) (record { before = []; after = nodes; split = refl; long = t.1; tiled = t.2 }))
    (λ k.
    let p = part nodes x.next end t.2 k in
    record { before = x ∷ p.before; after = p.after; split = ap (λ (l : List Node). x ∷ l) p.split; long = p.long; tiled = p.tiled })
    (Memᴰ.cases_cons m)

module _ (nodes : List Node) (end : ℕ) where
  abbrev Stands : ℤ → Type 0
  Stands p = On nodes p ⊎ (p ≡ pos end)

  -- where some of the nodes tile, a node starts, or they are none
  begins : (after : List Node) (from : ℕ) → ((x : Node) → Memᴰ x after → Memᴰ x nodes) → Tiles from after end → Stands (pos from)
  begins [] from among t = inr (ap pos t)
  begins (x ∷ after) from among t = inl (record { node = x; listed = among x (Memᴰ.head refl); starts = ap pos (sym t.0) })

  module _ (tiled : Tiles 0 nodes end) where
    no_start : On nodes (pos end) → ⊥
    no_start o =
        let p = part nodes 0 end tiled o.listed in
        let same : end ≡ start o.node = ap nat_abs o.starts in
        omega (arith, p.long, ends_after p.after _ end p.tiled)

    follows : {p q : ℤ} → Following nodes p q → Stands q
    follows f =
        let p = part nodes 0 end tiled f.on.listed in
        subst Stands (sym f.ends)
        (begins p.after f.on.node.next (λ x m. subst (Memᴰ x) (sym p.split) (Memᴰ.append_right p.before (Memᴰ.tail m))) p.tiled)

    -- a node after which nothing is left to tile is the last
    closes : (n : Node) (before after : List Node) → nodes ≡ before ++ (n ∷ after) → Tiles n.next after end → n.next ≡ end → nodes ≡ before ++ (n ∷ [])
    closes n before [] split t e = split
    closes n before (x ∷ after) split t e = absurd (omega (arith, ends_after after x.next end t.2, t.0, t.1))

    past : {p : ℤ} → Following nodes p (pos end) → Last nodes end p
    past f =
        let p = part nodes 0 end tiled f.on.listed in
        let ends : f.on.node.next ≡ end = ap nat_abs (sym f.ends) in
        record { before = p.before; node = f.on.node; split = closes f.on.node p.before p.after p.split p.tiled ends; starts = f.on.starts; ends = ends }

    module _ (Other : ℤ → ℤ → Type 0) (lands : (p q : ℤ) → Other p q → On nodes q) where
      stays : {p : ℤ} → Walk nodes Other (pos 0) p → Stands p
      stays Walk.begin = begins nodes 0 (λ x m. m) tiled
      stays (Walk.then w (Step.on f)) = follows f
      stays (Walk.then w (Step.by o)) = inl (lands _ _ o)

      past_last : {p : ℤ} → Step nodes Other p (pos end) → Last nodes end p
      past_last (Step.on f) = past f
      past_last (Step.by o) = absurd (no_start (lands _ _ o))

empty : (nodes : List Node) (end : ℕ) → Tiles 0 nodes end → end ≡ 0 → nodes ≡ []
empty [] end t e = refl
empty (n ∷ nodes) end t e = absurd (omega (arith, t.1, ends_after nodes n.next end t.2))

pub any_walk : AnyWalk
any_walk nodes end tiled Other lands =
    record {
      stays = λ p. stays nodes end tiled Other lands;
      past_last = λ p. past_last nodes end tiled Other lands;
      by_no_other = λ p o. no_start nodes end tiled (lands p (pos end) o);
      at_once = (empty nodes end tiled, λ e. sym (subst (λ (l : List Node). Tiles 0 l end) e tiled));
    }

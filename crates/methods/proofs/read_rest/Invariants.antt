-- The loop's invariant is `Fill`, and the store stays the same one.
use Rattle.std.proofs.Common.{◌≡◌, ◌-◌, length}
use Rattle.methods.proofs.Laws.{Fill}
use Rattle.methods.proofs.read_rest.Given as goal

abbrev pub invariant-loop-returned : goal.invariant-loop-returned
invariant-loop-returned g l =
    (g.S.PartStore.room l.store ≡ g.S.PartStore.room l.initial.store)
    × (g.S.PartStore.lent l.store ≡ g.S.PartStore.lent l.initial.store)
    × Fill l.text.bytes.now (g.S.PartStore.stored l.initial.store) (g.S.PartStore.stored l.store) (g.S.PartStore.room l.initial.store) l.parameters l.at

abbrev pub decreases-loop-returned : goal.decreases-loop-returned
decreases-loop-returned g l = length l.text.bytes.now - l.at

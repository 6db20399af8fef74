use Rattle.std.proofs.Common.{sym, ◌∙◌}
use Rattle.names.proofs.Laws.{pair_there, opens_there, bad_plain_there, plain_there}
use Rattle.names.proofs.is_module_name.Goals as goal
use Rattle.names.proofs.is_module_name.Goals.{then-escaped+else-not-is_escapable, else-escaped+then-b-eq92, else-escaped+else-b-eq92+else-not-is_plain_module_byte}

pub returns-then-not-is_plain_module_byte : goal.returns-then-not-is_plain_module_byte
returns-then-not-is_plain_module_byte c =
    bad_plain_there _ _ _ c.loop-b.invariant c.loop-b-test.true c.if-escaped.false c.if-b-eq92.false (sym c.is_plain_module_byte.ensures ∙ c.if-not-is_plain_module_byte.true)

pub loop-b-preserved : goal.loop-b-preserved
loop-b-preserved c =
    let inside = c.loop-b-test.true in
    elim c.if-escaped.branch [
      | then-escaped+else-not-is_escapable w ↦ rw w.escaped-is (pair_there _ _ _ c.loop-b.invariant inside w.if-escaped.true (sym w.is_escapable.ensures ∙ w.if-not-is_escapable.false))
      | else-escaped+then-b-eq92 w ↦ rw w.escaped-is (opens_there _ _ _ c.loop-b.invariant inside w.if-escaped.false w.if-b-eq92.true)
      | else-escaped+else-b-eq92+else-not-is_plain_module_byte w ↦ rw w.escaped-is (plain_there _ _ _ c.loop-b.invariant inside w.if-escaped.false w.if-b-eq92.false (sym w.is_plain_module_byte.ensures ∙ w.if-not-is_plain_module_byte.false))
    ]

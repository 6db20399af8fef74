use Rattle.std.proofs.Common.{sym, ◌∙◌}
use Rattle.names.proofs.Laws.{empty_there, slash_there, barred_there, name_byte_there, names_end}
use Rattle.names.proofs.is_binary_name.Goals as goal
use Rattle.names.proofs.is_binary_name.Goals.{then-b-eq47+else-not-started, else-b-eq47+else-not-is_name_byte}

pub returns-then-not-started : goal.returns-then-not-started
returns-then-not-started c = empty_there _ _ _ c.loop-b.invariant c.loop-b-test.true c.if-b-eq47.true c.if-not-started.true

pub returns-then-not-is_name_byte : goal.returns-then-not-is_name_byte
returns-then-not-is_name_byte c =
    barred_there _ _ _ c.loop-b.invariant c.loop-b-test.true c.if-b-eq47.false (sym c.is_name_byte.ensures ∙ c.if-not-is_name_byte.true)

pub loop-b-preserved : goal.loop-b-preserved
loop-b-preserved c =
    let inside = c.loop-b-test.true in
    elim c.if-b-eq47.branch [
      | then-b-eq47+else-not-started w ↦ rw w.started-is (slash_there _ _ _ c.loop-b.invariant inside w.if-b-eq47.true w.if-not-started.false)
      | else-b-eq47+else-not-is_name_byte w ↦ rw w.started-is (name_byte_there _ _ _ c.loop-b.invariant inside w.if-b-eq47.false (sym w.is_name_byte.ensures ∙ w.if-not-is_name_byte.false))
    ]

pub returns : goal.returns
returns c = names_end _ _ _ c.loop-b.invariant c.loop-b-test.false

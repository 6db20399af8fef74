use Rattle.std.proofs.Common.{◌≡◌, ◌∙◌, Err, rules}
use Rattle.jumps.proofs.Laws.{words_go, loop_starts, loop_goes_on, loop_stops, loop_ends, entry_read}
use Rattle.jumps.proofs.check_entries.Goals as goal

pub loop-i-init : goal.loop-i-init
loop-i-init c = loop_starts (words_go _ _) _ 1 _

pub returns-in_err-check_jump : goal.returns-in_err-check_jump
returns-in_err-check_jump c =
    let is : c.from_residual.result ≡ Err c.in_err-check_jump.field-0.0 = search rules in
    is
    ∙ loop_stops (words_go _ _) _ 1 _ _ c.loop-i.invariant c.loop-i-test.true
    (entry_read _ _ c.args.entries.now c.args.first _ c.entry_at-entry.ensures c.check_jump.ensures) c.in_err-check_jump.was

pub loop-i-preserved : goal.loop-i-preserved
loop-i-preserved c =
    loop_goes_on (words_go _ _) _ 1 _ _ c.loop-i.invariant c.loop-i-test.true
    (entry_read _ _ c.args.entries.now c.args.first _ c.entry_at-entry.ensures c.check_jump.ensures) c.in_ok-check_jump.was

pub returns : goal.returns
returns c = loop_ends (words_go _ _) _ 1 _ _ c.loop-i.invariant c.loop-i-test.false

use Rattle.std.proofs.Common.{◌≡◌, ◌∙◌, Err, rules}
use Rattle.jumps.proofs.Laws.{jumps_go, loop_starts, loop_goes_on, loop_stops, loop_ends, record_read}
use Rattle.jumps.proofs.check_jumps.Goals as goal

pub loop-i-init : goal.loop-i-init
loop-i-init c = loop_starts (jumps_go _) _ 0 _

pub returns-in_err-check_record : goal.returns-in_err-check_record
returns-in_err-check_record c =
    let is : c.from_residual.result ≡ Err c.in_err-check_record.field-0.0 = search rules in
    is
    ∙ loop_stops (jumps_go _) _ 0 _ _ c.loop-i.invariant c.loop-i-test.true
    (record_read c.args.sorted.records.now c.args.sorted.count c.args.entries.now _ c.record_at-stored.ensures c.check_record.ensures) c.in_err-check_record.was

pub loop-i-preserved : goal.loop-i-preserved
loop-i-preserved c =
    loop_goes_on (jumps_go _) _ 0 _ _ c.loop-i.invariant c.loop-i-test.true
    (record_read c.args.sorted.records.now c.args.sorted.count c.args.entries.now _ c.record_at-stored.ensures c.check_record.ensures) c.in_ok-check_record.was

pub returns : goal.returns
returns c = loop_ends (jumps_go _) _ 0 _ _ c.loop-i.invariant c.loop-i-test.false

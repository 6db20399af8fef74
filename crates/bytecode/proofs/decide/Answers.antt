use mathlib.Core.Path.{◌≡◌}
use borrow.Author.Rules.{rules}
use Rattle.std.specs.Prelude.{Err}
use Rattle.jumps.specs.Jumps.{failure}
use Rattle.bytecode.proofs.Deciding.{code_too_long, pool_too_long, not_filled, sorted, held, jumps_good, jumps_bad}
use Rattle.bytecode.proofs.decide.Goals as goal

pub returns-then-code-gt-CODE_LIMIT : goal.returns-then-code-gt-CODE_LIMIT
returns-then-code-gt-CODE_LIMIT c =
    let r = code_too_long c.args.code.now c.args.pool.now c.args.records.now c.args.entries.now c.args.records.now c.args.entries.now c.if-code-gt-CODE_LIMIT.true in
    rw (c.into.ensures, c.at.ensures) (record { answers = r.0; fills_records = r.1.0; fills_entries = r.1.1 })

pub returns-then-pool-gt-POOL_LIMIT : goal.returns-then-pool-gt-POOL_LIMIT
returns-then-pool-gt-POOL_LIMIT c =
    let r = pool_too_long c.args.code.now c.args.pool.now c.args.records.now c.args.entries.now c.args.records.now c.args.entries.now c.if-code-gt-CODE_LIMIT.false c.if-pool-gt-POOL_LIMIT.true in
    rw (c.into-then-pool-gt-POOL_LIMIT.ensures, c.at-then-pool-gt-POOL_LIMIT.ensures) (record { answers = r.0; fills_records = r.1.0; fills_entries = r.1.1 })

pub returns-in_err-decoded : goal.returns-in_err-decoded
returns-in_err-decoded c =
    let is : c.from_residual.result ≡ Err (failure c.in_err-decoded.field-0.0.reason c.in_err-decoded.field-0.0.place 0) = search rules in
    let r = not_filled c.args.code.now c.args.pool.now c.args.records.now c.args.entries.now c.if-code-gt-CODE_LIMIT.false c.if-pool-gt-POOL_LIMIT.false _ _ (c.fill.ensures.answers, (c.fill.ensures.fills_records, c.fill.ensures.fills_entries)) c.in_err-decoded.was in
    rw is (record { answers = r.0; fills_records = r.1.0; fills_entries = r.1.1 })

pub invariant_of-sorted : goal.invariant_of-sorted
invariant_of-sorted c = record {
  sorted = sorted c.args.code.now c.args.pool.now c.args.records.now c.args.entries.now c.if-code-gt-CODE_LIMIT.false c.if-pool-gt-POOL_LIMIT.false _ _ (c.fill.ensures.answers, (c.fill.ensures.fills_records, c.fill.ensures.fills_entries)) c.in_ok-decoded.was;
}

pub check_jumps-requires : goal.check_jumps-requires
check_jumps-requires c =
    held c.args.code.now c.args.pool.now c.args.records.now c.args.entries.now c.if-code-gt-CODE_LIMIT.false c.if-pool-gt-POOL_LIMIT.false _ _ (c.fill.ensures.answers, (c.fill.ensures.fills_records, c.fill.ensures.fills_entries)) c.in_ok-decoded.was

pub returns-in_err-check_jumps : goal.returns-in_err-check_jumps
returns-in_err-check_jumps c =
    let is : c.from_residual-in_err-check_jumps.result ≡ Err c.in_err-check_jumps.field-0.0 = search rules in
    let r = jumps_bad c.args.code.now c.args.pool.now c.args.records.now c.args.entries.now c.if-code-gt-CODE_LIMIT.false c.if-pool-gt-POOL_LIMIT.false _ _ (c.fill.ensures.answers, (c.fill.ensures.fills_records, c.fill.ensures.fills_entries)) c.in_ok-decoded.was c.check_jumps.ensures c.in_err-check_jumps.was in
    rw is (record { answers = r.0; fills_records = r.1.0; fills_entries = r.1.1 })

pub returns : goal.returns
returns c =
    let r = jumps_good c.args.code.now c.args.pool.now c.args.records.now c.args.entries.now c.if-code-gt-CODE_LIMIT.false c.if-pool-gt-POOL_LIMIT.false _ _ (c.fill.ensures.answers, (c.fill.ensures.fills_records, c.fill.ensures.fills_entries)) c.in_ok-decoded.was c.check_jumps.ensures c.in_ok-check_jumps.was in
    record { answers = r.0; fills_records = r.1.0; fills_entries = r.1.1 }

use Prim.Native.Nat.{◌≤◌, ◌<◌}
use mathlib.Core.Path.{sym}
use native.Mathlib.Omega.{arith}
use lib.ListN.{length}
use Rattle.laws.specs.Bytes.{text_limit}
use Rattle.methods.specs.Texts.{room_of}
use Rattle.output.proofs.Writing.{refused_after}
use Rattle.printing.proofs.Laws.{text_over, print_broken}
use Rattle.method_printing.proofs.Laws.{records_missing, method_ends}
use Rattle.method_printing.proofs.print_method.Goals as goal

pub returns-in_err-text : goal.returns-in_err-text
returns-in_err-text c =
    let r = text_over _ _ _ _ _ _ c.from_residual.ensures.1 c.in_err-text.ensures in
    record { answers = r.0; writes = r.1 }

pub returns-then-records-count : goal.returns-then-records-count
returns-then-records-count c =
    let short : length c.args.text.now ≤ text_limit = rw (sym c.in_ok-text.ensures) c.in_ok-text.text.within in
    let missing : room_of c.args.parameters.now < c.args.count = omega (arith, c.as_chunks.ensures.front_len) in
    let r = refused_after _ _ c.args.out.now _ (print_broken c.args.text.now _ _ _ short (records_missing c.args.text.now c.args.parameters.now c.args.count c.args.returned missing)) in
    record { answers = rw c.at.ensures r.0; writes = r.1 }

pub returns : goal.returns
returns c =
    let there : c.args.count ≤ room_of c.args.parameters.now = omega (arith, c.as_chunks.ensures.front_len) in
    let r = method_ends c.args.text.now c.args.parameters.now c.args.count c.args.returned there c.args.out.now _ _ c.in_ok-text.ensures c.as_chunks.ensures.front _ _ c.print_parts.ensures.answers c.print_parts.ensures.writes in
    record { answers = r.0; writes = r.1 }

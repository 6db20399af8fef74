use mathlib.Core.Path.{refl}
use Rattle.read.specs.Reads.{big_endian, read_of}
use Rattle.pool.specs.Entries.{entry_at, of_kind}
use Rattle.opcodes.specs.Formats.{formats, format_of}
use Rattle.opcodes.specs.InstructionKinds.{instruction_kinds, kind_of}
use Rattle.opcodes.specs.Wide.{wide_forms, wide_form_of}
use Rattle.operands.specs.Signed.{signed_in, extended}
use Rattle.operands.specs.Checks.{signed_read, unless_fault}
use Rattle.ordinary.specs.Ordinary.{operands_from}
use Rattle.switches.specs.Switches.{words_from, count_of}
use Rattle.instruction.specs.Steps.{step_of}
use Rattle.instruction.specs.Examples.{FormatsCompute, RefusalsCompute, SwitchesCompute}

pub formats_compute : FormatsCompute
unfolding big_endian read_of entry_at of_kind formats format_of instruction_kinds kind_of wide_forms wide_form_of extended signed_read unless_fault operands_from step_of
formats_compute = refl

pub refusals_compute : RefusalsCompute
unfolding big_endian read_of entry_at of_kind formats format_of instruction_kinds kind_of wide_forms wide_form_of extended signed_read unless_fault operands_from step_of
refusals_compute = refl

pub switches_compute : SwitchesCompute
unfolding big_endian read_of formats format_of instruction_kinds kind_of signed_in words_from count_of step_of
switches_compute = refl

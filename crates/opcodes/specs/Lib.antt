pub mod Formats
pub mod Wide
pub mod InstructionKinds
pub mod Operands

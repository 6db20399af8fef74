pub mod First
pub mod Rising
pub mod Rows
pub mod Answers
pub mod Exactly
pub mod Examples

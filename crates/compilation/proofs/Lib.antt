-- Laws that rest on laws of what a task is compiled to.
pub mod ActionCostLaws
pub mod CompiledLaws
pub mod CompiledLengthLaws
pub mod ProgramLaws

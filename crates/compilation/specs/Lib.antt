-- Definitions.
pub mod Extend
pub mod Compile
pub mod CompileFile
-- The document's example, computed.
pub mod Examples
-- Laws.
pub mod ActionCostLaws
pub mod ExtendLaws
pub mod AskLaws
pub mod StepLaws
pub mod CompiledLaws
pub mod CompiledLengthLaws
pub mod CompileFileLaws
pub mod ProgramLaws

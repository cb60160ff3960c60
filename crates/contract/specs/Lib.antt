-- Laws.
pub mod ContractLaws

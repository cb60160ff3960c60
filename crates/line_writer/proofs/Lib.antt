-- Laws that follow from those in specs/.
pub mod ColumnLaws

-- Laws that follow from those in specs/.
pub mod DearestLaws
pub mod FileLaws

-- What the code's choice among the values of a variable is about.
pub mod Choice

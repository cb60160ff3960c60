-- Laws of the charge, and the figure that rests on them.
pub mod ChargeLaws
pub mod Examples

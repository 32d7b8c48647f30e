-- Laws of the function of `per_wire`.
pub mod Numbers

pub mod Linear
pub mod Polynomials
pub mod code

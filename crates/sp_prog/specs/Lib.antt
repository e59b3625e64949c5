pub mod Examples
pub mod Laws
pub mod Program
pub mod Rules
pub mod View

pub mod Due
pub mod Standing
pub mod Laws

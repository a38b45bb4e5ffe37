pub mod Quiet
pub mod Ages
pub mod Places
pub mod Firsts
pub mod Laws
pub mod TouchedPlaces
pub mod Keep

pub mod Accepted
pub mod Inboxes
pub mod Laws

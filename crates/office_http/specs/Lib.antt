pub mod Away
pub mod Laws
pub mod Listening
pub mod Protocol

-- Laws of the whole store.
pub mod Clock
pub mod Free
pub mod Gives
pub mod Histories
pub mod LastEntry
pub mod Lists
pub mod Past
pub mod Turns
pub mod change
pub mod entry
pub mod session

pub mod Lists
pub mod Picked
pub mod Walks
pub mod Owning
pub mod Gathering
pub mod Parting
pub mod Totals
pub mod Sharing

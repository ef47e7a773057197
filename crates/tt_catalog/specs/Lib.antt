pub mod Changes
pub mod Ends
pub mod Landing
pub mod Starts
pub mod Tickets

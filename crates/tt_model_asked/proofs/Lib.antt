pub mod Firsts
pub mod Holders
pub mod Reaches
pub mod ReadPoints
pub mod Typed
pub mod Undropped
pub mod Wholes

pub mod Deletes
pub mod Left
pub mod Renewed
pub mod Sets
pub mod Updates

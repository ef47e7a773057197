pub mod AskedAs
pub mod MarkAs
pub mod NamedAs
pub mod TypedAs
pub mod UndropAs
pub mod ReachAs
pub mod RefusalsAs
pub mod TravelAs

-- Each kind of change of tables and of the tally keeps them sound, and so does an effect made of them.
pub mod Apart
pub mod Applied
pub mod Names
pub mod Tables
pub mod TallyChanges

pub mod Answers
pub mod Lists
pub mod NamedColumns
pub mod PrintableRows
pub mod Tests
pub mod law

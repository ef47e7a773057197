pub mod Laws
pub mod Lexis
pub mod Scanning
pub mod TokensOf
pub mod answer

pub mod Characters
pub mod Function
pub mod OneWay
pub mod Places
pub mod QuotedTexts

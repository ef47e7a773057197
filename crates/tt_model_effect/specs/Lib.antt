pub mod EffectAs
pub mod Allowed
pub mod OneTable

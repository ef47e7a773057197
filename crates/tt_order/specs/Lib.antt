pub mod PlacedKeys

-- Laws of the definitions, as statements. Those of Bag, Fitting, Isolated and Stocked, and of Goes all but the replies, are to be proved.
pub mod Bag
pub mod Changes
pub mod Fitting
pub mod Goes
pub mod Isolated
pub mod Lists
pub mod Past
pub mod Sound
pub mod Stocked

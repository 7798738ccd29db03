pub mod Places
pub mod Made
pub mod Laws
pub mod Chains
pub mod Indexed
pub mod Ordered
pub mod Others
pub mod Owing

-- What the walks turn by.
pub mod Laws

-- What sound tables give of what an issue asks for.
pub mod Granted

pub mod Fine
pub mod LastHolder
pub mod Left
pub mod Played

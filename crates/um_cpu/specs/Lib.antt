pub mod Cpus
pub mod Ended
pub mod OnBoard
pub mod Playing
pub mod Standing

pub mod Recordings
pub mod ReadAsSent
pub mod Possible

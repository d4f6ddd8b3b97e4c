pub mod LinesRead
pub mod LinesWritten
pub mod Inverse
pub mod Calls
pub mod RoundTrip

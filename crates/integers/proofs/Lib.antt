pub mod Tests
pub mod Lists
pub mod All
pub mod Ring
pub mod Size
pub mod Sums
pub mod Near
pub mod Order

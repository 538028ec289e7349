pub mod Fronts
pub mod Laid
pub mod Results
pub mod Seen
pub mod Steps
pub mod Walks

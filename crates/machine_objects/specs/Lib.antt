pub mod Runs
pub mod Vacancy
pub mod RunsOut

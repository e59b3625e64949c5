pub mod Courses
pub mod Entering
pub mod Returning
pub mod Tables

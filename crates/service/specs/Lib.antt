pub mod Names
pub mod Numbers
pub mod Records
pub mod Answers
pub mod History
pub mod Law
pub mod Rule
pub mod Runs

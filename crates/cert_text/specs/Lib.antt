pub mod Accepting
pub mod Laws
pub mod Lines
pub mod Numbers
pub mod Reading
pub mod Steps
pub mod Text
pub mod Words

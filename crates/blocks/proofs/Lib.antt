-- Laws of the tests of many places.
pub mod Laws
pub mod Marks
pub mod Ones

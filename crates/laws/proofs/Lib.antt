-- Laws of the definitions over arrays of numbers, and of contracts.
pub mod Arrays
pub mod Lists
pub mod One
pub mod Seek
pub mod Splice
pub mod Taken
pub mod Tests
pub mod Zip

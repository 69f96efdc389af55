-- Laws of the timers' tables and of how long a timer octet's time can be.
pub mod Rows

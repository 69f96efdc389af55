-- Laws that the proofs cite, and the theorem that the engine agrees with the running record.
pub mod Framing
pub mod Words
pub mod Entering
pub mod Backward
pub mod Turning
pub mod Fitting
pub mod Noting
pub mod Acted
pub mod Telling
pub mod Passing
pub mod Walking
pub mod Answering
pub mod Points
pub mod Lasts
pub mod Agrees

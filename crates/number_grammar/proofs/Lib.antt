-- that the functions read the productions, and nothing else
pub mod Complete
pub mod Correct
pub mod ListComplete
pub mod ListCorrect

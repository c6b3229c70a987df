mod Seeing
mod Telling
mod Writing
mod Complete

mod Each
mod Placed

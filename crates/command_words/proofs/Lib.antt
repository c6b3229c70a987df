pub mod Numbers
mod PlainNumbers
mod PlainReads
mod PlainWords
mod ServeReads
mod ServeWalk

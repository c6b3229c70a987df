mod AgeRows
mod Breaks
mod Digits
mod EmptyText
mod LayerParts
mod Loop
mod NamedMatrices
mod Valid

mod Computed
mod Evaluated
mod Values

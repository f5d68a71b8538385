mod Looks
mod Going
mod Owners
mod Same
mod Placing
mod Ordered

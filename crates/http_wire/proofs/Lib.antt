mod Heads
mod Fronts
mod Firsts
mod Decided
mod Values
mod Digits
mod Judging
mod Joining
mod Media
mod Written
mod Alone
mod AloneResponse
mod Lines
mod Seen
mod Numbers
mod Asking
mod Answering
pub mod Public

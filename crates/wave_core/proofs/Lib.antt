mod Apart
mod Counted
mod Rising
mod Shapes
mod Opening
mod InTurn
pub mod Public

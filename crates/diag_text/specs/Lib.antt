pub mod Printed
pub mod Printing
pub mod Reading
pub mod Faulty
pub mod Law

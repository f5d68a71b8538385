mod Caused
mod Mounting

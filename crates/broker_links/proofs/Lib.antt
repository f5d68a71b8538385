mod Fronts
mod Written

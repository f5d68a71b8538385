mod Lists
mod Holding
mod HeadsBehind
mod Replacing
mod Committing
mod Weighing
mod Gathering
mod Following

mod Lists
mod Counts
mod Told
mod Objects
mod Table

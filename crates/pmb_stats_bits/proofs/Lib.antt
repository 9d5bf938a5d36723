mod ReadSteps
mod Slots
mod Around

mod Facts
mod Lines
mod Numbers
mod Numerators
mod Observed
mod Voltages

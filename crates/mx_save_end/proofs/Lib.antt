mod Bodies
mod Framings
mod Spools

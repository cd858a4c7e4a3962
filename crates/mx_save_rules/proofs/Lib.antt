mod Fields
mod FirstCode
mod Lines
mod Lists
mod Objects
mod OpenLines
pub mod Order
mod Printed

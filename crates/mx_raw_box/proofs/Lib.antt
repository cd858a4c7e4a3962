pub mod RawBoxes

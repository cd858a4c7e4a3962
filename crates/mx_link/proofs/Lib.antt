pub mod Plans
pub mod ScriptLaws
pub mod CountLaws
pub mod Settling

pub mod Arguments
pub mod Commands
pub mod CommandLine
pub mod Definition
pub mod Request
pub mod Respelling

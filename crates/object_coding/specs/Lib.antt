pub mod ObjectLayout
pub mod LayoutFault
pub mod ObjectCoding

pub mod Chains
pub mod WorkOrder

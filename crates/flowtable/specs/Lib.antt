pub mod FlowTable
pub mod Laws

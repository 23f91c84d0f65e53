pub mod StoracleTable
pub mod StoracleFreedom
pub mod Building

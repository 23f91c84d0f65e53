pub mod StoracleBuild
pub mod Cases

pub mod StoracleRule

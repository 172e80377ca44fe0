pub mod ShownLaw
pub mod OpenLaw
pub mod Opening

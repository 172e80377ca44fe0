pub mod Places
pub mod SoundLaw
pub mod ShownLaw
pub mod PendingLaw
pub mod ForwardLaw
pub mod MemberLaw
pub mod CoreLaw
mod WorkedEvents

pub mod Accept
pub mod CodedAccepted
pub mod CodedPage
pub mod Rules
